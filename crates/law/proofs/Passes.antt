-- The machine's pass over the octets of two sheets lists what the pass over their records does.
use mathlib.Core.Bool.{false, ◌&&◌}
use mathlib.Core.Logic.{⊎_elim}
use mathlib.Core.Path.{◌≡◌, refl, sym, ap, ap₂, ◌∙◌}
use mathlib.Core.List.{List, [], ◌∷◌, ◌++◌, append_assoc}
use Prim.Native.Nat.{ℕ, zero, suc, ◌+◌, ◌*◌, ◌%◌, ◌≤◌, ◌<◌}
use native.Mathlib.Omega.{arith}
use borrow.Author.Tests.{eq-eqb, ne_eqb, lt-ltb, le-ltb}
use lib.Dec.{eqb}
use lib.ListN.{length, drop, length-append}
use Rattle.std.proofs.lemmas.Bool.{and_left, and_right}
use Rattle.octets.specs.Pick.{pick}
use Rattle.octets.proofs.Cases.{lt_or_le}
use Rattle.octets.proofs.Pick.{pick_yes, pick_no, pick_lt, pick_ge}
use Rattle.difference.specs.Records.{kind_at, size_at, key_at, place_of, rank_at}
use Rattle.difference.specs.Merge.{Step, step, gone_of, new_of, both_of, step_of, at_end, turns, merge_of}
use Rattle.law.specs.Words.{Every}
use Rattle.law.specs.Sheet.{Sheet, WellFormed, sheet_octets}
use Rattle.law.specs.Difference.{Entry, Change, entries_of, body_of, rank_of, gone, new, change_octets, list_octets, written_of}
use Rattle.law.proofs.Merge.{merge, beside, both}
use Rattle.law.proofs.Laid.{when_yes, when_no}
use Rattle.law.proofs.Records.{written_entries}
use Rattle.law.proofs.Fronts.{Good, first_at, low_rank, kind_is, behind_is, rank_is, gone_is, new_is}
use Rattle.law.proofs.Pairs.{both_is}
use Rattle.law.proofs.Entries.{entries_good}

-- the end record stands behind every other
end_kind : (s : List ℕ) (i : ℕ) → drop i s ≡ 0 ∷ [] → kind_at s i ≡ 0
unfolding kind_at
end_kind s i e = ap (λ (n : ℕ). n % 8) (first_at s i 0 [] e)

end_rank : (s : List ℕ) (i : ℕ) → drop i s ≡ 0 ∷ [] → rank_at s i ≡ 34359738368
unfolding rank_at place_of key_at pick
end_rank s i e = ap (λ (k : ℕ). 4294967296 * place_of k + key_at s i k) (end_kind s i e)

not_end : (s : List ℕ) (i : ℕ) (e : Entry) (t : List ℕ) → Good e → drop i s ≡ e.kind ∷ body_of e ++ t → kind_at s i ≡ 0 → ⊥
not_end s i e t g d z = let k = kind_is s i e t g d in omega (arith, k, z, g.some)

-- octets of two lists of changes
list_append : (l m : List Change) → list_octets (l ++ m) ≡ list_octets l ++ list_octets m
list_append [] m = refl
list_append (c ∷ l) m =
    ap (λ (t : List ℕ). change_octets c ++ t) (list_append l m) ∙ sym (append_assoc (change_octets c) (list_octets l) (list_octets m))

-- a record has an octet
records_few : (es : List Entry) → length es < length (written_of es)
unfolding written_of
records_few [] = omega arith
records_few (e ∷ es) = let l = length-append (body_of e) (written_of es) in let r = records_few es in omega arith

-- one turn, and what the turns behind it come to
module _ (a b : List ℕ) (f i j : ℕ) where
  going_first : (kind_at a i ≡ 0 → ⊥) → at_end a i b j ≡ false
  unfolding at_end
  going_first n = and_left _ (eqb (kind_at b j) 0) (ne_eqb _ _ n)

  going_second : (kind_at b j ≡ 0 → ⊥) → at_end a i b j ≡ false
  unfolding at_end
  going_second n = and_right (eqb (kind_at a i) 0) _ (ne_eqb _ _ n)

  turn : (o : List ℕ) (k m : ℕ) → at_end a i b j ≡ false → step_of a i b j ≡ step o k m → turns (suc f) a i b j ≡ o ++ turns f a k b m
  unfolding turns
  turn o k m n e = pick_no _ _ n ∙ ap (λ (s : Step). s.octets ++ turns f a s.first b s.second) e

  turn_end : kind_at a i ≡ 0 → kind_at b j ≡ 0 → turns (suc f) a i b j ≡ []
  unfolding turns at_end
  turn_end k l = pick_yes _ _ (ap₂ ◌&&◌ (eq-eqb _ _ k) (eq-eqb _ _ l))

  turn_gone : (x : Entry) (t : List ℕ) (m : List Change) → Good x → drop i a ≡ x.kind ∷ body_of x ++ t → rank_of x < rank_at b j
      → turns f a (i + size_at a i) b j ≡ list_octets m → turns (suc f) a i b j ≡ list_octets (gone x.kind x.key ∷ m)
  unfolding step_of
  turn_gone x t m g d l go =
      let r = rank_is a i x t g d in
      let u : rank_at a i < rank_at b j = omega arith in
      turn (gone_of a i) (i + size_at a i) j (going_first (not_end a i x t g d)) (pick_lt _ _ u) ∙ ap₂ (λ (p q : List ℕ). p ++ q) (gone_is a i x t g d) go

  turn_new : (y : Entry) (t : List ℕ) (m : List Change) → Good y → drop j b ≡ y.kind ∷ body_of y ++ t → rank_of y < rank_at a i
      → turns f a i b (j + size_at b j) ≡ list_octets m → turns (suc f) a i b j ≡ list_octets (new y ∷ m)
  unfolding step_of
  turn_new y t m g d l go =
      let r = rank_is b j y t g d in
      let u : rank_at b j < rank_at a i = omega arith in
      let v : rank_at b j ≤ rank_at a i = omega arith in
      turn (new_of b j) i (j + size_at b j) (going_second (not_end b j y t g d)) (pick_ge _ _ v ∙ pick_lt _ _ u)
      ∙ ap₂ (λ (p q : List ℕ). p ++ q) (new_is b j y t g d) go

  turn_both : (x y : Entry) (t u : List ℕ) (m : List Change) → Good x → Good y → drop i a ≡ x.kind ∷ body_of x ++ t → drop j b ≡ y.kind ∷ body_of y ++ u
      → rank_of x ≡ rank_of y → turns f a (i + size_at a i) b (j + size_at b j) ≡ list_octets m → turns (suc f) a i b j ≡ list_octets (both x y ++ m)
  unfolding step_of
  turn_both x y t u m g h d e l go =
      let r = rank_is a i x t g d in
      let q = rank_is b j y u h e in
      let v : rank_at b j ≤ rank_at a i = omega arith in
      let w : rank_at a i ≤ rank_at b j = omega arith in
      turn (both_of a i b j) (i + size_at a i) (j + size_at b j) (going_first (not_end a i x t g d)) (pick_ge _ _ v ∙ pick_ge _ _ w)
      ∙ ap₂ (λ (p q : List ℕ). p ++ q) (both_is a i x t g d b j y u h e) go ∙ sym (list_append (both x y) m)

-- the law's pass, turn by turn
merge_gone : (x y : Entry) (xs ys : List Entry) → rank_of x < rank_of y → merge (x ∷ xs) (y ∷ ys) ≡ gone x.kind x.key ∷ merge xs (y ∷ ys)
unfolding merge beside
merge_gone x y xs ys l = when_yes _ _ (lt-ltb _ _ l)

merge_new : (x y : Entry) (xs ys : List Entry) → rank_of y < rank_of x → merge (x ∷ xs) (y ∷ ys) ≡ new y ∷ merge (x ∷ xs) ys
unfolding merge beside
merge_new x y xs ys l = let u : rank_of y ≤ rank_of x = omega arith in when_no _ _ (le-ltb _ _ u) ∙ when_yes _ _ (lt-ltb _ _ l)

merge_both : (x y : Entry) (xs ys : List Entry) → rank_of x ≡ rank_of y → merge (x ∷ xs) (y ∷ ys) ≡ both x y ++ merge xs ys
unfolding merge beside
merge_both x y xs ys e =
    let u : rank_of y ≤ rank_of x = omega arith in
    let l : rank_of x ≤ rank_of y = omega arith in
    when_no _ _ (le-ltb _ _ u) ∙ when_no _ _ (le-ltb _ _ l)

merge_end : merge [] [] ≡ []
unfolding merge
merge_end = refl

merge_rest : (y : Entry) (ys : List Entry) → merge [] (y ∷ ys) ≡ new y ∷ merge [] ys
unfolding merge
merge_rest y ys = refl

merge_left : (x : Entry) (xs : List Entry) → merge (x ∷ xs) [] ≡ gone x.kind x.key ∷ merge xs []
unfolding merge beside
merge_left x xs = refl

-- the whole pass: from two places on, where the records that are left stand
pass : (a b : List ℕ) (f i j : ℕ) (xs ys : List Entry) → drop i a ≡ written_of xs → drop j b ≡ written_of ys → Every Good xs → Every Good ys
    → length xs + length ys < f → turns f a i b j ≡ list_octets (merge xs ys)
unfolding written_of
pass a b zero i j xs ys d e g h l = absurd (omega arith)
pass a b (suc f) i j [] [] d e g h l = turn_end a b f i j (end_kind a i d) (end_kind b j e) ∙ sym (ap list_octets merge_end)
pass a b (suc f) i j [] (y ∷ ys) d e g h l =
    let t = written_of ys in
    let r = end_rank a i d in
    let q = low_rank y h.0 in
    turn_new a b f i j y t (merge [] ys) h.0 e (omega arith) (pass a b f i (j + size_at b j) [] ys d (behind_is b j y t h.0 e) g h.1 (omega arith))
    ∙ sym (ap list_octets (merge_rest y ys))
pass a b (suc f) i j (x ∷ xs) [] d e g h l =
    let t = written_of xs in
    let r = end_rank b j e in
    let q = low_rank x g.0 in
    turn_gone a b f i j x t (merge xs []) g.0 d (omega arith) (pass a b f (i + size_at a i) j xs [] (behind_is a i x t g.0 d) e g.1 h (omega arith))
    ∙ sym (ap list_octets (merge_left x xs))
pass a b (suc f) i j (x ∷ xs) (y ∷ ys) d e g h l =
    let t = written_of xs in
    let u = written_of ys in
    let p = rank_is a i x t g.0 d in
    let q = rank_is b j y u h.0 e in
    let next-a = behind_is a i x t g.0 d in
    let next-b = behind_is b j y u h.0 e in
    ⊎_elim
    (λ (k : rank_of x < rank_of y).
    turn_gone a b f i j x t (merge xs (y ∷ ys)) g.0 d (omega arith)
    (pass a b f (i + size_at a i) j xs (y ∷ ys) next-a e g.1 h (omega arith))
    ∙ sym (ap list_octets (merge_gone x y xs ys k)))
    (λ (k : rank_of y ≤ rank_of x).
    ⊎_elim
    (λ (m : rank_of y < rank_of x).
    turn_new a b f i j y u (merge (x ∷ xs) ys) h.0 e (omega arith)
    (pass a b f i (j + size_at b j) (x ∷ xs) ys d next-b g h.1 (omega arith))
    ∙ sym (ap list_octets (merge_new x y xs ys m)))
    (λ (m : rank_of x ≤ rank_of y).
    let o : rank_of x ≡ rank_of y = omega arith in
    turn_both a b f i j x y t u (merge xs ys) g.0 h.0 d e o
    (pass a b f (i + size_at a i) (j + size_at b j) xs ys next-a next-b g.1 h.1 (omega arith))
    ∙ sym (ap list_octets (merge_both x y xs ys o)))
    (lt_or_le (rank_of y) (rank_of x)))
    (lt_or_le (rank_of x) (rank_of y))

pub merge_listed : (a b : Sheet) → WellFormed a → WellFormed b → merge_of (sheet_octets a) (sheet_octets b) ≡ list_octets (merge (entries_of a) (entries_of b))
unfolding merge_of
merge_listed a b v w =
    let s = sheet_octets a in
    let t = sheet_octets b in
    let d = written_entries a in
    let e = written_entries b in
    let few-a = records_few (entries_of a) in
    let few-b = records_few (entries_of b) in
    pass s t (suc (length s + length t)) 0 0 (entries_of a) (entries_of b) d e (entries_good a v) (entries_good b w)
    (omega (arith, few-a, few-b, ap length d, ap length e))

-- One record where it stands in octets: what the machine reads of it there is what the law has of it.
use mathlib.Core.Path.{◌≡◌, refl, sym, ap, ap₂, subst, ◌∙◌}
use mathlib.Core.List.{List, [], ◌∷◌, ◌++◌, map, append_assoc}
use Prim.Native.Nat.{ℕ, zero, suc, ◌+◌, ◌-◌, ◌*◌, ◌/◌, ◌%◌, ◌≤◌, ◌<◌}
use native.Mathlib.Nat.{add-zero}
use native.Mathlib.Omega.{arith}
use lib.Dec.{eqb, ltb}
use lib.ListN.{length, get_or, drop}
use lib.Seq.{get_or-drop, drop-drop, drop_at}
use Rattle.octets.specs.Pick.{pick}
use Rattle.octets.proofs.Pick.{pick_ne, pick_cases}
use Rattle.sheet.specs.Kinds.{size_of}
use Rattle.difference.specs.Records.{kind_at, size_at, cut, key_width, key_at, place_of, rank_at, first_width, second_width, third_width}
use Rattle.difference.specs.Merge.{gone_of, new_of}
use Rattle.law.specs.Words.{when, in_octets}
use Rattle.law.specs.Difference.{Entry, body_of, order_of_kind, rank, rank_of, gone, new, key_length, change_octets}
use Rattle.law.proofs.Laid.{picked}

-- octets at a place
pub first_at : (s : List ℕ) (i x : ℕ) (t : List ℕ) → drop i s ≡ x ∷ t → get_or s i 0 ≡ x
first_at s i x t e = ap (λ (k : ℕ). get_or s k 0) (sym (add-zero i)) ∙ sym (get_or-drop i s 0 0) ∙ ap (λ (l : List ℕ). get_or l 0 0) e

pub behind_at : (s : List ℕ) (i : ℕ) (p t : List ℕ) → drop i s ≡ p ++ t → drop (i + length p) s ≡ t
behind_at s i p t e = sym (drop-drop (length p) i s) ∙ ap (drop (length p)) e ∙ drop_at p t (length p) refl

pub next_at : (s : List ℕ) (i x : ℕ) (t : List ℕ) → drop i s ≡ x ∷ t → drop (suc i) s ≡ t
next_at s i x t e = ap (λ (k : ℕ). drop k s) (let n : suc i ≡ i + 1 = omega arith in n) ∙ behind_at s i (x ∷ []) t e

cut_at : (s : List ℕ) (i : ℕ) (p t : List ℕ) → drop i s ≡ p ++ t → cut s i (length p) ≡ p
unfolding cut
cut_at s i [] t e = refl
cut_at s i (x ∷ p) t e = ap₂ ◌∷◌ (first_at s i x (p ++ t) e) (cut_at s (suc i) p t (next_at s i x (p ++ t) e))

-- the octets of the fields of a kind
abbrev pub widths : ℕ → List ℕ
widths kind = when (ltb 5 kind) (1 ∷ []) (first_width kind ∷ second_width kind ∷ third_width kind ∷ [])

-- what is asked of a record: a kind of 1 to 7, the sizes of its kind, and its key in front of its body
pub record Good (e : Entry) : Type 0 where
  pub some : 1 ≤ e.kind
  pub few : e.kind ≤ 7
  pub small : e.key < 4294967296
  pub size : size_of e.kind ≡ suc (length (body_of e))
  pub sized : map length e.fields ≡ widths e.kind
  pub rest : List ℕ
  pub begins : body_of e ≡ in_octets (key_length e.kind) e.key ++ rest
  pub keyed : (s : List ℕ) (i : ℕ) (t : List ℕ) → drop (i + 1) s ≡ body_of e ++ t → key_at s i e.kind ≡ e.key

length_octets : (n k : ℕ) → length (in_octets n k) ≡ n
length_octets zero k = refl
length_octets (suc n) k = ap suc (length_octets n (k / 256))

same_width : (kind : ℕ) → key_width kind ≡ key_length kind
unfolding key_width
same_width kind =
    ap (λ (n : ℕ). pick (eqb kind 2) 4 (pick (eqb kind 3) 2 n)) (picked (eqb kind 4) 1 0)
    ∙ ap (λ (n : ℕ). pick (eqb kind 2) 4 n) (picked (eqb kind 3) 2 (when (eqb kind 4) 1 0))
    ∙ picked (eqb kind 2) 4 (when (eqb kind 3) 2 (when (eqb kind 4) 1 0))

same_place : (kind : ℕ) → 1 ≤ kind → place_of kind ≡ order_of_kind kind
unfolding place_of
same_place kind h = pick_ne _ _ (λ (z : kind ≡ 0). omega arith) ∙ picked (eqb kind 5) 1 kind

low_place : (kind : ℕ) → kind ≤ 7 → order_of_kind kind ≤ 7
low_place kind h = subst (λ (n : ℕ). n ≤ 7) (picked (eqb kind 5) 1 kind) (pick_cases (λ n. n ≤ 7) (eqb kind 5) (λ e. omega arith) (λ e. h))

-- every record stands before the end
pub low_rank : (e : Entry) → Good e → rank_of e < 34359738368
unfolding rank
low_rank e g = let p = low_place e.kind g.few in omega (arith, p, g.small)

-- a record at a place, and what is behind it
module _ (s : List ℕ) (i : ℕ) (e : Entry) (t : List ℕ) (g : Good e) (at : drop i s ≡ e.kind ∷ body_of e ++ t) where
  pub kind_is : kind_at s i ≡ e.kind
  unfolding kind_at
  kind_is =
      let k : e.kind % 8 ≡ e.kind = omega (arith, g.few) in
      ap (λ (n : ℕ). n % 8) (first_at s i e.kind (body_of e ++ t) at) ∙ k

  pub size_is : size_at s i ≡ suc (length (body_of e))
  size_is = ap size_of kind_is ∙ g.size

  pub behind_is : drop (i + size_at s i) s ≡ t
  behind_is = ap (λ (n : ℕ). drop (i + n) s) size_is ∙ behind_at s i (e.kind ∷ body_of e) t at

  pub body_there : drop (i + 1) s ≡ body_of e ++ t
  body_there = behind_at s i (e.kind ∷ []) (body_of e ++ t) at

  pub rank_is : rank_at s i ≡ rank_of e
  unfolding rank_at rank
  rank_is =
      ap (λ (k : ℕ). 4294967296 * place_of k + key_at s i k) kind_is
      ∙ ap₂ (λ (p k : ℕ). 4294967296 * p + k) (same_place e.kind g.some) (g.keyed s i t body_there)

  pub gone_is : gone_of s i ≡ change_octets (gone e.kind e.key)
  unfolding gone_of change_octets
  gone_is =
      let key : List ℕ = in_octets (key_length e.kind) e.key in
      let there : drop (i + 1) s ≡ key ++ (g.rest ++ t) =
      body_there ∙ ap (λ (l : List ℕ). l ++ t) g.begins ∙ append_assoc key g.rest t in
      let long : key_width e.kind ≡ length key = same_width e.kind ∙ sym (length_octets (key_length e.kind) e.key) in
      ap (λ (k : ℕ). (64 + k) ∷ cut s (i + 1) (key_width k)) kind_is
      ∙ ap (λ (l : List ℕ). (64 + e.kind) ∷ l) (ap (cut s (i + 1)) long ∙ cut_at s (i + 1) key (g.rest ++ t) there)

  pub body_is : cut s (i + 1) (size_at s i - 1) ≡ body_of e
  body_is =
      let n : size_at s i - 1 ≡ length (body_of e) = omega (arith, size_is) in
      ap (cut s (i + 1)) n ∙ cut_at s (i + 1) (body_of e) t body_there

  pub new_is : new_of s i ≡ change_octets (new e)
  unfolding new_of change_octets
  new_is = ap₂ (λ (k : ℕ) (l : List ℕ). (80 + k) ∷ l) kind_is body_is

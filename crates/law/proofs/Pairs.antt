-- Two records, each where it stands in its sheet: the fields that changed where they are of one kind, and what is listed of them.
use mathlib.Core.Bool.{Bool, true, false, ◌&&◌}
use mathlib.Core.Logic.{⊎_elim}
use mathlib.Core.Path.{◌≡◌, refl, sym, ap, ap₂, ◌∙◌}
use mathlib.Core.List.{List, [], ◌∷◌, ◌++◌, map, append_assoc, append-nil}
use Prim.Native.Nat.{ℕ, suc, ◌+◌, ◌<◌}
use native.Mathlib.Omega.{arith}
use borrow.Author.Tests.{eq-eqb, ne_eqb, ltb-true}
use lib.Dec.{eqb, ltb}
use lib.ListN.{length, get_or, drop}
use Rattle.octets.specs.Pick.{pick}
use Rattle.octets.proofs.Cases.{decided, eq_or_ne}
use Rattle.octets.proofs.Pick.{pick_yes, pick_lt, pick_eq, pick_ne}
use Rattle.difference.specs.Records.{kind_at, first_width, second_width, third_width, same_of, bit_of, bits_at}
use Rattle.difference.specs.Merge.{changed_of, both_of}
use Rattle.law.specs.Words.{when, joined}
use Rattle.law.specs.Difference.{Entry, body_of, same, bits_from, bits_of, new, changed, change_octets, list_octets}
use Rattle.law.proofs.Merge.{both}
use Rattle.law.proofs.Laid.{when_yes, when_no, picked}
use Rattle.law.proofs.Fronts.{Good, widths, first_at, next_at, behind_at, kind_is, body_there, body_is, gone_is, new_is}

-- a kind above 5 has one field of one octet
one_first : (kind : ℕ) → 5 < kind → first_width kind ≡ 1
unfolding first_width
one_first kind h = pick_ne _ _ (λ (z : kind ≡ 2). omega arith) ∙ pick_ne _ _ (λ (z : kind ≡ 3). omega arith)

none_second : (kind : ℕ) → 5 < kind → second_width kind ≡ 0
unfolding second_width
none_second kind h =
    pick_ne _ _ (λ (z : kind ≡ 2). omega arith) ∙ pick_ne _ _ (λ (z : kind ≡ 3). omega arith) ∙ pick_lt _ _ h

none_third : (kind : ℕ) → 5 < kind → third_width kind ≡ 0
unfolding third_width
none_third kind h = pick_ne _ _ (λ (z : kind ≡ 4). omega arith) ∙ pick_lt _ _ h

-- the bits of fields of these widths, one behind another
unfoldable bits_walk : ℕ → List ℕ → List ℕ → ℕ → List ℕ → ℕ → ℕ
bits_walk bit [] a i b j = 0
bits_walk bit (w ∷ ws) a i b j = bit_of a i b j w bit + bits_walk (bit + bit) ws a (i + w) b (j + w)

module _ (a b : List ℕ) where
  same_at : (i j : ℕ) (p q t u : List ℕ) → length p ≡ length q → drop i a ≡ p ++ t → drop j b ≡ q ++ u → same_of a i b j (length p) ≡ same p q
  unfolding same_of same
  same_at i j [] [] t u l d e = refl
  same_at i j [] (y ∷ q) t u l d e = absurd (omega arith)
  same_at i j (x ∷ p) [] t u l d e = absurd (omega arith)
  same_at i j (x ∷ p) (y ∷ q) t u l d e =
      ap₂ ◌&&◌ (ap₂ eqb (first_at a i x (p ++ t) d) (first_at b j y (q ++ u) e))
      (same_at (suc i) (suc j) p q t u (omega arith) (next_at a i x (p ++ t) d) (next_at b j y (q ++ u) e))

  bits_walk_lem : (bit i j : ℕ) (xs ys : List (List ℕ)) (t u : List ℕ) → map length xs ≡ map length ys
      → drop i a ≡ joined (λ f. f) xs ++ t → drop j b ≡ joined (λ f. f) ys ++ u
      → bits_walk bit (map length xs) a i b j ≡ bits_from bit xs ys
  unfolding bits_walk bits_from bit_of
  bits_walk_lem bit i j [] ys t u l d e = refl
  bits_walk_lem bit i j (x ∷ xs) [] t u l d e = absurd (let z = ap length l in omega arith)
  bits_walk_lem bit i j (x ∷ xs) (y ∷ ys) t u l d e =
      let n : length x ≡ length y = ap (λ (k : List ℕ). get_or k 0 0) l in
      let d₁ : drop i a ≡ x ++ (joined (λ f. f) xs ++ t) = d ∙ append_assoc x (joined (λ f. f) xs) t in
      let e₁ : drop j b ≡ y ++ (joined (λ f. f) ys ++ u) = e ∙ append_assoc y (joined (λ f. f) ys) u in
      let first : bit_of a i b j (length x) bit ≡ when (same x y) 0 bit =
      ap (λ (s : Bool). pick s 0 bit) (same_at i j x y (joined (λ f. f) xs ++ t) (joined (λ f. f) ys ++ u) n d₁ e₁) ∙ picked (same x y) 0 bit in
      let e₂ : drop (j + length x) b ≡ joined (λ f. f) ys ++ u =
      ap (λ (k : ℕ). drop (j + k) b) n ∙ behind_at b j y (joined (λ f. f) ys ++ u) e₁ in
      ap₂ ◌+◌ first (bits_walk_lem (bit + bit) (i + length x) (j + length x) xs ys t u (ap (drop 1) l) (behind_at a i x (joined (λ f. f) xs ++ t) d₁) e₂)

  no_bit : (i j bit : ℕ) → bit_of a i b j 0 bit ≡ 0
  unfolding bit_of same_of
  no_bit i j bit = pick_yes _ _ refl

  -- the machine's three fields, of which the last two have no octet where a kind has one field
  bits_three : (i j kind : ℕ) → bits_at a i b j kind ≡ bits_walk 1 (widths kind) a (i + 1) b (j + 1)
  unfolding bits_walk bits_at
  bits_three i j kind =
      let three : ℕ → ℕ → ℕ → ℕ = λ w v u.
      bit_of a (i + 1) b (j + 1) w 1 + bit_of a (i + 1 + w) b (j + 1 + w) v 2 + bit_of a (i + 1 + w + v) b (j + 1 + w + v) u 4 in
      ⊎_elim
      (λ (k : ltb 5 kind ≡ true).
      let many : 5 < kind = ltb-true 5 kind k in
      (λ n. three (one_first kind many n) (none_second kind many n) (none_third kind many n))
      ∙ ap₂ (λ (v u : ℕ). bit_of a (i + 1) b (j + 1) 1 1 + v + u) (no_bit (i + 1 + 1) (j + 1 + 1) 2) (no_bit (i + 1 + 1 + 0) (j + 1 + 1 + 0) 4)
      ∙ one_alone (bit_of a (i + 1) b (j + 1) 1 1)
      ∙ sym (ap (λ (ws : List ℕ). bits_walk 1 ws a (i + 1) b (j + 1)) (when_yes _ _ k)))
      (λ (k : ltb 5 kind ≡ false).
      three_in_row (bit_of a (i + 1) b (j + 1) (first_width kind) 1) _ _
      ∙ sym (ap (λ (ws : List ℕ). bits_walk 1 ws a (i + 1) b (j + 1)) (when_no _ _ k)))
      (decided (ltb 5 kind))
    where
      one_alone : (x : ℕ) → x + 0 + 0 ≡ x + 0
      one_alone x = omega arith

      three_in_row : (x y z : ℕ) → x + y + z ≡ x + (y + (z + 0))
      three_in_row x y z = omega arith

-- a record of each sheet, and what is behind it
module _ (a : List ℕ) (i : ℕ) (x : Entry) (t : List ℕ) (g : Good x) (d : drop i a ≡ x.kind ∷ body_of x ++ t)
    (b : List ℕ) (j : ℕ) (y : Entry) (u : List ℕ) (h : Good y) (e : drop j b ≡ y.kind ∷ body_of y ++ u) where
  bits_is : x.kind ≡ y.kind → bits_at a i b j (kind_at a i) ≡ bits_of x y
  bits_is k =
      ap (bits_at a i b j) (kind_is a i x t g d) ∙ bits_three a b i j x.kind
      ∙ ap (λ (ws : List ℕ). bits_walk 1 ws a (i + 1) b (j + 1)) (sym g.sized)
      ∙ bits_walk_lem a b 1 (i + 1) (j + 1) x.fields y.fields t u (g.sized ∙ ap widths k ∙ sym h.sized)
      (body_there a i x t g d) (body_there b j y u h e)

  changed_is : (n : ℕ) → changed_of n b j ≡ list_octets (when (eqb n 0) [] (changed n y ∷ []))
  unfolding changed_of change_octets
  changed_is n =
      ⊎_elim
      (λ (z : n ≡ 0). pick_eq _ _ z ∙ sym (ap list_octets (when_yes _ _ (eq-eqb n 0 z))))
      (λ (z : n ≡ 0 → ⊥).
      pick_ne _ _ z
      ∙ ap₂ (λ (k : ℕ) (l : List ℕ). (96 + k) ∷ n ∷ l) (kind_is b j y u h e) (body_is b j y u h e ∙ sym (append-nil (body_of y)))
      ∙ sym (ap list_octets (when_no _ _ (ne_eqb n 0 z))))
      (eq_or_ne n 0)

  pub both_is : both_of a i b j ≡ list_octets (both x y)
  unfolding both_of both
  both_is =
      let ka = kind_is a i x t g d in
      let kb = kind_is b j y u h e in
      ⊎_elim
      (λ (k : x.kind ≡ y.kind).
      pick_eq _ _ (ka ∙ k ∙ sym kb) ∙ ap (λ (n : ℕ). changed_of n b j) (bits_is k) ∙ changed_is (bits_of x y)
      ∙ sym (ap list_octets (when_yes _ _ (eq-eqb _ _ k))))
      (λ (k : x.kind ≡ y.kind → ⊥).
      pick_ne _ _ (λ q. k (sym ka ∙ q ∙ kb))
      ∙ ap₂ (λ (l m : List ℕ). l ++ m) (gone_is a i x t g d) (new_is b j y u h e ∙ sym (append-nil (change_octets (new y))))
      ∙ sym (ap list_octets (when_no _ _ (ne_eqb _ _ k))))
      (eq_or_ne x.kind y.kind)

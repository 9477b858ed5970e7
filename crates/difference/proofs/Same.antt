-- Octets of two sheets compared: one more.
use Prim.Native.Nat.{ℕ, zero, suc, ◌+◌}
use mathlib.Core.Bool.{Bool, ◌&&◌, and_assoc, and-true}
use mathlib.Core.List.{List}
use mathlib.Core.Path.{◌≡◌, sym, ap, ap₂, ◌∙◌}
use native.Mathlib.Omega.{arith}
use lib.Dec.{eqb}
use lib.ListN.{get_or}
use Rattle.difference.specs.Records.{same_of}

module _ (a b : List ℕ) where
  same_next : (n i j : ℕ) → same_of a i b j n && eqb (get_or a (i + n) 0) (get_or b (j + n) 0) ≡ same_of a i b j (suc n)
  unfolding same_of
  same_next zero i j =
      let p : i + 0 ≡ i = omega arith in
      let q : j + 0 ≡ j = omega arith in
      ap₂ (λ (x y : ℕ). eqb (get_or a x 0) (get_or b y 0)) p q ∙ sym (and-true _)
  same_next (suc n) i j =
      let p : i + suc n ≡ suc i + n = omega arith in
      let q : j + suc n ≡ suc j + n = omega arith in
      let first = eqb (get_or a i 0) (get_or b j 0) in
      and_assoc first _ _
      ∙ ap (λ (t : Bool). first && t)
      (ap₂ (λ (x y : ℕ). same_of a (suc i) b (suc j) n && eqb (get_or a x 0) (get_or b y 0)) p q ∙ same_next n (suc i) (suc j))

  pub same_more : (n i j k m : ℕ) → k ≡ i + n → m ≡ j + n
      → same_of a i b j n && eqb (get_or a k 0) (get_or b m 0) ≡ same_of a i b j (n + 1)
  same_more n i j k m e f =
      let g : suc n ≡ n + 1 = omega arith in
      ap₂ (λ (x y : ℕ). same_of a i b j n && eqb (get_or a x 0) (get_or b y 0)) e f ∙ same_next n i j ∙ ap (same_of a i b j) g

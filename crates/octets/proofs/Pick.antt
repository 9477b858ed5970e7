-- Laws of the shut pick: what it gives where its test held and where it failed, for a test known as a Bool and for one known as a fact of numbers.
--     pick_yes, pick_no                    the test's value is known
--     pick_lt, pick_ge, pick_le, pick_gt   a test by ltb or leb
--     pick_eq, pick_ne                     a test by eqb
--     pick_key                             a test by eqb on a number that is known to be another
--     pick_differ, pick_same               a test that two numbers differ
--     pick_failed, pick_held               a test that a callee's answer is not true
--     pick_both                            what both arms have, the picked one has
--     pick_cases                           the same, each arm with what its test was
--     passed                               a pick whose first arm is not what came out: its test failed, and the second arm came out
use mathlib.Core.Bool.{Bool, true, false, not}
use mathlib.Core.Path.{◌≡◌, refl, sym, ap, ◌∙◌}
use Prim.Native.Nat.{ℕ, ◌<◌, ◌≤◌}
use borrow.Author.Tests.{lt-ltb, le-ltb, le-leb, lt-leb, eq-eqb, ne_eqb}
use lib.Dec.{ltb, leb, eqb}
use Rattle.octets.specs.Pick.{pick}

module _ {ℓ} {A : Type ℓ} where
  pub pick_yes : {b : Bool} (x y : A) → b ≡ true → pick b x y ≡ x
  unfolding pick
  pick_yes x y e = rw e

  pub pick_no : {b : Bool} (x y : A) → b ≡ false → pick b x y ≡ y
  unfolding pick
  pick_no x y e = rw e

  pub pick_lt : {m n : ℕ} (x y : A) → m < n → pick (ltb m n) x y ≡ x
  pick_lt {m} {n} x y h = pick_yes x y (lt-ltb m n h)

  pub pick_ge : {m n : ℕ} (x y : A) → n ≤ m → pick (ltb m n) x y ≡ y
  pick_ge {m} {n} x y h = pick_no x y (le-ltb m n h)

  pub pick_le : {m n : ℕ} (x y : A) → m ≤ n → pick (leb m n) x y ≡ x
  pick_le {m} {n} x y h = pick_yes x y (le-leb m n h)

  pub pick_gt : {m n : ℕ} (x y : A) → n < m → pick (leb m n) x y ≡ y
  pick_gt {m} {n} x y h = pick_no x y (lt-leb m n h)

  pub pick_eq : {m n : ℕ} (x y : A) → m ≡ n → pick (eqb m n) x y ≡ x
  pick_eq {m} {n} x y h = pick_yes x y (eq-eqb m n h)

  pub pick_ne : {m n : ℕ} (x y : A) → (m ≡ n → ⊥) → pick (eqb m n) x y ≡ y
  pick_ne {m} {n} x y h = pick_no x y (ne_eqb m n h)

  pub pick_key : {m k : ℕ} (j : ℕ) (x y : A) → m ≡ k → eqb k j ≡ false → pick (eqb m j) x y ≡ y
  pick_key j x y e n = pick_no x y (ap (λ (i : ℕ). eqb i j) e ∙ n)

  pub pick_differ : {m n : ℕ} (x y : A) → (m ≡ n → ⊥) → pick (not (eqb m n)) x y ≡ x
  pick_differ {m} {n} x y h = pick_yes x y (ap not (ne_eqb m n h))

  pub pick_same : {m n : ℕ} (x y : A) → m ≡ n → pick (not (eqb m n)) x y ≡ y
  pick_same {m} {n} x y h = pick_no x y (ap not (eq-eqb m n h))

  pub pick_failed : {b r : Bool} (x y : A) → r ≡ b → not r ≡ true → pick (not b) x y ≡ x
  pick_failed x y e t = pick_yes x y (ap not (sym e) ∙ t)

  pub pick_held : {b r : Bool} (x y : A) → r ≡ b → not r ≡ false → pick (not b) x y ≡ y
  pick_held x y e t = pick_no x y (ap not (sym e) ∙ t)

  pub pick_both : (P : A → Type 0) (b : Bool) {x y : A} → P x → P y → P (pick b x y)
  unfolding pick
  pick_both P true p q = p
  pick_both P false p q = q

  pub pick_cases : (P : A → Type 0) (b : Bool) {x y : A} → (b ≡ true → P x) → (b ≡ false → P y) → P (pick b x y)
  unfolding pick
  pick_cases P true p q = p refl
  pick_cases P false p q = q refl

  pub passed : (b : Bool) {x y z : A} → (x ≡ z → ⊥) → pick b x y ≡ z → (b ≡ false) × (y ≡ z)
  unfolding pick
  passed true n e = absurd (n e)
  passed false n e = (refl, e)

-- The cases of a test and of two numbers, for a proof to go by.
use mathlib.Core.Bool.{Bool, true, false}
use mathlib.Core.Logic.{◌⊎◌, inl, inr, ⊎_elim}
use mathlib.Core.Path.{◌≡◌, refl}
use Prim.Native.Nat.{ℕ, ◌<◌, ◌≤◌}
use borrow.Author.Tests.{ltb-true, ltb-false, eqb-true, eqb-false}
use lib.Dec.{ltb, eqb}

pub decided : (b : Bool) → (b ≡ true) ⊎ (b ≡ false)
decided true = inl refl
decided false = inr refl

pub lt_or_le : (m n : ℕ) → (m < n) ⊎ (n ≤ m)
lt_or_le m n = ⊎_elim (λ e. inl (ltb-true m n e)) (λ e. inr (ltb-false m n e)) (decided (ltb m n))

pub eq_or_ne : (m n : ℕ) → (m ≡ n) ⊎ (m ≡ n → ⊥)
eq_or_ne m n = ⊎_elim (λ e. inl (eqb-true m n e)) (λ e. inr (eqb-false m n e)) (decided (eqb m n))

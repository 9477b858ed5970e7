-- A list given by a function of the index, as a counting loop goes through it.
use mathlib.Core.Path.{◌≡◌, ap}
use mathlib.Core.List.{[], ◌∷◌}
use Prim.Native.Nat.{ℕ, suc, ◌+◌, ◌-◌, ◌<◌, ◌≤◌}
use native.Mathlib.Numerals.{add-one}
use native.Mathlib.Omega.{arith}
use Rattle.regions.specs.Region.{listed}

module _ {A : Type 0} (f : ℕ → A) (i n : ℕ) where
  pub listed_next : i < n → listed f i (n - i) ≡ f i ∷ listed f (i + 1) (n - (i + 1))
  unfolding listed
  listed_next h =
      let e : n - i ≡ suc (n - (i + 1)) = omega arith in
      rw (e, add-one)

  pub listed_end : n ≤ i → listed f i (n - i) ≡ []
  unfolding listed
  listed_end h =
      let e : n - i ≡ 0 = omega arith in
      rw e

pub listed_whole : {A : Type 0} (f : ℕ → A) (n : ℕ) → listed f 0 n ≡ listed f 0 (n - 0)
listed_whole f n = ap (listed f 0) (let e : n ≡ n - 0 = omega arith in e)

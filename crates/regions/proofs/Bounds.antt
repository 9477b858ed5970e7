-- What a region that has an address, or has it not, says of the numbers, and the other way round.
use Rattle.std.proofs.Common.{rules, tests}
use mathlib.Core.Bool.{true, false}
use mathlib.Core.Path.{◌≡◌}
use Prim.Native.Nat.{ℕ, ◌+◌, ◌<◌, ◌≤◌}
use Rattle.regions.specs.Region.{holds_of}
use Rattle.regions.specs.declared.Region.{Region}

module _ (r : Region) (a : ℕ) where
  pub holds_bounds : holds_of r a ≡ true → (r.start ≤ a) × (a < r.start + r.length)
  unfolding holds_of
  holds_bounds t = search (rules, tests)

  pub bounds_hold : r.start ≤ a → a < r.start + r.length → holds_of r a ≡ true
  unfolding holds_of
  bounds_hold l u = search (rules, tests)

  pub below_misses : a < r.start → holds_of r a ≡ false
  unfolding holds_of
  below_misses l = search (rules, tests)

  pub past_misses : r.start + r.length ≤ a → holds_of r a ≡ false
  unfolding holds_of
  past_misses u = search (rules, tests)

  -- a region that has not an address at or past its start ends at or before it
  pub misses_past : holds_of r a ≡ false → r.start ≤ a → (a < r.start + r.length → ⊥)
  unfolding holds_of
  misses_past t l u = search (rules, tests)

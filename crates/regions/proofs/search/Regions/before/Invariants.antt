use Prim.Native.Nat.{ℕ, ◌+◌, ◌-◌, ◌*◌, ◌≤◌}
use mathlib.Core.List.{List}
use mathlib.Core.Path.{◌≡◌}
use Rattle.regions.specs.Region.{region_at}
use Rattle.regions.specs.declared.Right.{Right}
use Rattle.regions.proofs.Kept.{Kept}
use Rattle.regions.proofs.Placed.{Placed}
use Rattle.regions.proofs.search.Regions.before.Given as goal

-- the next region is the i-th, and its record stands at the place
pub record Next (s : List ℕ) (n : ℕ) (w : Right) (a at end base place : ℕ) : Type 0 where
  pub i : ℕ
  pub stands : place ≡ 4 + 10 * i
  pub kept : Kept (region_at s) n w a at end i
  pub placed : Placed (region_at s) n a at end base i

abbrev pub invariant-loop-end : goal.invariant-loop-end
invariant-loop-end l = Next l.self.sheet.now l.self.count l.right l.address l.at l.end l.base l.place

abbrev pub decreases-loop-end : goal.decreases-loop-end
decreases-loop-end l = l.last - l.place

abbrev pub invariant-octets : goal.invariant-octets
invariant-octets l =
    (l.at ≤ l.stop) × Next l.self.sheet.now l.self.count l.right l.address l.at l.end l.base l.place

abbrev pub decreases-octets : goal.decreases-octets
decreases-octets l = l.stop - l.at

use Rattle.regions.specs.Region.{region_at}
use Rattle.regions.specs.declared.Right.TheVariants.{Mapped}
use Rattle.regions.proofs.Passing.{Passing}
use Rattle.regions.proofs.search.Regions.covers.Given as goal

abbrev pub invariant-loop-i : goal.invariant-loop-i
invariant-loop-i l = Passing (region_at l.self.sheet.now) l.self.count Mapped l.address l.to l.i

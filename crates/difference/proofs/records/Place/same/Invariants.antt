use Prim.Native.Nat.{◌+◌}
use mathlib.Core.Path.{◌≡◌}
use Rattle.difference.specs.Records.{same_of}
use Rattle.difference.proofs.records.Place.same.Given as goal

abbrev pub invariant-loop-k : goal.invariant-loop-k
invariant-loop-k l =
    l.so_far ≡ same_of l.self.sheet.now (l.self.at + l.from) l.other.sheet.now (l.other.at + l.from) l.k

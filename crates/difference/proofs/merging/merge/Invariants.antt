use Prim.Native.Nat.{◌+◌, ◌-◌}
use lib.ListN.{length}
use Rattle.difference.proofs.Passes.{Left}
use Rattle.difference.proofs.merging.merge.Given as goal

abbrev pub invariant-loop-list : goal.invariant-loop-list
invariant-loop-list l = Left l.first l.second l.initial.list l.list l.behind

abbrev pub decreases-loop-list : goal.decreases-loop-list
decreases-loop-list l = (length l.first - l.behind.first) + (length l.second - l.behind.second)

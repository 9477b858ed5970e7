use Prim.Native.Nat.{◌+◌}
use Rattle.difference.specs.Records.{cut}
use Rattle.difference.specs.Moves.{Moves}
use Rattle.difference.proofs.laying.Cursor.lay_part.Given as goal

abbrev pub invariant-loop-k : goal.invariant-loop-k
invariant-loop-k l = Moves l.initial.self l.self (cut l.record.sheet.now (l.record.at + l.from) l.k)

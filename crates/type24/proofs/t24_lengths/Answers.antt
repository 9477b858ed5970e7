-- `t24_lengths` meets its contract, case by case.
use Rattle.std.proofs.Common.{sym}
use Rattle.type24.specs.Packed.{lengths_of}
use Rattle.type24.proofs.t24_lengths.Goals as goal

pub returns-in-Ok : goal.returns-in-Ok
unfolding lengths_of
returns-in-Ok c = rw (sym c.in-Ok.ensures, c.from.ensures, c.from-in-Ok.ensures)

pub returns-in-Err : goal.returns-in-Err
unfolding lengths_of
returns-in-Err c = rw (sym c.in-Err.ensures)

-- `sheet::walk::fault_at` meets its contract, case by case.
use mathlib.Core.Path.{◌∙◌}
use Rattle.sheet.specs.Handed.{failed_at}
use Rattle.sheet.proofs.walk.fault_at.Goals as goal

pub returns-in-Err : goal.returns-in-Err
unfolding failed_at
returns-in-Err c = c.failed.ensures ∙ rw c.in-Err.is

pub returns-in-Ok : goal.returns-in-Ok
unfolding failed_at
returns-in-Ok c = c.failed-in-Ok.ensures ∙ rw c.in-Ok.is

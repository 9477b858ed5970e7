-- `sheet::walk::failed` meets its contract: the place, and the fault's number above it.
use Rattle.sheet.specs.Handed.{failed_number}
use Rattle.sheet.proofs.walk.failed.Goals as goal

pub returns : goal.returns
unfolding failed_number
returns c = rw c.number.ensures

-- `sheet::walk::counted` meets its contract: each count in its room.
use mathlib.Core.Path.{refl}
use Rattle.sheet.specs.Handed.{counts_number}
use Rattle.sheet.proofs.walk.counted.Goals as goal

pub returns : goal.returns
unfolding counts_number
returns c = refl

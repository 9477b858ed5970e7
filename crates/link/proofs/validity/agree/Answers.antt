-- `link::validity::agree` meets its contract by computing. The answer stands so that a wrong test is refused by what differs (must-fail/com_time_zero).
use mathlib.Core.Path.{refl}
use Rattle.link.specs.Valid.{agrees}
use Rattle.link.proofs.validity.agree.Goals as goal

pub returns : goal.returns
unfolding agrees
returns c = refl

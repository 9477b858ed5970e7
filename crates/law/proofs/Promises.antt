-- The contracts of the calls, by computation.
use mathlib.Core.Path.{refl}
use seplogic.Ra.Ura.{Ura}
use base.Logic.{SProp}
use prog.Memory.{Memory}
use prog.Routine.{Routine}
use types.Logic.{Logic}
use contract.Monad.{Fun}
use Rattle.law.specs.Promises.{Promises}

pub promises : {M : Type 1} {𝓤 : Ura M} (𝓛 : Logic 𝓤) (mem : Memory → SProp 𝓤) (run : Routine → Fun 𝓤) → Promises 𝓛 mem run
promises 𝓛 mem run = record { of_sheet = refl; of_lengths = refl; of_reset = refl; of_enable = refl; of_turn = refl; of_version = refl; of_exchange = refl; of_replay = refl; of_difference = refl }

-- The contracts of the archive's calls, by computation.
use mathlib.Core.Path.{refl}
use seplogic.Ra.Ura.{Ura}
use base.Logic.{SProp}
use prog.Memory.{Memory}
use prog.Routine.{Routine}
use types.Logic.{Logic}
use contract.Monad.{Fun}
use Rattle.type24_c.specs.Exports.{Exports}

pub exports : {M : Type 1} {𝓤 : Ura M} (𝓛 : Logic 𝓤) (mem : Memory → SProp 𝓤) (run : Routine → Fun 𝓤) → Exports 𝓛 mem run
exports 𝓛 mem run = record { of_sheet = refl; of_lengths = refl; of_reset = refl; of_enable = refl; of_turn = refl; of_version = refl; of_exchange = refl; of_replay = refl; of_difference = refl }

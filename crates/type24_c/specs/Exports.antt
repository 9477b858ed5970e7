-- The calls of the archive have the contracts that the law promises of type24's: each is its promise and no more, as `Promises` of law says it of type24.
use Rattle.std.specs.Prelude.{◌≡◌}
use seplogic.Ra.Ura.{Ura}
use base.Logic.{SProp}
use prog.Memory.{Memory as MachineMemory}
use prog.Routine.{Routine}
use types.Logic.{Logic}
use contract.Monad.{Fun}
use denote.Triple.Clauses.{closing}
use Rattle.type24_c.specs.contracts.t24_sheet as t24_sheet
use Rattle.type24_c.specs.contracts.t24_lengths as t24_lengths
use Rattle.type24_c.specs.contracts.t24_reset as t24_reset
use Rattle.type24_c.specs.contracts.t24_enable as t24_enable
use Rattle.type24_c.specs.contracts.t24_turn as t24_turn
use Rattle.type24_c.specs.contracts.t24_version as t24_version
use Rattle.type24_c.specs.contracts.t24_exchange as t24_exchange
use Rattle.type24_c.specs.contracts.t24_replay as t24_replay
use Rattle.type24_c.specs.contracts.t24_difference as t24_difference
use Rattle.law.specs.Promises.{SheetPromise, LengthsPromise, ResetPromise, EnablePromise, TurnPromise, VersionPromise, ExchangePromise, ReplayPromise, DifferencePromise, Only}

-- the contract of each function, as the prover reads it from type24_c/src/lib.rt, is its promise and no more; that the code meets it is the function's own
-- theorem
pub record Exports {M : Type 1} {𝓤 : Ura M} (𝓛 : Logic 𝓤) (mem : MachineMemory → SProp 𝓤) (run : Routine → Fun 𝓤) : Type 2 where
  pub of_sheet : t24_sheet.spec 𝓛 mem run ≡ closing 𝓛 t24_sheet.ended (Only 𝓤 t24_sheet.ended (λ κs lent a after. SheetPromise lent.0.now a))
  pub of_lengths : t24_lengths.spec 𝓛 mem run
      ≡ closing 𝓛 t24_lengths.ended (Only 𝓤 t24_lengths.ended (λ κs lent a after. LengthsPromise lent.0.now a))
  pub of_reset : t24_reset.spec 𝓛 mem run
      ≡ closing 𝓛 t24_reset.ended (Only 𝓤 t24_reset.ended (λ κs lent a after. ResetPromise lent.0.now lent.1.0.now a after.1.0.now))
  pub of_enable : t24_enable.spec 𝓛 mem run
      ≡ closing 𝓛 t24_enable.ended (Only 𝓤 t24_enable.ended (λ κs lent a after. EnablePromise lent.0.now lent.1.0.now a after.1.0.now))
  pub of_turn : t24_turn.spec 𝓛 mem run
      ≡ closing 𝓛 t24_turn.ended (Only 𝓤 t24_turn.ended (λ κs lent a after.
      TurnPromise lent.0.now lent.1.0.now lent.1.1.0.now a after.1.1.0.now))
  pub of_version : t24_version.spec 𝓛 mem run ≡ closing 𝓛 t24_version.ended (Only 𝓤 t24_version.ended (λ κs lent a after. VersionPromise a))
  pub of_exchange : t24_exchange.spec 𝓛 mem run
      ≡ closing 𝓛 t24_exchange.ended (Only 𝓤 t24_exchange.ended (λ κs lent a after.
      ExchangePromise lent.0.now lent.1.0.now lent.1.1.0.now lent.1.1.1.0.now lent.1.1.1.1.0.now
      a after.1.0.now after.1.1.0.now after.1.1.1.1.0.now))
  pub of_replay : t24_replay.spec 𝓛 mem run
      ≡ closing 𝓛 t24_replay.ended (Only 𝓤 t24_replay.ended (λ κs lent a after.
      ReplayPromise lent.0.now lent.1.0.now lent.1.1.0.now lent.1.1.1.0.now a after.1.0.now after.1.1.0.now))
  pub of_difference : t24_difference.spec 𝓛 mem run
      ≡ closing 𝓛 t24_difference.ended (Only 𝓤 t24_difference.ended (λ κs lent a after.
      DifferencePromise lent.0.now lent.1.0.now lent.1.1.0.now a after.1.1.0.now))

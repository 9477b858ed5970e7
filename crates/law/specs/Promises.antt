-- What the calls of type24/src/lib.rt promise. Each promise is one equation, between what a host has after the call and what it lent; and it is the
-- whole contract of the function that is called (`Promises`), which asks nothing but what its parameters' types ask: buffers that are there, each that may be
-- written distinct from all others. The archive is made of type24_c, whose calls have the same contracts by its own theorem, `Exports`.
use Rattle.std.specs.Prelude.{ℕ, List, ◌≡◌}
use seplogic.Ra.Ura.{Ura}
use base.Logic.{SProp, emp}
use prog.Memory.{Memory as MachineMemory}
use prog.Routine.{Routine}
use types.Logic.{Logic}
use contract.Lifetimes.{Lfts}
use contract.Monad.{Fun, fact}
use denote.Triple.Clauses.{Ended, Clauses, AtExit, closing}
use denote.Triple.Entry.{Args, Res}
use Rattle.difference.specs.Difference.{difference_of}
use Rattle.replay.specs.Replay.{replay_of}
use Rattle.sheet.specs.Walk.{verdict_of}
use Rattle.slave.specs.Answers.{sheet_answer}
use Rattle.slave.specs.Calls.{reset_of, enable_of, turn_of}
use Rattle.slave.specs.Exchange.{exchange_of}
use Rattle.type24.specs.Packed.{packed, packed_after, after_call, packed_left, left_by_call, lengths_of, packed_replay, by_replay, packed_list, by_difference}
use Rattle.type24.specs.contracts.t24_sheet as t24_sheet
use Rattle.type24.specs.contracts.t24_lengths as t24_lengths
use Rattle.type24.specs.contracts.t24_reset as t24_reset
use Rattle.type24.specs.contracts.t24_enable as t24_enable
use Rattle.type24.specs.contracts.t24_turn as t24_turn
use Rattle.type24.specs.contracts.t24_version as t24_version
use Rattle.type24.specs.contracts.t24_exchange as t24_exchange
use Rattle.type24.specs.contracts.t24_replay as t24_replay
use Rattle.type24.specs.contracts.t24_difference as t24_difference

-- a is the answer, s the state, m the memory, c the command, r the reply; a buffer with a prime is what it holds after the call
abbrev pub SheetPromise : List ℕ → ℕ → Type 0
SheetPromise sheet a = a ≡ packed (sheet_answer (verdict_of sheet))

abbrev pub LengthsPromise : List ℕ → ℕ → Type 0
LengthsPromise sheet a = a ≡ lengths_of (verdict_of sheet)

abbrev pub ResetPromise : List ℕ → List ℕ → ℕ → List ℕ → Type 0
ResetPromise sheet s a s' = packed_after a s' ≡ after_call (reset_of sheet s)

abbrev pub EnablePromise : List ℕ → List ℕ → ℕ → List ℕ → Type 0
EnablePromise sheet s a s' = packed_after a s' ≡ after_call (enable_of sheet s)

-- o is an old state record
abbrev pub TurnPromise : List ℕ → List ℕ → List ℕ → ℕ → List ℕ → Type 0
TurnPromise sheet o s a s' = packed_after a s' ≡ after_call (turn_of sheet o s)

abbrev pub VersionPromise : ℕ → Type 0
VersionPromise a = a ≡ 3

abbrev pub ExchangePromise : List ℕ → List ℕ → List ℕ → List ℕ → List ℕ → ℕ → List ℕ → List ℕ → List ℕ → Type 0
ExchangePromise sheet s m c r a s' m' r' = packed_left a s' m' r' ≡ left_by_call (exchange_of sheet s m c r)

abbrev pub ReplayPromise : List ℕ → List ℕ → List ℕ → List ℕ → ℕ → List ℕ → List ℕ → Type 0
ReplayPromise sheet s m trace a s' m' = packed_replay a s' m' ≡ by_replay (replay_of sheet s m trace)

-- l is the buffer lent for the list
abbrev pub DifferencePromise : List ℕ → List ℕ → List ℕ → ℕ → List ℕ → Type 0
DifferencePromise first second l a l' = packed_list a l' ≡ by_difference (difference_of first second l)

-- a contract that asks nothing, and ensures one fact of what is lent, of the answer, and of what is lent as it stands after the call
abbrev pub Only : {M : Type 1} (𝓤 : Ura M) (T : Ended)
    → ((κs : Lfts T.signature.lifetimes) → Args T.signature κs → Res T.signature κs → AtExit T κs → Type 0) → Clauses 𝓤 T
Only 𝓤 T Promise κs lent = record { ghost = Unit {0}; requires = λ _. emp 𝓤; ensures = λ _ a after. fact 𝓤 (Promise κs lent a after) }

-- the contract of each function, as the prover reads it from type24/src/lib.rt, is its promise and no more; that the code meets it is the function's own
-- theorem
pub record Promises {M : Type 1} {𝓤 : Ura M} (𝓛 : Logic 𝓤) (mem : MachineMemory → SProp 𝓤) (run : Routine → Fun 𝓤) : Type 2 where
  pub of_sheet : t24_sheet.spec 𝓛 mem run ≡ closing 𝓛 t24_sheet.ended (Only 𝓤 t24_sheet.ended (λ κs lent a after. SheetPromise lent.0.now a))
  pub of_lengths : t24_lengths.spec 𝓛 mem run
      ≡ closing 𝓛 t24_lengths.ended (Only 𝓤 t24_lengths.ended (λ κs lent a after. LengthsPromise lent.0.now a))
  pub of_reset : t24_reset.spec 𝓛 mem run
      ≡ closing 𝓛 t24_reset.ended (Only 𝓤 t24_reset.ended (λ κs lent a after. ResetPromise lent.0.now lent.1.0.now a after.1.0.now))
  pub of_enable : t24_enable.spec 𝓛 mem run
      ≡ closing 𝓛 t24_enable.ended (Only 𝓤 t24_enable.ended (λ κs lent a after. EnablePromise lent.0.now lent.1.0.now a after.1.0.now))
  pub of_turn : t24_turn.spec 𝓛 mem run
      ≡ closing 𝓛 t24_turn.ended (Only 𝓤 t24_turn.ended (λ κs lent a after.
      TurnPromise lent.0.now lent.1.0.now lent.1.1.0.now a after.1.1.0.now))
  pub of_version : t24_version.spec 𝓛 mem run ≡ closing 𝓛 t24_version.ended (Only 𝓤 t24_version.ended (λ κs lent a after. VersionPromise a))
  pub of_exchange : t24_exchange.spec 𝓛 mem run
      ≡ closing 𝓛 t24_exchange.ended (Only 𝓤 t24_exchange.ended (λ κs lent a after.
      ExchangePromise lent.0.now lent.1.0.now lent.1.1.0.now lent.1.1.1.0.now lent.1.1.1.1.0.now
      a after.1.0.now after.1.1.0.now after.1.1.1.1.0.now))
  pub of_replay : t24_replay.spec 𝓛 mem run
      ≡ closing 𝓛 t24_replay.ended (Only 𝓤 t24_replay.ended (λ κs lent a after.
      ReplayPromise lent.0.now lent.1.0.now lent.1.1.0.now lent.1.1.1.0.now a after.1.0.now after.1.1.0.now))
  pub of_difference : t24_difference.spec 𝓛 mem run
      ≡ closing 𝓛 t24_difference.ended (Only 𝓤 t24_difference.ended (λ κs lent a after.
      DifferencePromise lent.0.now lent.1.0.now lent.1.1.0.now a after.1.1.0.now))

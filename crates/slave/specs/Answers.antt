-- What a call tells. Document 01, "What each call tells": a number, and a place, which is 0 except for 11 to 17 and, by request 3, for a refused command.
use Rattle.std.specs.Prelude.{ℕ, None, Option, Some, Result, Ok, Err}
use Rattle.link.specs.declared.state.LinkState.{LinkState}
use Rattle.sheet.specs.Faults.{number_of}
use Rattle.sheet.specs.declared.walk.Layout.{Layout}
use Rattle.slave.specs.declared.answers.Answer.{Answer}
use Rattle.slave.specs.declared.answers.Refusal.{Refusal}
use Rattle.slave.specs.declared.answers.Refusal.TheVariants.{Sheet, BadState, BadMemory, BadCommand, BadReply, IsDisabled, NotDisabled}
use Rattle.sheet.specs.Told.{Verdict}

abbrev pub told : ℕ → ℕ → Answer
told number place = record { number = number; place = place }

-- "1 a bad state record; 2 memory length not the sum of the regions; 3 command length not L; 4 reply length not L; 5 exchange while Disabled; 6 enable
-- while not Disabled", and of a sheet the fault's number with its place
abbrev pub refusal_answer : Refusal → Answer
refusal_answer (Sheet flaw) = told (number_of flaw.fault) flaw.place
refusal_answer BadState = told 1 0
refusal_answer BadMemory = told 2 0
refusal_answer BadCommand = told 3 0
refusal_answer BadReply = told 4 0
refusal_answer IsDisabled = told 5 0
refusal_answer NotDisabled = told 6 0

-- what a call comes to as its answer: 0 where nothing is refused
abbrev pub answered : {A : Type 0} → Result A Refusal → Answer
answered (Ok x) = told 0 0
answered (Err refusal) = refusal_answer refusal

-- and of an exchange, which tells a place
abbrev pub answered_at : Result ℕ Refusal → Answer
answered_at (Ok place) = told 0 place
answered_at (Err refusal) = refusal_answer refusal

-- the verdict on a sheet as an answer
unfoldable pub sheet_answer : Verdict → Answer
sheet_answer (Ok layout) = told 0 0
sheet_answer (Err flaw) = told (number_of flaw.fault) flaw.place

-- first the sheet: a faulty one is refused, and a valid one's layout is gone on with
unfoldable pub on_sheet {ℓ} : {A : Type ℓ} → Verdict → (Answer → A) → (Layout → A) → A
on_sheet (Ok layout) refuse go = go layout
on_sheet (Err flaw) refuse go = refuse (sheet_answer (Err flaw))

-- then the state record: one that is not valid is refused, and a valid one's state is gone on with
unfoldable pub on_state {ℓ} : {A : Type ℓ} → Option LinkState → A → (LinkState → A) → A
on_state (Some st) refuse go = go st
on_state None refuse go = refuse

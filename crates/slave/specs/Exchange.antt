-- One exchange, for every input. Document 01, "What each call tells": "Order: sheet, 1, 2, 3, 4, 5"; a refusal writes nothing.
use Rattle.std.specs.Prelude.{ℕ, not, List, ◌≡◌, eqb, length, Some}
use Rattle.octets.specs.Pick.{pick}
use Rattle.frame.specs.Body.{reply_of, memory_after}
use Rattle.frame.specs.Fields.{command_of}
use Rattle.frame.specs.Places.{place_of}
use Rattle.frame.specs.Unnamed.{stray_of}
use Rattle.link.specs.Stored.{octets_of, state_of}
use Rattle.link.specs.declared.state.LinkState.{LinkState}
use Rattle.machine.specs.Outcomes.{outcome_of}
use Rattle.machine.specs.declared.words.Outcome.{Outcome}
use Rattle.sheet.specs.Walk.{verdict_of}
use Rattle.sheet.specs.declared.walk.Form.{Form}
use Rattle.sheet.specs.declared.walk.Layout.{Layout}
use Rattle.slave.specs.Answers.{told, on_sheet, on_state}
use Rattle.slave.specs.declared.answers.Answer.{Answer}

-- what an exchange leaves behind: its answer and every lent octet that it may write
pub record Left : Type 0 where
  pub answer : Answer
  pub state : List ℕ
  pub memory : List ℕ
  pub reply : List ℕ

abbrev pub left : Answer → List ℕ → List ℕ → List ℕ → Left
left answer state memory reply = record { answer = answer; state = state; memory = memory; reply = reply }

-- "2 memory length not the sum of the regions; 3 command length not L; 4 reply length not L; 5 exchange while Disabled"; 0 where none is
unfoldable pub refusal_of : Layout → LinkState → ℕ → ℕ → ℕ → ℕ
refusal_of lay st memory command reply =
    pick (not (eqb memory lay.memory)) 2
    (pick (not (eqb command lay.l)) 3
    (pick (not (eqb reply lay.l)) 4
    (pick (eqb st.link 0) 5
    0)))

-- what a command comes to, by its octets
abbrev pub outcome_for : List ℕ → Layout → LinkState → List ℕ → Outcome
outcome_for sheet lay st command = outcome_of sheet lay st (command_of lay.form command) (stray_of lay.form lay.release command)

-- what is left of an outcome: the place of what was wrong, the next state's record, the memory and the whole reply
abbrev pub left_of : Form → List ℕ → List ℕ → List ℕ → Outcome → Left
left_of form sheet memory command o =
    left (told 0 (place_of o.field)) (octets_of o.next) (memory_after form o.effect command memory) (reply_of form sheet memory command o)

-- an exchange that nothing refuses
unfoldable pub exchanged : List ℕ → Layout → LinkState → List ℕ → List ℕ → Left
exchanged sheet lay st memory command = left_of lay.form sheet memory command (outcome_for sheet lay st command)

unfoldable pub exchange_of : List ℕ → List ℕ → List ℕ → List ℕ → List ℕ → Left
exchange_of sheet state memory command reply =
    on_sheet (verdict_of sheet) (λ refusal. left refusal state memory reply)
    (λ lay.
    on_state (state_of state lay.l lay.tolerance) (left (told 1 0) state memory reply)
    (λ st.
    pick (not (eqb (refusal_of lay st (length memory) (length command) (length reply)) 0))
    (left (told (refusal_of lay st (length memory) (length command) (length reply)) 0) state memory reply)
    (exchanged sheet lay st memory command)))

-- a valid state that is not Disabled: what a replay leans on from record to record
pub record Running (state : List ℕ) (lay : Layout) (st : LinkState) : Type 0 where
  pub held : state_of state lay.l lay.tolerance ≡ Some st
  pub on : st.link ≡ 0 → ⊥

-- lists of the lengths that a layout says: what the code that builds a reply leans on
pub record Lent (memory command reply : List ℕ) (lay : Layout) : Type 0 where
  pub whole : length memory ≡ lay.memory
  pub asked : length command ≡ lay.l
  pub lent : length reply ≡ lay.l

-- what holds beside a valid sheet where nothing refuses: what the code that performs a command leans on
pub record Ready (state memory command reply : List ℕ) (lay : Layout) (st : LinkState) : Type 0 where
  pub held : state_of state lay.l lay.tolerance ≡ Some st
  pub lists : Lent memory command reply lay

-- The replay. Document 02, request 6: "Given sheet, state, memory and trace, tell the first record whose reply is not our machine's, with its number
-- and the first differing octet, or that all agree, with the final state and memory."
use Rattle.std.specs.Prelude.{ℕ, suc, ◌≡◌, ◌+◌, ◌*◌, not, List, [], ◌∷◌, eqb, ltb, length}
use Rattle.octets.specs.Pick.{pick}
use Rattle.link.specs.Stored.{state_of}
use Rattle.link.specs.declared.state.LinkState.{LinkState}
use Rattle.sheet.specs.Walk.{verdict_of}
use Rattle.sheet.specs.declared.walk.Layout.{Layout}
use Rattle.slave.specs.Answers.{on_sheet, on_state, told}
use Rattle.slave.specs.Exchange.{exchange_of, Running}
use Rattle.slave.specs.Wanted.{Stepped, stepped_of, Performed, performed}
use Rattle.slave.specs.declared.answers.Answer.{Answer}
use Rattle.replay.specs.Trace.{Traced, checked_form, traced_of}

-- what a replay leaves behind: its answer, the state record and the memory
pub record Replayed : Type 0 where
  pub answer : Answer
  pub state : List ℕ
  pub memory : List ℕ

abbrev pub replayed : Answer → List ℕ → List ℕ → Replayed
replayed answer state memory = record { answer = answer; state = state; memory = memory }

-- what is left of one record: state and memory beside the trace's reply, and the lent room with our machine's, or as it was where that has none
abbrev pub record_leaves : List ℕ → ℕ → List ℕ → List ℕ → List ℕ → List ℕ → List ℕ → Performed
record_leaves sheet l state memory room command reply =
    performed (stepped_of l state memory reply (exchange_of sheet state memory command reply)) (exchange_of sheet state memory command room).reply

-- what record number k leads to: a difference, or the records behind it
unfoldable pub on_step : ℕ → ℕ → Stepped → (List ℕ → List ℕ → Replayed) → Replayed
on_step l k x next = pick (ltb x.at l) (replayed (told 34 (64 * k + x.at)) x.state x.memory) (next x.state x.memory)

-- the records from number k on, each exchanged by our machine: 34 is told with 64 times the number of the first whose reply is another, plus the
-- first differing octet; where all agree, 0 is told with the number of records
unfoldable pub play_of : List ℕ → ℕ → ℕ → List ℕ → List ℕ → List Traced → Replayed
play_of sheet l k state memory [] = replayed (told 0 k) state memory
play_of sheet l k state memory (t ∷ ts) =
    on_step l k (stepped_of l state memory t.reply (exchange_of sheet state memory t.command t.reply))
    (λ s m. play_of sheet l (suc k) s m ts)

-- "Refusals: document 01's sheet, state, memory and Disabled refusals first, then, record by record .. ; nothing is written." A trace whose places
-- would not fit an answer, over 2^30 - 1 octets, is 35 before its records are looked at.
unfoldable pub replay_of : List ℕ → List ℕ → List ℕ → List ℕ → Replayed
replay_of sheet state memory trace =
    on_sheet (verdict_of sheet) (λ refusal. replayed refusal state memory)
    (λ lay.
    on_state (state_of state lay.l lay.tolerance) (replayed (told 1 0) state memory)
    (λ st.
    pick (not (eqb (length memory) lay.memory)) (replayed (told 2 0) state memory)
    (pick (eqb st.link 0) (replayed (told 5 0) state memory)
    (pick (not (eqb (checked_form lay.l trace).number 0)) (replayed (checked_form lay.l trace) state memory)
    (play_of sheet lay.l 0 state memory (traced_of lay.l trace))))))

-- what a replay leans on from record to record: a memory of the sheet's length, and a state that is valid and not Disabled
pub record Stands (state memory : List ℕ) (lay : Layout) : Type 0 where
  pub whole : length memory ≡ lay.memory
  pub st : LinkState
  pub running : Running state lay st

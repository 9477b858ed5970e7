-- Reset, enable and the turning call. Document 01: "Reset asks only a good sheet and a state buffer .., with any content; it writes Disabled with the
-- sheet's L and zeros. Enable turns Disabled into Disconnected"; request 9: "Reset writes the new record, into eleven octets. A call turns a valid old record
-- into a new one." A refused call leaves the lent octets as they were.
use Rattle.std.specs.Prelude.{ℕ, not, List, eqb, length}
use Rattle.octets.specs.Pick.{pick}
use Rattle.link.specs.Steps.{fresh, enabled}
use Rattle.link.specs.Stored.{octets_of, state_of}
use Rattle.link.specs.Old.{old_state_of}
use Rattle.sheet.specs.Walk.{verdict_of}
use Rattle.slave.specs.Answers.{told, on_sheet, on_state}
use Rattle.slave.specs.declared.answers.Answer.{Answer}

-- what a call of reset or enable leaves behind: its answer and the octets lent for the state
pub record After : Type 0 where
  pub answer : Answer
  pub state : List ℕ

abbrev pub after : Answer → List ℕ → After
after answer state = record { answer = answer; state = state }

unfoldable pub reset_of : List ℕ → List ℕ → After
reset_of sheet state =
    on_sheet (verdict_of sheet) (λ refusal. after refusal state)
    (λ layout.
    pick (not (eqb (length state) 11)) (after (told 1 0) state)
    (after (told 0 0) (octets_of (fresh layout.l))))

unfoldable pub enable_of : List ℕ → List ℕ → After
enable_of sheet state =
    on_sheet (verdict_of sheet) (λ refusal. after refusal state)
    (λ layout.
    on_state (state_of state layout.l layout.tolerance) (after (told 1 0) state)
    (λ st.
    pick (not (eqb st.link 0)) (after (told 6 0) state)
    (after (told 0 0) (octets_of (enabled st)))))

-- "1 .. in the turning call, a bad old record or other than eleven octets for the new"; the old record's fields stay, and no failure is counted
unfoldable pub turn_of : List ℕ → List ℕ → List ℕ → After
turn_of sheet old state =
    on_sheet (verdict_of sheet) (λ refusal. after refusal state)
    (λ layout.
    on_state (old_state_of old layout.l) (after (told 1 0) state)
    (λ st.
    pick (not (eqb (length state) 11)) (after (told 1 0) state)
    (after (told 0 0) (octets_of st))))

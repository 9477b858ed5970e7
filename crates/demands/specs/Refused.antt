-- Demand 1 over the calls.
use Rattle.std.specs.Prelude.{ℕ, true, List, [], ◌∷◌, ◌≡◌}
use Rattle.law.specs.Sheet.{Sheet, WellFormed, sheet_octets}
use Rattle.law.specs.State.{valid_state}
use Rattle.slave.specs.Calls.{reset_of, turn_of}
use Rattle.slave.specs.Exchange.{Left}
use Rattle.demands.specs.Sequences.{Call, Reset, Enable, Turn, Exchange, Replay, call_of, run_of}

-- the octets lent for a reply
abbrev pub lent_reply : Call → List ℕ
lent_reply Reset = []
lent_reply Enable = []
lent_reply (Turn old) = []
lent_reply (Exchange command reply) = reply
lent_reply (Replay trace) = []

-- a call is refused by its number: any but 0, and of a replay any but 0 and 34, which tells a difference
abbrev pub IsRefused : Call → Left → Type 0
IsRefused Reset l = l.answer.number ≡ 0 → ⊥
IsRefused Enable l = l.answer.number ≡ 0 → ⊥
IsRefused (Turn old) l = l.answer.number ≡ 0 → ⊥
IsRefused (Exchange command reply) l = l.answer.number ≡ 0 → ⊥
IsRefused (Replay trace) l = (l.answer.number ≡ 0 → ⊥) × (l.answer.number ≡ 34 → ⊥)

-- state, memory and reply hold what they held before
abbrev pub Unchanged : List ℕ → List ℕ → List ℕ → Left → Type 0
Unchanged state memory reply l = (l.state ≡ state) × (l.memory ≡ memory) × (l.reply ≡ reply)

-- "A refused call gives its number ..; state, memory and reply then hold what they held before": whatever is lent, and so at any point of a sequence
abbrev pub RefusedChangesNothing : Type 0
RefusedChangesNothing =
    (sheet state memory : List ℕ) (c : Call) → IsRefused c (call_of sheet state memory c) → Unchanged state memory (lent_reply c) (call_of sheet state memory c)

-- a state that is a valid record beside the sheet
abbrev pub ValidRecord : Sheet → List ℕ → Type 0
ValidRecord h state = valid_state h state ≡ true

-- every state that a sequence leaves is one
abbrev pub EachState : (List ℕ → Type 0) → List Left → Type 0
EachState P [] = Unit {0}
EachState P (l ∷ ls) = P l.state × EachState P ls

-- every state of a run from a valid record is a valid record, whatever memory is lent; and a reset, or a turning, that answered 0 leaves one, whatever the
-- state held before
pub record StatesStayValid : Type 0 where
  pub from_a_valid_one : (h : Sheet) → WellFormed h → (state memory : List ℕ) → ValidRecord h state → (calls : List Call)
      → EachState (ValidRecord h) (run_of (sheet_octets h) state memory calls)
  pub reset_leaves_one : (h : Sheet) → WellFormed h → (state : List ℕ) → (reset_of (sheet_octets h) state).answer.number ≡ 0
      → ValidRecord h (reset_of (sheet_octets h) state).state
  pub turning_leaves_one : (h : Sheet) → WellFormed h → (old state : List ℕ) → (turn_of (sheet_octets h) old state).answer.number ≡ 0
      → ValidRecord h (turn_of (sheet_octets h) old state).state

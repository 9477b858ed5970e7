-- Sequences of calls on one sheet. A host makes calls one after another; each leaves an answer and the lent octets behind, and the next call is
-- lent the state and the memory that the last one left.
use Rattle.std.specs.Prelude.{ℕ, List, [], ◌∷◌, ◌≡◌}
use Rattle.replay.specs.Replay.{Replayed, replayed, replay_of}
use Rattle.slave.specs.Calls.{After, after, reset_of, enable_of, turn_of}
use Rattle.slave.specs.Exchange.{Left, left, exchange_of}

-- a call: reset, enable, the turning of an old state record, an exchange with its command and the octets that its lent reply holds, or the replay of a trace,
-- all of any content and length
pub data Call : Type 0 where
  Reset : Call
  Enable : Call
  Turn : List ℕ → Call
  Exchange : List ℕ → List ℕ → Call
  Replay : List ℕ → Call

-- what a call of reset, enable or turning leaves: the memory is not lent to it, and no reply is
abbrev pub beside : List ℕ → After → Left
beside memory a = left a.answer a.state memory []

-- what a call of replay leaves: no reply is lent to it
abbrev pub without_reply : Replayed → Left
without_reply r = left r.answer r.state r.memory []

-- what the defined call leaves, of a state of any octets and a memory
unfoldable pub call_of : List ℕ → List ℕ → List ℕ → Call → Left
call_of sheet state memory Reset = beside memory (reset_of sheet state)
call_of sheet state memory Enable = beside memory (enable_of sheet state)
call_of sheet state memory (Turn old) = beside memory (turn_of sheet old state)
call_of sheet state memory (Exchange command reply) = exchange_of sheet state memory command reply
call_of sheet state memory (Replay trace) = without_reply (replay_of sheet state memory trace)

-- what each call of a sequence leaves
unfoldable pub run_of : List ℕ → List ℕ → List ℕ → List Call → List Left
run_of sheet state memory [] = []
run_of sheet state memory (c ∷ cs) =
    call_of sheet state memory c ∷ run_of sheet (call_of sheet state memory c).state (call_of sheet state memory c).memory cs

-- the state and the memory behind a sequence
unfoldable pub last_state : List ℕ → List Left → List ℕ
last_state state [] = state
last_state state (l ∷ ls) = last_state l.state ls

unfoldable pub last_memory : List ℕ → List Left → List ℕ
last_memory memory [] = memory
last_memory memory (l ∷ ls) = last_memory l.memory ls

-- what a call left meets the promise of the function that was called: the promises of `slave` and `replay`, word for word
abbrev pub Meets : List ℕ → List ℕ → List ℕ → Call → Left → Type 0
Meets sheet state memory Reset l = (after l.answer l.state ≡ reset_of sheet state) × (l.memory ≡ memory) × (l.reply ≡ [])
Meets sheet state memory Enable l = (after l.answer l.state ≡ enable_of sheet state) × (l.memory ≡ memory) × (l.reply ≡ [])
Meets sheet state memory (Turn old) l = (after l.answer l.state ≡ turn_of sheet old state) × (l.memory ≡ memory) × (l.reply ≡ [])
Meets sheet state memory (Exchange command reply) l =
    left l.answer l.state l.memory l.reply ≡ exchange_of sheet state memory command reply
Meets sheet state memory (Replay trace) l =
    (replayed l.answer l.state l.memory ≡ replay_of sheet state memory trace) × (l.reply ≡ [])

-- a host's history: each call met its promise on what the calls before it had left
pub data History (sheet : List ℕ) : List ℕ → List ℕ → List Call → List Left → Type 0 where
  start : {state memory : List ℕ} → History sheet state memory [] []
  next : {state memory : List ℕ} {c : Call} {l : Left} {cs : List Call} {ls : List Left}
      → Meets sheet state memory c l → History sheet l.state l.memory cs ls → History sheet state memory (c ∷ cs) (l ∷ ls)

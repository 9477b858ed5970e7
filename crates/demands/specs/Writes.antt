-- What accepted writes reach.
use Rattle.std.specs.Prelude.{ℕ, zero, suc, ◌+◌, ◌-◌, ◌≤◌, ◌<◌, true, List, [], ◌∷◌, ◌⊎◌, ◌≡◌, eqb, length, get_or, take, drop}
use Rattle.law.specs.Words.{Every, piece}
use Rattle.law.specs.Sheet.{Sheet, WellFormed, IsOctet, sheet_octets}
use Rattle.law.specs.State.{link}
use Rattle.law.specs.Memory.{Cell, cells, writable, has_all}
use Rattle.law.specs.Exchange.{fate_of}
use Rattle.octets.specs.Pick.{pick}
use Rattle.replay.specs.Replay.{play_of, replay_of}
use Rattle.replay.specs.Trace.{Traced, traced_of}
use Rattle.slave.specs.Exchange.{Left, exchange_of}
use Rattle.slave.specs.Wanted.{differs_at}
use Rattle.demands.specs.Accepted.{accepted}
use Rattle.demands.specs.Answered.{Answered}
use Rattle.demands.specs.Sequences.{Call, Reset, Enable, Turn, Exchange, Replay, call_of}

-- the cell of a place of the memory; past the end, one without a right
abbrev pub cell_at : List Cell → ℕ → Cell
cell_at [] place = record { address = 0; rights = 0 }
cell_at (x ∷ xs) zero = x
cell_at (x ∷ xs) (suc place) = cell_at xs place

-- an exchange's accepted write stores n octets from an address on, the command's own from an octet on, all of which the link may write; a memory place has
-- one of these addresses, and k is the command's octet for it
pub record Wrote (sheet state memory command reply : List ℕ) (place k : ℕ) : Type 0 where
  pub h : Sheet
  pub answered : Answered h sheet state memory command reply
  pub accepts : accepted h state memory command ≡ true
  pub address : ℕ
  pub n : ℕ
  pub from : ℕ
  pub stores : (fate_of h state memory command).stores ≡ piece address (take n (drop from command)) ∷ []
  pub fits : from + n ≤ length command
  pub right : has_all (writable (link state)) (cells h.regions) address n ≡ true
  pub inside : place < length memory
  pub above : address ≤ (cell_at (cells h.regions) place).address
  pub below : (cell_at (cells h.regions) place).address < address + n
  pub octet : k ≡ from + ((cell_at (cells h.regions) place).address - address)

-- "A write stores its own octets and no others": after any exchange, whatever is lent, a memory octet is the command's octet where an accepted
-- write's span has it, and its old value elsewhere
abbrev pub WritesOwnOctets : Type 0
WritesOwnOctets =
    (sheet state memory command reply : List ℕ) (place : ℕ) → Every IsOctet sheet
    → ((k : ℕ) → Wrote sheet state memory command reply place k
    → get_or (exchange_of sheet state memory command reply).memory place 0 ≡ get_or command k 0)
    × (((k : ℕ) → Wrote sheet state memory command reply place k → ⊥)
    → get_or (exchange_of sheet state memory command reply).memory place 0 ≡ get_or memory place 0)

-- in every call the memory keeps its length, so that the octets above are all that it has
abbrev pub MemoryKeepsItsLength : Type 0
MemoryKeepsItsLength = (sheet state memory : List ℕ) (c : Call) → length (call_of sheet state memory c).memory ≡ length memory

-- our machine's exchange of a record
abbrev pub ours : List ℕ → List ℕ → List ℕ → Traced → Left
ours sheet state memory t = exchange_of sheet state memory t.command t.reply

-- the records at the front whose replies are our machine's, up to the first whose reply is another
unfoldable pub agreeing : List ℕ → List ℕ → List ℕ → List Traced → List Traced
agreeing sheet state memory [] = []
agreeing sheet state memory (t ∷ ts) =
    pick (eqb (differs_at (ours sheet state memory t).reply t.reply) (length t.reply))
    (t ∷ agreeing sheet (ours sheet state memory t).state (ours sheet state memory t).memory ts) []

-- an accepted write of one of a list of records reached a place
abbrev pub ReachedIn : List ℕ → List ℕ → List ℕ → List Traced → ℕ → Type 0
ReachedIn sheet state memory [] place = ⊥
ReachedIn sheet state memory (t ∷ ts) place =
    ((k : ℕ) × Wrote sheet state memory t.command t.reply place k)
    ⊎ ReachedIn sheet (ours sheet state memory t).state (ours sheet state memory t).memory ts place

-- a replay plays its records, and an accepted write of an agreeing one reached a place
pub record ReplayReached (sheet state memory trace : List ℕ) (place : ℕ) : Type 0 where
  pub h : Sheet
  pub good : WellFormed h
  pub written : sheet ≡ sheet_octets h
  pub plays : replay_of sheet state memory trace ≡ play_of sheet h.l 0 state memory (traced_of h.l trace)
  pub reached : ReachedIn sheet state memory (agreeing sheet state memory (traced_of h.l trace)) place

-- a call's accepted write reached a place
abbrev pub ReachedBy : List ℕ → List ℕ → List ℕ → Call → ℕ → Type 0
ReachedBy sheet state memory Reset place = ⊥
ReachedBy sheet state memory Enable place = ⊥
ReachedBy sheet state memory (Turn old) place = ⊥
ReachedBy sheet state memory (Exchange command reply) place = (k : ℕ) × Wrote sheet state memory command reply place k
ReachedBy sheet state memory (Replay trace) place = ReplayReached sheet state memory trace place

-- an accepted write of a run reached a place
abbrev pub Reached : List ℕ → List ℕ → List ℕ → List Call → ℕ → Type 0
Reached sheet state memory [] place = ⊥
Reached sheet state memory (c ∷ cs) place =
    ReachedBy sheet state memory c place
    ⊎ Reached sheet (call_of sheet state memory c).state (call_of sheet state memory c).memory cs place

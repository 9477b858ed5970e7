-- Five idle programs. Document 01: "Demand 2 shuts out five idle programs: one that refuses all, one that gives a single reply, one that stores nothing
-- (case 4), one that works in the first exchange and echoes afterwards, one that invents RSN. Some meet demand 3 alone, so it speaks of demand 2's
-- machine."
use Rattle.std.specs.Prelude.{ℕ, List, [], ◌∷◌, map, ◌≡◌, get_or, set}
use Rattle.law.specs.Sheet.{Sheet, WellFormed, sheet_octets}
use Rattle.slave.specs.Answers.{told}
use Rattle.slave.specs.Exchange.{Left, left, exchange_of}
use Rattle.demands.specs.Bench.{case1}
use Rattle.demands.specs.Hidden.{DifferOnlyHidden, seen}
use Rattle.demands.specs.Refused.{lent_reply}
use Rattle.demands.specs.Sequences.{Call, Reset, Enable, Turn, Exchange, Replay, call_of, run_of, last_memory}
use Rattle.demands.specs.Writes.{Reached}

-- a program, by what each call of a sequence leaves, of a sheet, a state and a memory
abbrev pub Program : Type 0
Program = List ℕ → List ℕ → List ℕ → List Call → List Left

-- Demand 2 of a program: over every sequence of calls, whatever is lent, each call leaves what the defined one leaves
abbrev pub Demand2 : Program → Type 0
Demand2 p = (sheet state memory : List ℕ) (calls : List Call) → p sheet state memory calls ≡ run_of sheet state memory calls

-- what demand 3 asks of any program alone: the same is seen, and memories differ nowhere that they did not differ. Its last part speaks of accepted
-- writes, and so of demand 2's machine; it follows below.
abbrev pub KeepsSecrets : Program → Type 0
KeepsSecrets p =
    (h : Sheet) → WellFormed h → (state m₁ m₂ : List ℕ) → DifferOnlyHidden h m₁ m₂ → (calls : List Call)
    → (map seen (p (sheet_octets h) state m₁ calls) ≡ map seen (p (sheet_octets h) state m₂ calls))
    × ((place : ℕ) → get_or m₁ place 0 ≡ get_or m₂ place 0
    → get_or (last_memory m₁ (p (sheet_octets h) state m₁ calls)) place 0 ≡ get_or (last_memory m₂ (p (sheet_octets h) state m₂ calls)) place 0)

-- the last part of demand 3: the memories agree wherever a write that demand 2's machine accepts has reached
abbrev pub AgreesWhereReached : Program → Type 0
AgreesWhereReached p =
    (h : Sheet) → WellFormed h → (state m₁ m₂ : List ℕ) → DifferOnlyHidden h m₁ m₂ → (calls : List Call)
    → (place : ℕ) → Reached (sheet_octets h) state m₁ calls place
    → get_or (last_memory m₁ (p (sheet_octets h) state m₁ calls)) place 0 ≡ get_or (last_memory m₂ (p (sheet_octets h) state m₂ calls)) place 0

-- one that refuses all
unfoldable pub refuses_all : Program
refuses_all sheet state memory [] = []
refuses_all sheet state memory (c ∷ cs) = left (told 1 0) state memory (lent_reply c) ∷ refuses_all sheet state memory cs

-- one that gives a single reply: that of case 1
unfoldable pub single_reply : Program
single_reply sheet state memory [] = []
single_reply sheet state memory (c ∷ cs) = left (told 0 0) state memory case1.want.reply ∷ single_reply sheet state memory cs

-- one that stores nothing: it answers as the machine does, and leaves the memory as it was
unfoldable pub stores_nothing : Program
stores_nothing sheet state memory [] = []
stores_nothing sheet state memory (c ∷ cs) =
    left (call_of sheet state memory c).answer (call_of sheet state memory c).state memory (call_of sheet state memory c).reply
    ∷ stores_nothing sheet (call_of sheet state memory c).state memory cs

-- an echo: the command comes back as the reply, and nothing else happens
unfoldable pub echoes : List ℕ → List ℕ → List Call → List Left
echoes state memory [] = []
echoes state memory (Reset ∷ cs) = left (told 0 0) state memory [] ∷ echoes state memory cs
echoes state memory (Enable ∷ cs) = left (told 0 0) state memory [] ∷ echoes state memory cs
echoes state memory (Turn old ∷ cs) = left (told 0 0) state memory [] ∷ echoes state memory cs
echoes state memory (Exchange command reply ∷ cs) = left (told 0 0) state memory command ∷ echoes state memory cs
echoes state memory (Replay trace ∷ cs) = left (told 0 0) state memory [] ∷ echoes state memory cs

-- one that works in the first exchange and echoes afterwards
unfoldable pub echoes_afterwards : Program
echoes_afterwards sheet state memory [] = []
echoes_afterwards sheet state memory (Reset ∷ cs) =
    call_of sheet state memory Reset ∷ echoes_afterwards sheet (call_of sheet state memory Reset).state memory cs
echoes_afterwards sheet state memory (Enable ∷ cs) =
    call_of sheet state memory Enable ∷ echoes_afterwards sheet (call_of sheet state memory Enable).state memory cs
echoes_afterwards sheet state memory (Turn old ∷ cs) =
    call_of sheet state memory (Turn old) ∷ echoes_afterwards sheet (call_of sheet state memory (Turn old)).state memory cs
echoes_afterwards sheet state memory (Replay trace ∷ cs) =
    call_of sheet state memory (Replay trace)
    ∷ echoes_afterwards sheet (call_of sheet state memory (Replay trace)).state (call_of sheet state memory (Replay trace)).memory cs
echoes_afterwards sheet state memory (Exchange command reply ∷ cs) =
    exchange_of sheet state memory command reply
    ∷ echoes (exchange_of sheet state memory command reply).state (exchange_of sheet state memory command reply).memory cs

-- one that invents RSN: it works as the machine does, and puts RSN 15 into every reply of the enhanced type; in the short type the same octet is the alarm
abbrev pub inventing : Left → Left
inventing l = left l.answer l.state l.memory (set l.reply 1 0xF0)

unfoldable pub invents_rsn : Program
invents_rsn sheet state memory calls = map inventing (run_of sheet state memory calls)

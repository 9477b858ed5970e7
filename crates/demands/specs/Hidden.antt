-- Demand 3: what is hidden from a host stays hidden.
use Rattle.std.specs.Prelude.{ℕ, true, List, map, ◌≡◌, length, get_or}
use Rattle.law.specs.Sheet.{Sheet, WellFormed, sheet_octets, room}
use Rattle.law.specs.Memory.{cells, readable}
use Rattle.slave.specs.Exchange.{Left}
use Rattle.slave.specs.declared.answers.Answer.{Answer}
use Rattle.demands.specs.Sequences.{Call, run_of, last_memory}
use Rattle.demands.specs.Writes.{cell_at, Reached}

-- a place of the memory has the read right: its cell's region gives it
abbrev pub Readable : Sheet → ℕ → Type 0
Readable h place = readable (cell_at (cells h.regions) place).rights ≡ true

-- two memories of the sheet's length that differ only in octets without the read right
pub record DifferOnlyHidden (h : Sheet) (m₁ m₂ : List ℕ) : Type 0 where
  pub whole₁ : length m₁ ≡ room h.regions
  pub whole₂ : length m₂ ≡ room h.regions
  pub shown : (place : ℕ) → Readable h place → get_or m₁ place 0 ≡ get_or m₂ place 0

-- what a host sees of a call: its answer, the state and the reply
pub record Seen : Type 0 where
  pub answer : Answer
  pub state : List ℕ
  pub reply : List ℕ

abbrev pub seen : Left → Seen
seen l = record { answer = l.answer; state = l.state; reply = l.reply }

-- Demand 3, of the machine of demand 2: "Two runs on memories that differ only in octets without the read right give the same answers, replies and
-- states; afterwards the memories differ nowhere that they did not differ before, and agree wherever an accepted write reached."
abbrev pub Demand3 : Type 0
Demand3 =
    (h : Sheet) → WellFormed h → (state m₁ m₂ : List ℕ) → DifferOnlyHidden h m₁ m₂ → (calls : List Call)
    → (map seen (run_of (sheet_octets h) state m₁ calls) ≡ map seen (run_of (sheet_octets h) state m₂ calls))
    × ((place : ℕ) → get_or m₁ place 0 ≡ get_or m₂ place 0
    → get_or (last_memory m₁ (run_of (sheet_octets h) state m₁ calls)) place 0 ≡ get_or (last_memory m₂ (run_of (sheet_octets h) state m₂ calls)) place 0)
    × ((place : ℕ) → Reached (sheet_octets h) state m₁ calls place
    → get_or (last_memory m₁ (run_of (sheet_octets h) state m₁ calls)) place 0 ≡ get_or (last_memory m₂ (run_of (sheet_octets h) state m₂ calls)) place 0)

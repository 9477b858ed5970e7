-- The theorem: for every sheet of octets, and whatever else is lent, what meets the promise of a call is what the tables say, to the octet, and nothing else;
-- and by `Promises` it is a theorem about the code. That a lent `&[u8]` has only octets is in its type; of what else is lent not even that is asked.
use Rattle.std.specs.Prelude.{ℕ, ◌+◌, List, [], ◌⊎◌, ◌↔◌, ◌≡◌}
use Rattle.law.specs.Words.{Every}
use Rattle.law.specs.Sheet.{Sheet, WellFormed, FiveLengths, IsOctet, sheet_octets}
use Rattle.law.specs.Faults.{FirstFault}
use Rattle.law.specs.Calls.{Result, result, sheet_told, lengths, reset, enable, turn, exchange}
use Rattle.law.specs.Trace.{Form, HasForm, replay}
use Rattle.law.specs.Difference.{Change, Told, entries_of, Lists, list_octets, told_of, list_told}
use Rattle.law.specs.Promises.{SheetPromise, LengthsPromise, ResetPromise, EnablePromise, TurnPromise, ExchangePromise, ReplayPromise, DifferencePromise}

-- what a host has after a call; [] for a buffer that the call has not
abbrev pub host_has : ℕ → List ℕ → List ℕ → List ℕ → Result
host_has answer state memory reply = record { answer = answer; state = state; memory = memory; reply = reply }

-- "Order: sheet, ..": the sheet is the writing of a well-formed one, and the call does what it does for that; or it has a first fault, and is refused
abbrev pub ByLaw : List ℕ → (Sheet → Result → Type 0) → (ℕ → ℕ → Result) → Result → Type 0
ByLaw sheet Does refusal x =
    ((h : Sheet) × WellFormed h × (sheet ≡ sheet_octets h) × Does h x) ⊎ ((f : ℕ) × (place : ℕ) × FirstFault sheet f place × (x ≡ refusal f place))

-- the same for the buffer of a list
abbrev pub host_has_list : ℕ → List ℕ → Told
host_has_list answer list = record { answer = answer; list = list }

-- "Refusals: 11 to 17 for the first sheet; then 21 to 27 likewise for the second": both are writings of well-formed sheets, and their list is told, or 28; or the
-- first has a first fault; or the first is good and the second has one. A refusal leaves the buffer as it was
abbrev pub TellsList : List ℕ → List ℕ → List ℕ → Told → Type 0
TellsList first second lent x =
    ((a : Sheet) × (b : Sheet) × WellFormed a × WellFormed b × (first ≡ sheet_octets a) × (second ≡ sheet_octets b)
    × (list : List Change) × Lists (entries_of a) (entries_of b) list × (x ≡ list_told (list_octets list) lent))
    ⊎ (((f : ℕ) × (place : ℕ) × FirstFault first f place × (x ≡ told_of f place lent))
    ⊎ ((a : Sheet) × (f : ℕ) × (place : ℕ) × WellFormed a × (first ≡ sheet_octets a) × FirstFault second f place × (x ≡ told_of (f + 10) place lent)))

-- octets are the writing of one well-formed sheet, or have one first fault with one place, and never both; and a trace has one form
pub record OneReading : Type 0 where
  pub some_reading : (sheet : List ℕ) → Every IsOctet sheet
      → ((h : Sheet) × WellFormed h × (sheet ≡ sheet_octets h)) ⊎ ((f : ℕ) × (place : ℕ) × FirstFault sheet f place)
  pub one_sheet : (a b : Sheet) → WellFormed a → WellFormed b → sheet_octets a ≡ sheet_octets b → a ≡ b
  pub one_fault : (sheet : List ℕ) (f g place other : ℕ) → Every IsOctet sheet → FirstFault sheet f place → FirstFault sheet g other
      → (f ≡ g) × (place ≡ other)
  pub never_both : (h : Sheet) (f place : ℕ) → WellFormed h → FirstFault (sheet_octets h) f place → ⊥
  pub some_form : (l : ℕ) (trace : List ℕ) → FiveLengths l → (form : Form) × HasForm l trace form
  pub one_form : (l : ℕ) (trace : List ℕ) (a b : Form) → FiveLengths l → HasForm l trace a → HasForm l trace b → a ≡ b

-- each call of type24/src/lib.rt: on the left its promise, on the right the law. t24_lengths tells 0 for any sheet that is refused
pub record ByTables : Type 0 where
  pub sheets : (sheet : List ℕ) (a : ℕ) → Every IsOctet sheet
      → SheetPromise sheet a
      ↔ ByLaw sheet (λ h x. x ≡ sheet_told h) (λ f place. result f place [] [] []) (host_has a [] [] [])
  pub lengths_told : (sheet : List ℕ) (a : ℕ) → Every IsOctet sheet
      → LengthsPromise sheet a
      ↔ ByLaw sheet (λ h x. x ≡ lengths h) (λ f place. result 0 0 [] [] []) (host_has a [] [] [])
  pub resets : (sheet s : List ℕ) (a : ℕ) (s' : List ℕ) → Every IsOctet sheet
      → ResetPromise sheet s a s'
      ↔ ByLaw sheet (λ h x. x ≡ reset h s) (λ f place. result f place s [] []) (host_has a s' [] [])
  pub enables : (sheet s : List ℕ) (a : ℕ) (s' : List ℕ) → Every IsOctet sheet
      → EnablePromise sheet s a s'
      ↔ ByLaw sheet (λ h x. x ≡ enable h s) (λ f place. result f place s [] []) (host_has a s' [] [])
  pub turns : (sheet o s : List ℕ) (a : ℕ) (s' : List ℕ) → Every IsOctet sheet
      → TurnPromise sheet o s a s'
      ↔ ByLaw sheet (λ h x. x ≡ turn h o s) (λ f place. result f place s [] []) (host_has a s' [] [])
  pub exchanges : (sheet s m c r : List ℕ) (a : ℕ) (s' m' r' : List ℕ) → Every IsOctet sheet
      → ExchangePromise sheet s m c r a s' m' r'
      ↔ ByLaw sheet (λ h x. x ≡ exchange h s m c r) (λ f place. result f place s m r) (host_has a s' m' r')
  pub replays : (sheet s m trace : List ℕ) (a : ℕ) (s' m' : List ℕ) → Every IsOctet sheet
      → ReplayPromise sheet s m trace a s' m'
      ↔ ByLaw sheet (λ h x. (form : Form) × HasForm h.l trace form × (x ≡ replay h s m trace form)) (λ f place. result f place s m []) (host_has a s' m' [])
  pub differences : (first second lent : List ℕ) (a : ℕ) (list : List ℕ) → Every IsOctet first → Every IsOctet second
      → DifferencePromise first second lent a list
      ↔ TellsList first second lent (host_has_list a list)

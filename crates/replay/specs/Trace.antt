-- Document 02, request 6: "A trace is a run of records, kinds 21 to 25 hex for L of 8, 16, 32, 48 and 64, with the command and then the reply as
-- body."
use Rattle.std.specs.Prelude.{ℕ, zero, suc, ◌≡◌, ◌+◌, ◌*◌, ◌/◌, ◌≤◌, not, List, [], ◌∷◌, eqb, ltb, leb, length, get_or, drop}
use Rattle.octets.specs.Parts.{part}
use Rattle.octets.specs.Pick.{pick}
use Rattle.replay.specs.declared.form.Record.{Record}
use Rattle.replay.specs.declared.form.Record.TheVariants.{End, Whole, Bad}
use Rattle.replay.specs.Answers.{fault_number}
use Rattle.replay.specs.declared.answers.Fault.{Fault}
use Rattle.replay.specs.declared.answers.Fault.TheVariants.{Unknown, OtherLength, Cut}
use Rattle.slave.specs.Answers.{told}
use Rattle.slave.specs.declared.answers.Answer.{Answer}

-- the L of a kind; 0 for a kind that is none
unfoldable pub kind_length : ℕ → ℕ
kind_length k = pick (eqb k 0x21) 8 (pick (eqb k 0x22) 16 (pick (eqb k 0x23) 32 (pick (eqb k 0x24) 48 (pick (eqb k 0x25) 64 0))))

-- the octets of a record: its kind, a command and a reply
abbrev pub record_size : ℕ → ℕ
record_size l = 1 + 2 * l

-- the fault of the record at the front of `rest`; 0 where it is whole: "31 unknown kind, 32 a kind whose L is not the sheet's, 33 cut record"
unfoldable pub fault_of : ℕ → List ℕ → ℕ
fault_of l rest =
    pick (eqb (kind_length (get_or rest 0 0)) 0) 31
    (pick (not (eqb (kind_length (get_or rest 0 0)) l)) 32
    (pick (ltb (length rest) (record_size l)) 33 0))

-- the fault of a number; a number that is none counts as the last
unfoldable pub fault_named : ℕ → Fault
fault_named n = pick (eqb n 31) Unknown (pick (eqb n 32) OtherLength Cut)

-- what stands at a place of a trace
unfoldable pub record_at : ℕ → List ℕ → ℕ → Record
record_at l trace at =
    pick (leb (length trace) at) End (pick (eqb (fault_of l (drop at trace)) 0) Whole (Bad (fault_named (fault_of l (drop at trace)))))

-- the command and the reply of the record at a place
unfoldable pub command_at : ℕ → List ℕ → ℕ → List ℕ
command_at l trace at = part (drop at trace) 1 l

unfoldable pub reply_at : ℕ → List ℕ → ℕ → List ℕ
reply_at l trace at = part (drop at trace) (1 + l) l

-- what one record's form leads to: the end, the next record, or its fault with its place
unfoldable pub formed : Record → ℕ → Answer → Answer
formed End place next = told 0 0
formed Whole place next = next
formed (Bad fault) place next = told (fault_number fault) place

-- the number of a fault; 0 where there is none
unfoldable pub fault_in : Record → ℕ
fault_in End = 0
fault_in Whole = 0
fault_in (Bad fault) = fault_number fault

-- the form of the n records from record k on; "the place is the record's first octet"
unfoldable pub form_from : ℕ → List ℕ → ℕ → ℕ → Answer
form_from l trace k zero = told 0 0
form_from l trace k (suc n) = formed (record_at l trace (k * record_size l)) (k * record_size l) (form_from l trace (suc k) n)

-- the form of the whole trace, which has at most as many records as octets
abbrev pub form_of : ℕ → List ℕ → Answer
form_of l trace = form_from l trace 0 (suc (length trace))

-- the same of a trace of any length: one whose places would not fit an answer is 35
unfoldable pub checked_form : ℕ → List ℕ → Answer
checked_form l trace = pick (ltb 1073741823 (length trace)) (told 35 0) (form_of l trace)

-- one record: what the fitter sent, and what came back
pub record Traced : Type 0 where
  pub command : List ℕ
  pub reply : List ℕ

abbrev pub traced : List ℕ → List ℕ → Traced
traced command reply = record { command = command; reply = reply }

-- n records from the front of `rest` on
unfoldable pub records_of : ℕ → ℕ → List ℕ → List Traced
records_of l zero rest = []
records_of l (suc n) rest = traced (part rest 1 l) (part rest (1 + l) l) ∷ records_of l n (drop (record_size l) rest)

-- the records of a trace
abbrev pub traced_of : ℕ → List ℕ → List Traced
traced_of l trace = records_of l (length trace / record_size l) trace

-- a trace of whole records whose places fit an answer: what a replay leans on where nothing is wrong with the form
pub record Records (l : ℕ) (trace : List ℕ) : Type 0 where
  pub short : length trace ≤ 1073741823
  pub many : ℕ
  pub whole : length trace ≡ many * record_size l

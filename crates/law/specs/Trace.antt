-- Document 02, request 6: "A trace is a run of records, kinds 21 to 25 hex for L of 8, 16, 32, 48 and 64, with the command and then the reply as body."
use Rattle.std.specs.Prelude.{ℕ, suc, ◌+◌, ◌*◌, ◌≤◌, not, List, [], ◌∷◌, ◌++◌, ◌≡◌, eqb, ltb, length, get_or}
use Rattle.law.specs.Words.{when, Every, FaultUnless, NoMore, joined}
use Rattle.law.specs.Sheet.{Sheet, room}
use Rattle.law.specs.State.{link, valid_state}
use Rattle.law.specs.Exchange.{fate_of}
use Rattle.law.specs.Calls.{Result, result, done}

pub record Traced : Type 0 where
  pub command : List ℕ
  pub reply : List ℕ

-- the kind for an L, which is one of the five
abbrev pub kind_for : ℕ → ℕ
kind_for l = when (eqb l 8) 0x21 (when (eqb l 16) 0x22 (when (eqb l 32) 0x23 (when (eqb l 48) 0x24 0x25)))

abbrev pub traced_octets : ℕ → Traced → List ℕ
traced_octets l t = kind_for l ∷ t.command ++ t.reply

-- command and reply have L octets each
abbrev pub Whole : ℕ → Traced → Type 0
Whole l t = (length t.command ≡ l) × (length t.reply ≡ l)

-- "record by record in this order, 31 unknown kind, 32 a kind whose L is not the sheet's, 33 cut record"
abbrev pub TracedFault : ℕ → List ℕ → ℕ → Type 0
TracedFault l rest =
    FaultUnless 31 ((0x21 ≤ get_or rest 0 0) × (get_or rest 0 0 ≤ 0x25))
    (FaultUnless 32 (get_or rest 0 0 ≡ kind_for l)
    (FaultUnless 33 (1 + 2 * l ≤ length rest)
    NoMore))

-- the form of a trace: whole records, or the number of the first fault with its place
pub data Form : Type 0 where
  whole_records : List Traced → Form
  fault : ℕ → ℕ → Form

-- "The whole trace is checked for form before the first exchange"; "the place is the record's first octet"
abbrev pub HasForm : ℕ → List ℕ → Form → Type 0
HasForm l trace (whole_records ts) = Every (Whole l) ts × (trace ≡ joined (traced_octets l) ts)
HasForm l trace (fault f place) =
    (ts : List Traced) × (rest : List ℕ) × Every (Whole l) ts × (trace ≡ joined (traced_octets l) ts ++ rest)
    × (place + length rest ≡ length trace) × (1 ≤ length rest) × TracedFault l rest f

-- how many octets of two lists agree before the first that does not
unfoldable pub alike : List ℕ → List ℕ → ℕ
alike [] ys = 0
alike (x ∷ xs) [] = 0
alike (x ∷ xs) (y ∷ ys) = when (eqb x y) (suc (alike xs ys)) 0

-- "tell the first record whose reply is not our machine's, with its number and the first differing octet, or that all agree, with the final state and
-- memory. .. Records are numbered from 0; on a difference, state and memory stand as before that record": 0 with the number of records as place, or 34
-- with 64 times the record's number + the number, from 0, of the first differing octet of its reply; these are our own. From record k on. Each command is
-- done without an exchange's refusals, since they cannot be: the state stays valid and enabled, the memory keeps its length, and a whole record has L
unfoldable pub played : Sheet → ℕ → List ℕ → List ℕ → List Traced → Result
played h k s m [] = result 0 k s m []
played h k s m (t ∷ ts) =
    let x = done h s m t.command (fate_of h s m t.command) in
    when (eqb (alike x.reply t.reply) h.l)
    (played h (suc k) x.state x.memory ts)
    (result 34 (64 * k + alike x.reply t.reply) s m [])

abbrev pub played_form : Sheet → List ℕ → List ℕ → Form → Result
played_form h s m (whole_records ts) = played h 0 s m ts
played_form h s m (fault f place) = result f place s m []

-- "Refusals: document 01's sheet, state, memory and Disabled refusals first"; then 35, a refusal of our own, for a trace over 2^30 - 1 octets: up
-- to there every place fits an answer, and of a longer trace neither 31 to 33 nor a difference is told; then those of the form
unfoldable pub replay : Sheet → List ℕ → List ℕ → List ℕ → Form → Result
replay h s m trace form =
    when (not (valid_state h s)) (result 1 0 s m [])
    (when (not (eqb (length m) (room h.regions))) (result 2 0 s m [])
    (when (eqb (link s) 0) (result 5 0 s m [])
    (when (ltb 1073741823 (length trace)) (result 35 0 s m [])
    (played_form h s m form))))

-- An exchange that builds a reply, and what a host reads in the octets that it leaves.
use Rattle.std.specs.Prelude.{ℕ, ◌%◌, ◌≤◌, ◌<◌, Bool, true, List, ◌≡◌, length, get_or}
use Rattle.law.specs.Words.{bit}
use Rattle.law.specs.Sheet.{PduType, enhanced, short, Sheet, WellFormed, sheet_octets, room}
use Rattle.law.specs.State.{link, valid_state}

-- an exchange on the sheet h that no number refuses: a reply is built
pub record Answered (h : Sheet) (sheet state memory command reply : List ℕ) : Type 0 where
  pub good : WellFormed h
  pub written : sheet ≡ sheet_octets h
  pub valid : valid_state h state ≡ true
  pub whole : length memory ≡ room h.regions
  pub asked : length command ≡ h.l
  pub lent : length reply ≡ h.l
  pub enabled : link state ≡ 0 → ⊥

-- "bits 8 to 11 are this command's alarm": the low half of the reply's octet 3; request 7: "The command alarm goes in octet 1"
abbrev pub alarm_of : PduType → List ℕ → ℕ
alarm_of enhanced reply = get_or reply 3 0 % 16
alarm_of short reply = get_or reply 1 0

abbrev pub alarm_in : Sheet → List ℕ → ℕ
alarm_in h reply = alarm_of h.pdu reply

-- the octets of a reply's body: behind the head; request 7: "11 of body, RWDT last"
abbrev pub InBody : PduType → ℕ → Type 0
InBody enhanced k = 4 ≤ k
InBody short k = (4 ≤ k) × (k < 15)

-- "octets 2 and 3 status": the low octet
abbrev pub low_in : List ℕ → ℕ
low_in reply = get_or reply 2 0

-- request 9: "status bit 1 set", where a failed check 1 was tolerated
abbrev pub tolerated_in : List ℕ → Bool
tolerated_in reply = bit (low_in reply) 1

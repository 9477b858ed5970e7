-- Document 02, request 13, "Reserved octets, release 2": "From release 2 of our drive rules, a command octet that document 01 doesn't name must be zero. ..
-- Prove once that both give equal results wherever those octets are zero."
use Rattle.std.specs.Prelude.{ℕ, zero, suc, ◌<◌, true, false, List, [], ◌∷◌, ◌++◌, map, ◌⊎◌, ◌↔◌, ◌≡◌, length}
use Rattle.law.specs.Words.{Every, Some, one_of, octet}
use Rattle.law.specs.Sheet.{PduType, enhanced, short, Sheet, WellFormed, sheet_octets}
use Rattle.law.specs.Table.{Run, Row, head_named, is_named, unnamed_bits, table, n}
use Rattle.law.specs.Exchange.{code, missed}
use Rattle.law.specs.Calls.{Result, result}
use Rattle.slave.specs.Exchange.{Left, exchange_of}
use Rattle.demands.specs.Accepted.{Executed}
use Rattle.demands.specs.Answered.{Answered, alarm_in}

-- a sheet with these records of kind 07, the rest of it as it is
abbrev pub ruled : List ℕ → Sheet → Sheet
ruled releases h = record {
  pdu = h.pdu;
  l = h.l;
  version = h.version;
  profile = h.profile;
  regions = h.regions;
  parameters = h.parameters;
  items = h.items;
  tolerances = h.tolerances;
  releases = releases;
}

-- "body one octet 1 or 2 ..; without it release 1 holds"
abbrev pub Release1 : List ℕ → Type 0
Release1 releases = (releases ≡ []) ⊎ (releases ≡ 1 ∷ [])

abbrev pub release2 : List ℕ
release2 = 2 ∷ []

-- octet k may be what it is: it is named, or zero as far as it must be; "but for the two identity bits"
abbrev pub ZeroUnlessNamed : PduType → List Run → List ℕ → ℕ → Type 0
ZeroUnlessNamed t named c k = is_named (head_named t ++ named) k ≡ false → unnamed_bits t k (octet c k) ≡ 0

-- every octet of a command that the row of its code does not name is zero; where no row has its code, nothing is asked
abbrev pub UnnamedAreZero : Sheet → List ℕ → List ℕ → List ℕ → Type 0
UnnamedAreZero h state memory c =
    Every (λ (r : Row). code c ≡ r.code → (k : ℕ) → k < length c → ZeroUnlessNamed h.pdu r.named c k) (table h state memory c)

-- what a host has after an exchange: its answer, and what its buffers hold
abbrev pub host_has : Left → Result
host_has l = result l.answer.number l.answer.place l.state l.memory l.reply

-- of a sheet with release 1 and the same one with release 2, wherever those octets are zero, everything is the same: for every state, memory and reply that are
-- lent, refused or not, and over both types
abbrev pub SameWhereZero : Type 0
SameWhereZero =
    (h : Sheet) (releases : List ℕ) → Release1 releases → WellFormed (ruled releases h) → (state memory command reply : List ℕ)
    → UnnamedAreZero h state memory command
    → host_has (exchange_of (sheet_octets (ruled releases h)) state memory command reply) ≡ host_has (exchange_of (sheet_octets (ruled release2 h)) state memory command reply)

-- under release 2 a command is accepted exactly when release 1 accepts it and those octets are zero
abbrev pub AcceptedIfZero : Type 0
AcceptedIfZero =
    (h : Sheet) (releases : List ℕ) → Release1 releases → (state memory command reply : List ℕ)
    → Answered (ruled releases h) (sheet_octets (ruled releases h)) state memory command reply
    → Executed (ruled release2 h) state (exchange_of (sheet_octets (ruled release2 h)) state memory command reply)
    ↔ (Executed (ruled releases h) state (exchange_of (sheet_octets (ruled releases h)) state memory command reply) × UnnamedAreZero h state memory command)

-- the octet at a place is the first that is not named and not zero; those before it may be what they are
pub record FirstStray (t : PduType) (named : List Run) (c : List ℕ) (place : ℕ) : Type 0 where
  pub in_the_command : place < length c
  pub not_named : is_named (head_named t ++ named) place ≡ false
  pub not_zero : unnamed_bits t place (octet c place) ≡ 0 → ⊥
  pub before_it : (k : ℕ) → k < place → ZeroUnlessNamed t named c k

-- some octet of a command that the row of its code does not name is not zero
abbrev pub SomeStray : Sheet → List ℕ → List ℕ → List ℕ → Type 0
SomeStray h state memory c =
    Some (λ (r : Row). (code c ≡ r.code) × (((k : ℕ) → k < length c → ZeroUnlessNamed h.pdu r.named c k) → ⊥)) (table h state memory c)

-- what release 1 and release 2 make of one exchange: a refusal that is not one of rights stays as it is, "after a command's other data checks", and so do an
-- unknown code, a link that does not allow it, and a failed watchdog
pub record Beside (h : Sheet) (state memory command : List ℕ) (one two : Left) : Type 0 where
  pub watchdog_alike : missed h state command ≡ true → two ≡ one
  pub refused_alike : one_of (alarm_in h one.reply) (8 ∷ 9 ∷ 12 ∷ []) ≡ true → two ≡ one
  -- "alarm 9 at the first such octet, .. before rights", and nothing is stored: where release 1 accepts the command, or a right alone is missing
  pub refused_for_it : missed h state command ≡ false → one_of (alarm_in h one.reply) (0 ∷ 10 ∷ []) ≡ true → SomeStray h state memory command
      → (alarm_in h two.reply ≡ 9) × (two.memory ≡ memory)
      × Some (λ (r : Row). (code command ≡ r.code) × FirstStray h.pdu r.named command two.answer.place) (table h state memory command)

abbrev pub TheFirstIsTold : Type 0
TheFirstIsTold =
    (h : Sheet) (releases : List ℕ) → Release1 releases → (state memory command reply : List ℕ)
    → Answered (ruled releases h) (sheet_octets (ruled releases h)) state memory command reply
    → Beside h state memory command (exchange_of (sheet_octets (ruled releases h)) state memory command reply) (exchange_of (sheet_octets (ruled release2 h)) state memory command reply)

-- so many octets from one on, and those of some runs
abbrev pub up_to : ℕ → ℕ → List ℕ
up_to first zero = []
up_to first (suc many) = first ∷ up_to (suc first) many

abbrev pub octets_in : List Run → List ℕ
octets_in [] = []
octets_in (r ∷ rs) = up_to r.first r.many ++ octets_in rs

-- the octets that a row names beside code and WDT, code by code, spelled out once more: PRM_WR and MEM_WR name the data that they write
abbrev pub named_by : Sheet → List ℕ → List ℕ → List ℕ → PduType → List (List ℕ)
named_by h s m c enhanced =
    (0x00 ∷ []) ∷ (0x01 ∷ 4 ∷ 5 ∷ 6 ∷ []) ∷ (0x02 ∷ 4 ∷ 5 ∷ 6 ∷ up_to 8 (octet c 6) ++ []) ∷ (0x03 ∷ 4 ∷ 5 ∷ 6 ∷ 7 ∷ [])
    ∷ (0x05 ∷ 4 ∷ 5 ∷ []) ∷ (0x06 ∷ 4 ∷ 5 ∷ []) ∷ (0x0D ∷ []) ∷ (0x0E ∷ 4 ∷ 5 ∷ 6 ∷ 7 ∷ []) ∷ (0x0F ∷ [])
    ∷ (0x1D ∷ 5 ∷ 6 ∷ 7 ∷ 8 ∷ 9 ∷ 10 ∷ 11 ∷ []) ∷ (0x1E ∷ 5 ∷ 6 ∷ 7 ∷ 8 ∷ 9 ∷ 10 ∷ 11 ∷ up_to 12 (n h s m c) ++ []) ∷ []
named_by h s m c short =
    (0x00 ∷ []) ∷ (0x01 ∷ 4 ∷ 5 ∷ 6 ∷ []) ∷ (0x02 ∷ 4 ∷ 5 ∷ 6 ∷ up_to 7 (octet c 6) ++ []) ∷ (0x03 ∷ 4 ∷ 5 ∷ 6 ∷ [])
    ∷ (0x05 ∷ 4 ∷ []) ∷ (0x06 ∷ 4 ∷ []) ∷ (0x0D ∷ []) ∷ (0x0E ∷ 4 ∷ 5 ∷ 6 ∷ []) ∷ (0x0F ∷ []) ∷ []

abbrev pub NamedOctets : Type 0
NamedOctets =
    (h : Sheet) (state memory command : List ℕ)
    → map (λ (r : Row). r.code ∷ octets_in r.named) (table h state memory command) ≡ named_by h state memory command h.pdu

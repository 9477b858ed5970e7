-- Document 02, request 3: "The exchange's place, so far 0 for a built reply, shall be the first octet of the field that failed, in document 01's order."
use Rattle.std.specs.Prelude.{ℕ, ◌+◌, ◌≤◌, ◌<◌, Bool, true, false, List, [], ◌∷◌, ◌++◌, map, ◌↔◌, ◌≡◌, eqb}
use Rattle.law.specs.Words.{when, Every, Some, one_of}
use Rattle.law.specs.Sheet.{PduType, enhanced, short, Sheet, WellFormed, sheet_octets}
use Rattle.law.specs.State.{link}
use Rattle.law.specs.Memory.{Cell, cells, readable, writable, has}
use Rattle.law.specs.Table.{Check, check, Row, stray_in, table, parameter, address, n}
use Rattle.law.specs.Exchange.{code, missed}
use Rattle.slave.specs.Exchange.{Left, exchange_of}
use Rattle.demands.specs.Accepted.{Executed}
use Rattle.demands.specs.Answered.{Answered, alarm_in}
use Rattle.demands.specs.Hidden.{DifferOnlyHidden}
use Rattle.demands.specs.Sequences.{Call, run_of}

-- the place that a host is told
abbrev pub place_in : Left → ℕ
place_in l = l.answer.place

-- a check holds
abbrev pub Holds : Check → Type 0
Holds k = k.holds ≡ true

-- what a row's checks decide of an exchange: the command is executed exactly when all of them hold, and then the place is 0; and where one of them is the first
-- that does not hold, the host is told its alarm and its place
pub record Decided (h : Sheet) (state : List ℕ) (checks : List Check) (l : Left) : Type 0 where
  pub executed_exactly : Every Holds checks ↔ Executed h state l
  pub no_place : Every Holds checks → place_in l ≡ 0
  pub first_that_fails : (before : List Check) (k : Check) (after : List Check) → checks ≡ before ++ k ∷ after → Every Holds before → k.holds ≡ false
      → (alarm_in h l.reply ≡ k.alarm) × (place_in l ≡ k.place)

-- check 3, that the link allows the code, and then the row's own
abbrev pub all_checks : List ℕ → Row → List Check
all_checks state r = check (one_of (link state) r.links) 12 0 ∷ r.checks

-- so it is for the row of the command's code, where check 1 does not fail
abbrev pub FirstFailedIsTold : Type 0
FirstFailedIsTold =
    (h : Sheet) (sheet state memory command reply : List ℕ) → Answered h sheet state memory command reply → missed h state command ≡ false
    → Every (λ (r : Row). code command ≡ r.code → Decided h state (all_checks state r) (exchange_of sheet state memory command reply))
    (table h state memory command)

-- and where no row has the code, it is unknown: alarm 8, and no place
abbrev pub UnknownCodeIsTold : Type 0
UnknownCodeIsTold =
    (h : Sheet) (sheet state memory command reply : List ℕ) → Answered h sheet state memory command reply → missed h state command ≡ false
    → Every (λ (r : Row). code command ≡ r.code → ⊥) (table h state memory command)
    → (let l = exchange_of sheet state memory command reply in (alarm_in h l.reply ≡ 8) × (place_in l ≡ 0))

-- the places of the checks with alarm 9, in their order; of each code
abbrev pub data_places : List Check → List ℕ
data_places [] = []
data_places (k ∷ ks) = when (eqb k.alarm 9) (k.place ∷ data_places ks) (data_places ks)

-- "For a count or size, with its product or sum, it is 6; for an unmapped address, 8; for a parameter number, 4; for ALM_RD at L 8, 0". In both types a field
-- that both have begins at the same octet; request 7: MEM_RD and MEM_WR, CONNECT's profile and ALM_RD at L 8 are the enhanced type's alone
abbrev pub places_of : PduType → List (List ℕ)
places_of enhanced =
    -- NOP
    (0x00 ∷ [])
    -- PRM_RD and PRM_WR: number, size, size
    ∷ (0x01 ∷ 4 ∷ 6 ∷ 6 ∷ [])
    ∷ (0x02 ∷ 4 ∷ 6 ∷ 6 ∷ [])
    -- ID_RD: code, size at least 1, offset + size, size at most
    ∷ (0x03 ∷ 4 ∷ 6 ∷ 6 ∷ 6 ∷ [])
    -- ALM_RD: L, the mode; ALM_CLR: the mode
    ∷ (0x05 ∷ 0 ∷ 4 ∷ [])
    ∷ (0x06 ∷ 4 ∷ [])
    -- SYNC_SET
    ∷ (0x0D ∷ [])
    -- CONNECT: version, com_mod, com_time, profile
    ∷ (0x0E ∷ 4 ∷ 5 ∷ 6 ∷ 7 ∷ [])
    -- DISCONNECT
    ∷ (0x0F ∷ [])
    -- MEM_RD and MEM_WR: octet 5, count with its product, twice, address
    ∷ (0x1D ∷ 5 ∷ 6 ∷ 6 ∷ 8 ∷ [])
    ∷ (0x1E ∷ 5 ∷ 6 ∷ 6 ∷ 8 ∷ [])
    ∷ []
places_of short =
    (0x00 ∷ []) ∷ (0x01 ∷ 4 ∷ 6 ∷ 6 ∷ []) ∷ (0x02 ∷ 4 ∷ 6 ∷ 6 ∷ []) ∷ (0x03 ∷ 4 ∷ 6 ∷ 6 ∷ 6 ∷ [])
    ∷ (0x05 ∷ 4 ∷ []) ∷ (0x06 ∷ 4 ∷ []) ∷ (0x0D ∷ []) ∷ (0x0E ∷ 4 ∷ 5 ∷ 6 ∷ []) ∷ (0x0F ∷ []) ∷ []

-- each list with one place more
abbrev pub each_with : List (List ℕ) → List ℕ → List (List ℕ)
each_with [] ys = []
each_with (x ∷ xs) [] = []
each_with (x ∷ xs) (y ∷ ys) = (x ++ y ∷ []) ∷ each_with xs ys

-- and behind them, by request 13, the first octet that the row does not name and that should be zero
abbrev pub OctetsOfTheFields : Type 0
OctetsOfTheFields =
    (h : Sheet) (state memory command : List ℕ)
    → map (λ (r : Row). r.code ∷ data_places r.checks) (table h state memory command)
    ≡ each_with (places_of h.pdu) (map (λ (r : Row). stray_in h state memory command h.pdu r.named) (table h state memory command))

-- "Alarms 8 and 12 and a failed watchdog have place 0", and so has an accepted command, which has alarm 0 as a failed watchdog has
pub record NoField (h : Sheet) (state command : List ℕ) (l : Left) : Type 0 where
  pub by_alarm : one_of (alarm_in h l.reply) (0 ∷ 8 ∷ 12 ∷ []) ≡ true → place_in l ≡ 0
  pub by_watchdog : missed h state command ≡ true → (alarm_in h l.reply ≡ 0) × (place_in l ≡ 0)

abbrev pub NoFieldWasWrong : Type 0
NoFieldWasWrong =
    (h : Sheet) (sheet state memory command reply : List ℕ) → Answered h sheet state memory command reply
    → NoField h state command (exchange_of sheet state memory command reply)

-- the span that a command of a code asks to be read or written, and the right that it asks
pub record Asked : Type 0 where
  pub code : ℕ
  pub right : ℕ → Bool
  pub address : ℕ
  pub size : ℕ

abbrev pub asked : ℕ → (ℕ → Bool) → ℕ → ℕ → Asked
asked code right address size = record { code = code; right = right; address = address; size = size }

-- PRM_RD, PRM_WR, MEM_RD, MEM_WR; the short type has not the last two, and so no alarm 10 of them
abbrev pub asked_spans : Sheet → List ℕ → List ℕ → List ℕ → List Asked
asked_spans h s m c =
    asked 0x01 readable (parameter h s m c).address (parameter h s m c).size
    ∷ asked 0x02 (writable (link s)) (parameter h s m c).address (parameter h s m c).size
    ∷ asked 0x1D readable (address h s m c) (n h s m c)
    ∷ asked 0x1E (writable (link s)) (address h s m c) (n h s m c)
    ∷ []

-- the octet at address + place lacks the right, and every one of the span before it has it; what is in no region lacks every right, but a memory command
-- whose span is not mapped is told so before, by alarm 9
pub record FirstLacks (cs : List Cell) (q : Asked) (place : ℕ) : Type 0 where
  pub in_the_span : place < q.size
  pub lacks : has q.right cs (q.address + place) ≡ false
  pub before_have : (x : ℕ) → q.address ≤ x → x < q.address + place → has q.right cs x ≡ true

-- "For alarm 10 it is how many octets of the span come before the first that lacks the right."
abbrev pub FirstWithoutTheRight : Type 0
FirstWithoutTheRight =
    (h : Sheet) (sheet state memory command reply : List ℕ) → Answered h sheet state memory command reply
    → alarm_in h (exchange_of sheet state memory command reply).reply ≡ 10
    → Some (λ (q : Asked). (code command ≡ q.code) × FirstLacks (cells h.regions) q (place_in (exchange_of sheet state memory command reply)))
    (asked_spans h state memory command)

-- "Demand 3 covers the place": it is in the answers that two such runs have in common
abbrev pub PlacesAreTheSame : Type 0
PlacesAreTheSame =
    (h : Sheet) → WellFormed h → (state m₁ m₂ : List ℕ) → DifferOnlyHidden h m₁ m₂ → (calls : List Call)
    → map place_in (run_of (sheet_octets h) state m₁ calls) ≡ map place_in (run_of (sheet_octets h) state m₂ calls)

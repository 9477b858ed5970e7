-- Document 02, request 9: "One lost cycle shouldn't stop the band. A new sheet record .. allows that many failures in a row, none without it."
use Rattle.std.specs.Prelude.{ℕ, ◌+◌, ◌%◌, ◌≤◌, ◌<◌, true, false, List, [], ◌∷◌, ◌≡◌, length, get_or}
use Rattle.law.specs.Sheet.{Sheet, WellFormed, allows, sheet_octets, room}
use Rattle.law.specs.State.{link, dual, com_time, mn_known, last_mn, rsn, command_latch, communication_latch, failures, valid_state, valid_old}
use Rattle.law.specs.Exchange.{mn}
use Rattle.slave.specs.Calls.{turn_of}
use Rattle.slave.specs.Exchange.{Left, exchange_of}
use Rattle.demands.specs.Answered.{Answered, alarm_in, tolerated_in, InBody}
use Rattle.demands.specs.Watchdog.{Asks, BothHold, Exchanged}

-- a command that fails check 1, where it asks
abbrev pub Misses : Sheet → List ℕ → List ℕ → Type 0
Misses h state command = BothHold h state command → ⊥

-- exchanges in a row of which each fails it
abbrev pub Failures : Sheet → List ℕ → List ℕ → List ℕ → List Exchanged → Type 0
Failures h sheet state memory [] = Unit {0}
Failures h sheet state memory (d ∷ ds) =
    Answered h sheet state memory d.command d.lent × Misses h state d.command
    × (let x = exchange_of sheet state memory d.command d.lent in Failures h sheet x.state x.memory ds)

-- the state and the memory behind them
abbrev pub state_behind : List ℕ → List ℕ → List ℕ → List Exchanged → List ℕ
state_behind sheet state memory [] = state
state_behind sheet state memory (d ∷ ds) =
    let x = exchange_of sheet state memory d.command d.lent in state_behind sheet x.state x.memory ds

abbrev pub memory_behind : List ℕ → List ℕ → List ℕ → List Exchanged → List ℕ
memory_behind sheet state memory [] = memory
memory_behind sheet state memory (d ∷ ds) =
    let x = exchange_of sheet state memory d.command d.lent in memory_behind sheet x.state x.memory ds

-- link 3 with MN known, both latches as they were, and n failures counted
pub record StillInStep (before after : List ℕ) (n : ℕ) : Type 0 where
  pub in_step : Asks after
  pub command_latch : command_latch after ≡ command_latch before
  pub communication_latch : communication_latch after ≡ communication_latch before
  pub counted : failures after ≡ n

-- check 1 as document 01 has it: "the communication latch becomes 12, the command alarm is 0, the link becomes 2", and the count is 0 again
pub record LeavesLink3 (h : Sheet) (l : Left) : Type 0 where
  pub link_2 : link l.state ≡ 2
  pub alarm_12 : communication_latch l.state ≡ 12
  pub no_alarm : alarm_in h l.reply ≡ 0
  pub none_counted : failures l.state ≡ 0

-- "allows that many failures in a row ..; one failure more is check 1 as before": from a state with MN known and no failure counted, as many as the sheet
-- allows keep link 3, the latches and the memory, and the next one leaves link 3
pub record SoManyInARow : Type 0 where
  pub within_it : (h : Sheet) (sheet state memory : List ℕ) (ds : List Exchanged) → Asks state → failures state ≡ 0 → Failures h sheet state memory ds
      → length ds ≤ allows h → StillInStep state (state_behind sheet state memory ds) (length ds) × (memory_behind sheet state memory ds ≡ memory)
  pub one_more : (h : Sheet) (sheet state memory : List ℕ) (ds : List Exchanged) (d : Exchanged) → Asks state → failures state ≡ 0
      → Failures h sheet state memory ds → length ds ≡ allows h
      → (let t = state_behind sheet state memory ds in let m = memory_behind sheet state memory ds in
      Answered h sheet t m d.command d.lent → Misses h t d.command → LeavesLink3 h (exchange_of sheet t m d.command d.lent))

-- "none without it": a sheet without the record counts no failure, and no reply to it has status bit 1 set
pub record NoneWithout : Type 0 where
  pub no_count : (h : Sheet) (state : List ℕ) → h.tolerances ≡ [] → valid_state h state ≡ true → failures state ≡ 0
  pub no_bit : (h : Sheet) (sheet state memory command reply : List ℕ) → h.tolerances ≡ [] → Answered h sheet state memory command reply
      → tolerated_in (exchange_of sheet state memory command reply).reply ≡ false

-- a failure that is tolerated: "the command isn't executed, the reply has a zero body, alarm 0 and status bit 1 set, link and latches stay, MN is taken as last
-- MN and RSN advances"
pub record Tolerated (h : Sheet) (state memory command : List ℕ) (l : Left) : Type 0 where
  pub number_and_place : (l.answer.number ≡ 0) × (l.answer.place ≡ 0)
  pub nothing_stored : l.memory ≡ memory
  pub zero_body : (k : ℕ) → InBody h.pdu k → get_or l.reply k 0 ≡ 0
  pub no_alarm : alarm_in h l.reply ≡ 0
  pub bit_1 : tolerated_in l.reply ≡ true
  pub goes_on : StillInStep state l.state (failures state + 1)
  pub last_mn : last_mn l.state ≡ mn h command
  pub rsn_advances : rsn l.state ≡ (rsn state + 1) % 16

-- and it tells nothing of the memory: on any other of the same length it gives the same answer, state and reply
pub record OneIsTolerated : Type 0 where
  pub is_tolerated : (h : Sheet) (sheet state memory command reply : List ℕ) → Answered h sheet state memory command reply → Asks state → Misses h state command
      → failures state < allows h → Tolerated h state memory command (exchange_of sheet state memory command reply)
  pub tells_nothing : (h : Sheet) (sheet state memory other command reply : List ℕ) → Answered h sheet state memory command reply → length other ≡ room h.regions
      → Asks state → Misses h state command → failures state < allows h
      → (let x = exchange_of sheet state memory command reply in let y = exchange_of sheet state other command reply in
      (x.answer ≡ y.answer) × (x.state ≡ y.state) × (x.reply ≡ y.reply))

-- "An exchange that passes check 1 sets the count to 0", accepted or refused
abbrev pub PassingCountsNone : Type 0
PassingCountsNone =
    (h : Sheet) (sheet state memory command reply : List ℕ) → Answered h sheet state memory command reply → Asks state → BothHold h state command
    → failures (exchange_of sheet state memory command reply).state ≡ 0

-- "A call turns a valid old record into a new one": field by field, and no failure is counted
pub record Turned (old new : List ℕ) : Type 0 where
  pub eleven : length new ≡ 11
  pub kind : get_or new 0 0 ≡ 0x12
  pub its_link : link new ≡ link old
  pub its_l : get_or new 2 0 ≡ get_or old 2 0
  pub its_dual : dual new ≡ dual old
  pub its_com_time : com_time new ≡ com_time old
  pub its_mn : (mn_known new ≡ mn_known old) × (last_mn new ≡ last_mn old)
  pub its_rsn : rsn new ≡ rsn old
  pub its_latches : (command_latch new ≡ command_latch old) × (communication_latch new ≡ communication_latch old)
  pub none_counted : failures new ≡ 0

abbrev pub OldRecordsTurn : Type 0
OldRecordsTurn =
    (h : Sheet) → WellFormed h → (old state : List ℕ) → valid_old h old ≡ true → length state ≡ 11
    → ((turn_of (sheet_octets h) old state).answer.number ≡ 0) × Turned old (turn_of (sheet_octets h) old state).state

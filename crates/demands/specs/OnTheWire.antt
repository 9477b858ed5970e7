-- A command that is refused on the wire, by a reply and not by a number.
use Rattle.std.specs.Prelude.{ℕ, true, false, List, ◌≡◌, length, get_or}
use Rattle.law.specs.Sheet.{Sheet}
use Rattle.law.specs.Exchange.{mn, missed, failing, passing, refused, state_after}
use Rattle.slave.specs.Exchange.{Left, exchange_of}
use Rattle.demands.specs.Accepted.{accepted}
use Rattle.demands.specs.Answered.{Answered, alarm_in, InBody}

-- what a refused command leaves: a reply of L octets with the code again and a zero body, the memory as it was, and the state of the check that refused:
-- a lost cycle, tolerated or not, or an alarm, which is latched "if that is 0"
pub record RefusedByReply (h : Sheet) (state memory command : List ℕ) (l : Left) : Type 0 where
  pub reply_built : l.answer.number ≡ 0
  pub nothing_stored : l.memory ≡ memory
  pub whole : length l.reply ≡ h.l
  pub code_again : get_or l.reply 0 0 ≡ get_or command 0 0
  pub zero_body : (k : ℕ) → InBody h.pdu k → get_or l.reply k 0 ≡ 0
  pub by_watchdog : missed h state command ≡ true → (alarm_in h l.reply ≡ 0) × (l.state ≡ state_after state (mn h command) (failing h state).changes)
  pub by_alarm : missed h state command ≡ false
      → (alarm_in h l.reply ≡ 0 → ⊥) × (l.state ≡ state_after state (mn h command) (passing (refused state (alarm_in h l.reply) l.answer.place)).changes)

-- "A command refused on the wire builds a whole reply, updates the state and stores nothing."
abbrev pub RefusedOnTheWire : Type 0
RefusedOnTheWire =
    (h : Sheet) (sheet state memory command reply : List ℕ) → Answered h sheet state memory command reply
    → accepted h state memory command ≡ false → RefusedByReply h state memory command (exchange_of sheet state memory command reply)

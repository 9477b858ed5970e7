-- When a command is accepted: by the law's table.
use Rattle.std.specs.Prelude.{ℕ, ◌+◌, ◌≤◌, ◌<◌, Bool, true, false, not, ◌&&◌, List, ◌↔◌, ◌≡◌, eqb}
use Rattle.law.specs.Words.{octet}
use Rattle.law.specs.Sheet.{Sheet}
use Rattle.law.specs.State.{link}
use Rattle.law.specs.Memory.{Cell, has, has_all}
use Rattle.law.specs.Table.{table}
use Rattle.law.specs.Exchange.{missed, judged}
use Rattle.slave.specs.Exchange.{Left, exchange_of}
use Rattle.demands.specs.Answered.{Answered, alarm_in, tolerated_in}

-- check 1 holds, and the code's row has no alarm for the command
abbrev pub accepted : Sheet → List ℕ → List ℕ → List ℕ → Bool
accepted h state memory command =
    not (missed h state command) && eqb (judged state (octet command 0) (table h state memory command)).alarm 0

-- a command is executed, by what a host sees: its alarm is "0 if accepted". A failed watchdog has command alarm 0 too, but lets the link fall from 3 to 2,
-- or, where it is tolerated, sets status bit 1; and no executed command does.
pub record Executed (h : Sheet) (state : List ℕ) (l : Left) : Type 0 where
  pub no_alarm : alarm_in h l.reply ≡ 0
  pub not_lost : link state ≡ 3 → link l.state ≡ 2 → ⊥
  pub not_tolerated : tolerated_in l.reply ≡ false

-- "A command is accepted exactly when document 01 accepts it: state, format, span, rights."
abbrev pub AcceptanceIsExact : Type 0
AcceptanceIsExact =
    (h : Sheet) (sheet state memory command reply : List ℕ) → Answered h sheet state memory command reply
    → (accepted h state memory command ≡ true) ↔ Executed h state (exchange_of sheet state memory command reply)

-- a span has a right exactly where every octet of it has
abbrev pub RightsOverWholeSpan : Type 0
RightsOverWholeSpan =
    (asked : ℕ → Bool) (cs : List Cell) (a n : ℕ)
    → (has_all asked cs a n ≡ true) ↔ ((x : ℕ) → a ≤ x → x < a + n → has asked cs x ≡ true)

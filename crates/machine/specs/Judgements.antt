-- What checks 2 to 5 come to, as a result: what is executed with the state that it leaves, or the first alarm with what it is about.
use Rattle.std.specs.Prelude.{ℕ, Result, Ok, Err}
use Rattle.link.specs.declared.state.LinkState.{LinkState}
use Rattle.machine.specs.declared.codes.Alarm.{Alarm}
use Rattle.machine.specs.declared.codes.Alarm.TheVariants.{OutOfSupport, OutOfRange, NoRight, WrongPhase}
use Rattle.machine.specs.declared.words.Done.{Done}
use Rattle.machine.specs.declared.words.Effect.{Effect}
use Rattle.machine.specs.declared.words.Field.{Field}
use Rattle.machine.specs.declared.words.Refused.{Refused}

-- "Unknown code: alarm 8 .. Data: alarm 9 .. Rights over the whole span: alarm 10 .. Code not allowed in this link: alarm 12"
abbrev pub alarm_number : Alarm → ℕ
alarm_number OutOfSupport = 8
alarm_number OutOfRange = 9
alarm_number NoRight = 10
alarm_number WrongPhase = 12

abbrev pub Judgement : Type 0
Judgement = Result Done Refused

abbrev pub refused : Alarm → Field → Judgement
refused alarm field = Err (record { alarm = alarm; field = field })

abbrev pub accepted : Effect → LinkState → Judgement
accepted effect next = Ok (record { effect = effect; next = next })

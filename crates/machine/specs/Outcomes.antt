-- One exchange around checks 2 to 5: check 1, the latches and the watchdog.
use Rattle.std.specs.Prelude.{ℕ, ◌%◌, not, ◌&&◌, List, eqb, ltb, Ok, Err}
use Rattle.octets.specs.Pick.{pick}
use Rattle.link.specs.Steps.{follows_of, lost, latched, counted, tolerated}
use Rattle.link.specs.declared.state.LinkState.{LinkState}
use Rattle.sheet.specs.declared.walk.Layout.{Layout}
use Rattle.machine.specs.Judging.{judge_of}
use Rattle.machine.specs.declared.words.Command.{Command}
use Rattle.machine.specs.declared.words.Effect.{Effect}
use Rattle.machine.specs.declared.words.Effect.TheVariants.{Quiet}
use Rattle.machine.specs.declared.words.Field.{Field}
use Rattle.machine.specs.declared.words.Field.TheVariants.{Whole}
use Rattle.machine.specs.declared.words.Outcome.{Outcome}
use Rattle.machine.specs.Judgements.{Judgement, alarm_number}

abbrev pub comes_to : ℕ → Field → Effect → LinkState → Outcome
comes_to alarm field effect next = record { alarm = alarm; field = field; effect = effect; next = next }

-- MN is the low half of WDT
abbrev pub mn_of : Command → ℕ
mn_of c = c.wdt % 16

-- "An exchange that begins and ends in link 3 stores MN as known and adds 1 to RSN modulo 16, refused or not."
unfoldable pub counting : LinkState → LinkState → ℕ → LinkState
counting before st mn = pick (eqb before.link 3 && eqb st.link 3) (counted st mn) st

-- a refused command latches its alarm and does nothing; an accepted one has alarm 0, and no field is at fault
unfoldable pub finished : LinkState → Command → Judgement → Outcome
finished st c (Err r) = comes_to (alarm_number r.alarm) r.field Quiet (counting st (latched st (alarm_number r.alarm)) (mn_of c))
finished st c (Ok d) = comes_to 0 Whole d.effect (counting st d.next (mn_of c))

-- the state behind a failed check 1: "the communication latch becomes 12, .. the link becomes 2"; request 9: the sheet "allows that many failures in a
-- row", and within it "link and latches stay"
unfoldable pub missed_of : ℕ → LinkState → ℕ → LinkState
missed_of tolerance st mn = pick (ltb st.watch.failures tolerance) (tolerated st mn) (lost st)

-- "1. Link 3 with MN known: MN must be last MN plus 1, modulo 16. If not, nothing is executed, the body is zero, .. the command alarm is 0"
unfoldable pub outcome_of : List ℕ → Layout → LinkState → Command → ℕ → Outcome
outcome_of s lay st c stray =
    pick (eqb st.link 3 && not (follows_of st.watch c.wdt)) (comes_to 0 Whole Quiet (missed_of lay.tolerance st (mn_of c)))
    (finished st c (judge_of s lay st c stray))

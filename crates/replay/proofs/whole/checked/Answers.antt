-- `replay::whole::checked` meets its contract: a trace that is too long, or its form.
use Rattle.std.proofs.Common.{sym, ◌∙◌}
use Rattle.octets.proofs.Pick.{pick_lt, pick_ge}
use Rattle.replay.specs.Trace.{checked_form}
use Rattle.replay.proofs.whole.checked.Goals as goal

pub returns-then-trace-gt1073741823 : goal.returns-then-trace-gt1073741823
unfolding checked_form
returns-then-trace-gt1073741823 c = sym (pick_lt _ _ c.if-trace-gt1073741823.true)

pub returns : goal.returns
unfolding checked_form
returns c = c.form.ensures ∙ sym (pick_ge _ _ c.if-trace-gt1073741823.false)

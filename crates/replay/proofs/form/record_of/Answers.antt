-- `replay::form::record_of` meets its contract: the end, a whole record, or its fault.
use Rattle.std.proofs.Common.{sym, ◌∙◌}
use Rattle.octets.proofs.Pick.{pick_le, pick_gt, pick_eq}
use Rattle.replay.specs.Trace.{record_at}
use Rattle.replay.proofs.Faults.{bad_named}
use Rattle.replay.proofs.form.record_of.Goals as goal

pub returns-then-trace-at : goal.returns-then-trace-at
unfolding record_at
returns-then-trace-at c = sym (pick_le _ _ c.if-trace-at.true)

pub returns-in-None : goal.returns-in-None
unfolding record_at
returns-in-None c = sym (pick_gt _ _ c.if-trace-at.false ∙ pick_eq _ _ (sym c.in-None.ensures))

pub returns-in-Some : goal.returns-in-Some
unfolding record_at
returns-in-Some c = sym (pick_gt _ _ c.if-trace-at.false ∙ bad_named c.in-Some.fault c.in-Some.ensures)

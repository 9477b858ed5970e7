-- `slave::calls::reset` meets its contract: the sheet, the state's length, and the record written.
use Rattle.std.proofs.Common.{sym, ap, ◌∙◌}
use Rattle.std.proofs.lemmas.Result.{err_from_is_err_and}
use Rattle.octets.proofs.Pick.{pick_differ, pick_same}
use Rattle.link.specs.Stored.{octets_of}
use Rattle.link.proofs.Back.{written}
use Rattle.slave.specs.Calls.{after, reset_of}
use Rattle.slave.proofs.Order.{on_flaw, on_valid}
use Rattle.slave.proofs.calls.reset.Goals as goal

pub returns-in_err-layout : goal.returns-in_err-layout
unfolding reset_of
returns-in_err-layout c =
    let p = err_from_is_err_and c.from_residual.result c.from_residual.ensures.1 in
    rw (p.1, p.2) (sym (on_flaw _ _ _ _ (sym c.in_err-layout.ensures)))

pub returns-then-state-ne-STATE_LENGTH : goal.returns-then-state-ne-STATE_LENGTH
unfolding reset_of
returns-then-state-ne-STATE_LENGTH c =
    sym (on_valid _ _ _ _ (sym c.in_ok-layout.ensures) ∙ pick_differ _ _ c.if-state-ne-STATE_LENGTH.true)

pub returns : goal.returns
unfolding reset_of
returns c =
    let e = c.if-state-ne-STATE_LENGTH.false in
    ap (after _) (c.write.ensures ∙ written c.args.state.now c.fresh.result e ∙ ap octets_of c.fresh.ensures)
    ∙ sym (on_valid _ _ _ _ (sym c.in_ok-layout.ensures) ∙ pick_same _ _ e)

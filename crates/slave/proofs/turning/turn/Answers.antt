-- `slave::turning::turn` meets its contract: the sheet, the old record, the new one's length, and the record written.
use Rattle.std.proofs.Common.{sym, ap, ◌∙◌, ◌≡◌, arith, None, Some}
use Rattle.std.proofs.lemmas.Result.{err_from_is_err_and}
use Rattle.octets.proofs.Pick.{pick_differ, pick_same}
use Rattle.link.proofs.Back.{written}
use Rattle.slave.specs.Calls.{after, turn_of}
use Rattle.slave.specs.declared.answers.Refusal.TheVariants.{BadState}
use Rattle.slave.proofs.Order.{on_flaw, on_valid, on_invalid, on_state_lem}
use Rattle.slave.proofs.turning.turn.Goals as goal

pub returns-in_err-layout : goal.returns-in_err-layout
unfolding turn_of
returns-in_err-layout c =
    let p = err_from_is_err_and c.from_residual.result c.from_residual.ensures.1 in
    rw (p.1, p.2) (sym (on_flaw _ _ _ _ (sym c.in_err-layout.ensures)))

pub returns-in_err-st : goal.returns-in_err-st
unfolding turn_of
returns-in_err-st c =
    let p = err_from_is_err_and c.from_residual-in_err-st.result c.from_residual-in_err-st.ensures.1 in
    let none : c.read_old-held.result ≡ None = grind arith in
    let bad : c.in_err-st.field-0.0 ≡ BadState = grind arith in
    rw (p.1, p.2, bad) (sym (on_valid _ _ _ _ (sym c.in_ok-layout.ensures) ∙ on_invalid _ _ _ (sym c.read_old-held.ensures ∙ none)))

pub returns-then-state-ne-STATE_LENGTH : goal.returns-then-state-ne-STATE_LENGTH
unfolding turn_of
returns-then-state-ne-STATE_LENGTH c =
    let some : c.read_old-held.result ≡ Some c.in_ok-st.st = grind arith in
    sym (on_valid _ _ _ _ (sym c.in_ok-layout.ensures) ∙ on_state_lem _ _ _ _ (sym c.read_old-held.ensures ∙ some) ∙ pick_differ _ _ c.if-state-ne-STATE_LENGTH.true)

pub returns : goal.returns
unfolding turn_of
returns c =
    let some : c.read_old-held.result ≡ Some c.in_ok-st.st = grind arith in
    let e = c.if-state-ne-STATE_LENGTH.false in
    ap (after _) (c.write.ensures ∙ written c.args.state.now c.in_ok-st.st e)
    ∙ sym (on_valid _ _ _ _ (sym c.in_ok-layout.ensures) ∙ on_state_lem _ _ _ _ (sym c.read_old-held.ensures ∙ some) ∙ pick_same _ _ e)

-- `slave::calls::enable` meets its contract: the sheet, the state, its link, and the record written.
use Rattle.std.proofs.Common.{sym, ap, ◌∙◌, ◌≡◌, arith, None, Some}
use Rattle.std.proofs.lemmas.Result.{err_from_is_err_and}
use Rattle.octets.proofs.Pick.{pick_differ, pick_same}
use Rattle.link.specs.Stored.{octets_of}
use Rattle.link.proofs.Back.{written, read_valid}
use Rattle.slave.specs.Calls.{after, enable_of}
use Rattle.slave.specs.declared.answers.Refusal.TheVariants.{BadState}
use Rattle.slave.proofs.Order.{on_flaw, on_valid, on_invalid, on_state_lem}
use Rattle.slave.proofs.calls.enable.Goals as goal

pub returns-in_err-layout : goal.returns-in_err-layout
unfolding enable_of
returns-in_err-layout c =
    let p = err_from_is_err_and c.from_residual.result c.from_residual.ensures.1 in
    rw (p.1, p.2) (sym (on_flaw _ _ _ _ (sym c.in_err-layout.ensures)))

pub returns-in_err-st : goal.returns-in_err-st
unfolding enable_of
returns-in_err-st c =
    let p = err_from_is_err_and c.from_residual-in_err-st.result c.from_residual-in_err-st.ensures.1 in
    let none : c.read-held.result ≡ None = grind arith in
    let bad : c.in_err-st.field-0.0 ≡ BadState = grind arith in
    rw (p.1, p.2, bad) (sym (on_valid _ _ _ _ (sym c.in_ok-layout.ensures) ∙ on_invalid _ _ _ (sym c.read-held.ensures ∙ none)))

pub returns-then-st-ne-DISABLED : goal.returns-then-st-ne-DISABLED
unfolding enable_of
returns-then-st-ne-DISABLED c =
    let some : c.read-held.result ≡ Some c.in_ok-st.st = grind arith in
    sym (on_valid _ _ _ _ (sym c.in_ok-layout.ensures) ∙ on_state_lem _ _ _ _ (sym c.read-held.ensures ∙ some) ∙ pick_differ _ _ c.if-st-ne-DISABLED.true)

pub returns : goal.returns
unfolding enable_of
returns c =
    let some : c.read-held.result ≡ Some c.in_ok-st.st = grind arith in
    let st = sym c.read-held.ensures ∙ some in
    ap (after _) (c.write.ensures ∙ written c.args.state.now c.enabled.result (read_valid _ _ _ _ st).0 ∙ ap octets_of c.enabled.ensures)
    ∙ sym (on_valid _ _ _ _ (sym c.in_ok-layout.ensures) ∙ on_state_lem _ _ _ _ st ∙ pick_same _ _ c.if-st-ne-DISABLED.false)

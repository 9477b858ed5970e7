-- `replay::playing::replay` meets its contract: every refusal in its order, the form, and then the records.
use Rattle.std.proofs.Common.{◌≡◌, sym, ap, ◌∙◌, arith, None, Some}
use Rattle.std.proofs.lemmas.Result.{err_from_is_err_and}
use Rattle.octets.proofs.Pick.{pick_differ, pick_same, pick_eq, pick_ne}
use Rattle.sheet.proofs.Valid.{valid_sheet, valid_counted}
use Rattle.slave.proofs.Order.{on_flaw, on_valid, on_invalid, on_state_lem}
use Rattle.replay.specs.Replay.{replayed, replay_of}
use Rattle.slave.specs.declared.answers.Answer.{Answer}
use Rattle.slave.specs.declared.answers.Refusal.TheVariants.{BadState}
use Rattle.replay.proofs.Faults.{some_stop}
use Rattle.replay.proofs.Forms.{checked_whole}
use Rattle.replay.proofs.playing.replay.Goals as goal

pub returns-in_err-layout : goal.returns-in_err-layout
unfolding replay_of
returns-in_err-layout c =
    let p = err_from_is_err_and c.from_residual.result c.from_residual.ensures.1 in
    rw (p.1, p.2) (sym (on_flaw _ _ _ _ (sym c.in_err-layout.ensures)))

pub returns-in_err-st : goal.returns-in_err-st
unfolding replay_of
returns-in_err-st c =
    let p = err_from_is_err_and c.from_residual-in_err-st.result c.from_residual-in_err-st.ensures.1 in
    let none : c.read-held.result ≡ None = grind arith in
    let bad : c.in_err-st.field-0.0 ≡ BadState = grind arith in
    rw (p.1, p.2, bad) (sym (on_valid _ _ _ _ (sym c.in_ok-layout.ensures) ∙ on_invalid _ _ _ (sym c.read-held.ensures ∙ none)))

pub returns-then-memory-layout : goal.returns-then-memory-layout
unfolding replay_of
returns-then-memory-layout c =
    let some : c.read-held.result ≡ Some c.in_ok-st.st = grind arith in
    rw c.into.ensures
    (sym (on_valid _ _ _ _ (sym c.in_ok-layout.ensures) ∙ on_state_lem _ _ _ _ (sym c.read-held.ensures ∙ some) ∙ pick_differ _ _ c.if-memory-layout.true))

pub returns-then-st-eq-DISABLED : goal.returns-then-st-eq-DISABLED
unfolding replay_of
returns-then-st-eq-DISABLED c =
    let some : c.read-held.result ≡ Some c.in_ok-st.st = grind arith in
    rw c.into-then-st-eq-DISABLED.ensures
    (sym
    (on_valid _ _ _ _ (sym c.in_ok-layout.ensures)
    ∙ on_state_lem _ _ _ _ (sym c.read-held.ensures ∙ some)
    ∙ pick_same _ _ c.if-memory-layout.false
    ∙ pick_eq _ _ c.if-st-eq-DISABLED.true))

pub returns-in_err-checked : goal.returns-in_err-checked
unfolding replay_of
returns-in_err-checked c =
    let p = err_from_is_err_and c.from_residual-in_err-checked.result c.from_residual-in_err-checked.ensures.1 in
    let some : c.read-held.result ≡ Some c.in_ok-st.st = grind arith in
    let a = c.args in
    let e = c.in_err-checked.ensures in
    let stopped = some_stop c.in_err-checked.field-0.0 in
    rw (p.1, p.2)
    (ap (λ (x : Answer). replayed x a.state.now a.memory.now) e
    ∙ sym
    (on_valid _ _ _ _ (sym c.in_ok-layout.ensures)
    ∙ on_state_lem _ _ _ _ (sym c.read-held.ensures ∙ some)
    ∙ pick_same _ _ c.if-memory-layout.false
    ∙ pick_ne _ _ c.if-st-eq-DISABLED.false
    ∙ pick_differ _ _ (λ z. let n = ap (λ (x : Answer). x.number) e in let k : ⊥ = omega arith in k)))

pub invariant_of-checked : goal.invariant_of-checked
invariant_of-checked c = record { counted = valid_counted _ _ (valid_sheet _ _ (sym c.in_ok-layout.ensures)) }

pub play_all-requires-clause-records : goal.play_all-requires-clause-records
play_all-requires-clause-records c = checked_whole _ _ (ap (λ (x : Answer). x.number) (sym c.in_ok-checked.ensures))

pub returns : goal.returns
unfolding replay_of
returns c =
    let some : c.read-held.result ≡ Some c.in_ok-st.st = grind arith in
    c.play_all.ensures
    ∙ sym
    (on_valid _ _ _ _ (sym c.in_ok-layout.ensures)
    ∙ on_state_lem _ _ _ _ (sym c.read-held.ensures ∙ some)
    ∙ pick_same _ _ c.if-memory-layout.false
    ∙ pick_ne _ _ c.if-st-eq-DISABLED.false
    ∙ pick_same _ _ (ap (λ (x : Answer). x.number) (sym c.in_ok-checked.ensures)))

-- `slave::exchanging::exchange` meets its contract: every refusal in its order, and then the outcome.
use Rattle.std.proofs.Common.{◌≡◌, sym, ap, ◌∙◌, arith, None, Some}
use Rattle.std.proofs.lemmas.Result.{err_from_is_err_and}
use Rattle.octets.proofs.Pick.{pick_differ, pick_same}
use Rattle.sheet.proofs.Valid.{valid_sheet, valid_counted}
use Rattle.slave.specs.Answers.{told}
use Rattle.slave.specs.Exchange.{left, exchanged, exchange_of}
use Rattle.slave.specs.Wanted.{Came}
use Rattle.slave.specs.declared.answers.Answer.{Answer}
use Rattle.slave.specs.declared.answers.Refusal.TheVariants.{BadState}
use Rattle.slave.proofs.Differs.{wanted_nothing}
use Rattle.slave.proofs.Order.{on_flaw, on_valid, on_invalid, on_state_lem, no_refusal, some_refusal}
use Rattle.slave.proofs.exchanging.exchange.Goals as goal

pub returns-in_err-layout : goal.returns-in_err-layout
unfolding exchange_of
returns-in_err-layout c =
    let p = err_from_is_err_and c.from_residual.result c.from_residual.ensures.1 in
    rw (p.1, p.2) (sym (on_flaw _ _ _ _ (sym c.in_err-layout.ensures)))

pub returns-in_err-st : goal.returns-in_err-st
unfolding exchange_of
returns-in_err-st c =
    let p = err_from_is_err_and c.from_residual-in_err-st.result c.from_residual-in_err-st.ensures.1 in
    let none : c.read-held.result ≡ None = grind arith in
    let bad : c.in_err-st.field-0.0 ≡ BadState = grind arith in
    rw (p.1, p.2, bad) (sym (on_valid _ _ _ _ (sym c.in_ok-layout.ensures) ∙ on_invalid _ _ _ (sym c.read-held.ensures ∙ none)))

pub returns-in_err-refusal : goal.returns-in_err-refusal
unfolding exchange_of
returns-in_err-refusal c =
    let p = err_from_is_err_and c.from_residual-in_err-refusal.result c.from_residual-in_err-refusal.ensures.1 in
    let some : c.read-held.result ≡ Some c.in_ok-st.st = grind arith in
    let a = c.args in
    let e = c.in_err-refusal.ensures in
    let refused = some_refusal c.in_err-refusal.field-0.0 in
    rw (p.1, p.2)
    (ap (λ (x : Answer). left x a.state.now a.memory.now a.reply.now) e
    ∙ sym
    (on_valid _ _ _ _ (sym c.in_ok-layout.ensures)
    ∙ on_state_lem _ _ _ _ (sym c.read-held.ensures ∙ some)
    ∙ pick_differ _ _ (λ z. let n = ap (λ (x : Answer). x.number) e in let k : ⊥ = omega arith in k)))

pub invariant_of-checked : goal.invariant_of-checked
invariant_of-checked c = record { counted = valid_counted _ _ (valid_sheet _ _ (sym c.in_ok-layout.ensures)) }

pub perform-told-requires-clause-ready : goal.perform-told-requires-clause-ready
perform-told-requires-clause-ready c =
    let some : c.read-held.result ≡ Some c.in_ok-st.st = grind arith in
    let q = no_refusal _ _ _ _ _ (ap (λ (x : Answer). x.number) (sym c.in_ok-refusal.ensures)) in
    record {
      held = sym c.read-held.ensures ∙ some;
      lists = record { whole = q.0; asked = q.1; lent = q.2 };
    }

pub returns : goal.returns
unfolding exchange_of exchanged
returns c =
    let a = c.args in
    let e = c.perform-told.ensures in
    let some : c.read-held.result ≡ Some c.in_ok-st.st = grind arith in
    let step = ap (λ (x : Came). x.left.step) e ∙ wanted_nothing a.state.now a.memory.now _ in
    (λ i. left (told 0 ((c.from.ensures ∙ ap (λ (x : Came). x.place) e) i)) (step i).state (step i).memory (e i).left.reply)
    ∙ sym
    (on_valid _ _ _ _ (sym c.in_ok-layout.ensures)
    ∙ on_state_lem _ _ _ _ (sym c.read-held.ensures ∙ some)
    ∙ pick_same _ _ (ap (λ (x : Answer). x.number) (sym c.in_ok-refusal.ensures)))

-- `slave::exchanging::refusal` meets its contract: 2, 3, 4, 5 in that order.
use Rattle.std.proofs.Common.{◌≡◌, ℕ, sym, ap, ◌∙◌}
use Rattle.octets.proofs.Pick.{pick_eq, pick_ne, pick_differ, pick_same}
use Rattle.slave.specs.Answers.{told}
use Rattle.slave.specs.Exchange.{refusal_of}
use Rattle.slave.proofs.exchanging.refusal.Goals as goal

told_of : {n m : ℕ} → n ≡ m → told m 0 ≡ told n 0
told_of e = ap (λ (n : ℕ). told n 0) (sym e)

pub returns-then-memory-layout : goal.returns-then-memory-layout
unfolding refusal_of
returns-then-memory-layout c = told_of (pick_differ _ _ c.if-memory-layout.true)

pub returns-then-command-layout : goal.returns-then-command-layout
unfolding refusal_of
returns-then-command-layout c = told_of (pick_same _ _ c.if-memory-layout.false ∙ pick_differ _ _ c.if-command-layout.true)

pub returns-then-reply-layout : goal.returns-then-reply-layout
unfolding refusal_of
returns-then-reply-layout c =
    told_of (pick_same _ _ c.if-memory-layout.false ∙ pick_same _ _ c.if-command-layout.false ∙ pick_differ _ _ c.if-reply-layout.true)

pub returns-then-st-eq-DISABLED : goal.returns-then-st-eq-DISABLED
unfolding refusal_of
returns-then-st-eq-DISABLED c =
    told_of
    (pick_same _ _ c.if-memory-layout.false
    ∙ pick_same _ _ c.if-command-layout.false
    ∙ pick_same _ _ c.if-reply-layout.false
    ∙ pick_eq _ _ c.if-st-eq-DISABLED.true)

pub returns : goal.returns
unfolding refusal_of
returns c =
    told_of
    (pick_same _ _ c.if-memory-layout.false
    ∙ pick_same _ _ c.if-command-layout.false
    ∙ pick_same _ _ c.if-reply-layout.false
    ∙ pick_ne _ _ c.if-st-eq-DISABLED.false)

-- `replay::whole::form` meets its contract: the k records passed are whole, and what stands behind them decides.
use Rattle.std.proofs.Common.{suc, length, refl, sym, ap, subst, ◌∙◌, arith}
use Rattle.std.proofs.Math.Nat.{suc-mul}
use Rattle.replay.specs.Trace.{record_size}
use Rattle.replay.specs.declared.reader.Reader.{Reader}
use Rattle.replay.proofs.Forms.{stands_inside, ended_form, faulty_form, whole_form}
use Rattle.replay.proofs.whole.form.Invariants.{Passed}
use Rattle.replay.proofs.whole.form.Goals as goal

pub loop-fault-init : goal.loop-fault-init
loop-fault-init c =
    let a = c.args in
    subst (Passed a.l a.trace.now) (sym c.open-reader.ensures)
    (record { k = 0; n = suc (length a.trace.now); place = omega arith; left = omega arith; same = refl; form = refl })

pub returns-in-End : goal.returns-in-End
returns-in-End c =
    let p = c.loop-fault.invariant in
    sym (p.form ∙ ended_form _ _ _ p.k p.place p.n (sym c.in-End.ensures))

pub overflow_cast-result : goal.overflow_cast-result
overflow_cast-result c =
    let h = stands_inside _ _ _ c.in-Bad.ensures (λ z. cc) in
    omega (arith, c.requires, ap length c.loop-fault.invariant.same)

pub returns-in-Bad : goal.returns-in-Bad
returns-in-Bad c =
    let p = c.loop-fault.invariant in
    sym (p.form ∙ faulty_form _ _ _ p.k p.place p.n _ p.left (sym c.in-Bad.ensures))

pub moved-reader-requires : goal.moved-reader-requires
moved-reader-requires c =
    let h = stands_inside _ _ _ c.in-Whole.ensures (λ z. cc) in
    omega (arith, c.requires, ap length c.loop-fault.invariant.same)

pub loop-fault-smaller : goal.loop-fault-smaller
loop-fault-smaller c =
    let h = stands_inside _ _ _ c.in-Whole.ensures (λ z. cc) in
    omega (arith, ap length c.loop-fault.invariant.same, ap (λ (r : Reader). r.at) c.moved-reader.ensures)

pub loop-fault-preserved : goal.loop-fault-preserved
loop-fault-preserved c =
    let a = c.args in
    let p = c.loop-fault.invariant in
    let w = whole_form _ _ _ p.k p.place p.n p.left (sym c.in-Whole.ensures) in
    let s = suc-mul p.k (record_size c.loop-fault.reader.l) in
    subst (Passed a.l a.trace.now) (sym c.moved-reader.ensures)
    (record { k = suc p.k; n = w.0; place = omega (arith, p.place); left = omega (arith, p.left, w.1); same = p.same; form = p.form ∙ w.2 })

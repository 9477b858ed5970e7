-- `replay::form::fault_at` meets its contract: each return is one of the laws of a fault.
use Rattle.std.proofs.Common.{refl, sym, arith}
use Rattle.replay.proofs.Faults.{fault_past, fault_kind, fault_length, fault_cut, fault_none}
use Rattle.replay.proofs.form.fault_at.Goals as goal

pub returns-then-trace-at : goal.returns-then-trace-at
returns-then-trace-at c =
    let a = c.args in
    sym (fault_past a.l a.trace.now a.at c.if-trace-at.true)

pub returns-in_default : goal.returns-in_default
returns-in_default c =
    let a = c.args in
    sym (fault_kind a.l a.trace.now a.at c.in_default.ensures.length refl)

pub returns-then-length-l : goal.returns-then-length-l
returns-then-length-l c =
    let a = c.args in
    let kind = c.in-Some.ensures in
    sym (fault_length a.l a.trace.now a.at kind.length (omega (arith, kind.some)) c.if-length-l.true)

pub returns-then-trace-at-2 : goal.returns-then-trace-at-2
returns-then-trace-at-2 c =
    let a = c.args in
    let kind = c.in-Some.ensures in
    sym (fault_cut a.l a.trace.now a.at kind.length (omega (arith, kind.some)) c.if-length-l.false c.if-trace-at-2.true)

pub returns : goal.returns
returns c =
    let a = c.args in
    let kind = c.in-Some.ensures in
    sym (fault_none a.l a.trace.now a.at kind.length (omega (arith, kind.some)) c.if-length-l.false c.if-trace-at-2.false)

-- The proof of the cycle of calls {walk}: the measure is the number of octets left, and the promise holds at every bound above it.
use Rattle.std.proofs.Common.{sym, ap, ◌∙◌}
use Rattle.sheet.specs.Handed.{tells}
use Rattle.sheet.specs.Walk.{counts}
use Rattle.sheet.proofs.Walked.{counted_at, walked_fault, walked_end, asked_on, walked_on}
use Rattle.sheet.proofs.walk.+walk.Goals as goal

-- what the reading asks
pub invariant_of-unread : goal.invariant_of-unread
invariant_of-unread t c =
    let a = c.args in
    record { counted = counted_at a.whole.now.now a.at (counts a.regions a.parameters a.items a.tolerances a.releases a.memory) c.requires }

-- a fault
pub returns-in_default : goal.returns-in_default
returns-in_default t c f h =
    let a = c.args in
    ap (tells a.whole.now.now) c.fault_at.ensures
    ∙ walked_fault a.whole.now.now a.at (counts a.regions a.parameters a.items a.tolerances a.releases a.memory) c.requires _ c.read_record-read.ensures c.in_default.field-0 c.in_default.is f h

-- the end record
pub returns-then-octet-eq0 : goal.returns-then-octet-eq0
returns-then-octet-eq0 t c f h =
    let a = c.args in
    c.ended.ensures
    ∙ walked_end a.whole.now.now a.at (counts a.regions a.parameters a.items a.tolerances a.releases a.memory) c.requires _ c.read_record-read.ensures c.in-Ok.record.size c.in-Ok.record.counts c.in-Ok.is
    (sym c.octet.ensures ∙ c.if-octet-eq0.true) f h

-- the next record
pub walk-requires : goal.walk-requires
walk-requires t c =
    let a = c.args in
    asked_on a.whole.now.now a.at (counts a.regions a.parameters a.items a.tolerances a.releases a.memory) c.requires _ c.read_record-read.ensures c.in-Ok.record.size c.in-Ok.record.counts c.in-Ok.is
    (λ z. c.if-octet-eq0.false (c.octet.ensures ∙ z)) t c.decreases

pub returns : goal.returns
returns t c =
    let a = c.args in
    walked_on a.whole.now.now a.at (counts a.regions a.parameters a.items a.tolerances a.releases a.memory) c.requires _ c.read_record-read.ensures c.in-Ok.record.size c.in-Ok.record.counts c.in-Ok.is
    (λ z. c.if-octet-eq0.false (c.octet.ensures ∙ z)) _ c.walk.ensures

-- `replay::step::one` meets its contract: a record's exchange is not refused, and so it is performed.
use Rattle.std.proofs.Common.{◌≡◌, ℕ, ◌%◌, ap, ◌∙◌, arith}
use Rattle.slave.specs.Wanted.{stepped, performed, Came}
use Rattle.slave.proofs.Again.{its_fields}
use Rattle.replay.proofs.Steps.{record_left, left_most}
use Rattle.replay.proofs.step.one.Goals as goal

pub perform-told-requires-clause-ready : goal.perform-told-requires-clause-ready
perform-told-requires-clause-ready c =
    let a = c.args in
    let p = c.requires in
    let s = p.stands in
    record {
      held = (its_fields a.state.now a.checked.now.device.layout s.st c.fields-st.result s.running c.fields-st.ensures).held;
      lists = record { whole = s.whole; asked = p.command; lent = p.room };
    }

pub returns-then-at-checked-clause-leaves : goal.returns-then-at-checked-clause-leaves
returns-then-at-checked-clause-leaves c =
    let a = c.args in
    let p = c.requires in
    let d = a.checked.now in
    let run = its_fields a.state.now d.device.layout p.stands.st c.fields-st.result p.stands.running c.fields-st.ensures in
    record_left d.device.sheet.now a.state.now a.memory.now a.command.now a.theirs.now a.room.now d.device.layout d.valid c.fields-st.result run p.stands.whole p.command p.theirs p.room _ _
    (ap (λ (x : Came). x.left) c.perform-told.ensures)

pub returns-else-at-checked-clause-leaves : goal.returns-else-at-checked-clause-leaves
returns-else-at-checked-clause-leaves c =
    let a = c.args in
    let p = c.requires in
    let d = a.checked.now in
    let o = c.perform-told in
    let run = its_fields a.state.now d.device.layout p.stands.st c.fields-st.result p.stands.running c.fields-st.ensures in
    let done = ap (λ (x : Came). x.left) o.ensures in
    let most = left_most d.device.sheet.now a.state.now a.memory.now a.command.now a.theirs.now a.room.now d.device.layout d.valid c.fields-st.result run p.stands.whole p.command p.theirs p.room _ _ done in
    let all : d.device.layout.l ≡ o.result % 256 = omega (arith, c.if-at-checked.false) in
    ap (λ (n : ℕ). performed (stepped n o.new.state o.new.memory) o.new.reply) all
    ∙ record_left d.device.sheet.now a.state.now a.memory.now a.command.now a.theirs.now a.room.now d.device.layout d.valid c.fields-st.result run p.stands.whole p.command p.theirs p.room _ _ done

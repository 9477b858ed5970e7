-- `replay::playing::play` meets its contract: the k records passed agree, and m records are left.
use Rattle.std.proofs.Common.{ℕ, ◌+◌, ◌*◌, List, length, refl, sym, ap, subst, ◌∙◌, arith}
use Rattle.std.proofs.Math.Nat.{le_refl}
use Rattle.link.specs.declared.state.LinkState.{LinkState}
use Rattle.sheet.proofs.Valid.{valid_sheet, length_least}
use Rattle.slave.specs.Exchange.{Running}
use Rattle.slave.specs.Wanted.{Stepped, stepped, Performed}
use Rattle.slave.specs.Answers.{told}
use Rattle.replay.specs.Replay.{replayed, play_of}
use Rattle.replay.specs.Trace.{record_size, command_at, reply_at}
use Rattle.replay.proofs.Plays.{Handed, one_handed, play_differs, play_agrees, play_end, one_more, traced_all}
use Rattle.replay.proofs.Steps.{step_runs}
use Rattle.replay.proofs.playing.play.Goals as goal
use Rattle.replay.proofs.playing.play.Goals.{After-reply-theirs}

pub loop-reader-init : goal.loop-reader-init
loop-reader-init c =
    let a = c.args in
    let d = a.checked.now.device in
    let n = c.requires.records in (
      refl,
      refl,
      refl,
      rw c.open-reader.ensures (record {
        same = refl;
        of_sheet = refl;
        few = omega arith;
        stands = c.requires.stands;
        m = n.many;
        left = omega (arith, n.whole);
        told = ap (play_of d.sheet.now d.layout.l 0 a.state.now a.memory.now) (traced_all d.layout.l n.many a.trace.now n.whole);
      }),
    )

-- the record at the reader's place is the trace's
handed : (c : After-reply-theirs) → Handed c.args.checked.now.device.layout.l c.args.trace.now c.loop-reader.reader.at c.command-command.result.now c.reply-theirs.result.now
handed c =
    let l = c.loop-reader in
    let p = l.invariant.3 in
    one_handed _ _ _ p.m p.left c.loop-reader-test.true
    (c.command-command.ensures ∙ (λ i. command_at (p.of_sheet i) (p.same i) l.reader.at))
    (c.reply-theirs.ensures ∙ (λ i. reply_at (p.of_sheet i) (p.same i) l.reader.at))

pub one-requires-clause-command : goal.one-requires-clause-command
one-requires-clause-command c = (handed (goal.at.one-requires-clause-command c).After-reply-theirs).asked

pub one-requires-clause-theirs : goal.one-requires-clause-theirs
one-requires-clause-theirs c = (handed (goal.at.one-requires-clause-theirs c).After-reply-theirs).lent

pub returns-in-Some : goal.returns-in-Some
returns-in-Some c =
    let a = c.args in
    let d = a.checked.now.device in
    let l = c.loop-reader in
    let p = l.invariant.3 in
    let h = handed (goal.at.returns-in-Some c).After-reply-theirs in
    let o = c.one.new in
    let e = c.in-Some.ensures in
    let q = one_more (length a.trace.now) l.reader.at p.m (record_size d.layout.l) p.left c.loop-reader-test.true in
    ap (λ (n : ℕ). replayed (told 34 (64 * l.k + n)) o.state o.memory) c.from.ensures
    ∙ sym
    (p.told
    ∙ play_differs d.sheet.now a.trace.now d.layout.l l.k l.reader.at l.state l.memory (stepped c.in-Some.octet o.state o.memory) q.1
    h.sent h.came (ap (λ (y : Performed). y.step) e.leaves) e.differs)

pub loop-reader-preserved : goal.loop-reader-preserved
loop-reader-preserved c =
    let a = c.args in
    let d = a.checked.now.device in
    let l = c.loop-reader in
    let p = l.invariant.3 in
    let o = c.one in
    let h = handed (goal.at.loop-reader-preserved c).After-reply-theirs in
    let q = one_more (length a.trace.now) l.reader.at p.m (record_size d.layout.l) p.left c.loop-reader-test.true in
    let step = ap (λ (y : Performed). y.step) c.in_default.ensures.leaves in
    let least = length_least _ _ (valid_sheet _ _ a.checked.now.valid) in
    let runs = step_runs d.sheet.now l.state l.memory _ _ d.layout a.checked.now.valid p.stands.st p.stands.running p.stands.whole h.asked h.lent in
    let run = subst (λ (s : List ℕ). (st : LinkState) × Running s d.layout st) (sym (ap (λ (x : Stepped). x.state) step)) runs in (
      o.auto.state ∙ l.invariant.0,
      o.auto.memory ∙ l.invariant.1,
      o.auto.room ∙ l.invariant.2,
      rw c.moved-reader.ensures (record {
        same = p.same;
        of_sheet = p.of_sheet;
        few = omega (arith, p.few, p.of_sheet);
        stands = record { whole = o.auto.memory ∙ p.stands.whole; st = run.0; running = run.1 };
        m = q.0;
        left = omega (arith, q.2, p.of_sheet);
        told = p.told
            ∙ play_agrees d.sheet.now a.trace.now d.layout.l l.k l.reader.at l.state l.memory (stepped d.layout.l o.new.state o.new.memory) q.1 h.sent h.came step (le_refl d.layout.l)
            (ap (λ (n : ℕ). l.reader.at + record_size n) p.of_sheet);
      }),
    )

pub returns : goal.returns
returns c =
    let a = c.args in
    let d = a.checked.now.device in
    let l = c.loop-reader in
    let p = l.invariant.3 in
    sym (p.told ∙ play_end d.sheet.now a.trace.now d.layout.l l.k l.reader.at l.state l.memory p.m p.left c.loop-reader-test.false)

-- `slave::wanted::differs` meets its contract: a reply that begins with what is wanted differs at its end.
use Rattle.std.proofs.Common.{ℕ, List, sym, ap, ◌∙◌}
use Rattle.std.proofs.lemmas.Slice.Eq.{starts_is}
use Rattle.std.proofs.lemmas.Bool.Decides.{Decides-eqb}
use Rattle.slave.proofs.Differs.{differs_behind}
use Rattle.slave.specs.Wanted.{differs_at}
use Rattle.slave.proofs.wanted.differs.Goals as goal

pub returns-then-starts_with : goal.returns-then-starts_with
returns-then-starts_with c =
    let a = c.args in
    let e = (starts_is Decides-eqb a.reply.now a.wanted.now _ c.starts_with.ensures.value).0 c.if-starts_with.true in
    sym (ap (λ (x : List ℕ). differs_at x a.wanted.now) e ∙ differs_behind a.wanted.now _)

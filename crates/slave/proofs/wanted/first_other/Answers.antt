-- `slave::wanted::first_other` meets its contract: the pairs before the first that differs are those that are the same.
use Rattle.std.proofs.Common.{ℕ, not, nat_eq, length, take, ap, ◌∙◌, rules, tests, Option}
use Rattle.std.specs.Option.{unwrap_or}
use Rattle.std.proofs.lemmas.Iterator.{YieldsList-from_slice, YieldsList-from_zip}
use Rattle.std.proofs.lemmas.Iterator.Search.{position_from_yields_List}
use Rattle.slave.proofs.Differs.{differs_first}
use Rattle.slave.proofs.wanted.first_other.Goals as goal

pub returns : goal.returns
returns c =
    let a = c.args in
    c.unwrap_or.ensures
    ∙ ap (λ (r : Option ℕ). unwrap_or r (length a.wanted.now))
    (position_from_yields_List (λ (p : ℕ × ℕ). not (nat_eq p.0 p.1)) c.position.new.self _ c.position.result c.position.ensures.ran
    (YieldsList-from_zip (YieldsList-from_slice (take (length a.wanted.now) a.reply.now) (cc)) (YieldsList-from_slice a.wanted.now (cc)))
    (λ x b q k. search (rules, tests)))
    ∙ differs_first a.reply.now a.wanted.now c.requires.0

-- `frame::unnamed::Names::is_clear` meets its contract: the parts that are asked are all that is not named.
use Rattle.std.proofs.lemmas.Bool.{and_parts}
use Rattle.frame.proofs.Clear.{clear_none}
use Rattle.frame.proofs.unnamed.Names.is_clear.Goals as goal

pub returns : goal.returns
returns c e =
    let n = c.args.self in
    let p = and_parts _ _ e in
    let q = and_parts _ _ p.0 in
    let r = and_parts _ _ q.0 in
    clear_none n.fields n.written c.args.command.now n.form _ _ _ _
    c.behind-first.ensures c.behind.ensures c.max-last.ensures c.end_of.ensures
    (c.head_clear.ensures r.0) (c.zero_between.ensures r.1) (c.zero_between-2.ensures q.1) (c.zero_between-3.ensures p.1)

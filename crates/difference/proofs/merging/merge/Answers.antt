-- `difference::merging::merge` meets its contract: between two turns the pass stands as `Left` says.
use Rattle.std.proofs.Common.{rules}
use Rattle.difference.proofs.Passes.{left_first, left_next, left_less, left_last}
use Rattle.difference.proofs.merging.merge.Goals as goal

pub loop-list-init : goal.loop-list-init
loop-list-init c =
    let a = c.args in
    left_first a.first.now a.second.now a.list.now

pub loop-list-smaller : goal.loop-list-smaller
loop-list-smaller c =
    left_less (λ k. (c.type_inv.first k).fits) (λ k. (c.type_inv.second k).fits) c.loop-list.invariant (search rules) c.take_turn-behind.ensures

pub loop-list-preserved : goal.loop-list-preserved
loop-list-preserved c =
    left_next (λ k. (c.type_inv.first k).fits) (λ k. (c.type_inv.second k).fits) c.loop-list.invariant (search rules) c.take_turn-behind.ensures

pub returns : goal.returns
returns c = left_last c.loop-list.invariant (search rules)

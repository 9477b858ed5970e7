-- `difference::entries::new` meets its contract.
use Rattle.difference.specs.Merge.{new_of}
use Rattle.difference.proofs.Moves.{moves_on, moves_as}
use Rattle.difference.proofs.entries.new.Goals as goal

pub returns : goal.returns
unfolding new_of
returns c = moves_as (simp (c.kind.ensures.value, c.body.ensures.value)) (moves_on c.lay.ensures c.lay_part.ensures)

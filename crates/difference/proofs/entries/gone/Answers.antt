-- `difference::entries::gone` meets its contract.
use Rattle.difference.specs.Merge.{gone_of}
use Rattle.difference.proofs.Moves.{moves_on, moves_as}
use Rattle.difference.proofs.entries.gone.Goals as goal

pub returns : goal.returns
unfolding gone_of
returns c = moves_as (simp (c.kind.ensures.value, c.key_width.ensures.value)) (moves_on c.lay.ensures c.lay_part.ensures)

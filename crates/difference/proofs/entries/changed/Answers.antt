-- `difference::entries::changed` meets its contract.
use mathlib.Core.Path.{sym}
use Rattle.octets.proofs.Pick.{pick_eq, pick_ne}
use Rattle.difference.specs.Merge.{changed_of}
use Rattle.difference.proofs.Moves.{moves_none, moves_on, moves_as}
use Rattle.difference.proofs.entries.changed.Goals as goal

pub returns-then-bits-eq0 : goal.returns-then-bits-eq0
unfolding changed_of
returns-then-bits-eq0 c = moves_as (sym (pick_eq _ _ c.if-bits-eq0.true)) (moves_none c.args.list.now)

pub returns : goal.returns
unfolding changed_of
returns c =
    moves_as (simp (c.kind.ensures.value, c.body.ensures.value) (sym (pick_ne _ _ c.if-bits-eq0.false)))
    (moves_on (moves_on c.lay.ensures c.lay-2.ensures) c.lay_part.ensures)

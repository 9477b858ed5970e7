-- `difference::merging::take_turn` meets its contract, for the record that comes first, and for two at one place.
use Prim.Native.Nat.{◌<◌, ◌≤◌}
use mathlib.Core.Path.{refl}
use native.Mathlib.Omega.{arith}
use Rattle.std.proofs.Common.{rules}
use Rattle.std.specs.Cmp.{ranked}
use Rattle.difference.specs.Records.{rank_at}
use Rattle.difference.proofs.Steps.{turned_by, step_gone, step_new, step_both}
use Rattle.difference.proofs.merging.take_turn.Goals as goal
use Rattle.difference.proofs.merging.take_turn.Goals.{in-Less, in-Greater, in-Equal}

pub returns : goal.returns
returns c =
    let a = c.args.first.now in
    let i = c.args.from.first in
    let b = c.args.second.now in
    let j = c.args.from.second in
    let x = c.rank.result in
    let y = c.rank-2.result in
    elim c.match-cmp.branch [
      | in-Less w ↦
          let h = ranked x y _ w.in-Less.ensures in
          let g : rank_at a i < rank_at b j = omega (arith, h) in
          turned_by _ _ (step_gone a i b j g) w.list-is w.gone.ensures (search rules) w.first-is w.behind.ensures refl
      | in-Greater w ↦
          let h = ranked x y _ w.in-Greater.ensures in
          let g : rank_at b j < rank_at a i = omega (arith, h) in
          turned_by _ _ (step_new a i b j g) w.list-is w.new.ensures (search rules) w.first-is refl w.behind-in-Greater.ensures
      | in-Equal w ↦
          let h = ranked x y _ w.in-Equal.ensures in
          let f : rank_at b j ≤ rank_at a i = omega (arith, h) in
          let g : rank_at a i ≤ rank_at b j = omega (arith, h) in
          turned_by _ _ (step_both a i b j f g) w.list-is w.both.ensures (search rules) w.first-is w.behind-in-Equal.ensures w.behind-in-Equal-2.ensures
    ]

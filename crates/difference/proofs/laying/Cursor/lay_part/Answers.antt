-- `difference::laying::Cursor::lay_part` meets its contract: k octets are laid, and the next is laid behind them.
use Prim.Native.Nat.{◌+◌}
use mathlib.Core.Path.{◌≡◌}
use native.Mathlib.Omega.{arith}
use Rattle.difference.specs.Records.{cut}
use Rattle.difference.proofs.Bounds.{cut_length, cut_more}
use Rattle.difference.proofs.Moves.{moves_none, moves_on, moves_as}
use Rattle.difference.proofs.laying.Cursor.lay_part.Goals as goal

pub loop-k-init : goal.loop-k-init
unfolding cut
loop-k-init c = moves_none c.args.self.now

pub lay-requires : goal.lay-requires
lay-requires c =
    let long = cut_length c.args.record.sheet.now c.loop-k.k (c.args.record.at + c.args.from) in
    omega (arith, long)

pub loop-k-preserved : goal.loop-k-preserved
loop-k-preserved c =
    let from = c.args.record.at + c.args.from in
    let on : c.args.record.at + (c.args.from + c.loop-k.k) ≡ from + c.loop-k.k = omega arith in
    moves_as (cut_more c.args.record.sheet.now c.loop-k.k from _ _ c.octet.ensures on) (moves_on c.loop-k.invariant c.lay.ensures)

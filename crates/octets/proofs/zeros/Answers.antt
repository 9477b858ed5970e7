-- `octets::zeros` meets its contract: what was found so far, and the rest, decide together.
use mathlib.Core.Bool.{and_assoc, and-true}
use native.Mathlib.Omega.{arith}
use Rattle.std.proofs.lemmas.List.{at_drop_more, at_drop_all}
use Rattle.octets.specs.Parts.{all_zero}
use Rattle.octets.proofs.zeros.Goals as goal

pub loop-x-preserved : goal.loop-x-preserved
unfolding all_zero
loop-x-preserved c =
    let e = at_drop_more all_zero c.args.s.now c.loop-x.x-index 0 c.loop-x-test.true in
    rw and_assoc (rw (← e) c.loop-x.invariant)

pub returns : goal.returns
unfolding all_zero
returns c =
    let e = at_drop_all all_zero c.args.s.now c.loop-x.x-index (omega arith) in
    rw (c.loop-x.invariant, e, and-true)

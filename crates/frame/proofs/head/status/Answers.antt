-- `frame::head::status` meets its contract: where a latch is set, bit 0 is.
use Prim.Native.Nat.{ℕ}
use native.Mathlib.Omega.{arith}
use Rattle.octets.proofs.Pick.{pick_no}
use Rattle.frame.specs.Head.{status_of}
use Rattle.frame.proofs.head.status.Goals as goal

pub returns : goal.returns
unfolding status_of
returns c =
    let e = pick_no {A = ℕ} 0 1 c.if-next.false in
    omega (arith, c.missed_bit-missed.ensures.told)

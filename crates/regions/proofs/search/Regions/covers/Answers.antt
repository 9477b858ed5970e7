-- `Regions::covers` meets its contract: what stands behind the search of a span (Passing), with the right that every region gives.
use Prim.Native.Nat.{◌+◌}
use native.Mathlib.Omega.{arith}
use Rattle.regions.specs.Region.{region_at}
use Rattle.regions.specs.declared.Right.TheVariants.{Mapped}
use Rattle.regions.proofs.Bounds.{past_misses}
use Rattle.regions.proofs.Passing.{passing_on, passing_mapped, passing_gap, passing_whole, passing_short}
use Rattle.regions.proofs.Turns.{grants_end}
use Rattle.regions.proofs.search.Regions.covers.Goals as goal
use Rattle.regions.proofs.search.Regions.covers.Goals.{then-to-behind+else-to-region+else-end-to, else-to-behind, else-loop-i-test, then-loop-i-test+then-to-behind+then-to-region, then-loop-i-test+then-to-behind+else-to-region+then-end-to}

pub loop-i-preserved : goal.loop-i-preserved
loop-i-preserved c =
    let s = c.args.self.now in
    let a = c.args.address in
    let l = c.loop-i in
    let r = c.region_in-region in
    let f = region_at s.sheet.now in
    elim c.if-to-behind.branch [
      | then-to-behind+else-to-region+else-end-to w ↦
          rw w.to-is
          (passing_mapped f s.count s.laid.apart a l.to l.i c.loop-i-test.true r.result r.ensures l.invariant c.end-behind.result c.end-behind.ensures w.if-to-region.false w.if-to-behind.true)
      | else-to-behind w ↦
          rw w.to-is (passing_on f s.count Mapped a l.to l.i l.invariant c.loop-i-test.true r.result r.ensures (past_misses r.result l.to (omega arith)))
    ]

pub returns : goal.returns
returns c =
    let s = c.args.self.now in
    let a = c.args.address in
    let size = c.args.size in
    let l = c.loop-i in
    let f = region_at s.sheet.now in
    elim c.loop-i-test.branch [
      | else-loop-i-test w ↦
          rw w.to-is (passing_short f s.count Mapped a l.to l.i l.invariant size (grants_end f l.i s.count w.loop-i-test.false Mapped l.to))
      | then-loop-i-test+then-to-behind+then-to-region w ↦
          let r = w.region_in-region in
          rw w.to-is
          (passing_short f s.count Mapped a l.to l.i l.invariant size
          (passing_gap f s.count s.laid.apart a l.to l.i w.loop-i-test.true r.result r.ensures Mapped w.if-to-region.true))
      | then-loop-i-test+then-to-behind+else-to-region+then-end-to w ↦
          let r = w.region_in-region in
          let b = w.end-behind in
          rw w.to-is
          (passing_whole f s.count Mapped a b.result (l.i + 1)
          (passing_mapped f s.count s.laid.apart a l.to l.i w.loop-i-test.true r.result r.ensures l.invariant b.result b.ensures w.if-to-region.false w.if-to-behind.true)
          size w.if-end-to.true)
    ]

use Rattle.std.specs.Prelude.{}
-- `sheet::walk::ended` meets its contract: an octet behind the end record, or none.
use Prim.Native.Nat.{ℕ, ◌+◌, ◌-◌, ◌≤◌, ◌<◌}
use mathlib.Core.Path.{◌≡◌, sym, ap, ◌∙◌}
use native.Mathlib.Omega.{arith}
use lib.ListN.{length, drop, length-drop}
use Rattle.octets.proofs.Pick.{pick_lt, pick_ge}
use Rattle.sheet.specs.Handed.{tells}
use Rattle.sheet.specs.Walk.{ended_of}
use Rattle.sheet.specs.declared.records.Fault.TheVariants.{Misplaced}
use Rattle.sheet.proofs.Told.{tells_failed, tells_counts}
use Rattle.sheet.proofs.Walked.{place_from}
use Rattle.sheet.proofs.walk.ended.Goals as goal
use Rattle.sheet.specs.Told.{faulty}

pub returns-then-behind-sheet : goal.returns-then-behind-sheet
unfolding ended_of
returns-then-behind-sheet c =
    let a = c.args in
    let s = a.sheet.now in
    let l : length (drop a.at s) ≡ length s - a.at = length-drop a.at s in
    let more : 1 < length (drop a.at s) = omega arith in
    ap (tells s) c.failed.ensures
    ∙ tells_failed s Misplaced (a.at + 1) (omega arith)
    ∙ ap (λ (p : ℕ). faulty Misplaced (p + 1)) (place_from a.at s c.requires.1)
    ∙ sym (pick_lt _ _ more)

pub returns : goal.returns
unfolding ended_of
returns c =
    let a = c.args in
    let s = a.sheet.now in
    let l : length (drop a.at s) ≡ length s - a.at = length-drop a.at s in
    let last : length (drop a.at s) ≤ 1 = omega arith in
    let p = c.requires in
    ap (tells s) c.counted.ensures
    ∙ tells_counts s a.so (omega arith) (omega arith) (omega arith) (omega (arith, p.3)) (omega (arith, p.4)) (omega (arith, p.2))
    ∙ sym (pick_ge _ _ last)

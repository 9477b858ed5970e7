-- `octets::copy` meets its contract: after i turns the part has the source's first i octets and its own behind them.
use mathlib.Core.Logic.{⊎_elim}
use mathlib.Core.Path.{◌∙◌}
use Prim.Native.Nat.{◌≤◌, ◌<◌}
use native.Mathlib.Omega.{arith}
use lib.ListN.{length}
use Rattle.octets.proofs.Cases.{lt_or_le}
use Rattle.octets.proofs.Parts.{copied_source_end, copied_part_end}
use Rattle.octets.proofs.copy.Goals as goal

pub returns : goal.returns
returns c =
    let d = c.args.d.now in
    let s = c.args.s.now in
    let i = c.loop-i.i in
    let e = c.loop-i.invariant.1 in
    ⊎_elim
    (λ (h : length d < length s). e ∙ copied_part_end d s i (omega arith) (omega arith) (omega arith))
    (λ (h : length s ≤ length d). e ∙ copied_source_end d s i (omega arith) (omega arith) (omega arith))
    (lt_or_le (length d) (length s))

use Rattle.std.specs.Prelude.{Ok}
-- `sheet::walk::told` meets its contract: the counts or the fault that the number has.
use Prim.Native.Nat.{◌%◌}
use mathlib.Core.Path.{sym, ap, ◌∙◌}
use Rattle.octets.proofs.Pick.{pick_eq, pick_ne}
use Rattle.sheet.specs.Handed.{tells, counts_in}
use Rattle.sheet.specs.declared.records.Fault.{Fault}
use Rattle.sheet.proofs.walk.told.Goals as goal
use Rattle.sheet.specs.Told.{faulty}

pub returns-then-number-eq0 : goal.returns-then-number-eq0
unfolding tells counts_in
returns-then-number-eq0 c = ap Ok c.laid_out.ensures ∙ sym (pick_eq _ _ c.if-number-eq0.true)

pub returns : goal.returns
unfolding tells
returns c = ap (λ (fault : Fault). faulty fault (c.args.walked % 65536)) c.fault_of.ensures ∙ sym (pick_ne _ _ c.if-number-eq0.false)

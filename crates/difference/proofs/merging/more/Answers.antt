-- `difference::merging::more` meets its contract.
use mathlib.Core.Bool.{Bool, true, false, not, ◌&&◌, ◌||◌}
use mathlib.Core.Path.{◌≡◌, refl}
use Rattle.difference.specs.Merge.{at_end}
use Rattle.difference.proofs.merging.more.Goals as goal

one_not : (x y : Bool) → (not x || not y) ≡ not (x && y)
one_not true y = refl
one_not false y = refl

pub returns : goal.returns
unfolding at_end
returns c = rw (c.kind_at.ensures, c.kind_at-2.ensures) (one_not _ _)

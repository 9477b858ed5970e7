-- `frame::unnamed::Names::has` meets its contract: of the enhanced type every command names octets 0 and 1, and its own besides.
use mathlib.Core.Bool.{◌||◌, or-false}
use mathlib.Core.Path.{sym, ap₂, ◌∙◌}
use Rattle.frame.specs.Unnamed.{names_for, is_named}
use Rattle.frame.proofs.unnamed.Names.has.Goals as goal

pub returns-in-Enhanced : goal.returns-in-Enhanced
unfolding names_for is_named
returns-in-Enhanced c = rw c.in-Enhanced.is (ap₂ ◌||◌ c.has-in-Enhanced.ensures (ap₂ ◌||◌ c.has.ensures (c.has-2.ensures ∙ sym (or-false _))))

-- `LinkState::latched` meets its contract: a latch that is set keeps its alarm. The answers stand so that a wrong test is refused by what differs
-- (must-fail/latch_overwrites).
use mathlib.Core.Path.{sym, ap}
use Rattle.octets.proofs.Pick.{pick_eq, pick_ne}
use Rattle.link.specs.Steps.{with_command}
use Rattle.link.proofs.state.LinkState.latched.Goals as goal

pub returns-then-self-eq0 : goal.returns-then-self-eq0
returns-then-self-eq0 c = ap (with_command c.args.self) (sym (pick_eq _ _ c.if-self-eq0.true))

pub returns-else-self-eq0 : goal.returns-else-self-eq0
returns-else-self-eq0 c = ap (with_command c.args.self) (sym (pick_ne _ _ c.if-self-eq0.false))

use Rattle.std.proofs.Common.{◌-◌, length}
use Rattle.sheet.proofs.walk.+walk.Given as goal

abbrev pub decreases-walk : goal.decreases-walk
decreases-walk l = length l.whole.now.now - l.at

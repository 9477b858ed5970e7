use mathlib.Core.Path.{◌≡◌}
use lib.ListN.{drop}
use Rattle.frame.specs.Clear.{runs_of}
use Rattle.frame.specs.Unnamed.{stray_from}
use Rattle.frame.proofs.unnamed.Names.first_stray.Given as goal

abbrev pub invariant-loop-k : goal.invariant-loop-k
invariant-loop-k l = stray_from l.self.form (runs_of l.self) 0 l.command ≡ stray_from l.self.form (runs_of l.self) l.k (drop l.k l.command)

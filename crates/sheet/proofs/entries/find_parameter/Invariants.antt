use Rattle.std.proofs.Common.{◌≡◌, ℕ, ◌-◌, ◌<◌}
use Rattle.sheet.specs.Entries.{parameter_at}
use Rattle.sheet.proofs.entries.find_parameter.Given as goal

abbrev pub invariant-loop-j : goal.invariant-loop-j
invariant-loop-j l =
    record { last : l.at ≡ l.parameters - 1; before : (k : ℕ) → k < l.j → (parameter_at l.sheet l.regions k).number ≡ l.number → ⊥ }

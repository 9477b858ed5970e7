use Rattle.std.proofs.Common.{◌≡◌, ℕ, ◌<◌}
use Rattle.sheet.specs.Entries.{item_at}
use Rattle.sheet.proofs.entries.find_item.Given as goal

abbrev pub invariant-loop-k : goal.invariant-loop-k
invariant-loop-k l = (j : ℕ) → j < l.k → (item_at l.sheet l.regions l.parameters j).code ≡ l.code → ⊥

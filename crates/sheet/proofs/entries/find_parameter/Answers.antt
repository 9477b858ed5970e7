-- `sheet::entries::find_parameter` meets its contract: no parameter before the one that the search ends at has the number.
use Rattle.std.proofs.Common.{◌≡◌, ℕ, ◌<◌, None, Some, arith}
use Rattle.sheet.specs.Entries.{parameter_at}
use Rattle.sheet.specs.declared.entries.Parameter.{Parameter}
use Rattle.sheet.proofs.Sought.{sought_first}
use Rattle.sheet.proofs.entries.find_parameter.Goals.{else-loop-j-test, then-loop-j-test+then-parameter_at-number}
use Rattle.sheet.proofs.entries.find_parameter.Goals as goal

pub returns-then-parameter-number : goal.returns-then-parameter-number
returns-then-parameter-number c =
    let a = c.args in
    let f = parameter_at a.sheet.now a.regions in
    let l = c.loop-j in
    let at = c.loop-j-test.at in
    let first : (at < a.parameters) × ((k : ℕ) → k < at → (f k).number ≡ a.number → ⊥) =
    elim c.loop-j-test.branch [
      | else-loop-j-test w ↦ (omega arith, λ k h. l.invariant.before k (omega arith))
      | then-loop-j-test+then-parameter_at-number w ↦ (omega arith, λ k h. l.invariant.before k (omega arith))
    ] in
    sought_first (λ (x : Parameter). x.number) Some None f a.number a.parameters at _ c.parameter_at-parameter.ensures c.if-parameter-number.true first.0 first.1

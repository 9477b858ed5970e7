-- `difference::entries::both` meets its contract.
use mathlib.Core.Path.{sym, ◌∙◌}
use native.Mathlib.Omega.{arith}
use Rattle.octets.proofs.Pick.{pick_eq, pick_ne}
use Rattle.difference.specs.Merge.{both_of}
use Rattle.difference.proofs.Moves.{moves_on, moves_as}
use Rattle.difference.proofs.Steps.{gone_most}
use Rattle.difference.proofs.entries.both.Goals as goal

pub returns-then-kind : goal.returns-then-kind
unfolding both_of
returns-then-kind c =
    let first = c.kind-kind.ensures.value in
    let one = sym first ∙ c.if-kind.true ∙ c.kind.ensures.value in
    moves_as (simp (c.bits-bits.ensures, first) (sym (pick_eq _ _ one))) c.changed.ensures

pub new-requires : goal.new-requires
new-requires c = let few = gone_most c.args.first.sheet.now c.args.first.at in omega (arith, few)

pub returns : goal.returns
unfolding both_of
returns c =
    moves_as (sym (pick_ne _ _ (λ e. c.if-kind.false (c.kind-kind.ensures.value ∙ e ∙ sym c.kind.ensures.value))))
    (moves_on c.gone.ensures c.new.ensures)

-- `sheet::walk::fault_of` meets its contract, number by number.
use mathlib.Core.Path.{◌≡◌, refl, sym, ◌∙◌}
use native.Mathlib.Omega.{arith}
use Rattle.octets.proofs.Pick.{pick_eq, pick_ne, pick_key}
use Rattle.sheet.specs.Handed.{fault_of}
use Rattle.sheet.proofs.walk.fault_of.Goals as goal

pub returns-in-11 : goal.returns-in-11
unfolding fault_of
returns-in-11 c = sym (pick_eq _ _ c.in-11.is)

pub returns-in-12 : goal.returns-in-12
unfolding fault_of
returns-in-12 c =
    sym
    (pick_key 11 _ _ c.in-12.is refl
    ∙ pick_eq _ _ c.in-12.is)

pub returns-in-13 : goal.returns-in-13
unfolding fault_of
returns-in-13 c =
    sym
    (pick_key 11 _ _ c.in-13.is refl
    ∙ pick_key 12 _ _ c.in-13.is refl
    ∙ pick_eq _ _ c.in-13.is)

pub returns-in-14 : goal.returns-in-14
unfolding fault_of
returns-in-14 c =
    sym
    (pick_key 11 _ _ c.in-14.is refl
    ∙ pick_key 12 _ _ c.in-14.is refl
    ∙ pick_key 13 _ _ c.in-14.is refl
    ∙ pick_eq _ _ c.in-14.is)

pub returns-in-15 : goal.returns-in-15
unfolding fault_of
returns-in-15 c =
    sym
    (pick_key 11 _ _ c.in-15.is refl
    ∙ pick_key 12 _ _ c.in-15.is refl
    ∙ pick_key 13 _ _ c.in-15.is refl
    ∙ pick_key 14 _ _ c.in-15.is refl
    ∙ pick_eq _ _ c.in-15.is)

pub returns-in-16 : goal.returns-in-16
unfolding fault_of
returns-in-16 c =
    sym
    (pick_key 11 _ _ c.in-16.is refl
    ∙ pick_key 12 _ _ c.in-16.is refl
    ∙ pick_key 13 _ _ c.in-16.is refl
    ∙ pick_key 14 _ _ c.in-16.is refl
    ∙ pick_key 15 _ _ c.in-16.is refl
    ∙ pick_eq _ _ c.in-16.is)

pub returns-in_default : goal.returns-in_default
unfolding fault_of
returns-in_default c =
    let n₁₁ : c.args.number ≡ 11 → ⊥ = omega arith in
    let n₁₂ : c.args.number ≡ 12 → ⊥ = omega arith in
    let n₁₃ : c.args.number ≡ 13 → ⊥ = omega arith in
    let n₁₄ : c.args.number ≡ 14 → ⊥ = omega arith in
    let n₁₅ : c.args.number ≡ 15 → ⊥ = omega arith in
    let n₁₆ : c.args.number ≡ 16 → ⊥ = omega arith in
    sym
    (pick_ne _ _ n₁₁
    ∙ pick_ne _ _ n₁₂
    ∙ pick_ne _ _ n₁₃
    ∙ pick_ne _ _ n₁₄
    ∙ pick_ne _ _ n₁₅
    ∙ pick_ne _ _ n₁₆)

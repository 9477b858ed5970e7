-- A parameter's span lies in regions, and the check that asks it never fires.
use mathlib.Core.Bool.{Bool, true, false, ◌&&◌, ◌||◌, true≢false}
use mathlib.Core.Logic.{⊎_elim}
use mathlib.Core.Path.{◌≡◌, refl, sym, ap, ap₂, subst, ◌∙◌}
use mathlib.Core.List.{List, [], ◌∷◌, map}
use Prim.Native.Nat.{ℕ, zero, suc, ◌+◌, ◌≤◌, ◌<◌}
use native.Mathlib.Omega.{arith}
use borrow.Author.Tests.{le-leb, lt-ltb, eq-eqb, ne_eqb}
use lib.Dec.{eqb}
use Rattle.octets.proofs.Cases.{decided, eq_or_ne}
use Rattle.law.specs.Words.{when, Every, Some, one_of}
use Rattle.law.specs.Sheet.{Region, Parameter, GoodParameter, InRegion}
use Rattle.law.specs.Memory.{cells, mapped, has, has_all}
use Rattle.law.specs.Table.{parameter_of, number}
use Rattle.law.specs.Exchange.{Fate, checked}
use Rattle.law.proofs.Laid.{when_yes, when_no}
use Rattle.law.proofs.Spans.{inside, has_run}
use Rattle.demands.specs.Mapped.{ParametersAreMapped, MappedIsNotAsked}

in_region : (rs : List Region) (a : ℕ) → Some (InRegion a) rs → has mapped (cells rs) a ≡ true
in_region [] a s = absurd s
in_region (r ∷ rs) a s =
    has_run mapped r.start r.length r.rights (cells rs) a
    ∙ ⊎_elim (λ (t : inside r.start r.length a ≡ true). when_yes _ _ t)
    (λ (f : inside r.start r.length a ≡ false).
    when_no _ _ f
    ∙ ⊎_elim (λ (j : InRegion a r). absurd (true≢false (sym (ap₂ ◌&&◌ (le-leb r.start a j.0) (lt-ltb a (r.start + r.length) j.1)) ∙ f)))
    (λ (j : Some (InRegion a) rs). in_region rs a j) s)
    (decided (inside r.start r.length a))

all_mapped : (rs : List Region) (a n : ℕ) → ((x : ℕ) → a ≤ x → x < a + n → Some (InRegion x) rs) → has_all mapped (cells rs) a n ≡ true
unfolding has_all
all_mapped rs a zero f = refl
all_mapped rs a (suc n) f = ap₂ ◌&&◌ (in_region rs a (f a (omega arith) (omega arith))) (all_mapped rs (suc a) n (λ x l u. f x (omega arith) (omega arith)))

-- what every parameter has, the one that is found has
found_has : (P : Parameter → Type 0) (ps : List Parameter) (n : ℕ) → Every P ps → one_of n (map (λ (p : Parameter). p.number) ps) ≡ true → P (parameter_of ps n)
unfolding parameter_of
found_has P [] n all e = cc
found_has P (p ∷ ps) n all e =
    ⊎_elim (λ (q : p.number ≡ n). subst P (sym (when_yes _ _ (eq-eqb p.number n q))) all.0)
    (λ (q : p.number ≡ n → ⊥).
    let off : eqb n p.number || one_of n (map (λ (p : Parameter). p.number) ps) ≡ one_of n (map (λ (p : Parameter). p.number) ps) =
    ap (λ (b : Bool). b || one_of n (map (λ (p : Parameter). p.number) ps)) (ne_eqb n p.number (λ z. q (sym z))) in
    subst P (sym (when_no _ _ (ne_eqb p.number n q))) (found_has P ps n all.1 (sym off ∙ e)))
    (eq_or_ne p.number n)

pub parameters_are_mapped : ParametersAreMapped
parameters_are_mapped h w n e =
    let good = found_has (GoodParameter h.regions) h.parameters n w.parameters e in
    all_mapped h.regions (parameter_of h.parameters n).address (parameter_of h.parameters n).size good.spans

-- a fourth check that holds wherever the first does may be left out
left_out : (a b d e : Bool) (x y₁ y₂ y₃ y₄ : Fate) → (a ≡ true → e ≡ true) → when a (when b (when d (when e x y₄) y₃) y₂) y₁ ≡ when a (when b (when d x y₃) y₂) y₁
left_out a b d e x y₁ y₂ y₃ y₄ holds =
    ⊎_elim (λ (t : a ≡ true). ap (λ (z : Fate). when a (when b (when d z y₃) y₂) y₁) (when_yes _ _ (holds t)))
    (λ (f : a ≡ false). when_no _ _ f ∙ sym (when_no _ _ f)) (decided a)

pub mapped_is_not_asked : MappedIsNotAsked
unfolding checked
mapped_is_not_asked h w s m c most behind row = left_out _ _ _ _ _ _ _ _ _ (λ t. parameters_are_mapped h w (number h s m c) t)

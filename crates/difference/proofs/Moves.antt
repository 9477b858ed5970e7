-- A cursor that moves on: by none, and by one list of octets and then another.
use Prim.Native.Nat.{ℕ, ◌+◌}
use mathlib.Core.List.{List, [], ◌++◌}
use mathlib.Core.Path.{◌≡◌, refl, ap, ap₂, subst, ◌∙◌}
use native.Mathlib.Omega.{arith}
use lib.ListN.{length, length-append}
use Rattle.difference.specs.Laid.{laid}
use Rattle.difference.specs.Moves.{Moves}
use Rattle.difference.specs.declared.laying.Cursor.{Cursor}
use Rattle.difference.proofs.Laid.{laid_on}

pub moves_none : (a : Cursor) → Moves a a []
unfolding laid
moves_none a = record { same_list = refl; behind = omega arith; holds = refl }

pub moves_on : {a b c : Cursor} {s t : List ℕ} → Moves a b s → Moves b c t → Moves a c (s ++ t)
moves_on {a} {b} {c} {s} {t} m n = record {
  same_list = n.same_list ∙ m.same_list;
  behind = (let l = length-append s t in let p = m.behind in let q = n.behind in omega (arith, l, p, q));
  holds = n.holds ∙ ap₂ (λ (l : List ℕ) (k : ℕ). laid l k t) m.holds m.behind ∙ laid_on s t a.list.now a.at;
}

pub moves_as : {a b : Cursor} {s t : List ℕ} → s ≡ t → Moves a b s → Moves a b t
moves_as {a} {b} e m = subst (Moves a b) e m

-- What a list of picks tells of a list of checks.
use mathlib.Core.Bool.{Bool, true, false}
use mathlib.Core.Logic.{◌⊎◌, inl, inr, ⊎_elim, ◌↔◌}
use mathlib.Core.Path.{◌≡◌, refl, sym, ap, subst, ◌∙◌}
use mathlib.Core.List.{List, [], ◌∷◌, ◌++◌}
use Prim.Native.Nat.{ℕ, zero, suc, ◌+◌, ◌-◌}
use native.Mathlib.Nat.{add-zero}
use native.Mathlib.Omega.{arith}
use Rattle.std.specs.Prelude.{Err}
use Rattle.octets.specs.Pick.{pick}
use Rattle.regions.specs.Region.{listed}
use Rattle.sheet.specs.Faults.{number_of}
use Rattle.sheet.specs.Handed.{fault_of}
use Rattle.sheet.specs.Told.{Reading, reads}
use Rattle.sheet.proofs.Told.{fault_back}
use Rattle.sheet.specs.declared.records.Counts.{Counts}
use Rattle.sheet.specs.declared.records.Fault.{Fault}
use Rattle.law.specs.Words.{From, InARow, sum_of, NoMore}

pub same_number : {f g : Fault} → number_of f ≡ number_of g → f ≡ g
same_number {f} {g} e = sym (fault_back f) ∙ ap fault_of e ∙ fault_back g

-- one of the picks that make a check
pub decides : (b : Bool) (g : Fault) (y : Reading) {fault : Fault} {n : ℕ} {Holds Later : Type 0} → number_of g ≡ n → (b ≡ true → Holds → ⊥)
    → (b ≡ false → (y ≡ Err fault) ↔ (((Holds → ⊥) × (number_of fault ≡ n)) ⊎ (Holds × Later)))
    → (pick b (Err g) y ≡ Err fault) ↔ (((Holds → ⊥) × (number_of fault ≡ n)) ⊎ (Holds × Later))
unfolding pick
decides true g y {fault} e fails go = (
  λ w. inl (fails refl, let same : fault ≡ g = cc in ap number_of same ∙ e),
  λ c. ⊎_elim (λ p. ap Err (same_number (e ∙ sym p.1))) (λ q. absurd (fails refl q.0)) c,
)
decides false g y e fails go = go refl

-- all of them passed
pub passes : {y : Reading} {fault : Fault} {n : ℕ} {Holds Later : Type 0} → Holds → (y ≡ Err fault) ↔ Later
    → (y ≡ Err fault) ↔ (((Holds → ⊥) × (number_of fault ≡ n)) ⊎ (Holds × Later))
passes h go = (λ w. inr (h, go.0 w), λ c. ⊎_elim (λ p. absurd (p.0 h)) (λ q. go.1 q.1) c)

-- the record was read
pub no_more : {n : ℕ} {next : Counts} {fault : Fault} → (reads n next ≡ Err fault) ↔ NoMore (number_of fault)
no_more = (λ e. cc, λ z. absurd z)

-- the order of a list with one more
module _ {A : Type 0} (g : ℕ → A) (R : A → A → Type 0) (x : A) where
  from_more : (k m : ℕ) → From R (g k) (listed g (suc k) m) → R (g (k + m)) x → From R (g k) (listed g (suc k) m ++ x ∷ [])
  unfolding listed
  from_more k zero p r = (subst (λ (i : ℕ). R (g i) x) (add-zero k) r, tt)
  from_more k (suc m) p r = (p.0, from_more (suc k) m p.1 (subst (λ (i : ℕ). R (g i) x) (let e : k + suc m ≡ suc k + m = omega arith in e) r))

  from_last : (k m : ℕ) → From R (g k) (listed g (suc k) m ++ x ∷ []) → R (g (k + m)) x
  unfolding listed
  from_last k zero p = subst (λ (i : ℕ). R (g i) x) (sym (add-zero k)) p.0
  from_last k (suc m) p = subst (λ (i : ℕ). R (g i) x) (let e : suc k + m ≡ k + suc m = omega arith in e) (from_last (suc k) m p.1)

  pub row_more : (n : ℕ) → InARow R (listed g 0 n) → ((n ≡ 0 → ⊥) → R (g (n - 1)) x) → InARow R (listed g 0 n ++ x ∷ [])
  unfolding listed
  row_more zero p r = tt
  row_more (suc n) p r =
      from_more 0 n p (subst (λ (i : ℕ). R (g i) x) (let e : suc n - 1 ≡ 0 + n = omega arith in e) (r (λ (z : suc n ≡ 0). omega arith)))

  pub row_last : (n : ℕ) → InARow R (listed g 0 n ++ x ∷ []) → (n ≡ 0 → ⊥) → R (g (n - 1)) x
  unfolding listed
  row_last zero p z = absurd (z refl)
  row_last (suc n) p z = subst (λ (i : ℕ). R (g i) x) (let e : 0 + n ≡ suc n - 1 = omega arith in e) (from_last 0 n p)

pub sum_more : {A : Type 0} (f : A → ℕ) (xs : List A) (x : A) → sum_of f (xs ++ x ∷ []) ≡ sum_of f xs + f x
sum_more f [] x = omega arith
sum_more f (y ∷ ys) x = let ih = sum_more f ys x in omega arith

-- A search by key, once for parameters and ID items.
--     sought_first, sought_none   the first entry with the key is found; where none has it, none is
--     sought_keeps                what holds of every entry found and of none found, holds of what is found
--     sought_has                  what holds of every entry holds of the one that was found
use Rattle.std.specs.Prelude.{Option, None, Some}
use mathlib.Core.Path.{◌≡◌, refl, sym, ap, subst, ◌∙◌}
use mathlib.Core.Logic.{⊎_elim}
use Prim.Native.Nat.{ℕ, zero, suc, ◌+◌, ◌<◌, ◌≤◌}
use native.Mathlib.Nat.{le_refl}
use native.Mathlib.Omega.{arith}
use lib.Dec.{eqb}
use Rattle.octets.specs.Pick.{pick}
use Rattle.octets.proofs.Cases.{eq_or_ne}
use Rattle.octets.proofs.Pick.{pick_eq, pick_ne, pick_both}
use Rattle.regions.specs.Region.{listed}
use Rattle.sheet.specs.Entries.{sought}

-- what holds of every entry found and of none found, holds of what is found
pub sought_keeps : {A B : Type 0} (key : A → ℕ) (found : A → B) (missing : B) (Q : B → Type 0) (f : ℕ → A) (k m n : ℕ)
    → Q missing → ((i : ℕ) → k ≤ i → i < k + m → Q (found (f i))) → Q (sought key found missing (listed f k m) n)
unfolding sought listed
sought_keeps key found missing Q f k zero n q all = q
sought_keeps key found missing Q f k (suc m) n q all =
    pick_both Q (eqb (key (f k)) n) (all k (le_refl k) (omega arith))
    (sought_keeps key found missing Q f (suc k) m n q (λ i l u. all i (omega arith) (omega arith)))

module _ {A B : Type 0} (key : A → ℕ) (found : A → B) (missing : B) (f : ℕ → A) (n : ℕ) where
  first_at : (i m j : ℕ) → i ≤ j → j < i + m → ((k : ℕ) → i ≤ k → k < j → key (f k) ≡ n → ⊥) → key (f j) ≡ n
      → sought key found missing (listed f i m) n ≡ found (f j)
  unfolding sought listed
  first_at i zero j l u none e = absurd (let w : ⊥ = omega arith in w)
  first_at i (suc m) j l u none e =
      ⊎_elim
      (λ (z : i ≡ j). subst (λ (k : ℕ). pick (eqb (key (f i)) n) (found (f i)) (sought key found missing (listed f (suc i) m) n) ≡ found (f k)) z
      (pick_eq _ _ (subst (λ (k : ℕ). key (f k) ≡ n) (sym z) e)))
      (λ (z : i ≡ j → ⊥).
      pick_ne _ _ (none i (le_refl i) (omega arith))
      ∙ first_at (suc i) m j (omega arith) (omega arith) (λ k a b. none k (omega arith) b) e)
      (eq_or_ne i j)

  none_at : (i m : ℕ) → ((k : ℕ) → i ≤ k → k < i + m → key (f k) ≡ n → ⊥) → sought key found missing (listed f i m) n ≡ missing
  unfolding sought listed
  none_at i zero none = refl
  none_at i (suc m) none = pick_ne _ _ (none i (le_refl i) (omega arith)) ∙ none_at (suc i) m (λ k a b. none k (omega arith) (omega arith))

  pub sought_first : (m j : ℕ) (x : A) → x ≡ f j → key x ≡ n → j < m → ((k : ℕ) → k < j → key (f k) ≡ n → ⊥)
      → found x ≡ sought key found missing (listed f 0 m) n
  sought_first m j x e t u none = ap found e ∙ sym (first_at 0 m j (omega arith) (omega arith) (λ k a b. none k b) (ap key (sym e) ∙ t))

  pub sought_none : (m : ℕ) → ((k : ℕ) → k < m → key (f k) ≡ n → ⊥) → missing ≡ sought key found missing (listed f 0 m) n
  sought_none m none = sym (none_at 0 m (λ k a b. none k (omega arith)))

-- what holds of every entry holds of the one that was found
pub sought_has : {A : Type 0} (key : A → ℕ) (f : ℕ → A) (m n : ℕ) (P : A → Type 0) → ((i : ℕ) → i < m → P (f i)) → (x : A)
    → sought key Some None (listed f 0 m) n ≡ Some x → P x
sought_has {A} key f m n P all =
    sought_keeps key Some None (λ (r : Option A). (x : A) → r ≡ Some x → P x) f 0 m n
    (λ x e. absurd cc)
    (λ i l u x e. subst P (let q : f i ≡ x = cc in q) (all i (omega arith)))

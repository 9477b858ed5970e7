-- What holds of a list that is given by the index.
use mathlib.Core.Path.{◌≡◌, refl, sym, ap, ◌∙◌}
use mathlib.Core.List.{List, ◌++◌, append_assoc}
use Prim.Native.Nat.{ℕ, zero, suc, ◌+◌, ◌*◌, ◌≤◌, ◌<◌}
use native.Mathlib.Nat.{le_refl}
use native.Mathlib.Omega.{arith}
use lib.ListN.{length, drop}
use Rattle.regions.specs.Region.{listed}
use Rattle.law.specs.Words.{Every, From, InARow, joined}

-- a list given by the index
module _ {A : Type 0} (g : ℕ → A) where
  pub every_listed : (P : A → Type 0) (k m : ℕ) → ((i : ℕ) → k ≤ i → i < k + m → P (g i)) → Every P (listed g k m)
  unfolding listed
  every_listed P k zero all = tt
  every_listed P k (suc m) all = (all k (le_refl k) (omega arith), every_listed P (suc k) m (λ i l u. all i (omega arith) (omega arith)))

  pub from_listed : (R : A → A → Type 0) (k m : ℕ) → ((i : ℕ) → k ≤ i → i < k + m → R (g i) (g (suc i))) → From R (g k) (listed g (suc k) m)
  unfolding listed
  from_listed R k zero all = tt
  from_listed R k (suc m) all = (all k (le_refl k) (omega arith), from_listed R (suc k) m (λ i l u. all i (omega arith) (omega arith)))

  pub row_listed : (R : A → A → Type 0) (m : ℕ) → ((i : ℕ) → suc i < m → R (g i) (g (suc i))) → InARow R (listed g 0 m)
  unfolding listed
  row_listed R zero all = tt
  row_listed R (suc m) all = from_listed R 0 m (λ i l u. all i (omega arith))

  pub length_listed : (k m : ℕ) → length (listed g k m) ≡ m
  unfolding listed
  length_listed k zero = refl
  length_listed k (suc m) = ap suc (length_listed (suc k) m)

  pub joined_listed : (f : A → List ℕ) (s : List ℕ) (base size k m : ℕ)
      → ((i : ℕ) → k ≤ i → i < k + m → drop (base + size * i) s ≡ f (g i) ++ drop (base + size * i + size) s)
      → drop (base + size * k) s ≡ joined f (listed g k m) ++ drop (base + size * (k + m)) s
  unfolding listed
  joined_listed f s base size k zero all = ap (λ (i : ℕ). drop i s) (let e : base + size * k ≡ base + size * (k + 0) = omega arith in e)
  joined_listed f s base size k (suc m) all =
      let e₁ : base + size * k + size ≡ base + size * suc k = omega arith in
      let e₂ : base + size * (suc k + m) ≡ base + size * (k + suc m) = omega arith in
      all k (le_refl k) (omega arith)
      ∙ ap (λ (t : List ℕ). f (g k) ++ t) (ap (λ (i : ℕ). drop i s) e₁
      ∙ joined_listed f s base size (suc k) m (λ i l u. all i (omega arith) (omega arith))
      ∙ ap (λ (i : ℕ). joined f (listed g (suc k) m) ++ drop i s) e₂)
      ∙ sym (append_assoc (f (g k)) (joined f (listed g (suc k) m)) (drop (base + size * (k + suc m)) s))

  pub all_listed : (f : A → List ℕ) (s : List ℕ) (base size m : ℕ)
      → ((i : ℕ) → i < m → drop (base + size * i) s ≡ f (g i) ++ drop (base + size * i + size) s)
      → drop base s ≡ joined f (listed g 0 m) ++ drop (base + size * m) s
  all_listed f s base size m all =
      ap (λ (i : ℕ). drop i s) (let e : base ≡ base + size * 0 = omega arith in e)
      ∙ joined_listed f s base size 0 m (λ i l u. all i (omega arith))
      ∙ ap (λ (i : ℕ). joined f (listed g 0 m) ++ drop i s) (let e : base + size * (0 + m) ≡ base + size * m = omega arith in e)

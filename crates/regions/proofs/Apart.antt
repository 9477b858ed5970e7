-- Regions given by their index.
--     apart_listed     regions that rise from index to index are apart
--     apart_rises      and regions that are apart rise
--     apart_behind     so that from one that starts behind an address on, all do
--     total_more       one region more takes its own length more
use mathlib.Core.Logic.{⊎_elim}
use mathlib.Core.Path.{◌≡◌, sym, ap, ◌∙◌}
use Prim.Native.Nat.{ℕ, zero, suc, ◌+◌, ◌-◌, ◌<◌, ◌≤◌}
use native.Mathlib.Nat.{le_refl, add-zero, zero-add, add_assoc}
use native.Mathlib.Numerals.{add-one}
use native.Mathlib.Omega.{arith}
use Rattle.octets.proofs.Cases.{eq_or_ne}
use Rattle.regions.specs.Apart.{Apart}
use Rattle.regions.specs.Region.{listed}
use Rattle.regions.specs.Search.{total_of}
use Rattle.regions.specs.declared.Region.{Region}

module _ (f : ℕ → Region) where
  pub apart_listed : (k m end : ℕ)
      → ((i : ℕ) → k ≤ i → i < k + m → 1 ≤ (f i).length)
      → ((i : ℕ) → k ≤ i → suc i < k + m → (f i).start + (f i).length ≤ (f (suc i)).start)
      → (0 < m → end ≤ (f k).start)
      → Apart end (listed f k m)
  unfolding listed
  apart_listed k zero end some rise first = tt
  apart_listed k (suc m) end some rise first = (
    first (omega arith),
    some k (le_refl k) (omega arith),
    apart_listed (suc k) m ((f k).start + (f k).length)
        (λ i l u. some i (omega arith) (omega arith))
        (λ i l u. rise i (omega arith) (omega arith))
        (λ h. rise k (le_refl k) (omega arith)),
  )

  -- every region starts at or past the end that they are apart from
  starts_past : (k m end : ℕ) → Apart end (listed f k m) → (i : ℕ) → k ≤ i → i < k + m → end ≤ (f i).start
  unfolding listed
  starts_past k zero end d i l u = absurd (omega arith)
  starts_past k (suc m) end d i l u =
      ⊎_elim
      (λ (e : i ≡ k). rw e d.0)
      (λ (e : i ≡ k → ⊥).
      let t = starts_past (suc k) m ((f k).start + (f k).length) d.2 i (omega arith) (omega arith) in
      omega (arith, d.0))
      (eq_or_ne i k)

  pub apart_rises : (k m end : ℕ) → Apart end (listed f k m) → (j i : ℕ) → k ≤ j → j < i → i < k + m → (f j).start + (f j).length ≤ (f i).start
  unfolding listed
  apart_rises k zero end d j i l b u = absurd (omega arith)
  apart_rises k (suc m) end d j i l b u =
      ⊎_elim
      (λ (e : j ≡ k). rw e (starts_past (suc k) m ((f k).start + (f k).length) d.2 i (omega arith) (omega arith)))
      (λ (e : j ≡ k → ⊥). apart_rises (suc k) m ((f k).start + (f k).length) d.2 j i (omega arith) b (omega arith))
      (eq_or_ne j k)

  pub apart_behind : (n : ℕ) → Apart 0 (listed f 0 n) → (i a : ℕ) → i < n → a < (f i).start → (j : ℕ) → i ≤ j → j < i + (n - i) → a < (f j).start
  apart_behind n d i a h s j l u =
      ⊎_elim
      (λ (q : j ≡ i). rw q s)
      (λ (q : j ≡ i → ⊥). let v = apart_rises 0 n 0 d i j (omega arith) (omega arith) (omega arith) in omega arith)
      (eq_or_ne j i)

  more : (k m : ℕ) → total_of (listed f k (suc m)) ≡ total_of (listed f k m) + (f (k + m)).length
  unfolding listed total_of
  more k zero = simp (add-zero, zero-add)
  more k (suc m) =
      let ih = more (suc k) m in
      let e : suc k + m ≡ k + suc m = omega arith in
      ap (λ (x : ℕ). (f k).length + x) (ih ∙ ap (λ (i : ℕ). total_of (listed f (suc k) m) + (f i).length) e)
      ∙ sym (add_assoc (f k).length (total_of (listed f (suc k) m)) (f (k + suc m)).length)

  pub total_more : (m : ℕ) → total_of (listed f 0 (m + 1)) ≡ total_of (listed f 0 m) + (f m).length
  total_more m = rw add-one (more 0 m ∙ ap (λ (i : ℕ). total_of (listed f 0 m) + (f i).length) (zero-add m))

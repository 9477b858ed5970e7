-- The turns of the searches: what is searched from one region on is what is searched from the next on.
use mathlib.Core.Bool.{true, false}
use mathlib.Core.Path.{◌≡◌, refl, ap, ◌∙◌}
use mathlib.Core.List.{List}
use Prim.Native.Nat.{ℕ, zero, suc, ◌+◌, ◌-◌, ◌<◌, ◌≤◌}
use native.Mathlib.Nat.{le_refl}
use native.Mathlib.Omega.{arith}
use Rattle.octets.proofs.Pick.{pick_yes, pick_no}
use Rattle.regions.specs.Region.{listed, holds_of, gives_of}
use Rattle.regions.specs.Search.{At, spot_of, grants_of}
use Rattle.regions.specs.declared.Region.{Region}
use Rattle.regions.specs.declared.Right.{Right}
use Rattle.regions.proofs.Bounds.{past_misses, below_misses}
use Rattle.regions.proofs.Listed.{listed_next, listed_end, listed_whole}

module _ (f : ℕ → Region) (i n : ℕ) (r : Region) (e : r ≡ f i) (h : i < n) where
  pub spot_here : (base a : ℕ) → holds_of r a ≡ true → spot_of (listed f i (n - i)) base a ≡ At (base + (a - r.start)) r.rights
  unfolding spot_of
  spot_here base a t = rw (listed_next f i n h, ← e) (pick_yes _ _ t)

  pub spot_past : (base a : ℕ) → holds_of r a ≡ false
      → spot_of (listed f i (n - i)) base a ≡ spot_of (listed f (i + 1) (n - (i + 1))) (base + r.length) a
  unfolding spot_of
  spot_past base a t = rw (listed_next f i n h, ← e) (pick_no _ _ t)

  pub grants_here : (w : Right) (a : ℕ) → holds_of r a ≡ true → grants_of (listed f i (n - i)) w a ≡ gives_of r.rights w
  unfolding grants_of
  grants_here w a t = rw (listed_next f i n h, ← e) (pick_yes _ _ t)

  pub grants_past : (w : Right) (a : ℕ) → holds_of r a ≡ false
      → grants_of (listed f i (n - i)) w a ≡ grants_of (listed f (i + 1) (n - (i + 1))) w a
  unfolding grants_of
  grants_past w a t = rw (listed_next f i n h, ← e) (pick_no _ _ t)

module _ (f : ℕ → Region) (i n : ℕ) (h : n ≤ i) where
  pub grants_end : (w : Right) (a : ℕ) → grants_of (listed f i (n - i)) w a ≡ false
  unfolding grants_of
  grants_end w a = rw (listed_end f i n h)

-- regions that end at or before an address are passed
pub grants_from : (f : ℕ → Region) (n i : ℕ) → i ≤ n → (w : Right) (a : ℕ) → ((j : ℕ) → j < i → (f j).start + (f j).length ≤ a)
    → grants_of (listed f 0 n) w a ≡ grants_of (listed f i (n - i)) w a
grants_from f n zero h w a ends = ap (λ (rs : List Region). grants_of rs w a) (listed_whole f n)
grants_from f n (suc i) h w a ends =
    let e : i + 1 ≡ suc i = omega arith in
    grants_from f n i (omega arith) w a (λ j l. ends j (omega arith))
    ∙ grants_past f i n (f i) refl (omega arith) w a (past_misses (f i) a (ends i (omega arith)))
    ∙ ap (λ (x : ℕ). grants_of (listed f x (n - x)) w a) e

-- regions that start behind an address have it not
pub grants_none : (f : ℕ → Region) (w : Right) (a k m : ℕ) → ((j : ℕ) → k ≤ j → j < k + m → a < (f j).start) → grants_of (listed f k m) w a ≡ false
unfolding listed grants_of
grants_none f w a k zero starts = refl
grants_none f w a k (suc m) starts =
    pick_no _ _ (below_misses (f k) a (starts k (le_refl k) (omega arith)))
    ∙ grants_none f w a (suc k) m (λ j l u. starts j (omega arith) (omega arith))

-- The search of a span octet by octet, with the end of a region at hand: what stands behind it at an octet and a region.
--     kept_first                     it begins with no region, before the first
--     kept_octet                     an octet before the end at hand has the right
--     kept_region                    behind that end, a region that does not deny the octet is the next at hand
--     kept_out, kept_denied          where no region is left, or one denies the octet, as many octets come before as were passed
--     kept_ends                      where it comes to the span's end, no octet lacks the right
--     kept_within                    no more regions are passed than there are
use mathlib.Core.Bool.{true, false, true≢false}
use mathlib.Core.Logic.{⊎_elim}
use mathlib.Core.Path.{◌≡◌, sym, subst, ◌∙◌}
use Prim.Native.Nat.{ℕ, ◌+◌, ◌-◌, ◌<◌, ◌≤◌}
use native.Mathlib.Omega.{arith}
use borrow.Author.Tests.{not-true, not-false}
use Rattle.octets.proofs.Cases.{lt_or_le}
use Rattle.octets.proofs.Pick.{pick_lt, pick_ge, pick_le, pick_gt}
use Rattle.regions.specs.Apart.{Apart}
use Rattle.regions.specs.Denies.{denies_of}
use Rattle.regions.specs.Region.{listed, gives_of}
use Rattle.regions.specs.Search.{before_of}
use Rattle.regions.specs.declared.Region.{Region}
use Rattle.regions.specs.declared.Right.{Right}
use Rattle.regions.proofs.Bounds.{bounds_hold, past_misses}
use Rattle.regions.proofs.Passing.{Passing, passing_start, passing_on, passing_jump, passing_lacks, passing_ends, passing_gap}
use Rattle.regions.proofs.Turns.{grants_here, grants_end}

-- what it means that a region denies an octet, or does not
module _ (r : Region) (w : Right) (a : ℕ) where
  denied_behind : denies_of r w a ≡ true → a < r.start + r.length
  unfolding denies_of
  denied_behind t =
      ⊎_elim
      (λ (l : a < r.start + r.length). l)
      (λ (l : r.start + r.length ≤ a). absurd (true≢false (sym t ∙ pick_le _ _ l)))
      (lt_or_le a (r.start + r.length))

  denied_right : denies_of r w a ≡ true → r.start ≤ a → gives_of r.rights w ≡ false
  unfolding denies_of
  denied_right t l = not-true (gives_of r.rights w) (sym (pick_gt _ _ (denied_behind t) ∙ pick_ge _ _ l) ∙ t)

  pub spared_start : denies_of r w a ≡ false → a < r.start + r.length → r.start ≤ a
  unfolding denies_of
  spared_start t u =
      ⊎_elim
      (λ (l : a < r.start). absurd (true≢false (sym (pick_gt _ _ u ∙ pick_lt _ _ l) ∙ t)))
      (λ (l : r.start ≤ a). l)
      (lt_or_le a r.start)

  spared_right : denies_of r w a ≡ false → a < r.start + r.length → gives_of r.rights w ≡ true
  unfolding denies_of
  spared_right t u = not-false (gives_of r.rights w) (sym (pick_gt _ _ u ∙ pick_ge _ _ (spared_start t u)) ∙ t)

-- the octets from `a` up to `at`, and on to `end` if that is behind it, have the right; of the next the regions from the i-th on decide
pub record Kept (f : ℕ → Region) (n : ℕ) (w : Right) (a at end i : ℕ) : Type 0 where
  pub since : a ≤ at
  pub reached : end ≤ at → Passing f n w a at i
  pub beyond : at < end → Passing f n w a end i

module _ (f : ℕ → Region) (n : ℕ) (w : Right) (a : ℕ) where
  pub kept_first : Kept f n w a a 0 0
  kept_first = record {
    since = omega arith;
    reached = λ h. passing_start f n w a;
    beyond = λ h. absurd (omega arith);
  }

  module _ (at end i : ℕ) (k : Kept f n w a at end i) where
    pub kept_octet : at < end → Kept f n w a (at + 1) end i
    kept_octet h = record {
      since = let l = k.since in omega arith;
      reached = λ l. subst (λ (to : ℕ). Passing f n w a to i) (let e : end ≡ at + 1 = omega arith in e) (k.beyond h);
      beyond = λ l. k.beyond h;
    }

    pub kept_within : i ≤ n
    kept_within =
        ⊎_elim
        (λ (l : at < end). (k.beyond l).within)
        (λ (l : end ≤ at). (k.reached l).within)
        (lt_or_le at end)

    pub kept_ends : (size : ℕ) → a + size ≤ at → size ≡ before_of (listed f 0 n) w a size
    kept_ends size h =
        ⊎_elim
        (λ (l : at < end). passing_ends f n w a end i (k.beyond l) size (omega arith))
        (λ (l : end ≤ at). passing_ends f n w a at i (k.reached l) size h)
        (lt_or_le at end)

    module _ (past : end ≤ at) where
      pub kept_out : n ≤ i → (size : ℕ) → at < a + size → at - a ≡ before_of (listed f 0 n) w a size
      kept_out h size u = passing_lacks f n w a at i (k.reached past) size u (grants_end f i n h w at)

      module _ (h : i < n) (r : Region) (e : r ≡ f i) (d : Apart 0 (listed f 0 n)) where
        pub kept_region : denies_of r w at ≡ false → Kept f n w a at (r.start + r.length) (i + 1)
        kept_region t = record {
          since = k.since;
          reached = λ l. passing_on f n w a at i (k.reached past) h r e (past_misses r at l);
          beyond = λ l. passing_jump f n w a at i (k.reached past) h r e d (bounds_hold r at (spared_start r w at t l) l) (spared_right r w at t l);
        }

        pub kept_denied : denies_of r w at ≡ true → (size : ℕ) → at < a + size → at - a ≡ before_of (listed f 0 n) w a size
        kept_denied t size u =
            passing_lacks f n w a at i (k.reached past) size u
            (⊎_elim
            (λ (l : at < r.start). passing_gap f n d a at i h r e w l)
            (λ (l : r.start ≤ at). grants_here f i n r e h w at (bounds_hold r at l (denied_behind r w at t)) ∙ denied_right r w at t l)
            (lt_or_le at r.start))

-- The search of a span octet by octet, with the memory that the regions passed take: what stands behind the place of the span's first octet.
--     placed_first     it begins with no region, before the first
--     placed_octet     an octet before the end at hand moves nothing
--     placed_region    behind that end, a region that does not deny the octet is the next at hand
--     placed_found     where an octet was passed, the first is in the memory as far before the end of the regions passed as it is before their last end
--     reach_short, reach_none, reach_all   what is told where the search broke off, or had nothing to search, and where it came to the end
use mathlib.Core.Bool.{false}
use mathlib.Core.Logic.{◌⊎◌, ⊎_elim}
use mathlib.Core.Path.{◌≡◌, refl, sym, ap, subst, ◌∙◌}
use mathlib.Core.List.{List}
use Prim.Native.Nat.{ℕ, ◌+◌, ◌-◌, ◌*◌, ◌<◌, ◌≤◌}
use native.Mathlib.Omega.{arith}
use lib.Dec.{eqb}
use Rattle.octets.specs.Pick.{pick}
use Rattle.octets.proofs.Cases.{lt_or_le}
use Rattle.octets.proofs.Pick.{pick_eq, pick_ne, pick_both}
use Rattle.regions.specs.Apart.{Apart}
use Rattle.regions.specs.Denies.{denies_of}
use Rattle.regions.specs.Region.{listed}
use Rattle.regions.specs.Search.{spot_of, place_in, before_of, span_place, reach_of}
use Rattle.regions.specs.declared.Region.{Region}
use Rattle.regions.specs.declared.Right.{Right}
use Rattle.regions.specs.declared.search.Reach.{Reach}
use Rattle.regions.proofs.Apart.{apart_rises}
use Rattle.regions.proofs.Bounds.{bounds_hold, past_misses}
use Rattle.regions.proofs.Kept.{spared_start}
use Rattle.regions.proofs.Listed.{listed_whole}
use Rattle.regions.proofs.Places.{Stands}
use Rattle.regions.proofs.Turns.{spot_here, spot_past}

-- i regions are passed, which take `base` octets of memory, no more than there are addresses before the end of the last, `end`; the first octet, at `a`, is behind it and the other regions decide, or
-- before it and found, with no gap between the two
pub record Placed (f : ℕ → Region) (n a at end base i : ℕ) : Type 0 where
  pub small : base ≤ 4294967296 * i
  pub dense : base ≤ end
  pub rises : (j : ℕ) → i ≤ j → j < n → end ≤ (f j).start
  pub met : a < at → a < end
  pub close : a < end → at ≤ end
  pub unfound : end ≤ a → spot_of (listed f 0 n) 0 a ≡ spot_of (listed f i (n - i)) base a
  pub found : a < end → (p : ℕ) × Stands (listed f 0 n) 0 a p × (p + end ≡ base + a)

module _ (f : ℕ → Region) (n a : ℕ) where
  pub placed_first : Placed f n a a 0 0 0
  placed_first = record {
    small = omega arith;
    dense = omega arith;
    rises = λ j l u. omega arith;
    met = λ h. absurd (omega arith);
    close = λ h. absurd (omega arith);
    unfound = λ h. ap (λ (rs : List Region). spot_of rs 0 a) (listed_whole f n);
    found = λ h. absurd (omega arith);
  }

  module _ (at end base i : ℕ) (since : a ≤ at) (k : Placed f n a at end base i) where
    pub placed_octet : at < end → Placed f n a (at + 1) end base i
    placed_octet h = record {
      small = k.small;
      dense = k.dense;
      rises = k.rises;
      met = λ l. omega arith;
      close = λ l. omega arith;
      unfound = k.unfound;
      found = k.found;
    }

    module _ (past : end ≤ at) (h : i < n) (r : Region) (e : r ≡ f i) (d : Apart 0 (listed f 0 n)) (w : Right) (t : denies_of r w at ≡ false) where
      starts : end ≤ r.start
      starts = subst (λ (q : Region). end ≤ q.start) (sym e) (k.rises i (omega arith) h)

      -- the first octet is searched yet, and this region has it
      here : end ≤ a → a < r.start + r.length → (p : ℕ) × Stands (listed f 0 n) 0 a p × (p + (r.start + r.length) ≡ base + r.length + a)
      here l u =
          let same : at ≡ a = ⊎_elim (λ (v : a < at). absurd (let m = k.met v in omega arith)) (λ (v : at ≤ a). let z : at ≡ a = omega arith in z) (lt_or_le a at) in
          let s : r.start ≤ at = spared_start r w at t (omega arith) in
          (base + (a - r.start), (r.rights, k.unfound l ∙ spot_here f i n r e h base a (bounds_hold r a (omega arith) u)), omega arith)

      -- it was found, and this region goes on where the last ended
      on : a < end → r.start ≡ end
      on l =
          let s = starts in
          let c = k.close l in
          ⊎_elim
          (λ (u : at < r.start + r.length). let v = spared_start r w at t u in let z : r.start ≡ end = omega arith in z)
          (λ (u : r.start + r.length ≤ at). let z : r.start ≡ end = omega arith in z)
          (lt_or_le at (r.start + r.length))

      pub placed_region : r.length < 4294967296 → Placed f n a at (r.start + r.length) (base + r.length) (i + 1)
      placed_region few = record {
        small = omega (arith, k.small);
        dense = omega (arith, k.dense, starts);
        rises = λ j l u. subst (λ (q : Region). q.start + q.length ≤ (f j).start) (sym e) (apart_rises f 0 n 0 d i j (omega arith) (omega arith) (omega arith));
        met = λ l. let m = k.met l in let s = starts in omega arith;
        close = λ l.
            ⊎_elim
            (λ (v : a < end). let c = k.close v in let s = starts in omega arith)
            (λ (v : end ≤ a). ⊎_elim (λ (q : a < at). let m = k.met q in omega arith) (λ (q : at ≤ a). omega arith) (lt_or_le a at))
            (lt_or_le a end);
        unfound = λ l. let s = starts in k.unfound (omega arith) ∙ spot_past f i n r e h base a (past_misses r a l);
        found = λ l.
            ⊎_elim
            (λ (v : a < end).
            let g = k.found v in
            let s = on v in
            (g.0, g.1, omega (arith, g.2)))
            (λ (v : end ≤ a). here v l)
            (lt_or_le a end);
      }

    pub placed_found : a < at → (end ≤ base + a) × (base + a - end ≡ place_in (spot_of (listed f 0 n) 0 a))
    unfolding place_in
    placed_found h =
        let g = k.found (k.met h) in
        let q : base + a - end ≡ g.0 = omega (arith, g.2) in
        (omega (arith, g.2), q ∙ sym (ap place_in g.1.1))

module _ (rs : List Region) (w : Right) (a n : ℕ) where
  -- a search that broke off tells no place
  pub reach_short : (b : ℕ) → b ≡ before_of rs w a n → (b ≡ n → ⊥) → ◌≡◌ {A = Reach} record { before = b; place = 0 } (reach_of rs w a n)
  unfolding reach_of
  reach_short b e z = let p = sym (pick_ne (span_place rs a n) 0 (λ (q : before_of rs w a n ≡ n). z (e ∙ q))) in λ i. record { before = e i; place = p i }

  -- a search that broke off, or had no octet to search, tells no place
  pub reach_none : (b : ℕ) → b ≡ before_of rs w a n → (b < n) ⊎ (n ≡ 0) → ◌≡◌ {A = Reach} record { before = b; place = 0 } (reach_of rs w a n)
  unfolding reach_of
  reach_none b e none =
      let p : 0 ≡ pick (eqb (before_of rs w a n) n) (span_place rs a n) 0 =
      ⊎_elim
      (λ (h : b < n). sym (pick_ne _ _ (λ (q : before_of rs w a n ≡ n). omega arith)))
      (λ (z : n ≡ 0). pick_both (λ (x : ℕ). 0 ≡ x) _ (sym (pick_eq _ _ z)) refl)
      none in
      λ i. record { before = e i; place = p i }

  pub reach_all : (b place : ℕ) → b ≡ before_of rs w a n → b ≡ n → 1 ≤ b → place ≡ place_in (spot_of rs 0 a)
      → ◌≡◌ {A = Reach} record { before = b; place = place } (reach_of rs w a n)
  unfolding reach_of
  reach_all b place e all some q =
      let p = q ∙ sym (pick_eq (span_place rs a n) 0 (sym e ∙ all) ∙ pick_ne 0 (place_in (spot_of rs 0 a)) (λ (z : n ≡ 0). omega arith)) in
      λ i. record { before = e i; place = p i }

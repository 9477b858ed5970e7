-- The search of a span over regions that are ordered and apart: what stands behind it at an address and a region.
--     passing_start    it begins before all regions
--     passing_jump     a region that has the octet and gives the right is passed to its end
--     passing_on       a region that has the octet not is passed
--     passing_mapped   a region that has the octet is passed to its end, where any region will do
--     passing_ends     where it comes to the span's end, no octet lacks the right
--     passing_lacks    where it stops before, as many octets come before as were passed
--     passing_gap      no region from one that starts behind the octet on has it
--     passing_whole, passing_short   whether the span lies wholly in regions: where its end is reached, and where the octet has none
use mathlib.Core.Bool.{true, false}
use mathlib.Core.Logic.{⊎_elim}
use mathlib.Core.Path.{◌≡◌, refl, sym, ap, subst, ◌∙◌}
use Prim.Native.Nat.{ℕ, ◌+◌, ◌-◌, ◌<◌, ◌≤◌}
use native.Mathlib.Omega.{arith}
use borrow.Author.Tests.{le-leb, lt-leb, eq-eqb, ne_eqb}
use lib.Dec.{leb}
use Rattle.octets.proofs.Cases.{lt_or_le, eq_or_ne}
use Rattle.regions.specs.Apart.{Apart}
use Rattle.regions.specs.Region.{listed, holds_of, gives_of}
use Rattle.regions.specs.Search.{grants_of, before_of, span_has}
use Rattle.regions.specs.declared.Region.{Region}
use Rattle.regions.specs.declared.Right.{Right}
use Rattle.regions.specs.declared.Right.TheVariants.{Mapped}
use Rattle.regions.proofs.Apart.{apart_rises, apart_behind}
use Rattle.regions.proofs.Bounds.{holds_bounds, bounds_hold}
use Rattle.regions.proofs.Spans.{before_all, before_at}
use Rattle.regions.proofs.Turns.{grants_here, grants_past, grants_from, grants_none}

-- the octets from `a` up to `to` have the right, and of the octet at `to` the regions from the i-th on decide
pub record Passing (f : ℕ → Region) (n : ℕ) (w : Right) (a to i : ℕ) : Type 0 where
  pub from : a ≤ to
  pub within : i ≤ n
  pub granted : (x : ℕ) → a ≤ x → x < to → grants_of (listed f 0 n) w x ≡ true
  pub decides : grants_of (listed f 0 n) w to ≡ grants_of (listed f i (n - i)) w to

module _ (f : ℕ → Region) (n : ℕ) (w : Right) (a : ℕ) where
  pub passing_start : Passing f n w a a 0
  passing_start = record {
    from = omega arith;
    within = omega arith;
    granted = λ x l u. absurd (omega arith);
    decides = grants_from f n 0 (omega arith) w a (λ j l. absurd (omega arith));
  }

  module _ (to i : ℕ) (p : Passing f n w a to i) where
    module _ (h : i < n) (r : Region) (e : r ≡ f i) where
      pub passing_on : holds_of r to ≡ false → Passing f n w a to (i + 1)
      passing_on t = record {
        from = p.from;
        within = omega arith;
        granted = p.granted;
        decides = p.decides ∙ grants_past f i n r e h w to t;
      }

      pub passing_jump : Apart 0 (listed f 0 n) → holds_of r to ≡ true → gives_of r.rights w ≡ true → Passing f n w a (r.start + r.length) (i + 1)
      passing_jump d t g = record {
        from = let b = holds_bounds r to t in omega (arith, p.from);
        within = omega arith;
        granted = λ x l u.
            ⊎_elim
            (λ (k : x < to). p.granted x l k)
            (λ (k : to ≤ x).
            grants_from f n i (omega arith) w x (behind x k) ∙ grants_here f i n r e h w x (let b = holds_bounds r to t in bounds_hold r x (omega arith) u) ∙ g)
            (lt_or_le x to);
        decides = grants_from f n (i + 1) (omega arith) w (r.start + r.length) all_behind;
      }
        where
          start : (f i).start ≤ to
          start = subst (λ (q : Region). q.start ≤ to) e (holds_bounds r to t).0

          behind : (x : ℕ) → to ≤ x → (j : ℕ) → j < i → (f j).start + (f j).length ≤ x
          behind x k j l =
              let s = start in
              let u = apart_rises f 0 n 0 d j i (omega arith) l (omega arith) in
              omega arith

          all_behind : (j : ℕ) → j < i + 1 → (f j).start + (f j).length ≤ r.start + r.length
          all_behind j l =
              ⊎_elim
              (λ (q : j ≡ i). rw (q, e) (omega arith))
              (λ (q : j ≡ i → ⊥).
              let b = holds_bounds r to t in
              let u = behind to (omega arith) j (omega arith) in
              omega arith)
              (eq_or_ne j i)

    module _ (size : ℕ) where
      pub passing_lacks : to < a + size → grants_of (listed f i (n - i)) w to ≡ false → to - a ≡ before_of (listed f 0 n) w a size
      passing_lacks h lacks =
          let l = p.from in
          let e : to ≡ a + (to - a) = omega arith in
          sym (before_at (listed f 0 n) w a size (to - a) (omega arith) (λ x k u. p.granted x k (omega arith))
          (ap (grants_of (listed f 0 n) w) (sym e) ∙ p.decides ∙ lacks))

      pub passing_ends : a + size ≤ to → size ≡ before_of (listed f 0 n) w a size
      passing_ends h = sym (before_all (listed f 0 n) w a size (λ x l u. p.granted x l (omega arith)))

      pub passing_whole : a + size ≤ to → leb (a + size) to ≡ span_has (listed f 0 n) w a size
      passing_whole h = le-leb (a + size) to h ∙ sym (eq-eqb _ size (before_all (listed f 0 n) w a size (λ x l u. p.granted x l (omega arith))))

      pub passing_short : grants_of (listed f i (n - i)) w to ≡ false → leb (a + size) to ≡ span_has (listed f 0 n) w a size
      passing_short lacks =
          ⊎_elim
          (λ (h : to < a + size).
          let l = p.from in
          let b = passing_lacks h lacks in
          lt-leb (a + size) to h ∙ sym (ne_eqb _ size (λ e. omega arith)))
          (λ (h : a + size ≤ to). passing_whole h)
          (lt_or_le to (a + size))

module _ (f : ℕ → Region) (n : ℕ) (d : Apart 0 (listed f 0 n)) (a to i : ℕ) (h : i < n) (r : Region) (e : r ≡ f i) where
  pub passing_mapped : Passing f n Mapped a to i → (end : ℕ) → end ≡ r.start + r.length → r.start ≤ to → to < end → Passing f n Mapped a end (i + 1)
  unfolding gives_of
  passing_mapped p end q l u = rw q (passing_jump f n Mapped a to i p h r e d (bounds_hold r to l (omega arith)) refl)

  pub passing_gap : (w : Right) → to < r.start → grants_of (listed f i (n - i)) w to ≡ false
  passing_gap w l = grants_none f w to i (n - i) (apart_behind f n d i to h (subst (λ (q : Region). to < q.start) e l))

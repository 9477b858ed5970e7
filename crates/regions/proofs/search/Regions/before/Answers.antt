-- `Regions::before` meets its contract. Outside and inside the same stands behind the search (Kept) and behind the first octet's place (Placed);
-- inside the octet stays.
use Prim.Native.Nat.{ℕ, ◌+◌, ◌-◌, ◌≤◌}
use mathlib.Core.List.{List}
use mathlib.Core.Logic.{inl, inr}
use mathlib.Core.Path.{◌≡◌, sym, ap, ◌∙◌}
use native.Mathlib.Omega.{arith}
use Rattle.regions.specs.Region.{region_from, region_at, regions_of}
use Rattle.regions.specs.Search.{before_of}
use Rattle.regions.specs.declared.Right.{Right}
use Rattle.regions.proofs.Kept.{kept_octet, kept_region, kept_within, kept_out, kept_denied, kept_ends}
use Rattle.regions.proofs.Placed.{Placed, placed_octet, placed_region, placed_found, reach_none, reach_all}
use Rattle.regions.proofs.search.Regions.before.Goals as goal
use Rattle.regions.proofs.search.Regions.before.Goals.{Left-octets, else-octets-test, then-octets-test+then-loop-end-test+then-last-place, then-octets-test+then-loop-end-test+else-last-place+then-denies}

pub loop-end-preserved : goal.loop-end-preserved
loop-end-preserved c =
    let a = c.args in
    let s = a.self.now in
    let o = c.octets in
    let l = c.loop-end in
    let r = c.region_in-region in
    let f = region_at s.sheet.now in
    let k = l.invariant in
    let past : l.end ≤ o.at = omega (arith, k.kept.since, c.loop-end-test.true) in
    let h : k.i + 1 ≤ s.count = omega (arith, c.if-last-place.false) in
    let e = r.ensures ∙ ap (region_from s.sheet.now) k.stands in
    let t = sym c.denies.ensures ∙ c.if-denies.false in
    record {
      i = k.i + 1;
      stands = omega arith;
      kept = rw c.end-end.ensures (kept_region f s.count a.right a.address o.at l.end k.i k.kept past (omega arith) r.result e s.laid.apart t);
      placed = rw c.end-end.ensures (placed_region f s.count a.address o.at l.end l.base k.i k.kept.since k.placed past (omega arith) r.result e s.laid.apart a.right t (omega arith));
    }

-- it stands so that a wrong test of the inner loop is refused by what fails (must-fail/first_octet_only)
pub octets-preserved : goal.octets-preserved
octets-preserved c =
    let a = c.args in
    let s = a.self.now in
    let o = c.octets in
    let l = c.loop-end in
    let f = region_at s.sheet.now in
    let k = l.invariant in (
      omega arith,
      record {
        i = k.i;
        stands = k.stands;
        kept = kept_octet f s.count a.right a.address o.at l.end k.i k.kept (omega arith);
        placed = placed_octet f s.count a.address o.at l.end l.base k.i k.kept.since k.placed (omega arith);
      },
    )

-- behind the loops: as many octets come before as were passed, and the first's place is known
record Stopped (s : List ℕ) (n : ℕ) (w : Right) (a size at end base : ℕ) : Type 0 where
  i : ℕ
  within : i ≤ n
  told : at - a ≡ before_of (regions_of s n) w a size
  placed : Placed (region_at s) n a at end base i

-- the span's end is reached, no region is left, or a region denies the octet
stopped : (c : Left-octets) → let a = c.args in Stopped a.self.now.sheet.now a.self.now.count a.right a.address a.size c.octets.at c.octets-test.end c.octets-test.base
stopped c =
    let a = c.args in
    let s = a.self.now in
    let f = region_at s.sheet.now in
    let o = c.octets in
    elim c.octets-test.branch [
      | else-octets-test w ↦
          let most = o.invariant.0 in
          let k = o.invariant.1 in
          let e : o.at - a.address ≡ a.size = omega (arith, w.octets-test.false) in
          rw (w.end-is, w.base-is)
          record {
            i = k.i;
            within = kept_within f s.count a.right a.address o.at o.end k.i k.kept;
            told = e ∙ kept_ends f s.count a.right a.address o.at o.end k.i k.kept a.size w.octets-test.false;
            placed = k.placed;
          }
      | then-octets-test+then-loop-end-test+then-last-place w ↦
          let e = w.loop-end in
          let k = e.invariant in
          rw (w.end-is, w.base-is)
          record {
            i = k.i;
            within = kept_within f s.count a.right a.address o.at e.end k.i k.kept;
            told = kept_out f s.count a.right a.address o.at e.end k.i k.kept (omega (arith, k.kept.since, w.loop-end-test.true)) (omega (arith, k.stands, w.if-last-place.true)) a.size
                w.octets-test.true;
            placed = k.placed;
          }
      | then-octets-test+then-loop-end-test+else-last-place+then-denies w ↦
          let e = w.loop-end in
          let k = e.invariant in
          let r = w.region_in-region in
          rw (w.end-is, w.base-is)
          record {
            i = k.i;
            within = kept_within f s.count a.right a.address o.at e.end k.i k.kept;
            told = kept_denied f s.count a.right a.address o.at e.end k.i k.kept (omega (arith, k.kept.since, w.loop-end-test.true)) (omega (arith, k.stands, w.if-last-place.false))
                r.result (r.ensures ∙ ap (region_from s.sheet.now) k.stands) s.laid.apart (sym w.denies.ensures ∙ w.if-denies.true) a.size w.octets-test.true;
            placed = k.placed;
          }
    ]

pub returns-then-at-stop : goal.returns-then-at-stop
returns-then-at-stop c =
    let a = c.args in
    let s = a.self.now in
    let l = c.octets.invariant.1.kept.since in
    reach_none (regions_of s.sheet.now s.count) a.right a.address a.size _ (stopped (goal.at.returns-then-at-stop c).Left-octets).told (inl (omega arith))

pub returns-then-at-first : goal.returns-then-at-first
returns-then-at-first c =
    let a = c.args in
    let s = a.self.now in
    let most = c.octets.invariant.0 in
    let none : 0 ≡ c.octets.at - a.address = omega arith in
    reach_none (regions_of s.sheet.now s.count) a.right a.address a.size 0 (none ∙ (stopped (goal.at.returns-then-at-first c).Left-octets).told) (inr (omega arith))

pub returns : goal.returns
returns c =
    let a = c.args in
    let s = a.self.now in
    let o = c.octets in
    let k = stopped (goal.at.returns c).Left-octets in
    let l = o.invariant.1.kept.since in
    let most = o.invariant.0 in
    let some : 1 ≤ o.at - a.address = omega arith in
    reach_all (regions_of s.sheet.now s.count) a.right a.address a.size _ _ k.told
    (let all : o.at - a.address ≡ a.size = omega (arith, c.if-at-stop.false) in all)
    some (placed_found (region_at s.sheet.now) s.count a.address o.at c.octets-test.end c.octets-test.base k.i l k.placed (omega arith)).1

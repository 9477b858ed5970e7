-- The bench cases compute from the law's tables.
use mathlib.Core.Logic.{inl, inr}
use mathlib.Core.Path.{refl}
use mathlib.Core.List.{[], ◌∷◌}
use Prim.Native.Nat.{ℕ, ◌+◌, ◌≤◌, ◌<◌}
use native.Mathlib.Omega.{arith}
use Rattle.law.specs.Words.{when, laid, over_from}
use Rattle.law.specs.Sheet.{WellFormed}
use Rattle.law.specs.Faults.{nothing, records}
use Rattle.law.specs.State.{valid_state}
use Rattle.law.specs.Memory.{stored, held_at, held, has, has_all, has_before}
use Rattle.law.specs.Table.{parameter_of, item_of}
use Rattle.law.specs.Exchange.{refused, checked, judged, fate_of, watched, state_after, reply_for}
use Rattle.law.specs.Calls.{exchange}
use Rattle.demands.specs.LawBench.{law_p, BenchByLaw}

pub p_good : WellFormed law_p
p_good = record {
  l = inr (inl refl);
  version = omega arith;
  profile = omega arith;
  regions = (omega arith, (omega arith, tt));
  parameters = (
    record {
      number = omega arith;
      address = omega arith;
      least = omega arith;
      most = omega arith;
      spans = λ (a : ℕ) (l : 0x1002 ≤ a) (u : a < 0x1002 + 2). inl (omega arith, omega arith);
    },
    tt,
  );
  items = tt;
  apart = (omega arith, tt);
  numbers_rise = tt;
  codes_rise = tt;
  few_regions = (omega arith, omega arith);
  few_parameters = omega arith;
  few_items = omega arith;
  tolerances = tt;
  once = omega arith;
  releases = tt;
  picked_once = omega arith;
}

pub bench_by_law : BenchByLaw
unfolding when laid over_from stored held_at held has has_all has_before parameter_of item_of refused checked judged fate_of watched state_after reply_for valid_state exchange
bench_by_law = (
  inl (law_p, p_good, refl, refl),
  (
    inl (law_p, p_good, refl, refl),
    (
      inl (law_p, p_good, refl, refl),
      (
        inl (law_p, p_good, refl, refl),
        (
          inl (law_p, p_good, refl, refl),
          (
            inl (law_p, p_good, refl, refl),
            (
              inl (law_p, p_good, refl, refl),
              (
                inl (law_p, p_good, refl, refl),
                (
                  inl (law_p, p_good, refl, refl),
                  (
                    inl (law_p, p_good, refl, refl),
                    (
                      inl (law_p, p_good, refl, refl),
                      (
                        inl (law_p, p_good, refl, refl),
                        (
                          inl (law_p, p_good, refl, refl),
                          -- an empty sheet: before an end record, and before any record
                          (
                            inr (11, 0, inr (omega arith, record { sofar = nothing; good = tt; rest = []; split = refl; which = inl (refl, inl (λ (q : 1 ≤ 0). omega arith, refl)) }), refl),
                            -- P's records, and no end record
                            (
                              inr (11, 32, inr (omega arith, record { sofar = records law_p; good = p_good; rest = []; split = refl; which = inl (refl, inl (λ (q : 1 ≤ 0). omega arith, refl)) }), refl),
                              -- P and one octet more: it stands behind the end record
                              (
                                inr (13, 33, inr (omega arith, record { sofar = records law_p; good = p_good; rest = 0 ∷ 0 ∷ []; split = refl; which = inr ((refl, omega arith), refl, refl) }), refl),
                                tt,
                              ),
                            ),
                          ),
                        ),
                      ),
                    ),
                  ),
                ),
              ),
            ),
          ),
        ),
      ),
    ),
  ),
)

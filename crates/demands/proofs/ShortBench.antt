-- The short type's cases compute from the law's tables, and are so what the machine's exchange leaves.
use mathlib.Core.Logic.{inl, inr, ⊎_elim}
use mathlib.Core.Path.{◌≡◌, refl}
use mathlib.Core.List.{[], ◌∷◌}
use Prim.Native.Nat.{ℕ, ◌+◌, ◌≤◌, ◌<◌}
use native.Mathlib.Omega.{arith}
use Rattle.octets.proofs.Cases.{lt_or_le}
use Rattle.law.specs.Words.{when, laid, over_from}
use Rattle.law.specs.Sheet.{PduType, enhanced, short, Sheet, WellFormed, GoodLength, link_kind}
use Rattle.law.specs.Faults.{nothing, records}
use Rattle.law.specs.State.{valid_state}
use Rattle.law.specs.Memory.{stored, held_at, held, has, has_all, has_before}
use Rattle.law.specs.Table.{parameter_of, item_of}
use Rattle.law.specs.Exchange.{refused, checked, judged, fate_of, watched, state_after, reply_for}
use Rattle.law.specs.Calls.{exchange}
use Rattle.demands.specs.ShortBench.{law_s}
use Rattle.demands.specs.ShortRefused.{other_length_case, length_eight_case, short_cases, ShortCases, ShortByLaw}
use Rattle.demands.proofs.Bench.{each}

s_good : WellFormed law_s
s_good = record {
  l = refl;
  version = omega arith;
  profile = omega arith;
  regions = (omega arith, (omega arith, (omega arith, tt)));
  parameters = (record { number = omega arith; address = omega arith; least = omega arith; most = omega arith; spans = λ (a : ℕ) (l : 0x1002 ≤ a) (u : a < 0x1002 + 2). inl (omega arith, omega arith) }, (record { number = omega arith; address = omega arith; least = omega arith; most = omega arith; spans = λ (a : ℕ) (l : 0x1004 ≤ a) (u : a < 0x1004 + 2). inr (inl (omega arith, omega arith)) }, (record { number = omega arith; address = omega arith; least = omega arith; most = omega arith; spans = λ (a : ℕ) (l : 0x2000 ≤ a) (u : a < 0x2000 + 9). inr (inr (inl (omega arith, omega arith))) }, (record { number = omega arith; address = omega arith; least = omega arith; most = omega arith; spans = λ (a : ℕ) (l : 0x2000 ≤ a) (u : a < 0x2000 + 8). inr (inr (inl (omega arith, omega arith))) }, (record { number = omega arith; address = omega arith; least = omega arith; most = omega arith; spans = λ (a : ℕ) (l : 0x1003 ≤ a) (u : a < 0x1003 + 2). ⊎_elim (λ (f : a < 0x1004). inl (omega arith, omega arith)) (λ (f : 0x1004 ≤ a). inr (inl (omega arith, omega arith))) (lt_or_le a 0x1004) }, tt)))));
  items = (record { code = omega arith; least = omega arith; most = omega arith; all32 = refl; octets = omega arith; zeros = (refl, (refl, (refl, (refl, (refl, (refl, (refl, (refl, (refl, (refl, (refl, (refl, (refl, (refl, (refl, (refl, (refl, (refl, (refl, (refl, (refl, (refl, (refl, (refl, (refl, (refl, (refl, (refl, tt)))))))))))))))))))))))))))) }, (record { code = omega arith; least = omega arith; most = omega arith; all32 = refl; octets = omega arith; zeros = (refl, (refl, (refl, (refl, (refl, (refl, (refl, (refl, (refl, (refl, (refl, (refl, (refl, (refl, (refl, (refl, (refl, (refl, (refl, (refl, (refl, (refl, (refl, tt))))))))))))))))))))))) }, tt));
  apart = (omega arith, (omega arith, tt));
  numbers_rise = (omega arith, (omega arith, (omega arith, (omega arith, tt))));
  codes_rise = (omega arith, tt);
  few_regions = (omega arith, omega arith);
  few_parameters = omega arith;
  few_items = omega arith;
  tolerances = (omega arith, tt);
  once = omega arith;
  releases = tt;
  picked_once = omega arith;
}

-- a sheet of its link record alone
abbrev linked : PduType → Sheet
linked pdu = record { pdu = pdu; l = 16; version = 0x30; profile = 0; regions = []; parameters = []; items = []; tolerances = []; releases = [] }

linked_good : (pdu : PduType) → GoodLength pdu 16 → WellFormed (linked pdu)
linked_good pdu good = record {
  l = good;
  version = omega arith;
  profile = omega arith;
  regions = tt;
  parameters = tt;
  items = tt;
  apart = tt;
  numbers_rise = tt;
  codes_rise = tt;
  few_regions = (omega arith, omega arith);
  few_parameters = omega arith;
  few_items = omega arith;
  tolerances = tt;
  once = omega arith;
  releases = tt;
  picked_once = omega arith;
}

-- no type has another length under kind 05
no_length : (l : ℕ) → (l ≡ 16 → ⊥) → (t : PduType) × (5 ≡ link_kind t) × GoodLength t l → ⊥
no_length l z (enhanced, kind, good) = omega arith
no_length l z (short, kind, good) = z good

pub short_by_law : ShortByLaw
unfolding when laid over_from stored held_at held has has_all has_before parameter_of item_of refused checked judged fate_of watched state_after reply_for valid_state exchange
short_by_law = (inl (law_s, s_good, refl, refl), (inl (law_s, s_good, refl, refl), (inl (law_s, s_good, refl, refl), (inl (law_s, s_good, refl, refl), (inl (law_s, s_good, refl, refl), (inl (law_s, s_good, refl, refl), (inl (law_s, s_good, refl, refl), (inl (law_s, s_good, refl, refl), (inl (law_s, s_good, refl, refl), (inl (law_s, s_good, refl, refl), (inl (law_s, s_good, refl, refl), (inl (law_s, s_good, refl, refl), (inl (law_s, s_good, refl, refl), (inl (law_s, s_good, refl, refl), (inl (law_s, s_good, refl, refl), (inl (law_s, s_good, refl, refl), (inl (law_s, s_good, refl, refl), (inl (law_s, s_good, refl, refl), (inl (law_s, s_good, refl, refl), (inl (law_s, s_good, refl, refl), (inl (law_s, s_good, refl, refl), (inl (law_s, s_good, refl, refl), (inl (law_s, s_good, refl, refl), (inl (law_s, s_good, refl, refl), (inl (law_s, s_good, refl, refl), (inl (law_s, s_good, refl, refl), (inl (law_s, s_good, refl, refl), (inl (law_s, s_good, refl, refl), (inl (law_s, s_good, refl, refl), (inl (law_s, s_good, refl, refl), (inl (law_s, s_good, refl, refl), (inl (law_s, s_good, refl, refl), (inl (law_s, s_good, refl, refl), (inr (14, 0, inr (omega arith, record { sofar = nothing; good = tt; rest = other_length_case.sheet; split = refl; which = inl (refl, inr (omega arith, inr (omega arith, inr ((short, refl), inr (omega arith, inl (no_length 0x20 (λ e. omega arith), refl)))))) }), refl), (inr (14, 0, inr (omega arith, record { sofar = nothing; good = tt; rest = length_eight_case.sheet; split = refl; which = inl (refl, inr (omega arith, inr (omega arith, inr ((short, refl), inr (omega arith, inl (no_length 0x08 (λ e. omega arith), refl)))))) }), refl), (inr (13, 4, inr (omega arith, record { sofar = records (linked short); good = linked_good short refl; rest = 0x01 ∷ 0x10 ∷ 0x30 ∷ 0x00 ∷ 0x00 ∷ []; split = refl; which = inl (refl, inr (omega arith, inr (omega arith, inl (λ q. q.0 enhanced refl, refl)))) }), refl), (inr (13, 4, inr (omega arith, record { sofar = records (linked enhanced); good = linked_good enhanced (inr (inl refl)); rest = 0x05 ∷ 0x10 ∷ 0x30 ∷ 0x00 ∷ 0x00 ∷ []; split = refl; which = inl (refl, inr (omega arith, inr (omega arith, inl (λ q. q.0 short refl, refl)))) }), refl), (inr (13, 4, inr (omega arith, record { sofar = records (linked short); good = linked_good short refl; rest = 0x05 ∷ 0x10 ∷ 0x30 ∷ 0x00 ∷ 0x00 ∷ []; split = refl; which = inl (refl, inr (omega arith, inr (omega arith, inl (λ q. q.0 short refl, refl)))) }), refl), tt))))))))))))))))))))))))))))))))))))))

pub short_cases_lem : ShortCases
short_cases_lem = each short_cases refl short_by_law

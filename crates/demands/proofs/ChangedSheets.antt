-- The sheets of request 2's cases of our own are well formed.
use mathlib.Core.List.{List, ◌∷◌}
use mathlib.Core.Logic.{inl, inr}
use mathlib.Core.Path.{◌≡◌, refl}
use Prim.Native.Nat.{ℕ, ◌+◌, ◌≤◌, ◌<◌}
use native.Mathlib.Omega.{arith}
use lib.ListN.{length, drop}
use Rattle.law.specs.Words.{Every}
use Rattle.law.specs.Sheet.{Region, Item, IsOctet, GoodParameter, GoodItem, WellFormed}
use Rattle.demands.specs.ChangedShown.{parameter, sheet_a, sheet_b, sheet_c, sheet_d, sheet_e, sheet_f}

-- every parameter of them lies in the first region
in_first : {r : Region} {rs : List Region} {number address size : ℕ}
    → (number < 65536) × (address < 4294967296) × (1 ≤ size) × (size ≤ 56) × (r.start ≤ address) × (address + size ≤ r.start + r.length)
    → GoodParameter (r ∷ rs) (parameter number address size)
in_first (n, a, l, m, s, e) = record { number = n; address = a; least = l; most = m; spans = λ at f t. inl (omega arith, omega arith) }

-- an item's numbers, its octets, and those behind its length
good_item : {i : Item} → (i.code < 256) × (1 ≤ i.length) × (i.length ≤ 32) × (length i.octets ≡ 32) → Every IsOctet i.octets
    → Every (λ x. x ≡ 0) (drop i.length i.octets) → GoodItem i
good_item (c, l, m, a) o z = record { code = c; least = l; most = m; all32 = a; octets = o; zeros = z }

pub good_a : WellFormed sheet_a
good_a = record {
  l = inr (inl refl);
  version = omega arith;
  profile = omega arith;
  regions = (omega arith, (omega arith, tt));
  parameters = (in_first (omega arith), tt);
  items = (good_item (omega arith) (omega arith) (omega arith), tt);
  apart = (omega arith, tt);
  numbers_rise = tt;
  codes_rise = tt;
  few_regions = (omega arith, omega arith);
  few_parameters = omega arith;
  few_items = omega arith;
  tolerances = (omega arith, tt);
  once = omega arith;
  releases = tt;
  picked_once = omega arith;
}

pub good_b : WellFormed sheet_b
good_b = record {
  l = refl;
  version = omega arith;
  profile = omega arith;
  regions = (omega arith, (omega arith, tt));
  parameters = (in_first (omega arith), (in_first (omega arith), tt));
  items = tt;
  apart = (omega arith, tt);
  numbers_rise = (omega arith, tt);
  codes_rise = tt;
  few_regions = (omega arith, omega arith);
  few_parameters = omega arith;
  few_items = omega arith;
  tolerances = (omega arith, tt);
  once = omega arith;
  releases = ((omega arith, omega arith), tt);
  picked_once = omega arith;
}

pub good_c : WellFormed sheet_c
good_c = record {
  l = inr (inl refl);
  version = omega arith;
  profile = omega arith;
  regions = (omega arith, (omega arith, tt));
  parameters = (in_first (omega arith), (in_first (omega arith), tt));
  items = (
    good_item (omega arith) (omega arith) (omega arith),
    (good_item (omega arith) (omega arith) (omega arith), (good_item (omega arith) (omega arith) (omega arith), tt)),
  );
  apart = (omega arith, tt);
  numbers_rise = (omega arith, tt);
  codes_rise = (omega arith, (omega arith, tt));
  few_regions = (omega arith, omega arith);
  few_parameters = omega arith;
  few_items = omega arith;
  tolerances = (omega arith, tt);
  once = omega arith;
  releases = ((omega arith, omega arith), tt);
  picked_once = omega arith;
}

pub good_d : WellFormed sheet_d
good_d = record {
  l = inr (inr (inl refl));
  version = omega arith;
  profile = omega arith;
  regions = (omega arith, (omega arith, tt));
  parameters = (in_first (omega arith), tt);
  items = (
    good_item (omega arith) (omega arith) (omega arith),
    (good_item (omega arith) (omega arith) (omega arith), (good_item (omega arith) (omega arith) (omega arith), tt)),
  );
  apart = (omega arith, tt);
  numbers_rise = tt;
  codes_rise = (omega arith, (omega arith, tt));
  few_regions = (omega arith, omega arith);
  few_parameters = omega arith;
  few_items = omega arith;
  tolerances = tt;
  once = omega arith;
  releases = ((omega arith, omega arith), tt);
  picked_once = omega arith;
}

pub good_e : WellFormed sheet_e
good_e = record {
  l = refl;
  version = omega arith;
  profile = omega arith;
  regions = tt;
  parameters = tt;
  items = tt;
  apart = tt;
  numbers_rise = tt;
  codes_rise = tt;
  few_regions = (omega arith, omega arith);
  few_parameters = omega arith;
  few_items = omega arith;
  tolerances = tt;
  once = omega arith;
  releases = tt;
  picked_once = omega arith;
}

pub good_f : WellFormed sheet_f
good_f = record {
  l = refl;
  version = omega arith;
  profile = omega arith;
  regions = tt;
  parameters = tt;
  items = tt;
  apart = tt;
  numbers_rise = tt;
  codes_rise = tt;
  few_regions = (omega arith, omega arith);
  few_parameters = omega arith;
  few_items = omega arith;
  tolerances = tt;
  once = omega arith;
  releases = tt;
  picked_once = omega arith;
}

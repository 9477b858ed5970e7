-- What a valid sheet's regions are: in the sheet, ordered, apart, and none empty.
use Rattle.std.specs.Prelude.{ℕ, ◌+◌, ◌-◌, ◌*◌, ◌≤◌, List, [], ◌∷◌, length}
use Rattle.std.specs.Coded.{Unit-prop, le_prop}
use mathlib.Core.HLevel.{×₃_prop}
use Rattle.regions.specs.Region.{regions_of}
use Rattle.regions.specs.declared.Region.{Region}

-- "Each region starts at or past the end of the one before" (the first at or past `end`); "length is at least 1"
abbrev pub Apart : ℕ → List Region → Type 0
Apart end [] = Unit {0}
Apart end (r ∷ rs) = (end ≤ r.start) × (1 ≤ r.length) × Apart (r.start + r.length) rs

-- n regions of a sheet that were read: each of their records, 10 octets behind the link record's 4, is in the sheet
pub record Laid (s : List ℕ) (n : ℕ) : Type 0 where
  pub inside : 10 * n ≤ length s - 4
  pub apart : Apart 0 (regions_of s n)

-- either is a fact, which a type can keep
pub Apart-prop : (end : ℕ) (rs : List Region) → IsProp (Apart end rs)
Apart-prop end [] = Unit-prop
Apart-prop end (r ∷ rs) = ×₃_prop le_prop le_prop (Apart-prop (r.start + r.length) rs)

pub Laid-prop : (s : List ℕ) (n : ℕ) → IsProp (Laid s n)
Laid-prop s n x y i = record {
  inside = le_prop x.inside y.inside i;
  apart = Apart-prop 0 (regions_of s n) x.apart y.apart i;
}

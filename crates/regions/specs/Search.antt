-- What is found in the regions. Memory is the regions one after another in sheet order; an address is not a place in the memory.
use Rattle.std.specs.Prelude.{ℕ, zero, suc, ◌+◌, ◌-◌, Bool, false, List, [], ◌∷◌, eqb}
use Rattle.octets.specs.Pick.{pick}
use Rattle.regions.specs.Region.{holds_of, gives_of}
use Rattle.regions.specs.declared.Region.{Region}
use Rattle.regions.specs.declared.Right.{Right}
use Rattle.regions.specs.declared.search.Reach.{Reach}

-- where an octet stands: at a memory place, with its region's rights, or in no region
pub data Spot : Type 0 where
  At : ℕ → ℕ → Spot
  Nowhere : Spot

-- the octets of memory that the regions take
unfoldable pub total_of : List Region → ℕ
total_of [] = 0
total_of (r ∷ rs) = r.length + total_of rs

-- the memory place and the rights of the octet at an address, where the first of the regions begins at place `base`
unfoldable pub spot_of : List Region → ℕ → ℕ → Spot
spot_of [] base a = Nowhere
spot_of (r ∷ rs) base a = pick (holds_of r a) (At (base + (a - r.start)) r.rights) (spot_of rs (base + r.length) a)

-- the place of a spot, 0 where there is none
unfoldable pub place_in : Spot → ℕ
place_in (At place rights) = place
place_in Nowhere = 0

-- whether the octet at an address has a right: the regions are searched, and the one that has the octet decides
unfoldable pub grants_of : List Region → Right → ℕ → Bool
grants_of [] w a = false
grants_of (r ∷ rs) w a = pick (holds_of r a) (gives_of r.rights w) (grants_of rs w a)

-- how many of n octets from an address on come before the first that lacks the right; n where none lacks it
unfoldable pub before_of : List Region → Right → ℕ → ℕ → ℕ
before_of rs w a zero = 0
before_of rs w a (suc n) = pick (grants_of rs w a) (suc (before_of rs w (suc a) n)) 0

-- whether all n octets from an address on have the right; with Mapped, whether the span lies wholly in regions
abbrev pub span_has : List Region → Right → ℕ → ℕ → Bool
span_has rs w a n = eqb (before_of rs w a n) n

-- the memory place of a span is that of its first octet; an empty span has none
abbrev pub span_place : List Region → ℕ → ℕ → ℕ
span_place rs a n = pick (eqb n 0) 0 (place_in (spot_of rs 0 a))

-- what the search for a right tells of n octets from an address on: how far it goes, and the span's place where it goes over the whole span
unfoldable pub reach_of : List Region → Right → ℕ → ℕ → Reach
reach_of rs w a n = record { before = before_of rs w a n; place = pick (eqb (before_of rs w a n) n) (span_place rs a n) 0 }

-- One region of the sheet. Document 01, "The device sheet": kind 02, start (4), length (4), rights (1).
use Rattle.std.specs.Prelude.{ℕ, zero, suc, ◌+◌, ◌*◌, ◌/◌, ◌%◌, Bool, true, ◌&&◌, List, [], ◌∷◌, get_or, leb, ltb, eqb}
use Rattle.octets.specs.Numbers.{le4_at}
use Rattle.regions.specs.declared.Region.{Region}
use Rattle.regions.specs.declared.Right.{Right}
use Rattle.regions.specs.declared.Right.TheVariants.{Mapped, Read, WriteAsync, WriteSync}

-- the region record whose kind octet stands at a place of the sheet
unfoldable pub region_from : List ℕ → ℕ → Region
region_from s at = record { start = le4_at s (at + 1); length = le4_at s (at + 5); rights = get_or s (at + 9) 0 }

-- region i of a sheet: the link record has 4 octets, and each region record has 10
abbrev pub region_at : List ℕ → ℕ → Region
region_at s i = region_from s (4 + 10 * i)

-- the values of f at m numbers from k on
unfoldable pub listed : {A : Type 0} → (ℕ → A) → ℕ → ℕ → List A
listed f k zero = []
listed f k (suc m) = f k ∷ listed f (suc k) m

-- the first n regions of a sheet
abbrev pub regions_of : List ℕ → ℕ → List Region
regions_of s n = listed (region_at s) 0 n

-- a region has an address from its start on, for its length
unfoldable pub holds_of : Region → ℕ → Bool
holds_of r a = leb r.start a && ltb a (r.start + r.length)

-- Rights: bit 0 read, bit 1 write in AsyncConnected, bit 2 write in SyncConnected; that an octet is mapped asks no bit
unfoldable pub gives_of : ℕ → Right → Bool
gives_of x Mapped = true
gives_of x Read = eqb (x % 2) 1
gives_of x WriteAsync = eqb (x / 2 % 2) 1
gives_of x WriteSync = eqb (x / 4 % 2) 1

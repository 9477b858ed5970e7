-- A record of a sheet where the caller holds it: `at` is the place of its kind octet. An octet past the sheet's end counts as 0.
use Rattle.std.specs.Prelude.{ℕ, zero, suc, ◌+◌, ◌*◌, ◌%◌, Bool, true, ◌&&◌, List, [], ◌∷◌, eqb, ltb, get_or}
use Rattle.octets.specs.Numbers.{le2_at, le4_at}
use Rattle.octets.specs.Pick.{pick}
use Rattle.sheet.specs.Kinds.{size_of}

-- the kind: 0 is the end, and a valid sheet has none above 7
unfoldable pub kind_at : List ℕ → ℕ → ℕ
kind_at s at = get_or s at 0 % 8

-- the octets of the record
abbrev pub size_at : List ℕ → ℕ → ℕ
size_at s at = size_of (kind_at s at)

-- n octets from a place on
unfoldable pub cut : List ℕ → ℕ → ℕ → List ℕ
cut s at zero = []
cut s at (suc n) = get_or s at 0 ∷ cut s (suc at) n

-- "Keys are start, number and code; a link has none": the octets of a key, which come first in the body
unfoldable pub key_width : ℕ → ℕ
key_width kind = pick (eqb kind 2) 4 (pick (eqb kind 3) 2 (pick (eqb kind 4) 1 0))

-- the key as a number, low octet first
unfoldable pub key_at : List ℕ → ℕ → ℕ → ℕ
key_at s at kind = pick (eqb kind 2) (le4_at s (at + 1)) (pick (eqb kind 3) (le2_at s (at + 1)) (pick (eqb kind 4) (get_or s (at + 1) 0) 0))

-- "in the order link, regions by start, parameters by number, ID items by code": kind 05 stands in the link record's place, and the end behind all
unfoldable pub place_of : ℕ → ℕ
place_of kind = pick (eqb kind 0) 8 (pick (eqb kind 5) 1 kind)

unfoldable pub rank_at : List ℕ → ℕ → ℕ
rank_at s at = 4294967296 * place_of (kind_at s at) + key_at s at (kind_at s at)

-- the octets of the first, the second and the third field of a kind's body; 0 where there is none
unfoldable pub first_width : ℕ → ℕ
first_width kind = pick (eqb kind 2) 4 (pick (eqb kind 3) 2 1)

unfoldable pub second_width : ℕ → ℕ
second_width kind = pick (eqb kind 2) 4 (pick (eqb kind 3) 4 (pick (ltb 5 kind) 0 1))

unfoldable pub third_width : ℕ → ℕ
third_width kind = pick (eqb kind 4) 32 (pick (ltb 5 kind) 0 1)

-- n octets of a and of b are the same
unfoldable pub same_of : List ℕ → ℕ → List ℕ → ℕ → ℕ → Bool
same_of a i b j zero = true
same_of a i b j (suc n) = eqb (get_or a i 0) (get_or b j 0) && same_of a (suc i) b (suc j) n

-- the bit of a field: set where its n octets differ
unfoldable pub bit_of : List ℕ → ℕ → List ℕ → ℕ → ℕ → ℕ → ℕ
bit_of a i b j n bit = pick (same_of a i b j n) 0 bit

-- "a bit for each changed field (bit 0 the body's first)", of two records of a kind
unfoldable pub bits_at : List ℕ → ℕ → List ℕ → ℕ → ℕ → ℕ
bits_at a i b j kind =
    bit_of a (i + 1) b (j + 1) (first_width kind) 1
    + bit_of a (i + 1 + first_width kind) b (j + 1 + first_width kind) (second_width kind) 2
    + bit_of a (i + 1 + first_width kind + second_width kind) b (j + 1 + first_width kind + second_width kind) (third_width kind) 4

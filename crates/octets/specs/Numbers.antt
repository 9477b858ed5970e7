-- Numbers of more than one octet: low octet first (document 01, "Where the rules come from"). An octet past the end counts as 0.
use Rattle.std.specs.Prelude.{ℕ, ◌+◌, ◌*◌, List, get_or}

abbrev pub le2 : ℕ → ℕ → ℕ
le2 a b = a + 256 * b

abbrev pub le4 : ℕ → ℕ → ℕ → ℕ → ℕ
le4 a b c d = a + 256 * b + 65536 * c + 16777216 * d

-- the number of 2 octets at a place of a list
abbrev pub le2_at : List ℕ → ℕ → ℕ
le2_at s i = le2 (get_or s i 0) (get_or s (i + 1) 0)

-- the number of 4 octets at a place of a list
abbrev pub le4_at : List ℕ → ℕ → ℕ
le4_at s i = le4 (get_or s i 0) (get_or s (i + 1) 0) (get_or s (i + 2) 0) (get_or s (i + 3) 0)

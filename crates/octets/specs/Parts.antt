-- What a part holds, and what a lent part holds after octets entered it.
use Rattle.std.specs.Prelude.{ℕ, ◌+◌, Bool, true, ◌&&◌, List, [], ◌∷◌, ◌++◌, eqb, length, take, drop}

-- s at the front of d, as far as d goes, and d's own octets behind it
unfoldable pub copied : List ℕ → List ℕ → List ℕ
copied d s = take (length d) s ++ drop (length s) d

-- every octet is 0
unfoldable pub all_zero : List ℕ → Bool
all_zero [] = true
all_zero (x ∷ xs) = eqb x 0 && all_zero xs

-- n octets of a list from a place on
unfoldable pub part : List ℕ → ℕ → ℕ → List ℕ
part l at n = take n (drop at l)

-- s laid over d from a place on; nothing before or after is touched
unfoldable pub put_at : List ℕ → ℕ → List ℕ → List ℕ
put_at d at s = take at d ++ (s ++ drop (at + length s) d)

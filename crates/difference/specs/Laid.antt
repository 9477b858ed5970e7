-- Octets laid into a buffer from a place on, as far as it goes.
use Rattle.std.specs.Prelude.{ℕ, suc, List, [], ◌∷◌, ltb, length, set}
use Rattle.octets.specs.Pick.{pick}

unfoldable pub laid_one : List ℕ → ℕ → ℕ → List ℕ
laid_one d at x = pick (ltb at (length d)) (set d at x) d

unfoldable pub laid : List ℕ → ℕ → List ℕ → List ℕ
laid d at [] = d
laid d at (x ∷ xs) = laid (laid_one d at x) (suc at) xs

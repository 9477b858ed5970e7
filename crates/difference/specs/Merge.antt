-- The list, by one pass over both sheets: i is the place in the first, j that in the second.
use Rattle.std.specs.Prelude.{ℕ, zero, suc, ◌+◌, ◌-◌, Bool, ◌&&◌, List, [], ◌∷◌, ◌++◌, eqb, ltb, length}
use Rattle.octets.specs.Pick.{pick}
use Rattle.difference.specs.Records.{kind_at, size_at, cut, key_width, rank_at, bits_at}

-- "4k and the key for gone"
unfoldable pub gone_of : List ℕ → ℕ → List ℕ
gone_of a i = (64 + kind_at a i) ∷ cut a (i + 1) (key_width (kind_at a i))

-- "5k and the body for new"
unfoldable pub new_of : List ℕ → ℕ → List ℕ
new_of b j = (80 + kind_at b j) ∷ cut b (j + 1) (size_at b j - 1)

-- "6k, one octet with a bit for each changed field .. and the new body for changed"; nothing where no field changed
unfoldable pub changed_of : ℕ → List ℕ → ℕ → List ℕ
changed_of bits b j = pick (eqb bits 0) [] ((96 + kind_at b j) ∷ bits ∷ cut b (j + 1) (size_at b j - 1))

-- two records at one place of the order: "in request 2's list gone then comes before new" (request 7) where the link record's kind changed
unfoldable pub both_of : List ℕ → ℕ → List ℕ → ℕ → List ℕ
both_of a i b j =
    pick (eqb (kind_at a i) (kind_at b j)) (changed_of (bits_at a i b j (kind_at a i)) b j) (gone_of a i ++ new_of b j)

-- one turn: what it lists, and the places behind it
pub record Step : Type 0 where
  pub octets : List ℕ
  pub first : ℕ
  pub second : ℕ

abbrev pub step : List ℕ → ℕ → ℕ → Step
step octets first second = record { octets = octets; first = first; second = second }

unfoldable pub step_of : List ℕ → ℕ → List ℕ → ℕ → Step
step_of a i b j =
    pick (ltb (rank_at a i) (rank_at b j)) (step (gone_of a i) (i + size_at a i) j)
    (pick (ltb (rank_at b j) (rank_at a i)) (step (new_of b j) i (j + size_at b j))
    (step (both_of a i b j) (i + size_at a i) (j + size_at b j)))

-- both sheets are at their end
unfoldable pub at_end : List ℕ → ℕ → List ℕ → ℕ → Bool
at_end a i b j = eqb (kind_at a i) 0 && eqb (kind_at b j) 0

-- turn after turn, until both sheets are at their end
unfoldable pub turns : ℕ → List ℕ → ℕ → List ℕ → ℕ → List ℕ
turns zero a i b j = []
turns (suc f) a i b j =
    pick (at_end a i b j) [] ((step_of a i b j).octets ++ turns f a (step_of a i b j).first b (step_of a i b j).second)

-- the whole list: each turn passes a record of one sheet at least, so that there are not more turns than octets
unfoldable pub merge_of : List ℕ → List ℕ → List ℕ
merge_of a b = turns (suc (length a + length b)) a 0 b 0

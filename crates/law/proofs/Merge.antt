-- The differences of two rising lists of records by one pass over both, as the code makes it; and what the proofs about it ask of the records.
use Prim.Native.Nat.{◌<◌}
use mathlib.Core.List.{List, [], ◌∷◌, ◌++◌, map}
use mathlib.Core.Path.{◌≡◌}
use lib.Dec.{eqb, ltb}
use lib.ListN.{length}
use Rattle.law.specs.Words.{when, InARow}
use Rattle.law.specs.Difference.{Entry, Change, gone, new, changed, rank_of, bits_of}

-- records that rise by their order
abbrev pub Rising : List Entry → Type 0
Rising es = InARow (λ (x y : Entry). rank_of x < rank_of y) es

-- a record has as many fields as its kind has
abbrev pub Shaped : Entry → Type 0
Shaped e = length e.fields ≡ when (eqb e.kind 6) 1 (when (eqb e.kind 7) 1 3)

-- two records that stand at one place of the order: of two kinds, or of one kind and key
unfoldable pub both : Entry → Entry → List Change
both x y =
    when (eqb x.kind y.kind)
    (when (eqb (bits_of x y) 0) [] (changed (bits_of x y) y ∷ []))
    (gone x.kind x.key ∷ new y ∷ [])

-- a record of the first list, what its rest comes to, and the records of the second
unfoldable pub beside : Entry → (List Entry → List Change) → List Entry → List Change
beside x rest [] = gone x.kind x.key ∷ rest []
beside x rest (y ∷ ys) =
    when (ltb (rank_of x) (rank_of y)) (gone x.kind x.key ∷ rest (y ∷ ys))
    (when (ltb (rank_of y) (rank_of x)) (new y ∷ beside x rest ys)
    (both x y ++ rest ys))

unfoldable pub merge : List Entry → List Entry → List Change
merge [] ys = map new ys
merge (x ∷ xs) ys = beside x (merge xs) ys

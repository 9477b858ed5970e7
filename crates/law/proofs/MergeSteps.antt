-- What holds of the pass over two rising lists: a step for each way it goes on.
use mathlib.Core.Path.{◌≡◌}
use mathlib.Core.List.{List, [], ◌∷◌, ◌++◌, map}
use native.Mathlib.Nat.{le_refl}
use native.Mathlib.Omega.{arith}
use borrow.Author.Tests.{ltb-true, ltb-false}
use lib.Dec.{ltb}
use Rattle.law.specs.Words.{Every}
use Rattle.law.specs.Difference.{Entry, Change, gone, new, rank_of}
use Rattle.law.proofs.Merge.{Rising, Shaped, both, beside, merge}
use Rattle.law.proofs.OneList.{all_above, from_row}
use Rattle.law.proofs.Ranks.{when_cases, Below, below_more}

-- a record's rest comes behind it
rest_below : (x : Entry) (xs : List Entry) → Rising (x ∷ xs) → Below (rank_of x) xs
rest_below x xs r = all_above rank_of (rank_of x) x xs (le_refl (rank_of x)) r

rest_rises : (x : Entry) (xs : List Entry) → Rising (x ∷ xs) → Rising xs
rest_rises x xs r = from_row rank_of x xs r

module _ (P : List Entry → List Entry → List Change → Type 0)
    (none : P [] [] [])
    (gone_on : (x : Entry) (xs ys : List Entry) (l : List Change) → Below (rank_of x) xs → Below (rank_of x) ys → P xs ys l
    → P (x ∷ xs) ys (gone x.kind x.key ∷ l))
    (new_on : (y : Entry) (xs ys : List Entry) (l : List Change) → Below (rank_of y) xs → Below (rank_of y) ys → P xs ys l → P xs (y ∷ ys) (new y ∷ l))
    (both_on : (x y : Entry) (xs ys : List Entry) (l : List Change) → rank_of x ≡ rank_of y → Shaped x → Shaped y → Below (rank_of x) xs → Below (rank_of x) ys
    → P xs ys l → P (x ∷ xs) (y ∷ ys) (both x y ++ l)) where
  by_new : (ys : List Entry) → Rising ys → P [] ys (map new ys)
  by_new [] r = none
  by_new (y ∷ ys) r = new_on y [] ys (map new ys) tt (rest_below y ys r) (by_new ys (rest_rises y ys r))

  module _ (x : Entry) (xs : List Entry) (rest : List Entry → List Change) (up : Rising (x ∷ xs)) (shaped : Shaped x)
      (good : (ys : List Entry) → Rising ys → Every Shaped ys → P xs ys (rest ys)) where
    by_beside : (ys : List Entry) → Rising ys → Every Shaped ys → P (x ∷ xs) ys (beside x rest ys)
    unfolding beside
    by_beside [] r s = gone_on x xs [] (rest []) (rest_below x xs up) tt (good [] tt tt)
    by_beside (y ∷ ys) r s =
        let a = rest_below x xs up in
        let b = rest_below y ys r in
        when_cases (P (x ∷ xs) (y ∷ ys)) (ltb (rank_of x) (rank_of y))
        (λ e.
        let l = ltb-true (rank_of x) (rank_of y) e in
        gone_on x xs (y ∷ ys) (rest (y ∷ ys)) a (l, below_more (rank_of x) (rank_of y) ys (omega arith) b) (good (y ∷ ys) r s))
        (λ e.
        let l = ltb-false (rank_of x) (rank_of y) e in
        when_cases (P (x ∷ xs) (y ∷ ys)) (ltb (rank_of y) (rank_of x))
        (λ f.
        let m = ltb-true (rank_of y) (rank_of x) f in
        new_on y (x ∷ xs) ys (beside x rest ys) (m, below_more (rank_of y) (rank_of x) xs (omega arith) a) b (by_beside ys (rest_rises y ys r) s.1))
        (λ f.
        let m = ltb-false (rank_of y) (rank_of x) f in
        both_on x y xs ys (rest ys) (omega arith) shaped s.0 a (below_more (rank_of x) (rank_of y) ys m b)
        (good ys (rest_rises y ys r) s.1)))

  pub by_merge : (xs ys : List Entry) → Rising xs → Rising ys → Every Shaped xs → Every Shaped ys → P xs ys (merge xs ys)
  unfolding merge
  by_merge [] ys p q s t = by_new ys q
  by_merge (x ∷ xs) ys p q s t = by_beside x xs (merge xs) p s.0 (λ zs r u. by_merge xs zs (rest_rises x xs p) r s.1 u) ys q t

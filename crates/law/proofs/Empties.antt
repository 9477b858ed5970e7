-- There is no difference exactly where the two lists of records are the same.
use mathlib.Core.Path.{◌≡◌, refl, sym, ap, ap₂, subst, ◌∙◌}
use mathlib.Core.List.{List, [], ◌∷◌, ◌++◌}
use Prim.Native.Nat.{ℕ}
use native.Mathlib.Nat.{le_refl}
use native.Mathlib.Omega.{arith}
use borrow.Author.Tests.{ltb-false, le-ltb, eqb-true, eq-eqb}
use lib.Dec.{eqb, ltb}
use Rattle.law.specs.Words.{Every}
use Rattle.law.specs.Difference.{Entry, Change, rank, rank_of, bits_of}
use Rattle.law.proofs.Laid.{when_yes, when_no}
use Rattle.law.proofs.Merge.{Shaped, both, beside, merge}
use Rattle.law.proofs.Ranks.{when_cases, same_key, bits_self, same_entry}

-- two records at one place that make no change are one
both_none : (x y : Entry) (l : List Change) → rank_of x ≡ rank_of y → Shaped x → Shaped y → both x y ++ l ≡ [] → (x ≡ y) × (l ≡ [])
unfolding both
both_none x y l e s t =
    when_cases (λ (m : List Change). m ++ l ≡ [] → (x ≡ y) × (l ≡ [])) (eqb x.kind y.kind)
    (λ z.
    let k = eqb-true x.kind y.kind z in
    let key = same_key x.kind x.key y.key (e ∙ ap (λ (n : ℕ). rank n y.key) (sym k)) in
    when_cases (λ (m : List Change). m ++ l ≡ [] → (x ≡ y) × (l ≡ [])) (eqb (bits_of x y) 0)
    (λ u h. (same_entry x y s t k key (eqb-true (bits_of x y) 0 u), h))
    (λ u h. cc))
    (λ z h. cc)

empty_same : (xs ys : List Entry) → Every Shaped xs → Every Shaped ys → merge xs ys ≡ [] → xs ≡ ys
unfolding merge beside
empty_same [] [] s t = λ e. refl
empty_same [] (y ∷ ys) s t = λ e. cc
empty_same (x ∷ xs) [] s t = λ e. cc
empty_same (x ∷ xs) (y ∷ ys) s t =
    when_cases (λ (m : List Change). m ≡ [] → x ∷ xs ≡ y ∷ ys) (ltb (rank_of x) (rank_of y))
    (λ a h. cc)
    (λ a.
    let l = ltb-false (rank_of x) (rank_of y) a in
    when_cases (λ (m : List Change). m ≡ [] → x ∷ xs ≡ y ∷ ys) (ltb (rank_of y) (rank_of x))
    (λ b h. cc)
    (λ b h.
    let m = ltb-false (rank_of y) (rank_of x) b in
    let q = both_none x y (merge xs ys) (omega arith) s.0 t.0 h in
    ap₂ ◌∷◌ q.0 (empty_same xs ys s.1 t.1 q.1)))

same_empty : (xs : List Entry) → merge xs xs ≡ []
unfolding merge beside both
same_empty [] = refl
same_empty (x ∷ xs) =
    let no = le-ltb (rank_of x) (rank_of x) (le_refl (rank_of x)) in
    when_no _ _ no ∙ when_no _ _ no
    ∙ ap (λ (m : List Change). m ++ merge xs xs)
    (when_yes _ _ (eq-eqb x.kind x.kind refl) ∙ when_yes _ _ (eq-eqb (bits_of x x) 0 (bits_self 1 x.fields)))
    ∙ same_empty xs

pub empty_merge : (xs ys : List Entry) → Every Shaped xs → Every Shaped ys → (merge xs ys ≡ [] → xs ≡ ys) × (xs ≡ ys → merge xs ys ≡ [])
empty_merge xs ys s t =
    (empty_same xs ys s t, λ e. subst (λ (zs : List Entry). merge xs zs ≡ []) e (same_empty xs))

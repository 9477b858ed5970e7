-- The differences of two rising lists of records, applied to the first, give the second.
use mathlib.Core.Bool.{true, false, ◌&&◌}
use mathlib.Core.Logic.{⊎_elim}
use mathlib.Core.Path.{◌≡◌, refl, sym, ap, ap₂, subst, ◌∙◌}
use mathlib.Core.List.{List, [], ◌∷◌, ◌++◌}
use Prim.Native.Nat.{ℕ, ◌+◌, ◌*◌, ◌<◌}
use native.Mathlib.Omega.{arith}
use borrow.Author.Tests.{eqb-true, eq-eqb, lt-ltb, le-ltb}
use lib.Dec.{eqb}
use Rattle.std.proofs.lemmas.Bool.{and_parts}
use Rattle.octets.proofs.Cases.{decided}
use Rattle.law.specs.Words.{Every}
use Rattle.law.specs.Difference.{Entry, Change, gone, new, changed, rank, rank_of, bits_of, turn_of, without, put_in, instead, applied_one, applied}
use Rattle.law.proofs.Laid.{when_yes, when_no}
use Rattle.law.proofs.Merge.{Rising, Shaped, both, merge}
use Rattle.law.proofs.Ranks.{when_cases, same_key, Below, same_entry}
use Rattle.law.proofs.MergeSteps.{by_merge}
use Rattle.law.proofs.Merges.{After, Good, none, gone_on, new_on, both_on}

-- whether a record is of a kind and key
meets : (kind key : ℕ) (p : Entry) → kind ≡ p.kind → key ≡ p.key → eqb kind p.kind && eqb key p.key ≡ true
meets kind key p k e = ap₂ ◌&&◌ (eq-eqb kind p.kind k) (eq-eqb key p.key e)

misses : (kind key : ℕ) (p : Entry) → (rank kind key ≡ rank_of p → ⊥) → eqb kind p.kind && eqb key p.key ≡ false
misses kind key p n =
    ⊎_elim
    (λ t.
    let b = and_parts (eqb kind p.kind) (eqb key p.key) t in
    absurd (n (ap₂ rank (eqb-true kind p.kind b.0) (eqb-true key p.key b.1))))
    (λ f. f)
    (decided (eqb kind p.kind && eqb key p.key))

-- a change at the head of a list
drops : (x : Entry) (xs : List Entry) → without x.kind x.key (x ∷ xs) ≡ xs
unfolding without
drops x xs = when_yes _ _ (meets x.kind x.key x refl refl)

enters : (y : Entry) (xs : List Entry) → Below (rank_of y) xs → put_in y xs ≡ y ∷ xs
unfolding put_in
enters y [] b = refl
enters y (x ∷ xs) b = when_yes _ _ (lt-ltb (rank_of y) (rank_of x) b.0)

replaces : (x y : Entry) (xs : List Entry) → y.kind ≡ x.kind → y.key ≡ x.key → instead y (x ∷ xs) ≡ y ∷ xs
unfolding instead
replaces x y xs k e = when_yes _ _ (meets y.kind y.key x k e)

-- changes further on leave the head
passes_one : (c : Change) (p : Entry) (es : List Entry) → 2 * rank_of p + 1 < turn_of c → applied_one c (p ∷ es) ≡ p ∷ applied_one c es
unfolding applied_one without put_in instead turn_of
passes_one (gone k e) p es h = when_no _ _ (misses k e p (λ q. omega arith))
passes_one (new y) p es h = when_no _ _ (le-ltb (rank_of y) (rank_of p) (omega arith))
passes_one (changed b y) p es h = when_no _ _ (misses y.kind y.key p (λ q. omega arith))

passes : (l : List Change) (p : Entry) (es : List Entry) → After (2 * rank_of p + 1) l → applied l (p ∷ es) ≡ p ∷ applied l es
unfolding applied
passes [] p es a = refl
passes (c ∷ l) p es a = ap (applied l) (passes_one c p es a.0) ∙ passes l p (applied_one c es) a.1

record Gives (xs ys : List Entry) (l : List Change) : Type 0 where
  good : Good xs ys l
  gives : applied l xs ≡ ys

nothing : Gives [] [] []
unfolding applied
nothing = record { good = none; gives = refl }

gone_gives : (x : Entry) (xs ys : List Entry) (l : List Change) → Below (rank_of x) xs → Below (rank_of x) ys → Gives xs ys l
    → Gives (x ∷ xs) ys (gone x.kind x.key ∷ l)
unfolding applied applied_one
gone_gives x xs ys l a b g = record { good = gone_on x xs ys l a b g.good; gives = ap (applied l) (drops x xs) ∙ g.gives }

-- a record at the head of what comes out
heads : (y : Entry) (xs ys : List Entry) (l : List Change) → After (2 * rank_of y + 1) l → applied l xs ≡ ys → applied l (y ∷ xs) ≡ y ∷ ys
heads y xs ys l a e = passes l y xs a ∙ ap (λ (t : List Entry). y ∷ t) e

new_gives : (y : Entry) (xs ys : List Entry) (l : List Change) → Below (rank_of y) xs → Below (rank_of y) ys → Gives xs ys l
    → Gives xs (y ∷ ys) (new y ∷ l)
unfolding applied applied_one
new_gives y xs ys l a b g = record {
  good = new_on y xs ys l a b g.good;
  gives = ap (applied l) (enters y xs a) ∙ heads y xs ys l (g.good.after (rank_of y) a b) g.gives;
}

module _ (x y : Entry) (xs ys : List Entry) (l : List Change) (e : rank_of x ≡ rank_of y) (s : Shaped x) (t : Shaped y)
    (a : Below (rank_of x) xs) (b : Below (rank_of x) ys) (g : Gives xs ys l) where
  comes : applied l (y ∷ xs) ≡ y ∷ ys
  comes = heads y xs ys l (subst (λ (n : ℕ). After (2 * n + 1) l) e (g.good.after (rank_of x) a b)) g.gives

  both_applied : applied (both x y ++ l) (x ∷ xs) ≡ y ∷ ys
  unfolding both applied applied_one
  both_applied =
      when_cases (λ (m : List Change). applied (m ++ l) (x ∷ xs) ≡ y ∷ ys) (eqb x.kind y.kind)
      (λ z.
      let k = eqb-true x.kind y.kind z in
      let key = same_key x.kind x.key y.key (e ∙ ap (λ (n : ℕ). rank n y.key) (sym k)) in
      when_cases (λ (m : List Change). applied (m ++ l) (x ∷ xs) ≡ y ∷ ys) (eqb (bits_of x y) 0)
      (λ u. ap (λ (p : Entry). applied l (p ∷ xs)) (same_entry x y s t k key (eqb-true (bits_of x y) 0 u)) ∙ comes)
      (λ u. ap (applied l) (replaces x y xs (sym k) (sym key)) ∙ comes))
      (λ z.
      ap (λ (p : List Entry). applied l (put_in y p)) (drops x xs)
      ∙ ap (applied l) (enters y xs (subst (λ (n : ℕ). Below n xs) e a)) ∙ comes)

  both_gives : Gives (x ∷ xs) (y ∷ ys) (both x y ++ l)
  both_gives = record { good = both_on x y xs ys l e s t a b g.good; gives = both_applied }

pub applied_merge : (xs ys : List Entry) → Rising xs → Rising ys → Every Shaped xs → Every Shaped ys → applied (merge xs ys) xs ≡ ys
applied_merge xs ys p q s t = (by_merge Gives nothing gone_gives new_gives both_gives xs ys p q s t).gives

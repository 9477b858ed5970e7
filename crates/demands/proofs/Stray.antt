-- The first octet that is not named and not zero: what it is, and when there is none.
--     stray_zero       where every octet may be what it is, there is none
--     zero_stray       and where there is none, every octet may be
--     first_stray      and where there is one, it is the first
use mathlib.Core.Bool.{Bool, true, false, ◌||◌}
use mathlib.Core.List.{List, [], ◌∷◌, ◌++◌}
use mathlib.Core.Logic.{◌⊎◌, inl, inr, ⊎_elim}
use mathlib.Core.Path.{◌≡◌, refl, sym, ap, subst, ◌∙◌}
use Prim.Native.Nat.{ℕ, zero, suc, ◌+◌, ◌<◌}
use native.Mathlib.Nat.{add-zero}
use native.Mathlib.Omega.{arith}
use borrow.Author.Tests.{eq-eqb, eqb-true}
use lib.Dec.{eqb}
use lib.ListN.{length, get_or}
use Rattle.std.proofs.lemmas.Bool.{true≢false, or_left, or_right}
use Rattle.octets.proofs.Cases.{decided}
use Rattle.law.specs.Words.{when}
use Rattle.law.specs.Sheet.{PduType, enhanced, short}
use Rattle.law.specs.Table.{Run, head_named, is_named, unnamed_bits, stray_from, stray}
use Rattle.law.proofs.Laid.{when_yes, when_no}
use Rattle.demands.specs.Release.{ZeroUnlessNamed, FirstStray}

shift : (k j : ℕ) → k + suc j ≡ suc k + j
shift k j = omega arith

module _ (t : PduType) (ns : List Run) where
  -- octet j of octets numbered from k on may be what it is
  abbrev MayBe : ℕ → List ℕ → ℕ → Type 0
  MayBe k xs j = is_named ns (k + j) ≡ false → unnamed_bits t (k + j) (get_or xs j 0) ≡ 0

  abbrev passes : ℕ → ℕ → Bool
  passes k x = is_named ns k || eqb (unnamed_bits t k x) 0

  may_pass : (k x : ℕ) → (is_named ns k ≡ false → unnamed_bits t k x ≡ 0) → passes k x ≡ true
  may_pass k x z =
      ⊎_elim
      (λ (e : is_named ns k ≡ true). or_left _ (eqb (unnamed_bits t k x) 0) e)
      (λ (e : is_named ns k ≡ false). or_right (is_named ns k) _ (eq-eqb _ 0 (z e)))
      (decided (is_named ns k))

  pass_may : (k x : ℕ) → passes k x ≡ true → is_named ns k ≡ false → unnamed_bits t k x ≡ 0
  pass_may k x p e = eqb-true _ 0 (sym (ap (λ (b : Bool). b || eqb (unnamed_bits t k x) 0) e) ∙ p)

  fails : (k x : ℕ) → passes k x ≡ false → (is_named ns k ≡ false) × (unnamed_bits t k x ≡ 0 → ⊥)
  fails k x f =
      ⊎_elim
      (λ (e : is_named ns k ≡ true). absurd (true≢false (sym (or_left _ (eqb (unnamed_bits t k x) 0) e) ∙ f)))
      (λ (e : is_named ns k ≡ false). (e, λ z. true≢false (sym (may_pass k x (λ n. z)) ∙ f)))
      (decided (is_named ns k))

  later : (k : ℕ) (x : ℕ) (xs : List ℕ) (j : ℕ) → MayBe k (x ∷ xs) (suc j) → MayBe (suc k) xs j
  later k x xs j z = subst (λ (i : ℕ). is_named ns i ≡ false → unnamed_bits t i (get_or xs j 0) ≡ 0) (shift k j) z

  sooner : (k : ℕ) (x : ℕ) (xs : List ℕ) (j : ℕ) → MayBe (suc k) xs j → MayBe k (x ∷ xs) (suc j)
  sooner k x xs j z = subst (λ (i : ℕ). is_named ns i ≡ false → unnamed_bits t i (get_or xs j 0) ≡ 0) (sym (shift k j)) z

  here : (k : ℕ) (x : ℕ) (xs : List ℕ) → MayBe k (x ∷ xs) 0 → is_named ns k ≡ false → unnamed_bits t k x ≡ 0
  here k x xs z = subst (λ (i : ℕ). is_named ns i ≡ false → unnamed_bits t i x ≡ 0) (add-zero k) z

  there : (k : ℕ) (x : ℕ) (xs : List ℕ) → (is_named ns k ≡ false → unnamed_bits t k x ≡ 0) → MayBe k (x ∷ xs) 0
  there k x xs z = subst (λ (i : ℕ). is_named ns i ≡ false → unnamed_bits t i x ≡ 0) (sym (add-zero k)) z

  none_from : (k : ℕ) (xs : List ℕ) → ((j : ℕ) → j < length xs → MayBe k xs j) → stray_from t ns k xs ≡ 0
  unfolding stray_from
  none_from k [] all = refl
  none_from k (x ∷ xs) all =
      when_yes _ _ (may_pass k x (here k x xs (all 0 (omega arith)))) ∙ none_from (suc k) xs (λ j l. later k x xs j (all (suc j) (omega arith)))

  -- what is found from octet 1 on is not 0
  record Found (k : ℕ) (xs : List ℕ) (p : ℕ) : Type 0 where
    pub at : ℕ
    pub is : p ≡ k + at
    pub inside : at < length xs
    pub not_named : is_named ns p ≡ false
    pub not_zero : unnamed_bits t p (get_or xs at 0) ≡ 0 → ⊥
    pub before : (j : ℕ) → j < at → MayBe k xs j

  -- there is none, or the first
  found_from : (k : ℕ) (xs : List ℕ) → ((stray_from t ns k xs ≡ 0) × ((j : ℕ) → j < length xs → MayBe k xs j)) ⊎ Found k xs (stray_from t ns k xs)
  unfolding stray_from
  found_from k [] = inl (refl, λ j l. absurd (omega arith))
  found_from k (x ∷ xs) =
      ⊎_elim
      (λ (p : passes k x ≡ true). behind p (found_from (suc k) xs))
      (λ (p : passes k x ≡ false).
      let f = fails k x p in
      inr (subst (Found k (x ∷ xs)) (sym (when_no _ _ p)) (record {
        at = 0;
        is = sym (add-zero k);
        inside = omega arith;
        not_named = f.0;
        not_zero = f.1;
        before = λ j l. absurd (omega arith);
      })))
      (decided (passes k x))
    where
      first : passes k x ≡ true → (j : ℕ) → ((i : ℕ) → j ≡ suc i → MayBe (suc k) xs i) → MayBe k (x ∷ xs) j
      first p zero go = there k x xs (pass_may k x p)
      first p (suc j) go = sooner k x xs j (go j refl)

      behind : passes k x ≡ true → ((stray_from t ns (suc k) xs ≡ 0) × ((j : ℕ) → j < length xs → MayBe (suc k) xs j)) ⊎ Found (suc k) xs (stray_from t ns (suc k) xs)
          → ((when (passes k x) (stray_from t ns (suc k) xs) k ≡ 0) × ((j : ℕ) → j < suc (length xs) → MayBe k (x ∷ xs) j)) ⊎ Found k (x ∷ xs) (when (passes k x) (stray_from t ns (suc k) xs) k)
      behind p r =
          ⊎_elim
          (λ (a : (stray_from t ns (suc k) xs ≡ 0) × ((j : ℕ) → j < length xs → MayBe (suc k) xs j)).
          inl (when_yes _ _ p ∙ a.0, λ j l. first p j (λ i e. a.1 i (omega arith))))
          (λ (f : Found (suc k) xs (stray_from t ns (suc k) xs)).
          inr (subst (Found k (x ∷ xs)) (sym (when_yes _ _ p)) (record {
            at = suc f.at;
            is = f.is ∙ sym (shift k f.at);
            inside = (let l = f.inside in omega arith);
            not_named = f.not_named;
            not_zero = f.not_zero;
            before = λ j l. first p j (λ i e. f.before i (omega arith));
          })))
          r

-- octet 0, the code, is named in both types
code_named : (t : PduType) (named : List Run) → is_named (head_named t ++ named) 0 ≡ true
code_named enhanced named = refl
code_named short named = refl

module _ (t : PduType) (named : List Run) (c : List ℕ) where
  -- numbered from 0 on, octet k is octet k
  to_may : (k : ℕ) → ZeroUnlessNamed t named c k → MayBe t (head_named t ++ named) 0 c k
  to_may k z = subst (λ (i : ℕ). is_named (head_named t ++ named) i ≡ false → unnamed_bits t i (get_or c k 0) ≡ 0) (let e : k ≡ 0 + k = omega arith in e) z

  of_may : (k : ℕ) → MayBe t (head_named t ++ named) 0 c k → ZeroUnlessNamed t named c k
  of_may k z = subst (λ (i : ℕ). is_named (head_named t ++ named) i ≡ false → unnamed_bits t i (get_or c k 0) ≡ 0) (let e : 0 + k ≡ k = omega arith in e) z

  pub stray_zero : ((k : ℕ) → k < length c → ZeroUnlessNamed t named c k) → stray t named c ≡ 0
  stray_zero all = none_from t (head_named t ++ named) 0 c (λ k l. to_may k (all k l))

  -- what is found is not the code
  not_code : Found t (head_named t ++ named) 0 c (stray t named c) → stray t named c ≡ 0 → ⊥
  not_code f z = true≢false (sym (code_named t named) ∙ sym (ap (is_named (head_named t ++ named)) z) ∙ f.not_named)

  pub zero_stray : stray t named c ≡ 0 → (k : ℕ) → k < length c → ZeroUnlessNamed t named c k
  zero_stray z =
      ⊎_elim (λ a k l. of_may k (a.1 k l)) (λ f. absurd (not_code f z)) (found_from t (head_named t ++ named) 0 c)

pub first_stray : (t : PduType) (named : List Run) (c : List ℕ) → (stray t named c ≡ 0 → ⊥) → FirstStray t named c (stray t named c)
first_stray t named c some =
    ⊎_elim (λ a. absurd (some a.0))
    (λ f. record {
      in_the_command = (let l = f.inside in let e = f.is in omega arith);
      not_named = f.not_named;
      not_zero = λ z. f.not_zero (ap (λ (i : ℕ). unnamed_bits t (stray t named c) (get_or c i 0)) (let e = f.is in let q : f.at ≡ stray t named c = omega arith in q) ∙ z);
      before_it = λ k l. of_may t named c k (f.before k (let e = f.is in omega arith));
    })
    (found_from t (head_named t ++ named) 0 c)

-- Two lists of records have one list of differences: a list that rises by a number is given by what is in it.
use mathlib.Core.Logic.{inl, inr, ⊎_elim}
use mathlib.Core.Path.{◌≡◌, refl, sym, ap, ap₂, subst, ◌∙◌}
use mathlib.Core.List.{List, [], ◌∷◌}
use Prim.Native.Nat.{ℕ, ◌<◌, ◌≤◌}
use native.Mathlib.Nat.{le_refl}
use native.Mathlib.Omega.{arith}
use Rattle.law.specs.Words.{Every, From, InARow}
use Rattle.law.specs.Difference.{Entry, Change, In, turn_of, Lists}

-- what each of a list has, one in it has
pub every_in : {A : Type 0} (P : A → Type 0) (c : A) (l : List A) → Every P l → In c l → P c
every_in P c [] all i = absurd i
every_in P c (d ∷ l) all i = ⊎_elim (λ e. subst P (sym e) all.0) (λ j. every_in P c l all.1 j) i

module _ {A : Type 0} (f : A → ℕ) where
  abbrev pub Up : A → A → Type 0
  Up c d = f c < f d

  -- all that comes behind is above
  pub all_above : (n : ℕ) (c : A) (l : List A) → n ≤ f c → From Up c l → Every (λ (d : A). n < f d) l
  all_above n c [] h p = tt
  all_above n c (d ∷ l) h p = let q = p.0 in (omega arith, all_above n d l (omega arith) p.1)

  pub from_row : (c : A) (l : List A) → From Up c l → InARow Up l
  from_row c [] p = tt
  from_row c (d ∷ l) p = p.1

  behind : (c d : A) (l : List A) → From Up d l → In c l → f d < f c
  behind c d l p i = every_in (λ (x : A). f d < f x) c l (all_above (f d) d l (le_refl (f d)) p) i

  -- at one number there is one at the most
  pub one_at : (c d : A) (l : List A) → InARow Up l → In c l → In d l → f c ≡ f d → c ≡ d
  one_at c d [] p i j e = absurd i
  one_at c d (x ∷ l) p (inl a) (inl b) e = a ∙ sym b
  one_at c d (x ∷ l) p (inl a) (inr j) e = let q = behind d x l p j in let r = ap f a in absurd (omega arith)
  one_at c d (x ∷ l) p (inr i) (inl b) e = let q = behind c x l p i in let r = ap f b in absurd (omega arith)
  one_at c d (x ∷ l) p (inr i) (inr j) e = one_at c d l (from_row x l p) i j e

  heads : (c d : A) (l m : List A) → From Up c l → From Up d m → In c (d ∷ m) → In d (c ∷ l) → c ≡ d
  heads c d l m p q i j =
      ⊎_elim (λ e. e)
      (λ i. ⊎_elim (λ e. sym e) (λ j. let a = behind c d m q i in let b = behind d c l p j in absurd (omega arith)) j)
      i

  -- what is in the one list is in the other, and so without the heads
  tails : (c d : A) (l m : List A) → c ≡ d → From Up c l → ((x : A) → In x (c ∷ l) → In x (d ∷ m)) → (x : A) → In x l → In x m
  tails c d l m e p all x i =
      ⊎_elim (λ k. let a = behind x c l p i in let b = ap f (k ∙ sym e) in absurd (omega arith)) (λ j. j) (all x (inr i))

  pub same_rising : (l m : List A) → InARow Up l → InARow Up m → ((x : A) → In x l → In x m) → ((x : A) → In x m → In x l) → l ≡ m
  same_rising [] [] p q there back = refl
  same_rising [] (d ∷ m) p q there back = absurd (back d (inl refl))
  same_rising (c ∷ l) [] p q there back = absurd (there c (inl refl))
  same_rising (c ∷ l) (d ∷ m) p q there back =
      let e = heads c d l m p q (there c (inl refl)) (back d (inl refl)) in
      ap₂ ◌∷◌ e (same_rising l m (from_row c l p) (from_row d m q) (tails c d l m e p there) (tails d c m l (sym e) q back))

pub one_list : (a b : List Entry) (l m : List Change) → Lists a b l → Lists a b m → l ≡ m
one_list a b l m p q =
    same_rising turn_of l m p.in_order q.in_order (λ c i. q.each c (p.only c i)) (λ c i. p.each c (q.only c i))

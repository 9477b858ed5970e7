-- Records by their place in the order, by kind and key, and by their fields.
use mathlib.Core.Bool.{Bool, true, false, ◌&&◌}
use mathlib.Core.Logic.{inl, inr, ⊎_elim}
use mathlib.Core.Path.{◌≡◌, refl, sym, ap, ap₂, ◌∙◌}
use mathlib.Core.List.{List, [], ◌∷◌}
use Prim.Native.Nat.{ℕ, ◌+◌, ◌<◌, ◌≤◌}
use native.Mathlib.Omega.{arith}
use borrow.Author.Tests.{eqb-true, eq-eqb}
use lib.Dec.{eqb}
use lib.ListN.{length}
use Rattle.std.proofs.lemmas.Bool.{and_parts}
use Rattle.law.specs.Words.{when, Every}
use Rattle.law.specs.Difference.{Entry, order_of_kind, rank, rank_of, same, bits_from, bits_of, In, Has}
use Rattle.law.proofs.Merge.{Shaped}

-- what holds of either arm, given its test
pub when_cases : {A : Type 0} (P : A → Type 0) (b : Bool) {x y : A} → (b ≡ true → P x) → (b ≡ false → P y) → P (when b x y)
unfolding when
when_cases P true p q = p refl
when_cases P false p q = q refl

-- of one kind, two keys at one place are one
pub same_key : (kind key other : ℕ) → rank kind key ≡ rank kind other → key ≡ other
unfolding rank
same_key kind key other e = let p = order_of_kind kind in omega arith

-- all records of a list come behind a place
abbrev pub Below : ℕ → List Entry → Type 0
Below n es = Every (λ (e : Entry). n < rank_of e) es

pub below_more : (n m : ℕ) (es : List Entry) → n ≤ m → Below m es → Below n es
below_more n m [] h b = tt
below_more n m (e ∷ es) h b = let q = b.0 in (omega arith, below_more n m es h b.1)

pub below_has : (n kind key : ℕ) (es : List Entry) → rank kind key ≤ n → Below n es → Has kind key es → ⊥
below_has n kind key [] h b i = i
below_has n kind key (e ∷ es) h b i =
    ⊎_elim (λ p. let q = b.0 in let k = ap₂ rank p.0 p.1 in omega arith) (λ j. below_has n kind key es h b.1 j) i

-- a record in a list is of its kind and key
pub has_in : (kind key : ℕ) (x : Entry) (es : List Entry) → kind ≡ x.kind → key ≡ x.key → In x es → Has kind key es
has_in kind key x [] k e i = i
has_in kind key x (y ∷ es) k e i =
    ⊎_elim (λ p. inl (k ∙ ap (λ (z : Entry). z.kind) p, e ∙ ap (λ (z : Entry). z.key) p)) (λ j. inr (has_in kind key x es k e j)) i

-- fields that are the same
pub same_yes : (xs ys : List ℕ) → same xs ys ≡ true → xs ≡ ys
unfolding same
same_yes [] [] e = refl
same_yes [] (y ∷ ys) e = cc
same_yes (x ∷ xs) [] e = cc
same_yes (x ∷ xs) (y ∷ ys) e = let p = and_parts (eqb x y) (same xs ys) e in ap₂ ◌∷◌ (eqb-true x y p.0) (same_yes xs ys p.1)

pub same_self : (xs : List ℕ) → same xs xs ≡ true
unfolding same
same_self [] = refl
same_self (x ∷ xs) = ap₂ ◌&&◌ (eq-eqb x x refl) (same_self xs)

bit_kept : (t : Bool) (b n : ℕ) → 0 < b → when t 0 b + n ≡ 0 → (t ≡ true) × (n ≡ 0)
unfolding when
bit_kept true b n h e = (refl, omega arith)
bit_kept false b n h e = absurd (omega arith)

pub bits_none : (b : ℕ) (xs ys : List (List ℕ)) → 0 < b → length xs ≡ length ys → bits_from b xs ys ≡ 0 → xs ≡ ys
unfolding bits_from
bits_none b [] [] h l e = refl
bits_none b [] (y ∷ ys) h l e = absurd (omega arith)
bits_none b (x ∷ xs) [] h l e = absurd (omega arith)
bits_none b (x ∷ xs) (y ∷ ys) h l e =
    let p = bit_kept (same x y) b (bits_from (b + b) xs ys) h e in
    ap₂ ◌∷◌ (same_yes x y p.0) (bits_none (b + b) xs ys (omega arith) (omega arith) p.1)

pub bits_self : (b : ℕ) (xs : List (List ℕ)) → bits_from b xs xs ≡ 0
unfolding bits_from when
bits_self b [] = refl
bits_self b (x ∷ xs) = let q = bits_self (b + b) xs in rw (same_self x) (omega arith)

-- two records of one kind and key that have no changed field are one
pub same_entry : (x y : Entry) → Shaped x → Shaped y → x.kind ≡ y.kind → x.key ≡ y.key → bits_of x y ≡ 0 → x ≡ y
same_entry x y s t k e b =
    let l : length x.fields ≡ length y.fields = s ∙ ap (λ (n : ℕ). when (eqb n 6) 1 (when (eqb n 7) 1 3)) k ∙ sym t in
    let f = bits_none 1 x.fields y.fields (omega arith) l b in
    λ i. record { kind = k i; key = e i; fields = f i }

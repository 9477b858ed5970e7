-- Request 2: of two entries of a list the one that stands first precedes.
use mathlib.Core.List.{List, [], ◌∷◌}
use mathlib.Core.Logic.{inl, inr, ⊎_elim}
use mathlib.Core.Path.{◌≡◌, refl, sym, ap, ap₂, ◌∙◌}
use Prim.Native.Nat.{ℕ, zero, suc, ◌+◌, ◌*◌, ◌≤◌, ◌<◌, ◌^◌}
use native.Mathlib.Nat.{le_refl}
use native.Mathlib.Omega.{arith}
use lib.ListN.{length, get_or}
use Rattle.octets.proofs.Cases.{lt_or_le}
use Rattle.law.specs.Words.{InARow}
use Rattle.law.specs.Difference.{Entry, Change, gone, new, changed, order_of_kind, rank, rank_of, entries_of, key_length, In, Differs, turn_of}
use Rattle.law.proofs.GoodEntries.{GoodKey}
use Rattle.law.proofs.Merge.{Rising}
use Rattle.law.proofs.OneList.{Up, all_above, from_row, every_in, one_at}
use Rattle.law.proofs.Ranks.{when_cases, has_in}
use Rattle.law.proofs.ReadBack.{GoodChange, listed_good}
use Rattle.law.proofs.Rises.{entries_rise}
use Rattle.demands.specs.Changed.{kind_of, key_of, IsGone, IsNew, Precedes, OnceAndInOrder}

-- what stands in a list, by its place
at_in : {A : Type 0} (d : A) (l : List A) (i : ℕ) → i < length l → In (get_or l i d) l
at_in d [] i h = absurd (omega arith)
at_in d (x ∷ l) zero h = inl refl
at_in d (x ∷ l) (suc i) h = inr (at_in d l i (omega arith))

-- of a list that rises by a number, what stands further on is above
further : {A : Type 0} (f : A → ℕ) (d : A) (l : List A) → InARow (Up f) l → (i j : ℕ) → i < j → j < length l → f (get_or l i d) < f (get_or l j d)
further f d [] p i j h b = absurd (omega arith)
further f d (x ∷ l) p i zero h b = absurd (omega arith)
further f d (x ∷ l) p zero (suc j) h b =
    every_in (λ y. f x < f y) (get_or l j d) l (all_above f (f x) x l (le_refl (f x)) p) (at_in d l j (omega arith))
further f d (x ∷ l) p (suc i) (suc j) h b = further f d l (from_row f x l p) i j (omega arith) (omega arith)

-- a turn in numbers: of one order and key, new comes last
abbrev late : Change → ℕ
late (gone kind key) = 0
late (new y) = 1
late (changed bits y) = 0

turn_is : (c : Change) → turn_of c ≡ 2 * (4294967296 * order_of_kind (kind_of c) + key_of c) + late c
unfolding turn_of rank
turn_is (gone kind key) = omega arith
turn_is (new y) = refl
turn_is (changed bits y) = omega arith

at_most : (c : Change) → late c ≤ 1
at_most (gone kind key) = omega arith
at_most (new y) = omega arith
at_most (changed bits y) = omega arith

-- a key is below 2^32
key_below : (kind key : ℕ) → GoodKey kind key → key < 4294967296
key_below kind key g =
    let p : 256 ^ key_length kind ≤ 4294967296 =
    when_cases (λ (n : ℕ). 256 ^ n ≤ 4294967296) _ (λ e. omega arith)
    (λ e. when_cases (λ (n : ℕ). 256 ^ n ≤ 4294967296) _ (λ e. omega arith)
    (λ e. when_cases (λ (n : ℕ). 256 ^ n ≤ 4294967296) _ (λ e. omega arith) (λ e. omega arith))) in
    omega (arith, g.fits)

change_below : (c : Change) → GoodChange c → key_of c < 4294967296
unfolding GoodChange
change_below (gone kind key) g = key_below kind key g
change_below (new y) g = key_below y.kind y.key g.known
change_below (changed bits y) g = key_below y.kind y.key g.known

-- two of one order and key: a record that is changed is in both sheets, and so no other of its order and key is new
module _ (a b : List Entry) (r : Rising b) where
  gone_new : (c d : Change) → Differs a b c → Differs a b d → order_of_kind (kind_of c) ≡ order_of_kind (kind_of d) → key_of c ≡ key_of d → late c < late d
      → IsGone c × IsNew d
  unfolding Differs rank
  gone_new c (gone k n) p q o key l = absurd (omega arith)
  gone_new c (changed m y) p q o key l = absurd (omega arith)
  gone_new (gone k n) (new y) p q o key l = (tt, tt)
  gone_new (new x) (new y) p q o key l = absurd (omega arith)
  gone_new (changed n x) (new y) (i, (z, t, kind, k, u, e)) (j, h) o key l =
      let s = one_at rank_of x y b r i j (ap₂ (λ (m k : ℕ). 4294967296 * m + k) o key) in
      absurd (h (has_in y.kind y.key z a
      (ap (λ (w : Entry). w.kind) (sym s) ∙ sym kind) (ap (λ (w : Entry). w.key) (sym s) ∙ sym k) t))

-- so the order of the turns is that of kinds and keys
precedes : (a b : List Entry) → Rising b → (c d : Change) → Differs a b c → Differs a b d → GoodChange c → GoodChange d → turn_of c < turn_of d
    → Precedes c d
precedes a b r c d p q g h t =
    let o = order_of_kind (kind_of c) in
    let u = order_of_kind (kind_of d) in
    let m = key_of c in
    let n = key_of d in
    let x = turn_is c in
    let y = turn_is d in
    let v = change_below c g in
    let w = change_below d h in
    let s = at_most c in
    let z = at_most d in
    ⊎_elim (λ l. inl l)
    (λ l.
    let e : o ≡ u = omega arith in
    inr (
      e,
      ⊎_elim (λ k. inl k)
          (λ k.
          let f : m ≡ n = omega arith in
          let which = gone_new a b r c d p q e f (omega arith) in inr (f, which.0, which.1))
          (lt_or_le m n),
    ))
    (lt_or_le o u)

pub once_and_in_order : OnceAndInOrder
once_and_in_order a b v w list l i j h k =
    let none = gone 0 0 in
    let m = at_in none list i (omega arith) in
    let n = at_in none list j k in
    let good = listed_good a b v w list l in
    precedes (entries_of a) (entries_of b) (entries_rise b w) (get_or list i none) (get_or list j none) (l.only _ m) (l.only _ n)
    (every_in GoodChange _ list good m) (every_in GoodChange _ list good n) (further turn_of none list l.in_order i j h k)

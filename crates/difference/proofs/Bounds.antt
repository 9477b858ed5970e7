-- Bounds of what a record of any octets has.
use Prim.Native.Nat.{ℕ, zero, suc, ◌+◌, ◌%◌, ◌<◌, ◌≤◌}
use mathlib.Core.List.{List, [], ◌∷◌, ◌++◌}
use mathlib.Core.Logic.{inl, inr}
use mathlib.Core.Path.{◌≡◌, refl, ap, ◌∙◌}
use native.Mathlib.Omega.{arith}
use lib.ListN.{length, get_or, get_or-eq_default}
use borrow.Author.Tests.{eqb-true}
use Rattle.octets.specs.Pick.{pick}
use Rattle.octets.proofs.Pick.{pick_both, pick_cases}
use Rattle.octets.proofs.Cases.{eq_or_ne, lt_or_le}
use Rattle.sheet.specs.Faults.{number_of}
use Rattle.sheet.specs.Kinds.{size_of}
use Rattle.sheet.specs.declared.records.Fault.{Fault}
use Rattle.sheet.specs.declared.records.Fault.TheVariants.{Ended, Unknown, Misplaced, Range, Disorder, Excess, Unmapped}
use Rattle.difference.specs.Records.{kind_at, cut, key_width, key_at, place_of, rank_at, first_width, second_width, third_width, bit_of}

-- every octet of a lent list is one
abbrev pub Octets : List ℕ → Type 0
Octets s = (k : ℕ) → get_or s k 0 < 256

pub kind_under : (s : List ℕ) (at : ℕ) → kind_at s at < 8
unfolding kind_at
kind_under s at = omega arith

pub size_least : (k : ℕ) → 1 ≤ size_of k
unfolding size_of pick
size_least k = grind arith

pub size_most : (k : ℕ) → size_of k ≤ 35
unfolding size_of pick
size_most k = grind arith

pub key_most : (k : ℕ) → key_width k ≤ 4
unfolding key_width pick
key_most k = grind arith

pub first_most : (k : ℕ) → first_width k ≤ 4
unfolding first_width
first_most k =
    let P : ℕ → Type 0 = λ n. n ≤ 4 in
    pick_both P _ (omega arith) (pick_both P _ (omega arith) (omega arith))

pub second_most : (k : ℕ) → second_width k ≤ 4
unfolding second_width
second_most k =
    let P : ℕ → Type 0 = λ n. n ≤ 4 in
    pick_both P _ (omega arith) (pick_both P _ (omega arith) (pick_both P _ (omega arith) (omega arith)))

pub third_most : (k : ℕ) → third_width k ≤ 32
unfolding third_width
third_most k =
    let P : ℕ → Type 0 = λ n. n ≤ 32 in
    pick_both P _ (omega arith) (pick_both P _ (omega arith) (omega arith))

pub bit_most : (a : List ℕ) (i : ℕ) (b : List ℕ) (j n bit : ℕ) → bit_of a i b j n bit ≤ bit
unfolding bit_of
bit_most a i b j n bit = pick_both (λ (m : ℕ). m ≤ bit) _ (omega arith) (omega arith)

pub cut_length : (s : List ℕ) (n at : ℕ) → length (cut s at n) ≡ n
unfolding cut
cut_length s zero at = refl
cut_length s (suc n) at = ap suc (cut_length s n (suc at))

-- one octet more
cut_next : (s : List ℕ) (n at : ℕ) → cut s at n ++ (get_or s (at + n) 0 ∷ []) ≡ cut s at (suc n)
unfolding cut
cut_next s zero at = let e : at + 0 ≡ at = omega arith in ap (λ (k : ℕ). get_or s k 0 ∷ []) e
cut_next s (suc n) at =
    let e : at + suc n ≡ suc at + n = omega arith in
    ap (λ (t : List ℕ). get_or s at 0 ∷ t) (ap (λ (k : ℕ). cut s (suc at) n ++ (get_or s k 0 ∷ [])) e ∙ cut_next s n (suc at))

pub cut_more : (s : List ℕ) (n at k x : ℕ) → x ≡ get_or s k 0 → k ≡ at + n → cut s at n ++ (x ∷ []) ≡ cut s at (n + 1)
cut_more s n at k x e f =
    let g : suc n ≡ n + 1 = omega arith in
    ap (λ (y : ℕ). cut s at n ++ (y ∷ [])) (e ∙ ap (λ (m : ℕ). get_or s m 0) f) ∙ cut_next s n at ∙ ap (cut s at) g

pub key_under : (s : List ℕ) (at kind : ℕ) → Octets s → key_at s at kind < 4294967296
unfolding key_at pick
key_under s at kind o =
    let p = o (at + 1) in
    let q = o (at + 1 + 1) in
    let r = o (at + 1 + 2) in
    let t = o (at + 1 + 3) in
    grind arith

-- the end stands behind every record
pub rank_end : (s : List ℕ) (at : ℕ) → kind_at s at ≡ 0 → rank_at s at ≡ 34359738368
unfolding rank_at place_of key_at pick
rank_end s at e = rw e

pub rank_under : (s : List ℕ) (at : ℕ) → Octets s → (kind_at s at ≡ 0 → ⊥) → rank_at s at < 34359738368
unfolding rank_at place_of pick
rank_under s at o n =
    let k = kind_under s at in
    let key = key_under s at (kind_at s at) o in
    grind arith

pub rank_most : (s : List ℕ) (at : ℕ) → Octets s → rank_at s at ≤ 34359738368
rank_most s at o = elim (eq_or_ne (kind_at s at) 0) [ inl e ↦ omega (arith, rank_end s at e) | inr n ↦ omega (arith, rank_under s at o n) ]

-- the numbers of faults
pub fault_most : (f : Fault) → number_of f ≤ 17
unfolding number_of
fault_most Ended = omega arith
fault_most Unknown = omega arith
fault_most Misplaced = omega arith
fault_most Range = omega arith
fault_most Disorder = omega arith
fault_most Excess = omega arith
fault_most Unmapped = omega arith

-- a place with a record lies inside
pub inside : (s : List ℕ) (at : ℕ) → (kind_at s at ≡ 0 → ⊥) → at < length s
unfolding kind_at
inside s at n =
    elim (lt_or_le at (length s)) [ inl h ↦ h | inr h ↦ absurd (n (ap (λ (x : ℕ). x % 8) (get_or-eq_default s 0 h))) ]

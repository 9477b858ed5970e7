-- The bits of a changed record: bit k is set exactly where field k is another.
use mathlib.Core.Bool.{Bool, true, false, not}
use mathlib.Core.Path.{◌≡◌, refl, sym, ap, ◌∙◌}
use mathlib.Core.List.{List, [], ◌∷◌}
use Prim.Native.Nat.{ℕ, zero, suc, ◌+◌, ◌*◌, ◌/◌, ◌%◌, ◌^◌}
use native.Mathlib.Nat.{pow-succ', div-one, div-div-eq-div-mul, zero-div}
use native.Mathlib.Omega.{arith}
use borrow.Author.Tests.{eq-eqb, ne_eqb}
use lib.Dec.{eqb}
use lib.ListN.{length, get_or, length-map}
use Rattle.law.specs.Words.{when, bit}
use Rattle.law.specs.Difference.{Entry, same, bits_from, bits_of}
use Rattle.law.proofs.GoodEntries.{sizes_of, GoodEntry}

-- from twice the bit on, the bits are twice the bits
twice_one : (t : Bool) (b : ℕ) → when t 0 (b + b) ≡ 2 * when t 0 b
unfolding when
twice_one true b = refl
twice_one false b = omega arith

twice : (b : ℕ) (xs ys : List (List ℕ)) → bits_from (b + b) xs ys ≡ 2 * bits_from b xs ys
unfolding bits_from
twice b [] ys = refl
twice b (x ∷ xs) [] = refl
twice b (x ∷ xs) (y ∷ ys) = let one = twice_one (same x y) b in let rest = twice (b + b) xs ys in omega arith

none_set : (k : ℕ) → bit 0 k ≡ false
none_set k = ap (λ (n : ℕ). eqb (n % 2) 1) (zero-div (2 ^ k))

-- the lowest bit, and those above it
bit_first : (t : Bool) (n : ℕ) → bit (when t 0 1 + 2 * n) 0 ≡ not t
unfolding when
bit_first true n = ap (λ (m : ℕ). eqb (m % 2) 1) (div-one (0 + 2 * n)) ∙ ne_eqb ((0 + 2 * n) % 2) 1 (λ e. omega arith)
bit_first false n = ap (λ (m : ℕ). eqb (m % 2) 1) (div-one (1 + 2 * n)) ∙ eq-eqb ((1 + 2 * n) % 2) 1 (omega arith)

half : (t : Bool) (n : ℕ) → (when t 0 1 + 2 * n) / 2 ≡ n
unfolding when
half true n = omega arith
half false n = omega arith

bit_more : (t : Bool) (n k : ℕ) → bit (when t 0 1 + 2 * n) (suc k) ≡ bit n k
bit_more t n k =
    let m = when t 0 1 + 2 * n in
    ap (λ (b : ℕ). eqb (b % 2) 1)
    (ap (λ (d : ℕ). m / d) (pow-succ' 2 k) ∙ sym (div-div-eq-div-mul m 2 (2 ^ k)) ∙ ap (λ (q : ℕ). q / 2 ^ k) (half t n))

-- lists of fields that are as long as each other; behind their ends no bit is set
pub bits_are_fields : (xs ys : List (List ℕ)) → length xs ≡ length ys → (k : ℕ)
    → bit (bits_from 1 xs ys) k ≡ not (same (get_or xs k []) (get_or ys k []))
unfolding bits_from same
bits_are_fields [] [] l k = none_set k
bits_are_fields [] (y ∷ ys) l k = absurd (omega arith)
bits_are_fields (x ∷ xs) [] l k = absurd (omega arith)
bits_are_fields (x ∷ xs) (y ∷ ys) l zero =
    ap (λ (n : ℕ). bit (when (same x y) 0 1 + n) 0) (twice 1 xs ys) ∙ bit_first (same x y) (bits_from 1 xs ys)
bits_are_fields (x ∷ xs) (y ∷ ys) l (suc k) =
    ap (λ (n : ℕ). bit (when (same x y) 0 1 + n) (suc k)) (twice 1 xs ys) ∙ bit_more (same x y) (bits_from 1 xs ys) k
    ∙ bits_are_fields xs ys (omega arith) k

-- so of two records of one kind
pub bits_of_records : (x y : Entry) → GoodEntry x → GoodEntry y → x.kind ≡ y.kind → (k : ℕ)
    → bit (bits_of x y) k ≡ not (same (get_or x.fields k []) (get_or y.fields k []))
bits_of_records x y g h e =
    bits_are_fields x.fields y.fields
    (sym (length-map x.fields length) ∙ ap length (g.sizes ∙ ap sizes_of e ∙ sym h.sizes) ∙ length-map y.fields length)

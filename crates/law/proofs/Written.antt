-- Numbers in octets, there and back.
use mathlib.Core.Path.{◌≡◌, refl, sym, ap, ◌∙◌}
use mathlib.Core.List.{List, [], ◌∷◌, ◌++◌}
use Prim.Native.Nat.{ℕ, zero, suc, ◌+◌, ◌*◌, ◌/◌, ◌%◌, ◌≤◌, ◌<◌}
use native.Mathlib.Omega.{arith}
use native.Mathlib.Nat.{add-zero}
use lib.ListN.{length, get_or, drop}
use lib.Seq.{drop-cons}
use Rattle.regions.specs.Region.{listed}
use Rattle.octets.specs.Numbers.{le2, le4}
use Rattle.law.specs.Words.{in_octets}

two_back : (n q : ℕ) → q ≡ n / 256 → n < 65536 → le2 (n % 256) (q % 256) ≡ n
two_back n q e h = omega arith

four_back : (n q₁ q₂ q₃ : ℕ) → q₁ ≡ n / 256 → q₂ ≡ q₁ / 256 → q₃ ≡ q₂ / 256 → n < 4294967296
    → le4 (n % 256) (q₁ % 256) (q₂ % 256) (q₃ % 256) ≡ n
four_back n q₁ q₂ q₃ e₁ e₂ e₃ h =
    let a : q₃ < 256 = omega arith in
    let b : q₃ % 256 ≡ q₃ = omega arith in
    omega arith

pub le2_back : (n : ℕ) → n < 65536 → le2 (n % 256) (n / 256 % 256) ≡ n
le2_back n h = two_back n (n / 256) refl h

pub le4_back : (n : ℕ) → n < 4294967296 → le4 (n % 256) (n / 256 % 256) (n / 256 / 256 % 256) (n / 256 / 256 / 256 % 256) ≡ n
le4_back n h = four_back n (n / 256) (n / 256 / 256) (n / 256 / 256 / 256) refl refl refl h

pub two_octets : (a b : ℕ) → a < 256 → b < 256 → in_octets 2 (le2 a b) ≡ a ∷ b ∷ []
two_octets a b ha hb =
    let q : le2 a b / 256 ≡ b = omega arith in
    let x : le2 a b % 256 ≡ a = omega arith in
    let y : le2 a b / 256 % 256 ≡ b = ap (λ (n : ℕ). n % 256) q ∙ (let e : b % 256 ≡ b = omega arith in e) in
    λ i. x i ∷ y i ∷ []

pub four_octets : (a b c d : ℕ) → a < 256 → b < 256 → c < 256 → d < 256 → in_octets 4 (le4 a b c d) ≡ a ∷ b ∷ c ∷ d ∷ []
four_octets a b c d ha hb hc hd =
    let q₁ : le4 a b c d / 256 ≡ b + 256 * c + 65536 * d = omega arith in
    let q₂ : le4 a b c d / 256 / 256 ≡ c + 256 * d = ap (λ (n : ℕ). n / 256) q₁ ∙ (let e : (b + 256 * c + 65536 * d) / 256 ≡ c + 256 * d = omega arith in e) in
    let q₃ : le4 a b c d / 256 / 256 / 256 ≡ d = ap (λ (n : ℕ). n / 256) q₂ ∙ (let e : (c + 256 * d) / 256 ≡ d = omega arith in e) in
    let x₀ : le4 a b c d % 256 ≡ a = omega arith in
    let x₁ : le4 a b c d / 256 % 256 ≡ b = ap (λ (n : ℕ). n % 256) q₁ ∙ (let e : (b + 256 * c + 65536 * d) % 256 ≡ b = omega arith in e) in
    let x₂ : le4 a b c d / 256 / 256 % 256 ≡ c = ap (λ (n : ℕ). n % 256) q₂ ∙ (let e : (c + 256 * d) % 256 ≡ c = omega arith in e) in
    let x₃ : le4 a b c d / 256 / 256 / 256 % 256 ≡ d = ap (λ (n : ℕ). n % 256) q₃ ∙ (let e : d % 256 ≡ d = omega arith in e) in
    λ i. x₀ i ∷ x₁ i ∷ x₂ i ∷ x₃ i ∷ []

-- a list, octet by octet as far as m more
pub opened : (l : List ℕ) (k m : ℕ) → k + m ≤ length l → drop k l ≡ listed (λ (i : ℕ). get_or l i 0) k m ++ drop (k + m) l
unfolding listed
opened l k zero h = ap (λ (i : ℕ). drop i l) (sym (add-zero k))
opened l k (suc m) h =
    drop-cons l k 0 (omega arith)
    ∙ ap (λ (t : List ℕ). get_or l k 0 ∷ t) (opened l (suc k) m (omega arith)
    ∙ ap (λ (i : ℕ). listed (λ (i : ℕ). get_or l i 0) (suc k) m ++ drop i l) (let e : suc k + m ≡ k + suc m = omega arith in e))

-- Laws of octets laid into a buffer: one after another, in two parts, and whole where the buffer is long enough.
use Prim.Native.Nat.{ℕ, suc, ◌+◌, ◌-◌, ◌<◌, ◌≤◌}
use mathlib.Core.List.{List, [], ◌∷◌, ◌++◌}
use mathlib.Core.Path.{◌≡◌, refl, sym, ap, ap₂, ◌∙◌}
use native.Mathlib.Omega.{arith}
use lib.ListN.{length, get_or, drop, set, length-set}
use lib.Seq.{set_out, sets, sets-eq}
use borrow.Author.Tests.{ltb-false}
use Rattle.octets.proofs.Pick.{pick_both, pick_cases}
use Rattle.difference.specs.Records.{cut}
use Rattle.difference.specs.Laid.{laid_one, laid}

pub laid_one_length : (d : List ℕ) (at x : ℕ) → length (laid_one d at x) ≡ length d
unfolding laid_one
laid_one_length d at x = pick_both (λ (l : List ℕ). length l ≡ length d) _ (length-set d at x) refl

pub laid_length : (s d : List ℕ) (at : ℕ) → length (laid d at s) ≡ length d
unfolding laid
laid_length [] d at = refl
laid_length (x ∷ xs) d at = laid_length xs (laid_one d at x) (suc at) ∙ laid_one_length d at x

-- the octets of s, and behind them those of t
pub laid_on : (s t d : List ℕ) (at : ℕ) → laid (laid d at s) (at + length s) t ≡ laid d at (s ++ t)
unfolding laid
laid_on [] t d at = let e : at + 0 ≡ at = omega arith in ap (λ (k : ℕ). laid d k t) e
laid_on (x ∷ xs) t d at =
    let e : at + suc (length xs) ≡ suc at + length xs = omega arith in
    ap (λ (k : ℕ). laid (laid (laid_one d at x) (suc at) xs) k t) e ∙ laid_on xs t (laid_one d at x) (suc at)

-- what has no room is left out by `set` too
laid_one_is : (d : List ℕ) (at x : ℕ) → laid_one d at x ≡ set d at x
unfolding laid_one
laid_one_is d at x = pick_cases (λ (l : List ℕ). l ≡ set d at x) _ (λ _. refl) (λ e. sym (set_out d at x (ltb-false at (length d) e)))

laid_is : (s d : List ℕ) (at : ℕ) → laid d at s ≡ sets d at s
unfolding laid
laid_is [] d at = refl
laid_is (x ∷ xs) d at = ap (λ (l : List ℕ). laid l (suc at) xs) (laid_one_is d at x) ∙ laid_is xs (set d at x) (suc at)

-- where there is room for all, they stand at the front, and the rest stays
pub laid_whole : (s d : List ℕ) → length s ≤ length d → laid d 0 s ≡ s ++ drop (length s) d
laid_whole s d h =
    let room : 0 + length s ≤ length d = omega (arith, h) in
    let z : 0 + length s ≡ length s = omega arith in
    laid_is s d 0 ∙ sets-eq s d 0 room ∙ ap (λ (k : ℕ). s ++ drop k d) z

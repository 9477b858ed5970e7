-- The first octet that is not what is wanted.
--     differs_self       a reply differs nowhere from itself
--     differs_most       no octet differs past what is wanted
--     differs_behind     a reply that begins with what is wanted differs behind it
--     differs_first      the first pair that differs is at that octet
--     wanted_nothing     where nothing is wanted, an outcome is left whole
use mathlib.Core.Bool.{not}
use mathlib.Core.Logic.{⊎_elim}
use mathlib.Core.Path.{◌≡◌, refl, sym, ap, ◌∙◌}
use mathlib.Core.List.{List, [], ◌∷◌, ◌++◌}
use Prim.Native.Nat.{ℕ, suc, ◌+◌, ◌≤◌}
use native.Mathlib.Nat.{le_refl}
use native.Mathlib.Numerals.{one-add}
use native.Mathlib.Omega.{arith}
use borrow.Author.Tests.{eq-eqb, ne_eqb, lt-ltb, le-ltb}
use lib.Dec.{eqb}
use lib.ListN.{length, take, length-take}
use Rattle.std.proofs.lemmas.Slice.Zip.{length-zip}
use Rattle.octets.specs.Pick.{pick}
use Rattle.octets.proofs.Cases.{eq_or_ne, lt_or_le}
use Rattle.octets.proofs.Pick.{pick_yes, pick_no, pick_eq, pick_both}
use Rattle.std.specs.List.{position_or_len, position, zip}
use Rattle.std.specs.Option.{unwrap_or}
use Rattle.slave.specs.Exchange.{Left}
use Rattle.slave.specs.Wanted.{differs_at, stepped, stepped_of}

pub differs_self : (xs : List ℕ) → differs_at xs xs ≡ length xs
unfolding differs_at
differs_self [] = refl
differs_self (x ∷ xs) = pick_yes _ _ (eq-eqb x x refl) ∙ ap suc (differs_self xs)

pub differs_most : (xs ys : List ℕ) → differs_at xs ys ≤ length ys
unfolding differs_at
differs_most [] ys = omega arith
differs_most (x ∷ xs) [] = le_refl 0
differs_most (x ∷ xs) (y ∷ ys) = pick_both (λ (n : ℕ). n ≤ suc (length ys)) _ (let h = differs_most xs ys in omega arith) (omega arith)

-- nothing is wanted, so nothing differs
differs_nowhere : (xs : List ℕ) → differs_at xs [] ≡ 0
unfolding differs_at
differs_nowhere [] = refl
differs_nowhere (x ∷ xs) = refl

pub differs_behind : (xs ys : List ℕ) → differs_at (xs ++ ys) xs ≡ length xs
unfolding differs_at
differs_behind [] ys = differs_nowhere ys
differs_behind (x ∷ xs) ys = pick_yes _ _ (eq-eqb x x refl) ∙ ap suc (differs_behind xs ys)

-- the pairs before the first that differs are those that are the same
differs_pairs : (xs ys : List ℕ) → position_or_len (λ (p : ℕ × ℕ). not (eqb p.0 p.1)) (zip xs ys) ≡ differs_at xs ys
unfolding differs_at
differs_pairs [] ys = refl
differs_pairs (x ∷ xs) [] = refl
differs_pairs (x ∷ xs) (y ∷ ys) =
    ⊎_elim
    (λ e. rw (eq-eqb x y e, differs_pairs xs ys, one-add) (sym (pick_yes _ _ refl)))
    (λ n. rw (ne_eqb x y n) (sym (pick_no _ _ refl)))
    (eq_or_ne x y)

-- an octet behind what is wanted is not looked at
differs_taken : (xs ys : List ℕ) → differs_at (take (length ys) xs) ys ≡ differs_at xs ys
unfolding differs_at
differs_taken [] [] = refl
differs_taken [] (y ∷ ys) = refl
differs_taken (x ∷ xs) [] = refl
differs_taken (x ∷ xs) (y ∷ ys) = ap (λ (n : ℕ). pick (eqb x y) (suc n) 0) (differs_taken xs ys)

-- where none of as many pairs as are wanted differs, the first that does is behind them
pub differs_first : (xs ys : List ℕ) → length ys ≤ length xs
    → unwrap_or (position (λ (p : ℕ × ℕ). not (eqb p.0 p.1)) (zip (take (length ys) xs) ys)) (length ys) ≡ differs_at xs ys
differs_first xs ys h =
    let d = differs_pairs (take (length ys) xs) ys ∙ differs_taken xs ys in
    let n : length (zip (take (length ys) xs) ys) ≡ length ys = omega (arith, length-zip (take (length ys) xs) ys, length-take (length ys) xs) in
    ⊎_elim
    (λ u. rw (d, n, lt-ltb (differs_at xs ys) (length ys) u))
    (λ u. rw (d, n, le-ltb (differs_at xs ys) (length ys) u) (let m = differs_most xs ys in omega arith))
    (lt_or_le (differs_at xs ys) (length ys))

pub wanted_nothing : (state memory : List ℕ) (x : Left) → stepped_of 0 state memory [] x ≡ stepped 0 x.state x.memory
unfolding stepped_of
wanted_nothing state memory x =
    pick_eq _ _ (differs_nowhere x.reply) ∙ ap (λ (n : ℕ). stepped n x.state x.memory) (differs_nowhere x.reply)

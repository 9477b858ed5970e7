-- Request 11: memories whose cells have the same addresses and more rights.
--     cells_grant     regions that grant more have such cells
--     all_grant       what a span has, it has of more rights; and it is mapped alike
--     held_alike      what is read and what is stored goes by addresses alone
use mathlib.Core.Bool.{Bool, true, false, ◌&&◌}
use mathlib.Core.List.{List, [], ◌∷◌, ◌++◌}
use mathlib.Core.Path.{◌≡◌, refl, ap₂, subst}
use Prim.Native.Nat.{ℕ, zero, suc, ◌+◌, ◌≤◌}
use native.Mathlib.Omega.{arith}
use lib.Dec.{eqb}
use lib.ListN.{drop, get_or}
use Rattle.std.proofs.lemmas.Bool.{and_parts}
use Rattle.law.specs.Words.{when, bit, Piece, laid}
use Rattle.law.specs.Sheet.{Region, room}
use Rattle.law.specs.Memory.{Cell, cells_from, cells, mapped, readable, writable, has, has_all, held_at, held, stored}
use Rattle.demands.specs.Granted.{EachGrants}

-- cell by cell
abbrev pub Granting : List Cell → List Cell → Type 0
Granting [] [] = Unit {0}
Granting [] (y ∷ ys) = ⊥
Granting (x ∷ xs) [] = ⊥
Granting (x ∷ xs) (y ∷ ys) = (x.address ≡ y.address) × ((k : ℕ) → k ≤ 2 → bit x.rights k ≡ true → bit y.rights k ≡ true) × Granting xs ys

-- one region's cells, and those behind them
from_grant : (start n a b : ℕ) → ((k : ℕ) → k ≤ 2 → bit a k ≡ true → bit b k ≡ true) → (xs ys : List Cell) → Granting xs ys
    → Granting (cells_from start n a ++ xs) (cells_from start n b ++ ys)
from_grant start zero a b more xs ys g = g
from_grant start (suc n) a b more xs ys g = (refl, more, from_grant (suc start) n a b more xs ys g)

pub cells_grant : (rs qs : List Region) → EachGrants rs qs → Granting (cells rs) (cells qs)
cells_grant [] [] g = tt
cells_grant [] (q ∷ qs) g = absurd g
cells_grant (r ∷ rs) [] g = absurd g
cells_grant (r ∷ rs) (q ∷ qs) g =
    subst (λ (n : ℕ). Granting (cells (r ∷ rs)) (cells_from q.start n q.rights ++ cells qs)) g.0.long
    (subst (λ (s : ℕ). Granting (cells (r ∷ rs)) (cells_from s r.length q.rights ++ cells qs)) g.0.start
    (from_grant r.start r.length r.rights q.rights g.0.rights (cells rs) (cells qs) (cells_grant rs qs g.1)))

pub room_same : (rs qs : List Region) → EachGrants rs qs → room rs ≡ room qs
room_same [] [] g = refl
room_same [] (q ∷ qs) g = absurd g
room_same (r ∷ rs) [] g = absurd g
room_same (r ∷ rs) (q ∷ qs) g = ap₂ (λ (a b : ℕ). a + b) g.0.long (room_same rs qs g.1)

-- a right that is asked by a bit
abbrev pub Asks : (ℕ → Bool) → Type 0
Asks right = (a b : ℕ) → ((k : ℕ) → k ≤ 2 → bit a k ≡ true → bit b k ≡ true) → right a ≡ true → right b ≡ true

pub readable_asks : Asks readable
readable_asks a b more e = more 0 (omega arith) e

pub writable_asks : (link : ℕ) → Asks (writable link)
unfolding when
writable_asks link a b more = by (eqb link 3)
  where
    by : (t : Bool) → when t (bit a 2) (bit a 1) ≡ true → when t (bit b 2) (bit b 1) ≡ true
    by true e = more 2 (omega arith) e
    by false e = more 1 (omega arith) e

has_grant : (right : ℕ → Bool) → Asks right → (xs ys : List Cell) → Granting xs ys → (a : ℕ) → has right xs a ≡ true → has right ys a ≡ true
unfolding has when
has_grant right asks [] [] g a e = e
has_grant right asks [] (y ∷ ys) g a e = absurd g
has_grant right asks (x ∷ xs) [] g a e = absurd g
has_grant right asks (x ∷ xs) (y ∷ ys) g a e =
    subst (λ (n : ℕ). when (eqb n a) (right y.rights) (has right ys a) ≡ true) g.0 (by (eqb x.address a) (asks x.rights y.rights g.1) (has_grant right asks xs ys g.2 a) e)
  where
    by : (t : Bool) {p q u v : Bool} → (p ≡ true → u ≡ true) → (q ≡ true → v ≡ true) → when t p q ≡ true → when t u v ≡ true
    by true f k e = f e
    by false f k e = k e

module _ (xs ys : List Cell) (g : Granting xs ys) where
  pub all_grant : (right : ℕ → Bool) → Asks right → (a n : ℕ) → has_all right xs a n ≡ true → has_all right ys a n ≡ true
  unfolding has_all
  all_grant right asks a zero e = refl
  all_grant right asks a (suc n) e =
      let p = and_parts (has right xs a) (has_all right xs (suc a) n) e in
      ap₂ ◌&&◌ (has_grant right asks xs ys g a p.0) (all_grant right asks (suc a) n p.1)

has_mapped : (xs ys : List Cell) → Granting xs ys → (a : ℕ) → has mapped xs a ≡ has mapped ys a
unfolding has
has_mapped [] [] g a = refl
has_mapped [] (y ∷ ys) g a = absurd g
has_mapped (x ∷ xs) [] g a = absurd g
has_mapped (x ∷ xs) (y ∷ ys) g a = ap₂ (λ (n : ℕ) (b : Bool). when (eqb n a) true b) g.0 (has_mapped xs ys g.2 a)

pub all_mapped : (xs ys : List Cell) → Granting xs ys → (a n : ℕ) → has_all mapped xs a n ≡ has_all mapped ys a n
unfolding has_all
all_mapped xs ys g a zero = refl
all_mapped xs ys g a (suc n) = ap₂ ◌&&◌ (has_mapped xs ys g a) (all_mapped xs ys g (suc a) n)

held_at_lem : (xs ys : List Cell) → Granting xs ys → (m : List ℕ) (a : ℕ) → held_at xs m a ≡ held_at ys m a
unfolding held_at
held_at_lem [] [] g m a = refl
held_at_lem [] (y ∷ ys) g m a = absurd g
held_at_lem (x ∷ xs) [] g m a = absurd g
held_at_lem (x ∷ xs) (y ∷ ys) g m a = ap₂ (λ (n k : ℕ). when (eqb n a) (get_or m 0 0) k) g.0 (held_at_lem xs ys g.2 (drop 1 m) a)

pub held_alike : (xs ys : List Cell) → Granting xs ys → (m : List ℕ) (a n : ℕ) → held xs m a n ≡ held ys m a n
unfolding held
held_alike xs ys g m a zero = refl
held_alike xs ys g m a (suc n) = ap₂ (λ (x : ℕ) (l : List ℕ). x ∷ l) (held_at_lem xs ys g m a) (held_alike xs ys g m (suc a) n)

pub stored_alike : (ps : List Piece) (xs ys : List Cell) → Granting xs ys → (m : List ℕ) → stored ps xs m ≡ stored ps ys m
unfolding stored
stored_alike ps [] [] g m = refl
stored_alike ps [] (y ∷ ys) g m = absurd g
stored_alike ps (x ∷ xs) [] g m = absurd g
stored_alike ps (x ∷ xs) (y ∷ ys) g [] = refl
stored_alike ps (x ∷ xs) (y ∷ ys) g (k ∷ m) = ap₂ (λ (n : ℕ) (l : List ℕ). laid ps n k ∷ l) g.0 (stored_alike ps xs ys g.2 m)

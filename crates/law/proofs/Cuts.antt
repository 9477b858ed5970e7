-- Records that are cut from octets are the writing of what they hold; lists of octets.
use mathlib.Core.Bool.{true, false, and-eq-true_iff, true≢false}
use mathlib.Core.Logic.{inl, inr, ⊎_elim}
use mathlib.Core.Path.{◌≡◌, refl, sym, ap, ◌∙◌}
use mathlib.Core.List.{List, [], ◌∷◌, ◌++◌}
use Prim.Native.Nat.{ℕ, zero, suc, ◌+◌, ◌-◌, ◌≤◌, ◌<◌}
use native.Mathlib.Nat.{sub-zero, zero-sub, suc-sub-suc}
use native.Mathlib.Omega.{arith}
use borrow.Author.Tests.{eqb-true}
use lib.Dec.{eqb}
use lib.ListN.{length, get_or, take, drop, take-append-drop}
use lib.Seq.{drop-drop, take-nil}
use Rattle.octets.specs.Parts.{all_zero}
use Rattle.octets.proofs.Cases.{decided}
use Rattle.octets.proofs.Pick.{pick_no}
use Rattle.regions.specs.Region.{region_from, listed, holds_of, gives_of}
use Rattle.regions.specs.Search.{total_of, grants_of}
use Rattle.regions.specs.declared.Region.{Region}
use Rattle.regions.specs.declared.Right.TheVariants.{Mapped}
use Rattle.regions.proofs.Bounds.{holds_bounds}
use Rattle.sheet.specs.Entries.{parameter_from}
use Rattle.law.specs.Words.{Every, Some}
use Rattle.law.specs.Sheet.{IsOctet, InRegion, region_octets, parameter_octets, item_octets, tolerance_octets, release_octets, room}
use Rattle.law.proofs.Written.{two_octets, four_octets, opened}
use Rattle.law.proofs.Layouts.{as_area, as_param, ident_from}

-- a record, cut from octets
module _ (l : List ℕ) (o : (i : ℕ) → get_or l i 0 < 256) where
  pub cut_area : 10 ≤ length l → get_or l 0 0 ≡ 2 → l ≡ region_octets (as_area (region_from l 0)) ++ drop 10 l
  unfolding listed region_from
  cut_area h k =
      let a = sym (four_octets _ _ _ _ (o 1) (o 2) (o 3) (o 4)) in
      let b = sym (four_octets _ _ _ _ (o 5) (o 6) (o 7) (o 8)) in
      opened l 0 10 h ∙ λ i. k i ∷ a i ++ b i ++ get_or l 9 0 ∷ [] ++ drop 10 l

  pub cut_param : 8 ≤ length l → get_or l 0 0 ≡ 3 → l ≡ parameter_octets (as_param (parameter_from l 0)) ++ drop 8 l
  unfolding listed parameter_from
  cut_param h k =
      let a = sym (two_octets _ _ (o 1) (o 2)) in
      let b = sym (four_octets _ _ _ _ (o 3) (o 4) (o 5) (o 6)) in
      opened l 0 8 h ∙ λ i. k i ∷ a i ++ b i ++ get_or l 7 0 ∷ [] ++ drop 8 l

  pub cut_ident : 35 ≤ length l → get_or l 0 0 ≡ 4 → l ≡ item_octets (ident_from l 0) ++ drop 35 l
  unfolding listed
  cut_ident h k =
      opened l 0 3 (omega arith)
      ∙ ap (λ (x : ℕ). x ∷ get_or l 1 0 ∷ get_or l 2 0 ∷ drop 3 l) k
      ∙ ap (λ (t : List ℕ). 4 ∷ get_or l 1 0 ∷ get_or l 2 0 ∷ t) (sym (take-append-drop 32 (drop 3 l)) ∙ ap (λ (t : List ℕ). take 32 (drop 3 l) ++ t) (drop-drop 32 3 l))

  pub cut_tolerance : 2 ≤ length l → get_or l 0 0 ≡ 6 → l ≡ tolerance_octets (get_or l 1 0) ++ drop 2 l
  unfolding listed
  cut_tolerance h k = opened l 0 2 h ∙ ap (λ (x : ℕ). x ∷ get_or l 1 0 ∷ drop 2 l) k

  pub cut_release : 2 ≤ length l → get_or l 0 0 ≡ 7 → l ≡ release_octets (get_or l 1 0) ++ drop 2 l
  unfolding listed
  cut_release h k = opened l 0 2 h ∙ ap (λ (x : ℕ). x ∷ get_or l 1 0 ∷ drop 2 l) k

pub zeros_back : (l : List ℕ) → all_zero l ≡ true → Every (λ (x : ℕ). x ≡ 0) l
unfolding all_zero
zeros_back [] e = tt
zeros_back (x ∷ xs) e = let b = (and-eq-true_iff (eqb x 0) (all_zero xs)).0 e in (eqb-true x 0 b.0, zeros_back xs b.1)

pub drop_take : (m n : ℕ) (l : List ℕ) → drop m (take n l) ≡ take (n - m) (drop m l)
drop_take zero n l = ap (λ (k : ℕ). take k l) (sym (sub-zero n))
drop_take (suc m) zero l = ap (λ (k : ℕ). take k (drop (suc m) l)) (sym (zero-sub (suc m)))
drop_take (suc m) (suc n) [] = sym (take-nil (suc n - suc m))
drop_take (suc m) (suc n) (x ∷ xs) = drop_take m n xs ∙ ap (λ (k : ℕ). take k (drop m xs)) (sym (suc-sub-suc n m))

-- an address that the search finds is in a region of the paper
pub grants_has : (f : ℕ → Region) (k m a : ℕ) → grants_of (listed f k m) Mapped a ≡ true → Some (InRegion a) (listed (λ (i : ℕ). as_area (f i)) k m)
unfolding grants_of gives_of listed
grants_has f k zero a e = absurd (true≢false (sym e))
grants_has f k (suc m) a e =
    ⊎_elim
    (λ (h : holds_of (f k) a ≡ true). inl (holds_bounds (f k) a h))
    (λ (h : holds_of (f k) a ≡ false). inr (grants_has f (suc k) m a (sym (pick_no _ _ h) ∙ e)))
    (decided (holds_of (f k) a))

pub sum_listed : (f : ℕ → Region) (k m : ℕ) → room (listed (λ (i : ℕ). as_area (f i)) k m) ≡ total_of (listed f k m)
unfolding total_of listed
sum_listed f k zero = refl
sum_listed f k (suc m) = ap (λ (n : ℕ). (f k).length + n) (sum_listed f (suc k) m)

pub octet_at : (s : List ℕ) → Every IsOctet s → (i : ℕ) → get_or s i 0 < 256
octet_at [] o i = omega arith
octet_at (x ∷ xs) o zero = o.0
octet_at (x ∷ xs) o (suc i) = octet_at xs o.1 i

pub octets_drop : (n : ℕ) (s : List ℕ) → Every IsOctet s → Every IsOctet (drop n s)
octets_drop zero s o = o
octets_drop (suc n) [] o = tt
octets_drop (suc n) (x ∷ xs) o = octets_drop n xs o.1

pub octets_take : (n : ℕ) (s : List ℕ) → Every IsOctet s → Every IsOctet (take n s)
octets_take zero s o = tt
octets_take (suc n) [] o = tt
octets_take (suc n) (x ∷ xs) o = (o.0, octets_take n xs o.1)

pub listed_none : (g : ℕ → ℕ) (d : ℕ) → get_or (listed g 0 0) 0 d ≡ d
unfolding listed
listed_none g d = refl

pub listed_first : (g : ℕ → ℕ) (n d : ℕ) → 1 ≤ n → get_or (listed g 0 n) 0 d ≡ g 0
unfolding listed
listed_first g zero d h = absurd (omega arith)
listed_first g (suc n) d h = refl

-- Request 2: the numbers of a list are octets.
use mathlib.Core.List.{List, [], ◌∷◌, ◌++◌}
use mathlib.Core.Path.{sym, subst}
use mathlib.Core.Bool.{Bool, true, false}
use Prim.Native.Nat.{ℕ, zero, suc, ◌+◌, ◌/◌, ◌%◌, ◌≤◌, ◌<◌}
use native.Mathlib.Omega.{arith}
use lib.ListN.{length}
use Rattle.law.specs.Words.{when, Every, in_octets}
use Rattle.law.specs.Sheet.{IsOctet}
use Rattle.law.specs.Difference.{Entry, Change, gone, new, changed, same, bits_from, bits_of, entries_of, key_length, body_of, written_of, change_octets, In, Differs}
use Rattle.law.proofs.Exact.{octets_behind}
use Rattle.law.proofs.Merge.{Shaped}
use Rattle.law.proofs.Octets.{all as all_octets, in_octets_lem}
use Rattle.law.proofs.OneList.{every_in}
use Rattle.law.proofs.Ranks.{when_cases}
use Rattle.law.proofs.ReadBack.{GoodChange, every_of, listed_good}
use Rattle.law.proofs.Records.{written_entries}
use Rattle.law.proofs.Rises.{entries_shaped}
use Rattle.demands.specs.Changed.{ListIsOctets}

-- the bodies of records that are written in octets
first_part : (xs ys : List ℕ) → Every IsOctet (xs ++ ys) → Every IsOctet xs
first_part [] ys o = tt
first_part (x ∷ xs) ys o = (o.0, first_part xs ys o.1)

bodies : (es : List Entry) → Every IsOctet (written_of es) → Every (λ (e : Entry). Every IsOctet (body_of e)) es
unfolding written_of
bodies [] o = tt
bodies (e ∷ es) o = (first_part (body_of e) (written_of es) o.1, bodies es (octets_behind (body_of e) (written_of es) o.1))

key_octets : (k n : ℕ) → Every IsOctet (in_octets k n)
key_octets zero n = tt
key_octets (suc k) n = (let l : n % 256 < 256 = omega arith in l, key_octets k (n / 256))

-- the bits of n fields stay below the bit that would come next
abbrev next : ℕ → ℕ → ℕ
next b zero = b
next b (suc n) = next (b + b) n

next_above : (b n : ℕ) → b ≤ next b n
next_above b zero = omega arith
next_above b (suc n) = let h = next_above (b + b) n in omega arith

one_bit : (t : Bool) (b : ℕ) → when t 0 b ≤ b
unfolding when
one_bit true b = omega arith
one_bit false b = omega arith

bits_below : (b n : ℕ) (xs ys : List (List ℕ)) → length xs ≤ n → bits_from b xs ys + b ≤ next b n
unfolding bits_from
bits_below b n [] ys l = let h = next_above b n in omega arith
bits_below b n (x ∷ xs) [] l = let h = next_above b n in omega arith
bits_below b zero (x ∷ xs) (y ∷ ys) l = absurd (omega arith)
bits_below b (suc n) (x ∷ xs) (y ∷ ys) l =
    let h = bits_below (b + b) n xs ys (omega arith) in
    let t = one_bit (same x y) b in
    omega arith

-- three fields at the most
bits_octet : (x y : Entry) → Shaped x → IsOctet (bits_of x y)
bits_octet x y s =
    let three : length x.fields ≤ 3 =
    subst (λ (n : ℕ). n ≤ 3) (sym s)
    (when_cases (λ (n : ℕ). n ≤ 3) _ (λ e. omega arith) (λ e. when_cases (λ (n : ℕ). n ≤ 3) _ (λ e. omega arith) (λ e. omega arith))) in
    let h = bits_below 1 3 x.fields y.fields three in
    omega arith

module _ (a b : List Entry) (s : Every Shaped a) (o : Every (λ (e : Entry). Every IsOctet (body_of e)) b) where
  body_in : (y : Entry) → In y b → Every IsOctet (body_of y)
  body_in y i = every_in (λ (e : Entry). Every IsOctet (body_of e)) y b o i

  change_octets_lem : (c : Change) → Differs a b c → GoodChange c → Every IsOctet (change_octets c)
  unfolding Differs GoodChange change_octets
  change_octets_lem (gone kind key) d g = (omega (arith, g.most), key_octets (key_length kind) key)
  change_octets_lem (new y) d g = (omega (arith, g.known.most), body_in y d.0)
  change_octets_lem (changed bits y) (i, (x, j, kind, key, other, e)) g =
      let h = bits_octet x y (every_in Shaped x a s j) in
      (omega (arith, g.known.most), (omega arith, body_in y i))

pub list_is_octets : ListIsOctets
list_is_octets a b v w list l =
    let good = listed_good a b v w list l in
    let octets = bodies (entries_of b) (subst (Every IsOctet) (written_entries b) (in_octets_lem b w)) in
    all_octets change_octets (λ (c : Change). Every IsOctet (change_octets c)) (λ c o. o) list
    (every_of (λ (c : Change). Every IsOctet (change_octets c)) list
    (λ c i. change_octets_lem (entries_of a) (entries_of b) (entries_shaped a) octets c (l.only c i) (every_in GoodChange c list good i)))

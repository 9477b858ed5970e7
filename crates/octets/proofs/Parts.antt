-- Laws of what a lent part holds.
--     copied_source_end, copied_part_end    a copy that has gone as far as either list goes
--     filled_part                           a part from a place on, lent and filled whole, is laid over the whole
use mathlib.Core.Path.{◌≡◌, ap}
use mathlib.Core.List.{List, [], ◌++◌, append-nil}
use Prim.Native.Nat.{ℕ, ◌+◌, ◌-◌, ◌≤◌}
use native.Mathlib.Omega.{arith}
use lib.ListN.{length, take, drop, length-drop, drop_of_length-le}
use lib.Seq.{length-take-le, take_all, drop-drop}
use Rattle.octets.specs.Parts.{copied, put_at}

pub copied_source_end : (d s : List ℕ) (i : ℕ) → i ≤ length d → i ≤ length s → length s ≤ i → take i s ++ drop i d ≡ copied d s
unfolding copied
copied_source_end d s i hd hs he =
    let e : length s ≡ i = omega arith in
    let hsd : length s ≤ length d = omega arith in
    rw (e, take_all i s he, take_all (length d) s hsd)

pub copied_part_end : (d s : List ℕ) (i : ℕ) → i ≤ length d → i ≤ length s → length d ≤ i → take i s ++ drop i d ≡ copied d s
unfolding copied
copied_part_end d s i hd hs he =
    let e : i ≡ length d = omega arith in
    let hds : length d ≤ length s = omega arith in
    rw (e, drop_of_length-le d {i = length d} (omega arith), drop_of_length-le d {i = length s} hds)

-- a list whose part, as long as what enters it, was lent and filled
pub filled_part : (d : List ℕ) (at : ℕ) (s : List ℕ) → at + length s ≤ length d
    → take at d ++ (copied (take (at + length s - at) (drop at d)) s ++ drop (at + length s - at) (drop at d)) ≡ put_at d at s
unfolding copied put_at
filled_part d at s h =
    let n : at + length s - at ≡ length s = omega arith in
    let long : length (take (length s) (drop at d)) ≡ length s = length-take-le (length s) (drop at d) (simp length-drop (omega arith)) in
    let whole : take (length (take (length s) (drop at d))) s ≡ s = take_all (length (take (length s) (drop at d))) s (omega arith) in
    let none : drop (length s) (take (length s) (drop at d)) ≡ [] = drop_of_length-le (take (length s) (drop at d)) {i = length s} (omega arith) in
    rw (n, whole, none, drop-drop (length s) at d) (ap (λ (l : List ℕ). take at d ++ (l ++ drop (at + length s) d)) (append-nil s))

-- Laws of the numbers made of octets.
--     le2_at_plus, le4_at_plus     the octets of a number behind a place, each counted from that place
use mathlib.Core.Path.{◌≡◌}
use mathlib.Core.List.{List}
use Prim.Native.Nat.{ℕ, ◌+◌}
use native.Mathlib.Nat.{add_assoc}
use lib.ListN.{get_or}
use Rattle.octets.specs.Numbers.{le2, le4, le2_at, le4_at}

pub le2_at_plus : (s : List ℕ) (at k : ℕ) → le2_at s (at + k) ≡ le2 (get_or s (at + k) 0) (get_or s (at + (k + 1)) 0)
le2_at_plus s at k = simp add_assoc

pub le4_at_plus : (s : List ℕ) (at k : ℕ)
    → le4_at s (at + k) ≡ le4 (get_or s (at + k) 0) (get_or s (at + (k + 1)) 0) (get_or s (at + (k + 2)) 0) (get_or s (at + (k + 3)) 0)
le4_at_plus s at k = simp add_assoc

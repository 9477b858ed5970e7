-- The octets that a command names, code by code, as a list without empty runs.
use mathlib.Core.Bool.{Bool, true, false, ◌&&◌, ◌||◌}
use mathlib.Core.List.{List}
use mathlib.Core.Path.{◌≡◌, refl}
use Prim.Native.Nat.{ℕ, ◌+◌, ◌*◌, ◌<◌, ◌≤◌}
use lib.Dec.{eqb, leb, ltb}
use borrow.Author.Tests.{le-ltb, lt-leb, ne_eqb}
use mathlib.Core.Logic.{⊎_elim}
use Rattle.std.proofs.lemmas.Bool.{cases_lt, and_left, and_right}
use Rattle.octets.specs.Pick.{pick}
use Rattle.machine.specs.Judging.{element_of}
use Rattle.machine.specs.Codes.{is_known}
use Rattle.sheet.specs.declared.walk.Form.{Form}
use Rattle.sheet.specs.declared.walk.Form.TheVariants.{Enhanced, Short}
use Rattle.frame.specs.Places.{fields_end, mode_size, data_from, echo_from, echo_size, one_or_two, if_enhanced}
use Rattle.frame.specs.Unnamed.{run, fields_at, written_at, names_for, names_of, in_run, is_named}
use Rattle.frame.proofs.Named.{named}

-- octet k is one of so many from the first on
abbrev pub within : ℕ → ℕ → ℕ → Bool
within k first many = leb first k && ltb k (first + many)

nothing : (k : ℕ) → within k 4 0 ≡ false
nothing k = ⊎_elim (λ (l : k < 4). and_left _ _ (lt-leb 4 k l)) (λ (l : 4 ≤ k). and_right _ _ (le-ltb k 4 l)) (cases_lt k 4)

-- a code that no command has is none of those that have fields or data
other : (n m : ℕ) → is_known Enhanced n ≡ false → is_known Enhanced m ≡ true → eqb n m ≡ false
other n m e known = ne_eqb n m (λ (q : n ≡ m). absurd (cc))

pub nothing_named : (form : Form) (n : ℕ) → is_known Enhanced n ≡ false → fields_at form n ≡ run 4 0
unfolding is_known fields_at pick
nothing_named form n e =
    rw (other n 0x01 e refl, other n 0x02 e refl, other n 0x1D e refl, other n 0x1E e refl, other n 0x03 e refl, other n 0x0E e refl, other n 0x05 e refl, other n 0x06 e refl)

pub nothing_written : (form : Form) (n : ℕ) (c : List ℕ) → is_known Enhanced n ≡ false → written_at form n c ≡ run 4 0
unfolding is_known written_at pick
nothing_written form n c e = rw (other n 0x02 e refl, other n 0x1E e refl)

module _ (c : List ℕ) (k : ℕ) where
  pub enhanced_nop : is_named (names_of Enhanced 0x00 c) k ≡ within k 0 2 || false
  unfolding is_named in_run names_for fields_at written_at echo_from echo_size fields_end mode_size data_from one_or_two if_enhanced pick
  enhanced_nop = rw (nothing k)

  pub enhanced_prm_rd : is_named (names_of Enhanced 0x01 c) k ≡ within k 0 2 || (within k 4 3 || false)
  unfolding is_named in_run names_for fields_at written_at echo_from echo_size fields_end mode_size data_from one_or_two if_enhanced pick
  enhanced_prm_rd = rw (nothing k)

  pub enhanced_prm_wr : is_named (names_of Enhanced 0x02 c) k ≡ within k 0 2 || (within k 4 3 || (within k 8 (named Enhanced 0x02 c).size || false))
  unfolding is_named in_run names_for fields_at written_at echo_from echo_size fields_end mode_size data_from one_or_two if_enhanced pick
  enhanced_prm_wr = refl

  pub enhanced_id_rd : is_named (names_of Enhanced 0x03 c) k ≡ within k 0 2 || (within k 4 4 || false)
  unfolding is_named in_run names_for fields_at written_at echo_from echo_size fields_end mode_size data_from one_or_two if_enhanced pick
  enhanced_id_rd = rw (nothing k)

  pub enhanced_alm_rd : is_named (names_of Enhanced 0x05 c) k ≡ within k 0 2 || (within k 4 2 || false)
  unfolding is_named in_run names_for fields_at written_at echo_from echo_size fields_end mode_size data_from one_or_two if_enhanced pick
  enhanced_alm_rd = rw (nothing k)

  pub enhanced_alm_clr : is_named (names_of Enhanced 0x06 c) k ≡ within k 0 2 || (within k 4 2 || false)
  unfolding is_named in_run names_for fields_at written_at echo_from echo_size fields_end mode_size data_from one_or_two if_enhanced pick
  enhanced_alm_clr = rw (nothing k)

  pub enhanced_sync_set : is_named (names_of Enhanced 0x0D c) k ≡ within k 0 2 || false
  unfolding is_named in_run names_for fields_at written_at echo_from echo_size fields_end mode_size data_from one_or_two if_enhanced pick
  enhanced_sync_set = rw (nothing k)

  pub enhanced_connect : is_named (names_of Enhanced 0x0E c) k ≡ within k 0 2 || (within k 4 4 || false)
  unfolding is_named in_run names_for fields_at written_at echo_from echo_size fields_end mode_size data_from one_or_two if_enhanced pick
  enhanced_connect = rw (nothing k)

  pub enhanced_disconnect : is_named (names_of Enhanced 0x0F c) k ≡ within k 0 2 || false
  unfolding is_named in_run names_for fields_at written_at echo_from echo_size fields_end mode_size data_from one_or_two if_enhanced pick
  enhanced_disconnect = rw (nothing k)

  pub enhanced_mem_rd : is_named (names_of Enhanced 0x1D c) k ≡ within k 0 2 || (within k 5 7 || false)
  unfolding is_named in_run names_for fields_at written_at echo_from echo_size fields_end mode_size data_from one_or_two if_enhanced pick
  enhanced_mem_rd = rw (nothing k)

  pub enhanced_mem_wr : is_named (names_of Enhanced 0x1E c) k ≡ within k 0 2 || (within k 5 7 || (within k 12 ((named Enhanced 0x1E c).count * element_of (named Enhanced 0x1E c).mode) || false))
  unfolding is_named in_run names_for fields_at written_at echo_from echo_size fields_end mode_size data_from one_or_two if_enhanced pick
  enhanced_mem_wr = refl

module _ (c : List ℕ) (k : ℕ) where
  pub short_nop : is_named (names_of Short 0x00 c) k ≡ within k 0 1 || (within k 15 1 || false)
  unfolding is_named in_run names_for fields_at written_at echo_from echo_size fields_end mode_size data_from one_or_two if_enhanced pick
  short_nop = rw (nothing k)

  pub short_prm_rd : is_named (names_of Short 0x01 c) k ≡ within k 0 1 || (within k 15 1 || (within k 4 3 || false))
  unfolding is_named in_run names_for fields_at written_at echo_from echo_size fields_end mode_size data_from one_or_two if_enhanced pick
  short_prm_rd = rw (nothing k)

  pub short_prm_wr : is_named (names_of Short 0x02 c) k ≡ within k 0 1 || (within k 15 1 || (within k 4 3 || (within k 7 (named Short 0x02 c).size || false)))
  unfolding is_named in_run names_for fields_at written_at echo_from echo_size fields_end mode_size data_from one_or_two if_enhanced pick
  short_prm_wr = refl

  pub short_id_rd : is_named (names_of Short 0x03 c) k ≡ within k 0 1 || (within k 15 1 || (within k 4 3 || false))
  unfolding is_named in_run names_for fields_at written_at echo_from echo_size fields_end mode_size data_from one_or_two if_enhanced pick
  short_id_rd = rw (nothing k)

  pub short_alm_rd : is_named (names_of Short 0x05 c) k ≡ within k 0 1 || (within k 15 1 || (within k 4 1 || false))
  unfolding is_named in_run names_for fields_at written_at echo_from echo_size fields_end mode_size data_from one_or_two if_enhanced pick
  short_alm_rd = rw (nothing k)

  pub short_alm_clr : is_named (names_of Short 0x06 c) k ≡ within k 0 1 || (within k 15 1 || (within k 4 1 || false))
  unfolding is_named in_run names_for fields_at written_at echo_from echo_size fields_end mode_size data_from one_or_two if_enhanced pick
  short_alm_clr = rw (nothing k)

  pub short_sync_set : is_named (names_of Short 0x0D c) k ≡ within k 0 1 || (within k 15 1 || false)
  unfolding is_named in_run names_for fields_at written_at echo_from echo_size fields_end mode_size data_from one_or_two if_enhanced pick
  short_sync_set = rw (nothing k)

  pub short_connect : is_named (names_of Short 0x0E c) k ≡ within k 0 1 || (within k 15 1 || (within k 4 3 || false))
  unfolding is_named in_run names_for fields_at written_at echo_from echo_size fields_end mode_size data_from one_or_two if_enhanced pick
  short_connect = rw (nothing k)

  pub short_disconnect : is_named (names_of Short 0x0F c) k ≡ within k 0 1 || (within k 15 1 || false)
  unfolding is_named in_run names_for fields_at written_at echo_from echo_size fields_end mode_size data_from one_or_two if_enhanced pick
  short_disconnect = rw (nothing k)

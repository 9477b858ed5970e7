-- The first octet that is not named and not zero, octet by octet.
--     run_before, run_here     whether an octet is in a run
--     zero_bits                of an octet that is zero, nothing is not
--     stray_next, stray_here_lem   an octet that may be what it is, and one that may not
--     stray_end                behind the last octet
--     stray_free               there is none in release 1
--     stray_none, stray_one, bits_enhanced, bits_short, stray_as_lem, stray_of_lem     the definition, for proofs above
use mathlib.Core.Bool.{Bool, true, false, ◌&&◌, ◌||◌}
use mathlib.Core.Logic.{⊎_elim}
use mathlib.Core.Path.{◌≡◌, refl, ap, ◌∙◌}
use mathlib.Core.List.{List, [], ◌∷◌}
use Prim.Native.Nat.{ℕ, suc, ◌+◌, ◌-◌, ◌%◌, ◌<◌, ◌≤◌}
use native.Mathlib.Numerals.{add-one}
use native.Mathlib.Omega.{arith}
use borrow.Author.Tests.{lt-ltb, le-ltb, le-leb, lt-leb}
use lib.Dec.{eqb, ltb}
use lib.ListN.{length, get_or, drop, drop_of_length-le}
use lib.Seq.{drop-cons}
use Rattle.std.proofs.lemmas.Bool.{cases_lt}
use Rattle.octets.specs.Pick.{pick}
use Rattle.octets.proofs.Pick.{pick_yes, pick_no, pick_ne, pick_both}
use Rattle.sheet.specs.declared.walk.Form.{Form}
use Rattle.sheet.specs.declared.walk.Form.TheVariants.{Enhanced, Short}
use Rattle.frame.specs.Unnamed.{names_of, in_run, is_named, unnamed_bits, stray_from, stray_as, stray_of}
use Rattle.frame.specs.declared.unnamed.Run.{Run}

module _ (r : Run) (k : ℕ) where
  pub run_before : k < r.first → in_run r k ≡ false
  unfolding in_run
  run_before h = ap (λ (b : Bool). b && ltb k (r.first + r.many)) (lt-leb r.first k h)

  pub run_here : r.first ≤ k → ltb (k - r.first) r.many ≡ in_run r k
  unfolding in_run
  run_here h =
      ⊎_elim
      (λ (l : k - r.first < r.many). rw (lt-ltb (k - r.first) r.many l, le-leb r.first k h, lt-ltb k (r.first + r.many) (omega arith)) refl)
      (λ (l : r.many ≤ k - r.first). rw (le-ltb (k - r.first) r.many l, le-leb r.first k h, le-ltb k (r.first + r.many) (omega arith)) refl)
      (cases_lt (k - r.first) r.many)

pub zero_bits : (form : Form) (k : ℕ) → unnamed_bits form k 0 ≡ 0
unfolding unnamed_bits
zero_bits Enhanced k = pick_both (λ (x : ℕ). x ≡ 0) _ refl refl
zero_bits Short k = refl

module _ (form : Form) (names : List Run) (c : List ℕ) (k : ℕ) where
  abbrev may_be : Bool
  may_be = is_named names k || eqb (unnamed_bits form k (get_or c k 0)) 0

  opened : k < length c → stray_from form names k (drop k c) ≡ pick may_be (stray_from form names (k + 1) (drop (k + 1) c)) k
  unfolding stray_from
  opened h = rw (add-one, drop-cons c k 0 h)

  pub stray_next : k < length c → may_be ≡ true → stray_from form names k (drop k c) ≡ stray_from form names (k + 1) (drop (k + 1) c)
  stray_next h e = opened h ∙ pick_yes _ _ e

  pub stray_here_lem : k < length c → may_be ≡ false → stray_from form names k (drop k c) ≡ k
  stray_here_lem h e = opened h ∙ pick_no _ _ e

  pub stray_end : length c ≤ k → stray_from form names k (drop k c) ≡ 0
  unfolding stray_from
  stray_end h = rw (drop_of_length-le c h)

pub stray_none : (form : Form) (names : List Run) (k : ℕ) → stray_from form names k [] ≡ 0
unfolding stray_from
stray_none form names k = refl

pub stray_one : (form : Form) (names : List Run) (k x : ℕ) (xs : List ℕ)
    → stray_from form names k (x ∷ xs) ≡ pick (is_named names k || eqb (unnamed_bits form k x) 0) (stray_from form names (suc k) xs) k
unfolding stray_from
stray_one form names k x xs = refl

pub bits_enhanced : (k x : ℕ) → unnamed_bits Enhanced k x ≡ pick (eqb k 2) (x % 64) x
unfolding unnamed_bits
bits_enhanced k x = refl

pub bits_short : (k x : ℕ) → unnamed_bits Short k x ≡ x
unfolding unnamed_bits
bits_short k x = refl

pub stray_as_lem : (form : Form) (release code : ℕ) (c : List ℕ) → stray_as form release code c ≡ pick (eqb release 2) (stray_from form (names_of form code c) 0 c) 0
unfolding stray_as
stray_as_lem form release code c = refl

pub stray_of_lem : (form : Form) (release : ℕ) (c : List ℕ) → stray_of form release c ≡ stray_as form release (get_or c 0 0) c
unfolding stray_of
stray_of_lem form release c = refl

-- release 1 asks for nothing
pub stray_free : (form : Form) (release : ℕ) (c : List ℕ) → (release ≡ 2 → ⊥) → stray_of form release c ≡ 0
unfolding stray_of stray_as
stray_free form release c z = pick_ne _ _ z

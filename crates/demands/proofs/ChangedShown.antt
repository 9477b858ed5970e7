-- Request 2's cases of our own: both sheets of each are good, and their list computes.
use mathlib.Core.List.{List, ◌++◌, append-nil}
use mathlib.Core.Path.{◌≡◌, refl, ap, ◌∙◌}
use Prim.Native.Nat.{ℕ, ◌≤◌}
use native.Mathlib.Omega.{arith}
use lib.ListN.{length, drop, drop_of_length-le}
use Rattle.difference.specs.Difference.{Listed, listed, entered_of, difference_of}
use Rattle.slave.specs.Answers.{told}
use Rattle.law.specs.Words.{when}
use Rattle.law.specs.Sheet.{Sheet, WellFormed, sheet_octets}
use Rattle.law.specs.Difference.{entries_of, list_octets, rank, same, bits_from, change_octets}
use Rattle.law.proofs.Merge.{both, beside, merge}
use Rattle.law.proofs.Told.{both_entered}
use Rattle.demands.specs.ChangedShown.{sheet_a, sheet_b, sheet_c, sheet_d, sheet_e, sheet_f, list_ab, list_ba, list_cd, list_dc, list_ef, Shown}
use Rattle.demands.proofs.ChangedCall.{long_enough}
use Rattle.demands.proofs.ChangedSheets.{good_a, good_b, good_c, good_d, good_e, good_f}

-- a buffer of the list's length has nothing behind it
case : (a b : Sheet) (list : List ℕ) → WellFormed a → WellFormed b → list_octets (merge (entries_of a) (entries_of b)) ≡ list
    → (lent : List ℕ) → length lent ≡ length list
    → ((difference_of (sheet_octets a) (sheet_octets b) lent).answer.number ≡ 0) × ((difference_of (sheet_octets a) (sheet_octets b) lent).list ≡ list)
case a b list v w os lent e =
    let n = length list in
    let all : n ≤ length lent = omega arith in
    let none : length lent ≤ n = omega arith in
    let called : difference_of (sheet_octets a) (sheet_octets b) lent ≡ listed (told 0 n) (list ++ drop n lent) =
    both_entered (sheet_octets a) (sheet_octets b) lent a b v w refl refl ∙ ap (λ (o : List ℕ). entered_of o lent) os ∙ long_enough list lent all in (
      ap (λ (l : Listed). l.answer.number) called,
      ap (λ (l : Listed). l.list) called ∙ ap (λ (o : List ℕ). list ++ o) (drop_of_length-le lent none) ∙ append-nil list,
    )

pub shown : Shown
unfolding entries_of rank same bits_from change_octets both beside merge when
shown = (
  case sheet_a sheet_b list_ab good_a good_b refl,
  (
    case sheet_b sheet_a list_ba good_b good_a refl,
    (case sheet_c sheet_d list_cd good_c good_d refl, (case sheet_d sheet_c list_dc good_d good_c refl, (case sheet_e sheet_f list_ef good_e good_f refl, tt))),
  ),
)

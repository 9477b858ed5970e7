-- The call: document 02, request 2: "Refusals: 11 to 17 for the first sheet; then 21 to 27 likewise for the second; then 28, exactly when the list is longer than the
-- lent buffer. These write nothing; octets behind the list stay."
use Rattle.std.specs.Prelude.{ℕ, ◌+◌, List, ◌++◌, ltb, length, drop}
use Rattle.octets.specs.Pick.{pick}
use Rattle.sheet.specs.Walk.{verdict_of}
use Rattle.slave.specs.Answers.{told, on_sheet}
use Rattle.slave.specs.declared.answers.Answer.{Answer}
use Rattle.difference.specs.Merge.{merge_of}

-- what the call leaves behind: its answer and the octets lent for the list
pub record Listed : Type 0 where
  pub answer : Answer
  pub list : List ℕ

abbrev pub listed : Answer → List ℕ → Listed
listed answer list = record { answer = answer; list = list }

-- the second sheet's faults are told ten higher
abbrev pub second_answer : Answer → Answer
second_answer a = told (a.number + 10) a.place

-- the octets of a list, in a buffer that is long enough or not
unfoldable pub entered_of : List ℕ → List ℕ → Listed
entered_of octets list =
    pick (ltb (length list) (length octets)) (listed (told 28 (length octets)) list)
    (listed (told 0 (length octets)) (octets ++ drop (length octets) list))

unfoldable pub difference_of : List ℕ → List ℕ → List ℕ → Listed
difference_of first second list =
    on_sheet (verdict_of first) (λ refusal. listed refusal list)
    (λ _. on_sheet (verdict_of second) (λ refusal. listed (second_answer refusal) list)
    (λ _. entered_of (merge_of first second) list))

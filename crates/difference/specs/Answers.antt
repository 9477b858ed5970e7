-- What a difference tells: the length of the list, or document 02's numbers: a fault of the first sheet, one of the second, ten higher, or 28 with the length
-- that the list needs.
use Rattle.std.specs.Prelude.{ℕ, ◌+◌, Result, Ok, Err}
use Rattle.sheet.specs.Faults.{number_of}
use Rattle.slave.specs.Answers.{told}
use Rattle.slave.specs.declared.answers.Answer.{Answer}
use Rattle.difference.specs.declared.whole.Refusal.{Refusal}
use Rattle.difference.specs.declared.whole.Refusal.TheVariants.{First, Second, TooLong}

unfoldable pub refusal_answer : Refusal → Answer
refusal_answer (First flaw) = told (number_of flaw.fault) flaw.place
refusal_answer (Second flaw) = told (number_of flaw.fault + 10) flaw.place
refusal_answer (TooLong needed) = told 28 needed

-- what a call comes to as its answer
unfoldable pub entered_answer : Result ℕ Refusal → Answer
entered_answer (Ok length) = told 0 length
entered_answer (Err refusal) = refusal_answer refusal

-- The faults of a sheet and the paper's number of each (document 01, "The device sheet": the checks and their numbers).
use Rattle.std.specs.Prelude.{ℕ}
use Rattle.sheet.specs.declared.records.Fault.{Fault}
use Rattle.sheet.specs.declared.records.Fault.TheVariants.{Ended, Unknown, Misplaced, Range, Disorder, Excess, Unmapped}

unfoldable pub number_of : Fault → ℕ
number_of Ended = 11
number_of Unknown = 12
number_of Misplaced = 13
number_of Range = 14
number_of Disorder = 15
number_of Excess = 16
number_of Unmapped = 17

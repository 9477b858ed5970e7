-- What a replay tells: document 01's refusals; "31 unknown kind, 32 a kind whose L is not the sheet's, 33 cut record", each at the record's first octet; 34
-- with the octets, 64 to a record, before the first that differs; 35 for a trace whose places would not fit.
use Rattle.std.specs.Prelude.{ℕ, Result, Ok, Err, Option, Some, None}
use Rattle.slave.specs.Answers.{told, refusal_answer}
use Rattle.slave.specs.declared.answers.Answer.{Answer}
use Rattle.replay.specs.declared.answers.Fault.{Fault}
use Rattle.replay.specs.declared.answers.Fault.TheVariants.{Unknown, OtherLength, Cut}
use Rattle.replay.specs.declared.answers.Stop.{Stop}
use Rattle.replay.specs.declared.answers.Stop.TheVariants.{Refused, Malformed, Differs, TooLong}

abbrev pub fault_number : Fault → ℕ
fault_number Unknown = 31
fault_number OtherLength = 32
fault_number Cut = 33

-- the number of a fault that may be there; 0 where there is none
abbrev pub found_number : Option Fault → ℕ
found_number None = 0
found_number (Some fault) = fault_number fault

abbrev pub stop_answer : Stop → Answer
stop_answer (Refused refusal) = refusal_answer refusal
stop_answer (Malformed fault place) = told (fault_number fault) place
stop_answer (Differs place) = told 34 place
stop_answer TooLong = told 35 0

-- what a replay comes to as its answer: 0 with the number of records where all agree
abbrev pub stopped : Result ℕ Stop → Answer
stopped (Ok records) = told 0 records
stopped (Err stop) = stop_answer stop

-- what the form of a trace comes to: 0 where nothing is wrong
abbrev pub form_told : {A : Type 0} → Result A Stop → Answer
form_told (Ok x) = told 0 0
form_told (Err stop) = stop_answer stop

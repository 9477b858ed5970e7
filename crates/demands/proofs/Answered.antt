-- No two Results tell one answer: what tells an answer is taken back.
--     answered_one, answered_at_one     of the slave's calls
--     stopped_one, form_one             of a replay, and of the form of a trace
--     found_one                         of a record's fault
--     entered_one                       of a difference
--     octet_one                         of the octet of one record, where it lies in the reply
--     length_one                        of the L of a kind, where it is at least 1
use Rattle.std.specs.Prelude.{Option, None, Some, Result, Ok, Err, IfSome}
use Rattle.std.specs.Option.{unwrap_or}
use mathlib.Core.Path.{◌≡◌, refl, sym, ap, ◌∙◌}
use Prim.Native.Nat.{ℕ, ◌+◌, ◌-◌, ◌<◌, ◌≤◌}
use native.Mathlib.Omega.{arith}
use lib.Dec.{eqb, ltb}
use Rattle.octets.specs.Pick.{pick}
use Rattle.sheet.specs.Faults.{number_of}
use Rattle.sheet.specs.declared.records.Fault.{Fault as SheetFault}
use Rattle.sheet.specs.declared.records.Fault.TheVariants.{Ended, Unknown as UnknownRecord, Misplaced, Range, Disorder, Excess, Unmapped}
use Rattle.slave.specs.Answers.{told, refusal_answer, answered, answered_at}
use Rattle.slave.specs.declared.answers.Answer.{Answer}
use Rattle.slave.specs.declared.answers.Refusal.{Refusal}
use Rattle.slave.specs.declared.answers.Refusal.TheVariants.{Sheet, BadState, BadMemory, BadCommand, BadReply, IsDisabled, NotDisabled}
use Rattle.replay.specs.Answers.{fault_number, found_number, stop_answer, stopped, form_told}
use Rattle.replay.specs.declared.answers.Fault.{Fault}
use Rattle.replay.specs.declared.answers.Fault.TheVariants.{Unknown, OtherLength, Cut}
use Rattle.replay.specs.declared.answers.Stop.{Stop}
use Rattle.replay.specs.declared.answers.Stop.TheVariants.{Refused, Malformed, Differs, TooLong}
use Rattle.difference.specs.Answers.{refusal_answer as unlisted_answer, entered_answer}
use Rattle.difference.specs.declared.whole.Refusal.{Refusal as Unlisted}
use Rattle.difference.specs.declared.whole.Refusal.TheVariants.{First, Second, TooLong as ListTooLong}

-- a map that can be taken back tells no two things alike
taken_back : {A B : Type 0} (tell : A → B) (back : B → A) → ((x : A) → back (tell x) ≡ x) → (x y : A) → tell x ≡ tell y → x ≡ y
taken_back tell back b x y e = sym (b x) ∙ ap back e ∙ b y

-- the fault of a sheet by its number
sheet_fault : ℕ → SheetFault
sheet_fault n =
    pick (eqb n 11) Ended
    (pick (eqb n 12) UnknownRecord
    (pick (eqb n 13) Misplaced
    (pick (eqb n 14) Range
    (pick (eqb n 15) Disorder
    (pick (eqb n 16) Excess Unmapped)))))

-- the refusal of a number that is not 0, with its place
refusal_back : Answer → Refusal
refusal_back a =
    pick (eqb a.number 1) BadState
    (pick (eqb a.number 2) BadMemory
    (pick (eqb a.number 3) BadCommand
    (pick (eqb a.number 4) BadReply
    (pick (eqb a.number 5) IsDisabled
    (pick (eqb a.number 6) NotDisabled (Sheet (record { fault = sheet_fault a.number; place = a.place })))))))

result_back : {A : Type 0} → (Answer → A) → Answer → Result A Refusal
result_back done a = pick (eqb a.number 0) (Ok (done a)) (Err (refusal_back a))

flaw_taken : {A : Type 0} (done : Answer → A) (fault : SheetFault) (place : ℕ)
    → result_back done (told (number_of fault) place) ≡ Err (Sheet (record { fault = fault; place = place }))
unfolding pick number_of result_back refusal_back sheet_fault
flaw_taken done Ended place = refl
flaw_taken done UnknownRecord place = refl
flaw_taken done Misplaced place = refl
flaw_taken done Range place = refl
flaw_taken done Disorder place = refl
flaw_taken done Excess place = refl
flaw_taken done Unmapped place = refl

refusal_taken : {A : Type 0} (done : Answer → A) (refusal : Refusal) → result_back done (refusal_answer refusal) ≡ Err refusal
unfolding pick result_back refusal_back
refusal_taken done (Sheet flaw) = flaw_taken done flaw.fault flaw.place
refusal_taken done BadState = refl
refusal_taken done BadMemory = refl
refusal_taken done BadCommand = refl
refusal_taken done BadReply = refl
refusal_taken done IsDisabled = refl
refusal_taken done NotDisabled = refl

answered_taken : (r : Result (Unit {0}) Refusal) → result_back (λ a. tt) (answered r) ≡ r
unfolding pick result_back
answered_taken (Ok x) = refl
answered_taken (Err refusal) = refusal_taken (λ a. tt) refusal

pub answered_one : (r q : Result (Unit {0}) Refusal) → answered r ≡ answered q → r ≡ q
answered_one r q e = taken_back answered (result_back (λ a. tt)) answered_taken r q e

answered_at_taken : (r : Result ℕ Refusal) → result_back (λ a. a.place) (answered_at r) ≡ r
unfolding pick result_back
answered_at_taken (Ok place) = refl
answered_at_taken (Err refusal) = refusal_taken (λ a. a.place) refusal

pub answered_at_one : (r q : Result ℕ Refusal) → answered_at r ≡ answered_at q → r ≡ q
answered_at_one r q e = taken_back answered_at (result_back (λ a. a.place)) answered_at_taken r q e

-- the stop of a replay by its number, where it is none of the refusals
stop_back : Answer → Stop
stop_back a =
    pick (eqb a.number 31) (Malformed Unknown a.place)
    (pick (eqb a.number 32) (Malformed OtherLength a.place)
    (pick (eqb a.number 33) (Malformed Cut a.place)
    (pick (eqb a.number 34) (Differs a.place)
    (pick (eqb a.number 35) TooLong (Refused (refusal_back a))))))

stopped_back : {A : Type 0} → (Answer → A) → Answer → Result A Stop
stopped_back done a = pick (eqb a.number 0) (Ok (done a)) (Err (stop_back a))

stopped_flaw : {A : Type 0} (done : Answer → A) (fault : SheetFault) (place : ℕ)
    → stopped_back done (told (number_of fault) place) ≡ Err (Refused (Sheet (record { fault = fault; place = place })))
unfolding pick number_of stopped_back stop_back refusal_back sheet_fault
stopped_flaw done Ended place = refl
stopped_flaw done UnknownRecord place = refl
stopped_flaw done Misplaced place = refl
stopped_flaw done Range place = refl
stopped_flaw done Disorder place = refl
stopped_flaw done Excess place = refl
stopped_flaw done Unmapped place = refl

stopped_refusal : {A : Type 0} (done : Answer → A) (refusal : Refusal) → stopped_back done (refusal_answer refusal) ≡ Err (Refused refusal)
unfolding pick stopped_back stop_back refusal_back
stopped_refusal done (Sheet flaw) = stopped_flaw done flaw.fault flaw.place
stopped_refusal done BadState = refl
stopped_refusal done BadMemory = refl
stopped_refusal done BadCommand = refl
stopped_refusal done BadReply = refl
stopped_refusal done IsDisabled = refl
stopped_refusal done NotDisabled = refl

stopped_malformed : {A : Type 0} (done : Answer → A) (fault : Fault) (place : ℕ)
    → stopped_back done (told (fault_number fault) place) ≡ Err (Malformed fault place)
unfolding pick stopped_back stop_back
stopped_malformed done Unknown place = refl
stopped_malformed done OtherLength place = refl
stopped_malformed done Cut place = refl

stop_taken : {A : Type 0} (done : Answer → A) (stop : Stop) → stopped_back done (stop_answer stop) ≡ Err stop
unfolding pick stopped_back stop_back
stop_taken done (Refused refusal) = stopped_refusal done refusal
stop_taken done (Malformed fault place) = stopped_malformed done fault place
stop_taken done (Differs place) = refl
stop_taken done TooLong = refl

stopped_taken : (r : Result ℕ Stop) → stopped_back (λ a. a.place) (stopped r) ≡ r
unfolding pick stopped_back
stopped_taken (Ok records) = refl
stopped_taken (Err stop) = stop_taken (λ a. a.place) stop

pub stopped_one : (r q : Result ℕ Stop) → stopped r ≡ stopped q → r ≡ q
stopped_one r q e = taken_back stopped (stopped_back (λ a. a.place)) stopped_taken r q e

form_taken : (r : Result (Unit {0}) Stop) → stopped_back (λ a. tt) (form_told r) ≡ r
unfolding pick stopped_back
form_taken (Ok x) = refl
form_taken (Err stop) = stop_taken (λ a. tt) stop

pub form_one : (r q : Result (Unit {0}) Stop) → form_told r ≡ form_told q → r ≡ q
form_one r q e = taken_back form_told (stopped_back (λ a. tt)) form_taken r q e

-- the fault of a record by its number
found_back : ℕ → Option Fault
found_back n = pick (eqb n 0) None (pick (eqb n 31) (Some Unknown) (pick (eqb n 32) (Some OtherLength) (Some Cut)))

some_taken : (fault : Fault) → found_back (fault_number fault) ≡ Some fault
unfolding pick found_back
some_taken Unknown = refl
some_taken OtherLength = refl
some_taken Cut = refl

found_taken : (d : Option Fault) → found_back (found_number d) ≡ d
unfolding pick found_back
found_taken None = refl
found_taken (Some fault) = some_taken fault

pub found_one : (d e : Option Fault) → found_number d ≡ found_number e → d ≡ e
found_one d e q = taken_back found_number found_back found_taken d e q

-- what a difference tells, by its number
entered_back : Answer → Result ℕ Unlisted
entered_back a =
    pick (eqb a.number 0) (Ok a.place)
    (Err (pick (eqb a.number 28) (ListTooLong a.place)
    (pick (ltb a.number 20) (First (record { fault = sheet_fault a.number; place = a.place }))
    (Second (record { fault = sheet_fault (a.number - 10); place = a.place })))))

first_taken : (fault : SheetFault) (place : ℕ) → entered_back (told (number_of fault) place) ≡ Err (First (record { fault = fault; place = place }))
unfolding pick number_of entered_back sheet_fault
first_taken Ended place = refl
first_taken UnknownRecord place = refl
first_taken Misplaced place = refl
first_taken Range place = refl
first_taken Disorder place = refl
first_taken Excess place = refl
first_taken Unmapped place = refl

second_taken : (fault : SheetFault) (place : ℕ) → entered_back (told (number_of fault + 10) place) ≡ Err (Second (record { fault = fault; place = place }))
unfolding pick number_of entered_back sheet_fault
second_taken Ended place = refl
second_taken UnknownRecord place = refl
second_taken Misplaced place = refl
second_taken Range place = refl
second_taken Disorder place = refl
second_taken Excess place = refl
second_taken Unmapped place = refl

entered_taken : (r : Result ℕ Unlisted) → entered_back (entered_answer r) ≡ r
unfolding pick entered_back entered_answer unlisted_answer
entered_taken (Ok length) = refl
entered_taken (Err (First flaw)) = first_taken flaw.fault flaw.place
entered_taken (Err (Second flaw)) = second_taken flaw.fault flaw.place
entered_taken (Err (ListTooLong needed)) = refl

pub entered_one : (r q : Result ℕ Unlisted) → entered_answer r ≡ entered_answer q → r ≡ q
entered_one r q e = taken_back entered_answer entered_back entered_taken r q e

-- an octet that lies in the reply is told apart from none, which tells the reply's length
pub octet_one : (l : ℕ) (d e : Option ℕ) → IfSome d (λ octet. octet < l) → IfSome e (λ octet. octet < l) → unwrap_or d l ≡ unwrap_or e l → d ≡ e
octet_one l None None b c q = refl
octet_one l None (Some y) b c q = absurd (omega arith)
octet_one l (Some x) None b c q = absurd (omega arith)
octet_one l (Some x) (Some y) b c q = ap Some q

-- and an L that is at least 1 from none, which tells 0
pub length_one : (d e : Option ℕ) → IfSome d (λ l. 1 ≤ l) → IfSome e (λ l. 1 ≤ l) → unwrap_or d 0 ≡ unwrap_or e 0 → d ≡ e
length_one None None b c q = refl
length_one None (Some y) b c q = absurd (omega arith)
length_one (Some x) None b c q = absurd (omega arith)
length_one (Some x) (Some y) b c q = ap Some q

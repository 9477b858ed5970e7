-- What a record's reading and a whole sheet come to, as results: the first fault is told, and of a sheet's its place.
use Rattle.std.specs.Prelude.{ℕ, Result, Ok, Err}
use Rattle.sheet.specs.declared.records.Counts.{Counts}
use Rattle.sheet.specs.declared.records.Fault.{Fault}
use Rattle.sheet.specs.declared.records.Flaw.{Flaw}
use Rattle.sheet.specs.declared.records.Record.{Record}
use Rattle.sheet.specs.declared.walk.Layout.{Layout}

-- a record, or its fault
abbrev pub Reading : Type 0
Reading = Result Record Fault

-- a record of so many octets, with the counts behind it
abbrev pub reads : ℕ → Counts → Reading
reads size next = Ok (record { size = size; counts = next })

-- a valid sheet's layout, or the first fault with its place
abbrev pub Verdict : Type 0
Verdict = Result Layout Flaw

abbrev pub faulty : Fault → ℕ → Verdict
faulty fault place = Err (record { fault = fault; place = place })

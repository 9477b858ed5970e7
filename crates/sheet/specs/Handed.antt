-- How the walk's code hands its answer back: as one number. The verdict (Walk.antt) is told without it.
use Rattle.std.specs.Prelude.{ℕ, ◌+◌, ◌*◌, ◌/◌, ◌%◌, List, eqb, Err, Ok}
use Rattle.octets.specs.Pick.{pick}
use Rattle.sheet.specs.Faults.{number_of}
use Rattle.sheet.specs.Walk.{layout_of}
use Rattle.sheet.specs.declared.records.Counts.{Counts}
use Rattle.sheet.specs.declared.records.Fault.{Fault}
use Rattle.sheet.specs.declared.records.Fault.TheVariants.{Ended, Unknown, Misplaced, Range, Disorder, Excess, Unmapped}
use Rattle.sheet.specs.Told.{Reading, reads, Verdict, faulty}

-- for a whole sheet its counts, each in room of its own
unfoldable pub counts_number : Counts → ℕ
counts_number so = so.regions + 256 * so.parameters + 65536 * so.items + 16777216 * so.tolerances + 268435456 * so.releases + 4294967296 * so.memory

-- and for a fault its place, with the fault's number above every count, at 2^56
unfoldable pub failed_number : Fault → ℕ → ℕ
failed_number fault place = place + 72057594037927936 * number_of fault

-- the counts that such a number has
unfoldable pub counts_in : ℕ → Counts
counts_in n = record {
  regions = n % 256;
  parameters = n / 256 % 256;
  items = n / 65536 % 256;
  tolerances = n / 16777216 % 16;
  releases = n / 268435456 % 16;
  memory = n / 4294967296 % 16777216;
}

-- the fault of a number; one that is none counts as the last
unfoldable pub fault_of : ℕ → Fault
fault_of n =
    pick (eqb n 11) Ended
    (pick (eqb n 12) Unknown
    (pick (eqb n 13) Misplaced
    (pick (eqb n 14) Range
    (pick (eqb n 15) Disorder
    (pick (eqb n 16) Excess Unmapped)))))

-- what a number of either kind tells of the sheet
unfoldable pub tells : List ℕ → ℕ → Verdict
tells s n =
    pick (eqb (n / 72057594037927936) 0)
    (Ok (layout_of s (counts_in n)))
    (faulty (fault_of (n / 72057594037927936)) (n % 65536))

-- the fault of a reading, with its place: asked only of a reading that is no record
unfoldable pub failed_at : Reading → ℕ → ℕ
failed_at (Err fault) place = failed_number fault place
failed_at (Ok r) place = failed_number Ended place

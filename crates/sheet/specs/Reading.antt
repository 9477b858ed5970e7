-- One record's reading: the checks in document 01's order, the first that fails is told. `s` is the whole sheet, `rest` its octets from
-- the record's first on, `so` counts what was read before.
use Rattle.std.specs.Prelude.{ℕ, ◌+◌, ◌-◌, not, List, eqb, ltb, length, get_or, take, drop, Err}
use Rattle.octets.specs.Parts.{all_zero}
use Rattle.octets.specs.Pick.{pick}
use Rattle.regions.specs.Region.{region_from, regions_of}
use Rattle.regions.specs.Search.{span_has}
use Rattle.regions.specs.declared.Right.TheVariants.{Mapped}
use Rattle.sheet.specs.Entries.{parameter_from, item_from}
use Rattle.sheet.specs.Judging.{judged_region, judged_parameter, judged_item, judged_tolerance, judged_release}
use Rattle.sheet.specs.Kinds.{is_kind, is_link, length_fits, size_of, misplaced_of, end_before, least_number, least_code}
use Rattle.sheet.specs.declared.records.Counts.{Counts}
use Rattle.sheet.specs.declared.records.Fault.TheVariants.{Ended, Unknown, Misplaced, Range}
use Rattle.sheet.specs.Told.{Reading, reads}

-- a record of n octets that the sheet's end cuts short is fault 11
abbrev pub whole : ℕ → List ℕ → Reading → Reading
whole n rest r = pick (ltb (length rest) n) (Err Ended) r

-- kinds 01 and 05: L fits the kind; version and profile are free
unfoldable pub link_of : List ℕ → Counts → Reading
link_of rest so = pick (not (length_fits (get_or rest 0 0) (get_or rest 1 0))) (Err Range) (reads 4 so)

-- kind 02
unfoldable pub region_of : List ℕ → List ℕ → Counts → Reading
region_of s rest so = judged_region (region_from rest 0) (end_before s so) so

-- kind 03
unfoldable pub parameter_of : List ℕ → List ℕ → Counts → Reading
parameter_of s rest so =
    judged_parameter (parameter_from rest 0) (least_number s so)
    (span_has (regions_of s so.regions) Mapped (parameter_from rest 0).address (parameter_from rest 0).size) so

-- an ID item's octets past its length, up to the record's end
abbrev pub tail_of : List ℕ → List ℕ
tail_of rest = take (32 - get_or rest 2 0) (drop (3 + get_or rest 2 0) rest)

-- kind 04
unfoldable pub item_of : List ℕ → List ℕ → Counts → Reading
item_of s rest so = judged_item (item_from rest 0) (all_zero (tail_of rest)) (least_code s so) so

-- kind 06
unfoldable pub tolerance_of : List ℕ → Counts → Reading
tolerance_of rest so = judged_tolerance (get_or rest 1 0) so

-- kind 07
unfoldable pub release_of : List ℕ → Counts → Reading
release_of rest so = judged_release (get_or rest 1 0) so

-- a whole record of a known kind in its place; the end record, kind 00, has no body
unfoldable pub body_of : ℕ → List ℕ → List ℕ → Counts → Reading
body_of kind s rest so =
    pick (eqb kind 0) (reads 1 so)
    (pick (is_link kind) (link_of rest so)
    (pick (eqb kind 2) (region_of s rest so)
    (pick (eqb kind 3) (parameter_of s rest so)
    (pick (eqb kind 4) (item_of s rest so)
    (pick (eqb kind 6) (tolerance_of rest so)
    (release_of rest so))))))

-- "sheet ended before an end record (11), unknown kind (12), kind out of place (13), body cut short (11)", then the record's own checks
unfoldable pub record_of : List ℕ → List ℕ → Counts → Reading
record_of s rest so =
    pick (eqb (length rest) 0) (Err Ended)
    (pick (not (is_kind (get_or rest 0 0))) (Err Unknown)
    (pick (misplaced_of (eqb (length rest) (length s)) (get_or rest 0 0) so) (Err Misplaced)
    (whole (size_of (get_or rest 0 0)) rest
    (body_of (get_or rest 0 0) s rest so))))

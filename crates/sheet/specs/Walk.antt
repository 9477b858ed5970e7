-- The verdict on a whole sheet. Document 01: "The sheet is read record by record from its front, and the first fault is told."
use Rattle.std.specs.Prelude.{ℕ, zero, suc, ◌+◌, ◌-◌, ◌*◌, List, eqb, ltb, length, get_or, drop, Err, Ok}
use Rattle.octets.specs.Pick.{pick}
use Rattle.sheet.specs.Reading.{record_of}
use Rattle.sheet.specs.declared.records.Counts.{Counts}
use Rattle.sheet.specs.declared.records.Fault.TheVariants.{Ended, Misplaced}
use Rattle.sheet.specs.declared.walk.Form.{Form}
use Rattle.sheet.specs.declared.walk.Form.TheVariants.{Enhanced, Short}
use Rattle.sheet.specs.declared.walk.Layout.{Layout}
use Rattle.sheet.specs.Told.{Reading, Verdict, faulty}

abbrev pub counts : ℕ → ℕ → ℕ → ℕ → ℕ → ℕ → Counts
counts regions parameters items tolerances releases memory =
    record { regions = regions; parameters = parameters; items = items; tolerances = tolerances; releases = releases; memory = memory }

-- before the first record
abbrev pub none : Counts
none = counts 0 0 0 0 0 0

-- request 9: the record behind the ID items "allows that many failures in a row, none without it"
unfoldable pub tolerance_in : List ℕ → Counts → ℕ
tolerance_in s so = pick (eqb so.tolerances 0) 0 (get_or s (5 + 10 * so.regions + 8 * so.parameters + 35 * so.items) 0)

-- request 13: the record behind that one "picks the rule; without it release 1 holds"
unfoldable pub release_in : List ℕ → Counts → ℕ
release_in s so =
    pick (eqb so.releases 0) 1 (get_or s (5 + 10 * so.regions + 8 * so.parameters + 35 * so.items + 2 * so.tolerances) 0)

-- request 7: kind 05 in the link record's place selects the short type
unfoldable pub form_of : ℕ → Form
form_of kind = pick (eqb kind 5) Short Enhanced

-- the link record's kind stands at 0, its L, version and profile stand at 1, 2 and 3
unfoldable pub layout_of : List ℕ → Counts → Layout
layout_of s so = record {
  form = form_of (get_or s 0 0);
  l = get_or s 1 0;
  version = get_or s 2 0;
  profile = get_or s 3 0;
  regions = so.regions;
  parameters = so.parameters;
  items = so.items;
  tolerances = so.tolerances;
  tolerance = tolerance_in s so;
  releases = so.releases;
  release = release_in s so;
  memory = so.memory;
}

-- "The place is the record's first octet"; where no octet is left, that is the sheet's length
abbrev pub place_of : List ℕ → List ℕ → ℕ
place_of s rest = length s - length rest

-- "Octets after the end record are fault 13 at the first of them"
unfoldable pub ended_of : List ℕ → List ℕ → Counts → Verdict
ended_of s rest so = pick (ltb 1 (length rest)) (faulty Misplaced (place_of s rest + 1)) (Ok (layout_of s so))

-- what one record's reading leads to: its fault with its place, or what comes behind the record
unfoldable pub onward : Reading → ℕ → (ℕ → Counts → Verdict) → Verdict
onward (Err fault) place behind = faulty fault place
onward (Ok r) place behind = behind r.size r.counts

-- the walk over the octets `rest` of the sheet `s`; its first argument bounds the number of records, and one more than the octets is enough
unfoldable pub walk_of : ℕ → List ℕ → List ℕ → Counts → Verdict
walk_of zero s rest so = faulty Ended (place_of s rest)
walk_of (suc f) s rest so =
    onward (record_of s rest so) (place_of s rest)
    (λ size next. pick (eqb (get_or rest 0 0) 0) (ended_of s rest so) (walk_of f s (drop size rest) next))

-- "A sheet over 2,048 octets is fault 11 at place 0."
unfoldable pub verdict_of : List ℕ → Verdict
verdict_of s = pick (ltb 2048 (length s)) (faulty Ended 0) (walk_of (suc (length s)) s s none)

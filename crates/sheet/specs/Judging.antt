-- A record's fields judged: the checks in document 01's order, "field range (14), too many records or too much memory (16), order or overlap
-- (15), parameter span (17)", and the first that fails is told. `so` counts what was read before.
use Rattle.std.specs.Prelude.{ℕ, ◌+◌, Bool, not, eqb, ltb, leb, Err}
use Rattle.octets.specs.Pick.{pick}
use Rattle.regions.specs.declared.Region.{Region}
use Rattle.sheet.specs.declared.entries.Parameter.{Parameter}
use Rattle.sheet.specs.declared.entries.Item.{Item}
use Rattle.sheet.specs.declared.records.Counts.{Counts}
use Rattle.sheet.specs.declared.records.Fault.TheVariants.{Range, Disorder, Excess, Unmapped}
use Rattle.sheet.specs.Told.{Reading, reads}

-- kind 02: "Length is at least 1 and start + length at most 2^32. Rights: .. other bits 0"
unfoldable pub judged_region : Region → ℕ → Counts → Reading
judged_region r end so =
    pick (eqb r.length 0) (Err Range)
    (pick (ltb 4294967296 (r.start + r.length)) (Err Range)
    (pick (ltb 7 r.rights) (Err Range)
    (pick (leb 32 so.regions) (Err Excess)
    (pick (ltb 65536 (so.memory + r.length)) (Err Excess)
    (pick (ltb r.start end) (Err Disorder)
    (reads 10 (record {
      regions = so.regions + 1;
      parameters = so.parameters;
      items = so.items;
      tolerances = so.tolerances;
      releases = so.releases;
      memory = so.memory + r.length;
    })))))))

-- kind 03: "Parameter size 1 to 56"; "a parameter's span lies wholly in regions"
unfoldable pub judged_parameter : Parameter → ℕ → Bool → Counts → Reading
judged_parameter p least mapped so =
    pick (eqb p.size 0) (Err Range)
    (pick (ltb 56 p.size) (Err Range)
    (pick (leb 64 so.parameters) (Err Excess)
    (pick (ltb p.number least) (Err Disorder)
    (pick (not mapped) (Err Unmapped)
    (reads 8 (record {
      regions = so.regions;
      parameters = so.parameters + 1;
      items = so.items;
      tolerances = so.tolerances;
      releases = so.releases;
      memory = so.memory;
    }))))))

-- kind 04: "ID length 1 to 32, the octets past it zero"
unfoldable pub judged_item : Item → Bool → ℕ → Counts → Reading
judged_item i tail least so =
    pick (eqb i.length 0) (Err Range)
    (pick (ltb 32 i.length) (Err Range)
    (pick (not tail) (Err Range)
    (pick (leb 32 so.items) (Err Excess)
    (pick (ltb i.code least) (Err Disorder)
    (reads 35 (record {
      regions = so.regions;
      parameters = so.parameters;
      items = so.items + 1;
      tolerances = so.tolerances;
      releases = so.releases;
      memory = so.memory;
    }))))))

-- kind 06, of request 9: "body of one octet 0 to 3"; it stands once
unfoldable pub judged_tolerance : ℕ → Counts → Reading
judged_tolerance n so =
    pick (ltb 3 n) (Err Range)
    (reads 2 (record {
      regions = so.regions;
      parameters = so.parameters;
      items = so.items;
      tolerances = 1;
      releases = so.releases;
      memory = so.memory;
    }))

-- kind 07, of request 13: "body one octet 1 or 2"; it stands once
unfoldable pub judged_release : ℕ → Counts → Reading
judged_release n so =
    pick (eqb n 0) (Err Range)
    (pick (ltb 2 n) (Err Range)
    (reads 2 (record {
      regions = so.regions;
      parameters = so.parameters;
      items = so.items;
      tolerances = so.tolerances;
      releases = 1;
      memory = so.memory;
    })))

-- What holds of the records read so far, at every step of the walk: what the walk's own promise leans on, and, at its end, the laws of a
-- valid sheet.
use Rattle.std.specs.Prelude.{ℕ, suc, ◌+◌, ◌-◌, ◌*◌, ◌≤◌, ◌<◌, true, List, ◌⊎◌, ◌≡◌, length, get_or, drop}
use Rattle.std.specs.Coded.{le_prop}
use Rattle.regions.specs.Apart.{Laid, Laid-prop}
use Rattle.regions.specs.Region.{region_at, regions_of}
use Rattle.regions.specs.Search.{total_of, before_of}
use Rattle.regions.specs.declared.Region.{Region}
use Rattle.regions.specs.declared.Right.TheVariants.{Mapped}
use Rattle.sheet.specs.Entries.{parameter_at, item_at}
use Rattle.sheet.specs.Kinds.{length_fits}
use Rattle.sheet.specs.Walk.{none}
use Rattle.sheet.specs.declared.entries.Parameter.{Parameter}
use Rattle.sheet.specs.declared.entries.Item.{Item}
use Rattle.sheet.specs.declared.records.Counts.{Counts}
use Rattle.sheet.specs.declared.walk.Layout.{Layout}

-- a region's fields are in range
pub record FineRegion (r : Region) : Type 0 where
  pub some : 1 ≤ r.length
  pub ends : r.start + r.length ≤ 4294967296
  pub bits : r.rights ≤ 7

-- a parameter's size is in range, and its span lies wholly in the regions, octet by octet
pub record FineParameter (s : List ℕ) (r : ℕ) (p : Parameter) : Type 0 where
  pub some : 1 ≤ p.size
  pub most : p.size ≤ 56
  pub mapped : before_of (regions_of s r) Mapped p.address p.size ≡ p.size

-- an ID item's length is in range
pub record FineItem (i : Item) : Type 0 where
  pub some : 1 ≤ i.length
  pub most : i.length ≤ 32

-- the place behind the records that were counted
abbrev pub behind : Counts → ℕ
behind so = 4 + 10 * so.regions + 8 * so.parameters + 35 * so.items + 2 * so.tolerances + 2 * so.releases

-- the records counted in `so` are in order, and the next one begins at place `at`
pub record Sound (s : List ℕ) (at : ℕ) (so : Counts) : Type 0 where
  pub begun : ((at ≡ 0) × (so ≡ none)) ⊎ ((at ≡ behind so) × (length_fits (get_or s 0 0) (get_or s 1 0) ≡ true))
  pub few_regions : so.regions ≤ 32
  pub few_parameters : so.parameters ≤ 64
  pub few_items : so.items ≤ 32
  pub few_tolerances : so.tolerances ≤ 1
  pub tolerance_fine : 1 ≤ so.tolerances → get_or s (5 + 10 * so.regions + 8 * so.parameters + 35 * so.items) 0 ≤ 3
  pub few_releases : so.releases ≤ 1
  pub release_fine : 1 ≤ so.releases
      → (1 ≤ get_or s (5 + 10 * so.regions + 8 * so.parameters + 35 * so.items + 2 * so.tolerances) 0)
      × (get_or s (5 + 10 * so.regions + 8 * so.parameters + 35 * so.items + 2 * so.tolerances) 0 ≤ 2)
  pub regions_fine : (i : ℕ) → i < so.regions → FineRegion (region_at s i)
  pub regions_rise : (i : ℕ) → suc i < so.regions → (region_at s i).start + (region_at s i).length ≤ (region_at s (suc i)).start
  pub memory_sum : so.memory ≡ total_of (regions_of s so.regions)
  pub memory_room : so.memory ≤ 65536
  pub parameters_fine : (j : ℕ) → j < so.parameters → FineParameter s so.regions (parameter_at s so.regions j)
  pub parameters_rise : (j : ℕ) → suc j < so.parameters
      → (parameter_at s so.regions j).number < (parameter_at s so.regions (suc j)).number
  pub items_fine : (k : ℕ) → k < so.items → FineItem (item_at s so.regions so.parameters k)
  pub items_rise : (k : ℕ) → suc k < so.items
      → (item_at s so.regions so.parameters k).code < (item_at s so.regions so.parameters (suc k)).code

-- the records counted in `so` are in the sheet, its regions ordered and apart: what the reading of the next record leans on
pub record Counted (s : List ℕ) (so : Counts) : Type 0 where
  pub inside : 10 * so.regions + 8 * so.parameters + 35 * so.items ≤ length s - 4
  pub laid : Laid s so.regions

-- that is a fact, which a type can keep
pub Counted-prop : (s : List ℕ) (so : Counts) → IsProp (Counted s so)
Counted-prop s so x y i = record {
  inside = le_prop x.inside y.inside i;
  laid = Laid-prop s so.regions x.laid y.laid i;
}

-- the counts of a valid sheet, out of its layout: what the machine's searches lean on is that these records are in the sheet
abbrev pub counts_of : Layout → Counts
counts_of lay = record { regions = lay.regions; parameters = lay.parameters; items = lay.items; tolerances = lay.tolerances; releases = lay.releases; memory = lay.memory }

-- the walk stands before `rest`, the last octets of the sheet `s`
pub record Standing (s rest : List ℕ) (so : Counts) : Type 0 where
  pub short : length s ≤ 2048
  pub fits : length rest ≤ length s
  pub part : rest ≡ drop (length s - length rest) s
  pub sound : Sound s (length s - length rest) so

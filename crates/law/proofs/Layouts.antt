-- What the machine keeps of a sheet, and its records as the law has them, both ways.
use Prim.Native.Nat.{ℕ, ◌+◌}
use mathlib.Core.List.{List, [], ◌∷◌}
use mathlib.Core.Path.{◌≡◌, refl}
use lib.Dec.{eqb}
use lib.ListN.{length, get_or, take, drop}
use Rattle.regions.specs.declared.Region.{Region}
use Rattle.sheet.specs.declared.entries.Parameter.{Parameter}
use Rattle.sheet.specs.declared.records.Counts.{Counts}
use Rattle.sheet.specs.declared.walk.Form.{Form}
use Rattle.sheet.specs.declared.walk.Form.TheVariants.{Enhanced, Short}
use Rattle.sheet.specs.declared.walk.Layout.{Layout}
use Rattle.law.specs.Words.{octet}
use Rattle.law.specs.Sheet.{PduType, enhanced, short, Region as Area, Parameter as Param, Item as Ident, Sheet, allows, is_release2, room}

abbrev pub form_for : PduType → Form
form_for enhanced = Enhanced
form_for short = Short

-- without its record release 1 holds
abbrev pub release_for : Sheet → ℕ
release_for h = get_or h.releases 0 1

first_two : (rs : List ℕ) → eqb (get_or rs 0 1) 2 ≡ eqb (octet rs 0) 2
first_two [] = refl
first_two (r ∷ rs) = refl

-- the machine's test of the release is the law's
pub release_two : (h : Sheet) → eqb (release_for h) 2 ≡ is_release2 h
release_two h = first_two h.releases

-- a sheet's layout, as if its type were another
abbrev pub layout_as : PduType → Sheet → Layout
layout_as pdu h = record {
  form = form_for pdu;
  l = h.l;
  version = h.version;
  profile = h.profile;
  regions = length h.regions;
  parameters = length h.parameters;
  items = length h.items;
  tolerances = length h.tolerances;
  tolerance = allows h;
  releases = length h.releases;
  release = release_for h;
  memory = room h.regions;
}

abbrev pub layout_for : Sheet → Layout
layout_for h = layout_as h.pdu h

abbrev pub full : ℕ → ℕ → ℕ → ℕ → ℕ → ℕ → Counts
full n p k t v m = record { regions = n; parameters = p; items = k; tolerances = t; releases = v; memory = m }

-- before the tolerance
abbrev pub counts : ℕ → ℕ → ℕ → ℕ → Counts
counts n p k m = full n p k 0 0 m

-- the counts of a sheet's records
abbrev pub counts_for : Sheet → Counts
counts_for h = full (length h.regions) (length h.parameters) (length h.items) (length h.tolerances) (length h.releases) (room h.regions)

abbrev pub as_region : Area → Region
as_region r = record { start = r.start; length = r.length; rights = r.rights }

abbrev pub as_parameter : Param → Parameter
as_parameter p = record { number = p.number; address = p.address; size = p.size }

abbrev pub as_area : Region → Area
as_area r = record { start = r.start; length = r.length; rights = r.rights }

abbrev pub as_param : Parameter → Param
as_param p = record { number = p.number; address = p.address; size = p.size }

abbrev pub ident_from : List ℕ → ℕ → Ident
ident_from s at = record { code = get_or s (at + 1) 0; length = get_or s (at + 2) 0; octets = take 32 (drop (at + 3) s) }

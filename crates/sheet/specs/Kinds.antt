-- The kinds of record, where each may stand, and what each is compared with. `so` counts what was read so far.
use Rattle.std.specs.Prelude.{ℕ, ◌+◌, ◌-◌, Bool, true, false, not, ◌&&◌, ◌||◌, List, eqb, ltb, leb, ◌≡◌, Result, MatchResult}
use Rattle.octets.specs.Pick.{pick}
use Rattle.regions.specs.Region.{region_at}
use Rattle.sheet.specs.Entries.{parameter_at, item_at}
use Rattle.sheet.specs.declared.kinds.Kind.{Kind}
use Rattle.sheet.specs.declared.kinds.Kind.TheVariants.{End, Link, Region, Parameter, Item, ShortLink, Tolerance, Release}
use Rattle.sheet.specs.declared.kinds.UnknownKind.{UnknownKind}
use Rattle.sheet.specs.declared.records.Counts.{Counts}

-- PDU length L of 8, 16, 32, 48 or 64
unfoldable pub is_length : ℕ → Bool
is_length l = eqb l 8 || eqb l 16 || eqb l 32 || eqb l 48 || eqb l 64

-- the kinds that there are: 00 end, 01 link, 02 region, 03 parameter, 04 ID item; request 7: 05 link of the short type; request 9: 06 tolerance; request
-- 13: 07 release
unfoldable pub is_kind : ℕ → Bool
is_kind kind = leb kind 7

abbrev pub kind_number : Kind → ℕ
kind_number End = 0
kind_number Link = 1
kind_number Region = 2
kind_number Parameter = 3
kind_number Item = 4
kind_number ShortLink = 5
kind_number Tolerance = 6
kind_number Release = 7

-- the kind of a number, or none for a number that is no kind's
abbrev pub NamesKind : ℕ → Result Kind UnknownKind → Type 0
NamesKind n r = MatchResult r (λ kind. kind_number kind ≡ n) (λ e. (e.0 ≡ n) × (is_kind n ≡ false))

-- request 7: "A record of new kind 05, body as kind 01, .. stands in the link record's place"
abbrev pub is_link : ℕ → Bool
is_link kind = eqb kind 1 || eqb kind 5

-- a link record's L: one of the five; request 7: "L 16" in kind 05
unfoldable pub length_fits : ℕ → ℕ → Bool
length_fits kind l = is_length l && (not (eqb kind 5) || eqb l 16)

-- the octets of a record, its kind octet among them
unfoldable pub size_of : ℕ → ℕ
size_of kind = pick (eqb kind 0) 1 (pick (is_link kind) 4 (pick (eqb kind 2) 10 (pick (eqb kind 3) 8 (pick (eqb kind 4) 35 2))))

-- "The link record comes first and once; then regions, parameters, ID items, end"; request 9: the tolerance "after the ID items and at most once"; request 13:
-- the release "last before the end", at most once
unfoldable pub misplaced_of : Bool → ℕ → Counts → Bool
misplaced_of true kind so = not (is_link kind)
misplaced_of false kind so =
    is_link kind
    || (eqb kind 2 && ltb 0 (so.parameters + so.items + so.tolerances + so.releases))
    || (eqb kind 3 && ltb 0 (so.items + so.tolerances + so.releases))
    || (eqb kind 4 && ltb 0 (so.tolerances + so.releases))
    || (eqb kind 6 && ltb 0 (so.tolerances + so.releases))
    || (eqb kind 7 && ltb 0 so.releases)

-- one past the last address of the region before; 0 where there is none
unfoldable pub end_before : List ℕ → Counts → ℕ
end_before s so =
    pick (eqb so.regions 0) 0 ((region_at s (so.regions - 1)).start + (region_at s (so.regions - 1)).length)

-- "parameter numbers .. rise strictly": at least one more than the number before; 0 where there is none
unfoldable pub least_number : List ℕ → Counts → ℕ
least_number s so = pick (eqb so.parameters 0) 0 ((parameter_at s so.regions (so.parameters - 1)).number + 1)

-- "ID codes rise strictly"
unfoldable pub least_code : List ℕ → Counts → ℕ
least_code s so = pick (eqb so.items 0) 0 ((item_at s so.regions so.parameters (so.items - 1)).code + 1)

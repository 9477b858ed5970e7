-- The fault of a sheet that is not well formed: "The sheet is read record by record from its front, and the first fault is told."
use Rattle.std.specs.Prelude.{ℕ, zero, suc, ◌+◌, ◌≤◌, ◌<◌, List, [], ◌∷◌, ◌++◌, ◌⊎◌, ◌≡◌, length, get_or}
use Rattle.law.specs.Words.{FaultUnless, NoMore}
use Rattle.law.specs.Sheet.{PduType, Region, Parameter, Item, Sheet, GoodRegion, GoodItem, GoodRelease, WellFormed, GoodLength, link_kind, Apart, NumbersRise, CodesRise, Spanned, FewRegions, FewParameters, FewItems, region_octets, parameter_octets, item_octets, tolerance_octets, release_octets, written}

-- what stands before the record at fault: nothing, or records of which a sheet could consist
pub data Sofar : Type 0 where
  nothing : Sofar
  records : Sheet → Sofar

-- its octets, and what stands behind them
abbrev pub before : Sofar → List ℕ → List ℕ
before nothing rest = rest
before (records h) rest = written h rest

abbrev pub GoodSofar : Sofar → Type 0
GoodSofar nothing = Unit {0}
GoodSofar (records h) = WellFormed h

-- "The link record comes first and once; then regions, parameters, ID items, end": an end record first is out of place too. Request 7: "kind 05 beside kind 01
-- is 13". The tolerance comes "after the ID items and at most once", the release "last before the end", at most once
abbrev pub InPlace : Sofar → ℕ → Type 0
InPlace nothing kind = (t : PduType) × (kind ≡ link_kind t)
InPlace (records h) kind =
    ((t : PduType) → kind ≡ link_kind t → ⊥)
    × (kind ≡ 2 → length h.parameters + length h.items + length h.tolerances + length h.releases ≡ 0)
    × (kind ≡ 3 → length h.items + length h.tolerances + length h.releases ≡ 0)
    × (kind ≡ 4 → length h.tolerances + length h.releases ≡ 0)
    × (kind ≡ 6 → length h.tolerances + length h.releases ≡ 0)
    × (kind ≡ 7 → length h.releases ≡ 0)

-- the kinds that there are
abbrev pub Kind : ℕ → Type 0
Kind kind = kind ≤ 7

-- "a body whose length the kind fixes": the octets of a record of kind 0 to 7, the kind octet among them
abbrev pub record_length : ℕ → ℕ
record_length zero = 1
record_length (suc zero) = 4
record_length (suc (suc zero)) = 10
record_length (suc (suc (suc zero))) = 8
record_length (suc (suc (suc (suc zero)))) = 35
record_length (suc (suc (suc (suc (suc zero))))) = 4
record_length (suc (suc (suc (suc (suc (suc n)))))) = 2

-- "field range (14), too many records or too much memory (16), order or overlap (15), parameter span (17)"
abbrev pub RegionFault : Sheet → Region → ℕ → Type 0
RegionFault h r =
    FaultUnless 14 (GoodRegion r)
    (FaultUnless 16 (FewRegions (h.regions ++ r ∷ []))
    (FaultUnless 15 (Apart (h.regions ++ r ∷ []))
    NoMore))

abbrev pub ParameterFault : Sheet → Parameter → ℕ → Type 0
ParameterFault h p =
    FaultUnless 14 ((1 ≤ p.size) × (p.size ≤ 56))
    (FaultUnless 16 (FewParameters (h.parameters ++ p ∷ []))
    (FaultUnless 15 (NumbersRise (h.parameters ++ p ∷ []))
    (FaultUnless 17 (Spanned h.regions p)
    NoMore)))

abbrev pub ItemFault : Sheet → Item → ℕ → Type 0
ItemFault h i =
    FaultUnless 14 (GoodItem i)
    (FaultUnless 16 (FewItems (h.items ++ i ∷ []))
    (FaultUnless 15 (CodesRise (h.items ++ i ∷ []))
    NoMore))

abbrev pub ToleranceFault : ℕ → ℕ → Type 0
ToleranceFault n = FaultUnless 14 (n ≤ 3) NoMore

abbrev pub ReleaseFault : ℕ → ℕ → Type 0
ReleaseFault n = FaultUnless 14 (GoodRelease n) NoMore

-- the record that `rest` begins with, its numbers fitting their octets, and its fault
abbrev pub BodyFault : Sofar → List ℕ → ℕ → Type 0
BodyFault nothing rest f = FaultUnless 14 ((t : PduType) × (get_or rest 0 0 ≡ link_kind t) × GoodLength t (get_or rest 1 0)) NoMore f
BodyFault (records h) rest f =
    ((r : Region) × (t : List ℕ) × (rest ≡ region_octets r ++ t) × (r.start < 4294967296) × (r.length < 4294967296) × RegionFault h r f)
    ⊎ (((p : Parameter) × (t : List ℕ) × (rest ≡ parameter_octets p ++ t) × (p.number < 65536) × (p.address < 4294967296) × ParameterFault h p f)
    ⊎ (((i : Item) × (t : List ℕ) × (rest ≡ item_octets i ++ t) × (length i.octets ≡ 32) × ItemFault h i f)
    ⊎ (((n : ℕ) × (t : List ℕ) × (rest ≡ tolerance_octets n ++ t) × ToleranceFault n f)
    ⊎ ((n : ℕ) × (t : List ℕ) × (rest ≡ release_octets n ++ t) × ReleaseFault n f))))

-- "sheet ended before an end record (11), unknown kind (12), kind out of place (13), body cut short (11)", then the record's own
abbrev pub RecordFault : Sofar → List ℕ → ℕ → Type 0
RecordFault x rest =
    FaultUnless 11 (1 ≤ length rest)
    (FaultUnless 12 (Kind (get_or rest 0 0))
    (FaultUnless 13 (InPlace x (get_or rest 0 0))
    (FaultUnless 11 (record_length (get_or rest 0 0) ≤ length rest)
    (BodyFault x rest))))

-- an end record behind at least the link record, and octets behind it
abbrev pub AfterEnd : Sofar → List ℕ → Type 0
AfterEnd nothing rest = ⊥
AfterEnd (records h) rest = (get_or rest 0 0 ≡ 0) × (2 ≤ length rest)

-- the fault f of a sheet that is not too long, and its place: good records, and what stands behind them has the fault
pub record FaultAt (sheet : List ℕ) (f place : ℕ) : Type 0 where
  pub sofar : Sofar
  pub good : GoodSofar sofar
  pub rest : List ℕ
  pub split : sheet ≡ before sofar rest
  -- "The place is the record's first octet, ..; where not even a kind octet is left .., it is the sheet's length. Octets after the end record are fault
  -- 13 at the first of them."
  pub which : ((place + length rest ≡ length sheet) × RecordFault sofar rest f)
      ⊎ (AfterEnd sofar rest × (f ≡ 13) × (place + length rest ≡ length sheet + 1))

-- "A sheet over 2,048 octets is fault 11 at place 0."
abbrev pub FirstFault : List ℕ → ℕ → ℕ → Type 0
FirstFault sheet f place = ((2048 < length sheet) × (f ≡ 11) × (place ≡ 0)) ⊎ ((length sheet ≤ 2048) × FaultAt sheet f place)

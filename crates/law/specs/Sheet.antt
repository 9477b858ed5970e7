-- "The device sheet": what it consists of, the octets that it is written as, and when it is well formed. Nothing here reads a sheet.
use Rattle.std.specs.Prelude.{ℕ, ◌+◌, ◌≤◌, ◌<◌, Bool, List, [], ◌∷◌, ◌++◌, ◌⊎◌, ◌≡◌, eqb, length, drop}
use Rattle.law.specs.Words.{Every, Some, InARow, sum_of, joined, in_octets, octet}

-- the enhanced type of PDU, and, by request 7, "the 16-octet short type of source document 002, 4.3.1"
pub data PduType : Type 0 where
  enhanced : PduType
  short : PduType

pub record Region : Type 0 where
  pub start : ℕ
  pub length : ℕ
  pub rights : ℕ

pub record Parameter : Type 0 where
  pub number : ℕ
  pub address : ℕ
  pub size : ℕ

-- an ID item; `octets` are all 32, those past its length too
pub record Item : Type 0 where
  pub code : ℕ
  pub length : ℕ
  pub octets : List ℕ

-- "The link record comes first and once; then regions, parameters, ID items, end": a sheet has the link record's fields, and a list of each kind. Request 9:
-- "kind 06 with body of one octet 0 to 3, after the ID items and at most once, allows that many failures in a row, none without it". Request 13: "A sheet
-- record, kind 07, body one octet 1 or 2, last before the end, picks the rule; without it release 1 holds"
pub record Sheet : Type 0 where
  pub pdu : PduType
  pub l : ℕ
  pub version : ℕ
  pub profile : ℕ
  pub regions : List Region
  pub parameters : List Parameter
  pub items : List Item
  pub tolerances : List ℕ
  pub releases : List ℕ

abbrev pub allows : Sheet → ℕ
allows h = octet h.tolerances 0

abbrev pub is_release2 : Sheet → Bool
is_release2 h = eqb (octet h.releases 0) 2

-- "02 region: start (4), length (4), rights (1)"
abbrev pub region_octets : Region → List ℕ
region_octets r = 2 ∷ in_octets 4 r.start ++ in_octets 4 r.length ++ r.rights ∷ []

-- "03 parameter: number (2), address (4), size (1)"
abbrev pub parameter_octets : Parameter → List ℕ
parameter_octets p = 3 ∷ in_octets 2 p.number ++ in_octets 4 p.address ++ p.size ∷ []

-- "04 ID item: code (1), length (1), 32 octets"
abbrev pub item_octets : Item → List ℕ
item_octets i = 4 ∷ i.code ∷ i.length ∷ i.octets

abbrev pub tolerance_octets : ℕ → List ℕ
tolerance_octets n = 6 ∷ n ∷ []

abbrev pub release_octets : ℕ → List ℕ
release_octets n = 7 ∷ n ∷ []

-- "01 link: L (1), version (1), profile (1)"; request 7: "A record of new kind 05, body as kind 01, L 16, selects it and stands in the link record's place"
abbrev pub link_kind : PduType → ℕ
link_kind enhanced = 1
link_kind short = 5

-- all records of a sheet, and what stands behind them
abbrev pub written : Sheet → List ℕ → List ℕ
written h rest =
    (link_kind h.pdu ∷ h.l ∷ h.version ∷ h.profile ∷ [])
    ++ (joined region_octets h.regions
    ++ (joined parameter_octets h.parameters
    ++ (joined item_octets h.items ++ (joined tolerance_octets h.tolerances ++ (joined release_octets h.releases ++ rest)))))

-- a whole sheet: behind its records the end record, "00 end: none", and "nothing after"
abbrev pub sheet_octets : Sheet → List ℕ
sheet_octets h = written h (0 ∷ [])

-- "PDU length L of 8, 16, 32, 48 or 64"
abbrev pub FiveLengths : ℕ → Type 0
FiveLengths l = (l ≡ 8) ⊎ ((l ≡ 16) ⊎ ((l ≡ 32) ⊎ ((l ≡ 48) ⊎ (l ≡ 64))))

-- of a link record of either kind
abbrev pub GoodLength : PduType → ℕ → Type 0
GoodLength enhanced l = FiveLengths l
GoodLength short l = l ≡ 16

abbrev pub IsOctet : ℕ → Type 0
IsOctet x = x < 256

-- start and length fit 4 octets. "Length is at least 1 and start + length at most 2^32. Rights: bit 0 .., bit 1 .., bit 2 .., other bits 0."
pub record GoodRegion (r : Region) : Type 0 where
  pub start : r.start < 4294967296
  pub length : r.length < 4294967296
  pub least : 1 ≤ r.length
  pub ends : r.start + r.length ≤ 4294967296
  pub bits : r.rights ≤ 7

-- an address is in a region
abbrev pub InRegion : ℕ → Region → Type 0
InRegion a r = (r.start ≤ a) × (a < r.start + r.length)

-- "A parameter's span lies wholly in regions."
abbrev pub Spanned : List Region → Parameter → Type 0
Spanned regions p = (a : ℕ) → p.address ≤ a → a < p.address + p.size → Some (InRegion a) regions

-- number and address fit 2 and 4 octets. "Parameter size 1 to 56."
pub record GoodParameter (regions : List Region) (p : Parameter) : Type 0 where
  pub number : p.number < 65536
  pub address : p.address < 4294967296
  pub least : 1 ≤ p.size
  pub most : p.size ≤ 56
  pub spans : Spanned regions p

-- "ID length 1 to 32, the octets past it zero"
pub record GoodItem (i : Item) : Type 0 where
  pub code : IsOctet i.code
  pub least : 1 ≤ i.length
  pub most : i.length ≤ 32
  pub all32 : length i.octets ≡ 32
  pub octets : Every IsOctet i.octets
  pub zeros : Every (λ x. x ≡ 0) (drop i.length i.octets)

-- "body one octet 1 or 2"
abbrev pub GoodRelease : ℕ → Type 0
GoodRelease n = (1 ≤ n) × (n ≤ 2)

-- the octets of memory that regions take
abbrev pub room : List Region → ℕ
room rs = sum_of (λ (r : Region). r.length) rs

-- "Each region starts at or past the end of the one before"
abbrev pub Apart : List Region → Type 0
Apart rs = InARow (λ (a b : Region). a.start + a.length ≤ b.start) rs

-- "parameter numbers and ID codes rise strictly"
abbrev pub NumbersRise : List Parameter → Type 0
NumbersRise ps = InARow (λ (a b : Parameter). a.number < b.number) ps

abbrev pub CodesRise : List Item → Type 0
CodesRise is = InARow (λ (a b : Item). a.code < b.code) is

-- "At most 32 regions, 64 parameters, 32 ID items, 65,536 octets of memory"
abbrev pub FewRegions : List Region → Type 0
FewRegions rs = (length rs ≤ 32) × (room rs ≤ 65536)

abbrev pub FewParameters : List Parameter → Type 0
FewParameters ps = length ps ≤ 64

abbrev pub FewItems : List Item → Type 0
FewItems is = length is ≤ 32

-- "2,048 octets of sheet" follow: these are 1,961 at most. A sheet may have no region, no parameter and no ID item
pub record WellFormed (h : Sheet) : Type 0 where
  pub l : GoodLength h.pdu h.l
  pub version : IsOctet h.version
  pub profile : IsOctet h.profile
  pub regions : Every GoodRegion h.regions
  pub parameters : Every (GoodParameter h.regions) h.parameters
  pub items : Every GoodItem h.items
  pub apart : Apart h.regions
  pub numbers_rise : NumbersRise h.parameters
  pub codes_rise : CodesRise h.items
  pub few_regions : FewRegions h.regions
  pub few_parameters : FewParameters h.parameters
  pub few_items : FewItems h.items
  pub tolerances : Every (λ n. n ≤ 3) h.tolerances
  pub once : length h.tolerances ≤ 1
  pub releases : Every GoodRelease h.releases
  pub picked_once : length h.releases ≤ 1

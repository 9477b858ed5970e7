-- Document 02, request 2: "a tool that lists each difference of two sheets once, in the order link, regions by start, parameters by number, ID items by code:
-- gone, new, or changed, with the field".
use Rattle.std.specs.Prelude.{ℕ, ◌+◌, ◌*◌, ◌<◌, Bool, true, false, ◌&&◌, List, [], ◌∷◌, ◌++◌, map, ◌≡◌, eqb, ltb, length, drop}
use Rattle.law.specs.Words.{when, Some, InARow, joined, in_octets}
use Rattle.law.specs.Sheet.{Region, Parameter, Item, Sheet, link_kind}

-- a record of a sheet: its kind, its key as a number, and its fields as octets, which joined are its body; a kind without a key (`key_length`) has 0 there
pub record Entry : Type 0 where
  pub kind : ℕ
  pub key : ℕ
  pub fields : List (List ℕ)

abbrev pub entry : ℕ → ℕ → List (List ℕ) → Entry
entry kind key fields = record { kind = kind; key = key; fields = fields }

-- "Keys are start, number and code; a link has none."
abbrev pub link_entry : Sheet → Entry
link_entry h = entry (link_kind h.pdu) 0 ((h.l ∷ []) ∷ (h.version ∷ []) ∷ (h.profile ∷ []) ∷ [])

abbrev pub region_entry : Region → Entry
region_entry r = entry 2 r.start (in_octets 4 r.start ∷ in_octets 4 r.length ∷ (r.rights ∷ []) ∷ [])

abbrev pub parameter_entry : Parameter → Entry
parameter_entry p = entry 3 p.number (in_octets 2 p.number ∷ in_octets 4 p.address ∷ (p.size ∷ []) ∷ [])

abbrev pub item_entry : Item → Entry
item_entry i = entry 4 i.code ((i.code ∷ []) ∷ (i.length ∷ []) ∷ i.octets ∷ [])

-- "Later requests' kinds follow the ID items, without a key."
abbrev pub tolerance_entry : ℕ → Entry
tolerance_entry n = entry 6 0 ((n ∷ []) ∷ [])

abbrev pub release_entry : ℕ → Entry
release_entry n = entry 7 0 ((n ∷ []) ∷ [])

-- the records of a sheet, but for the end record
unfoldable pub entries_of : Sheet → List Entry
entries_of h =
    link_entry h
    ∷ (map region_entry h.regions
    ++ (map parameter_entry h.parameters
    ++ (map item_entry h.items ++ (map tolerance_entry h.tolerances ++ map release_entry h.releases))))

-- "in the order link, regions by start, parameters by number, ID items by code": by the kind, 05 standing in the link record's place, "Later requests' kinds follow the ID
-- items", then by the key, which is below 2^32
abbrev pub order_of_kind : ℕ → ℕ
order_of_kind kind = when (eqb kind 5) 1 kind

unfoldable pub rank : ℕ → ℕ → ℕ
rank kind key = 4294967296 * order_of_kind kind + key

abbrev pub rank_of : Entry → ℕ
rank_of e = rank e.kind e.key

-- "gone, new, or changed, with the field": a kind and a key; a record; the changed fields, and the record as the
-- second sheet has it
pub data Change : Type 0 where
  gone : ℕ → ℕ → Change
  new : Entry → Change
  changed : ℕ → Entry → Change

-- two lists of octets are the same
unfoldable pub same : List ℕ → List ℕ → Bool
same [] [] = true
same [] (y ∷ ys) = false
same (x ∷ xs) [] = false
same (x ∷ xs) (y ∷ ys) = eqb x y && same xs ys

-- "a bit for each changed field (bit 0 the body's first)": b is the bit of the first field that is left
unfoldable pub bits_from : ℕ → List (List ℕ) → List (List ℕ) → ℕ
bits_from b [] ys = 0
bits_from b (x ∷ xs) [] = 0
bits_from b (x ∷ xs) (y ∷ ys) = when (same x y) 0 b + bits_from (b + b) xs ys

abbrev pub bits_of : Entry → Entry → ℕ
bits_of x y = bits_from 1 x.fields y.fields

-- one of a list
abbrev pub In : {A : Type 0} → A → List A → Type 0
In x xs = Some (λ y. x ≡ y) xs

-- a record of this kind and key is in a list
abbrev pub Has : ℕ → ℕ → List Entry → Type 0
Has kind key es = Some (λ (e : Entry). (kind ≡ e.kind) × (key ≡ e.key)) es

-- a difference of the records a and b of two sheets: a record of a with no record of its kind and key in b; one of b with none in a; or one of b, and in a one of
-- its kind and key that is another, with the bits of the fields that differ
unfoldable pub Differs : List Entry → List Entry → Change → Type 0
Differs a b (gone kind key) = Has kind key a × (Has kind key b → ⊥)
Differs a b (new y) = In y b × (Has y.kind y.key a → ⊥)
Differs a b (changed bits y) =
    In y b × ((x : Entry) × In x a × (x.kind ≡ y.kind) × (x.key ≡ y.key) × ((x ≡ y) → ⊥) × (bits ≡ bits_of x y))

-- the order of differences: by their records'. Only a link record of another kind gives two of one rank, and "in request 2's list gone then comes before new"
-- (request 7)
unfoldable pub turn_of : Change → ℕ
turn_of (gone kind key) = 2 * rank kind key
turn_of (new y) = 2 * rank_of y + 1
turn_of (changed bits y) = 2 * rank_of y

-- "lists each difference of two sheets once, in the order ..": every one listed is a difference, every difference is listed, and they rise
pub record Lists (a b : List Entry) (list : List Change) : Type 0 where
  pub only : (c : Change) → In c list → Differs a b c
  pub each : (c : Change) → Differs a b c → In c list
  pub in_order : InARow (λ (c d : Change). turn_of c < turn_of d) list

-- the octets of a key: start (4), number (2), code (1); the other kinds have none
abbrev pub key_length : ℕ → ℕ
key_length kind = when (eqb kind 2) 4 (when (eqb kind 3) 2 (when (eqb kind 4) 1 0))

abbrev pub body_of : Entry → List ℕ
body_of e = joined (λ f. f) e.fields

-- "For a record kind k the list holds hex 4k and the key for gone, 5k and the body for new, 6k, one octet with a bit for each changed field .. and the new body
-- for changed."
unfoldable pub change_octets : Change → List ℕ
change_octets (gone kind key) = (0x40 + kind) ∷ in_octets (key_length kind) key
change_octets (new y) = (0x50 + y.kind) ∷ body_of y
change_octets (changed bits y) = (0x60 + y.kind) ∷ bits ∷ body_of y

abbrev pub list_octets : List Change → List ℕ
list_octets list = joined change_octets list

-- what a host has after the call: one number for the answer, and what the buffer for the list holds
pub record Told : Type 0 where
  pub answer : ℕ
  pub list : List ℕ

abbrev pub told_of : ℕ → ℕ → List ℕ → Told
told_of number place list = record { answer = number + 4294967296 * place; list = list }

-- "then 28, exactly when the list is longer than the lent buffer. These write nothing; octets behind the list stay"; that 0 has the list's length for its place, and
-- 28 the length that is needed, is our own, and beside document 01's "Place is 0 except for 11 to 17", which is not of this call
unfoldable pub list_told : List ℕ → List ℕ → Told
list_told octets lent =
    when (ltb (length lent) (length octets)) (told_of 28 (length octets) lent) (told_of 0 (length octets) (octets ++ drop (length octets) lent))

-- "Applied to the first it gives the second": one change after another, on the records of a sheet
unfoldable pub without : ℕ → ℕ → List Entry → List Entry
without kind key [] = []
without kind key (e ∷ es) = when (eqb kind e.kind && eqb key e.key) es (e ∷ without kind key es)

unfoldable pub put_in : Entry → List Entry → List Entry
put_in y [] = y ∷ []
put_in y (e ∷ es) = when (ltb (rank_of y) (rank_of e)) (y ∷ e ∷ es) (e ∷ put_in y es)

unfoldable pub instead : Entry → List Entry → List Entry
instead y [] = []
instead y (e ∷ es) = when (eqb y.kind e.kind && eqb y.key e.key) (y ∷ es) (e ∷ instead y es)

unfoldable pub applied_one : Change → List Entry → List Entry
applied_one (gone kind key) es = without kind key es
applied_one (new y) es = put_in y es
applied_one (changed bits y) es = instead y es

unfoldable pub applied : List Change → List Entry → List Entry
applied [] es = es
applied (c ∷ cs) es = applied cs (applied_one c es)

-- records written as a sheet, with the end record
unfoldable pub written_of : List Entry → List ℕ
written_of [] = 0 ∷ []
written_of (e ∷ es) = e.kind ∷ body_of e ++ written_of es

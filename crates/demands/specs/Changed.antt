-- Document 02, request 2, "What changed between two sheets": "a tool that lists each difference of two sheets once, in the order link, regions by start, parameters by
-- number, ID items by code: gone, new, or changed, with the field. The list is empty exactly when the sheets are equal. Applied to the first it gives the second".
-- What a difference is, and which list of differences meets the definition, `Lists`, is the law's (law/specs/Difference).
use Rattle.std.specs.Prelude.{ℕ, ◌+◌, ◌≤◌, ◌<◌, true, List, [], ◌⊎◌, ◌↔◌, ◌≡◌, length, get_or}
use Rattle.difference.specs.Difference.{difference_of}
use Rattle.law.specs.Words.{bit, Every}
use Rattle.law.specs.Sheet.{Sheet, WellFormed, IsOctet, sheet_octets}
use Rattle.law.specs.Faults.{FirstFault}
use Rattle.law.specs.Difference.{Entry, Change, gone, new, changed, order_of_kind, entries_of, In, Lists, list_octets, applied, written_of}

-- the list of two good sheets: there is one, and "two lists that meet the definition are equal"
pub record OneList : Type 0 where
  pub there_is_one : (a b : Sheet) → WellFormed a → WellFormed b → (list : List Change) × Lists (entries_of a) (entries_of b) list
  pub and_no_other : (a b : Sheet) (list other : List Change) → Lists (entries_of a) (entries_of b) list → Lists (entries_of a) (entries_of b) other → list ≡ other

-- "The list is empty exactly when the sheets are equal", octet by octet
abbrev pub EmptyExactlyIfEqual : Type 0
EmptyExactlyIfEqual =
    (a b : Sheet) → WellFormed a → WellFormed b → (list : List Change) → Lists (entries_of a) (entries_of b) list
    → (list ≡ []) ↔ (sheet_octets a ≡ sheet_octets b)

-- "Applied to the first it gives the second": record by record, and written as a sheet octet by octet
abbrev pub AppliedGivesSecond : Type 0
AppliedGivesSecond =
    (a b : Sheet) → WellFormed a → WellFormed b → (list : List Change) → Lists (entries_of a) (entries_of b) list
    → (applied list (entries_of a) ≡ entries_of b) × (written_of (applied list (entries_of a)) ≡ sheet_octets b)

-- and the octets say which list it is, whichever sheets it is of
abbrev pub ReadOneWay : Type 0
ReadOneWay =
    (a b c d : Sheet) → WellFormed a → WellFormed b → WellFormed c → WellFormed d → (list other : List Change)
    → Lists (entries_of a) (entries_of b) list → Lists (entries_of c) (entries_of d) other → list_octets list ≡ list_octets other → list ≡ other

-- the kind and the key that a difference is about
abbrev pub kind_of : Change → ℕ
kind_of (gone kind key) = kind
kind_of (new y) = y.kind
kind_of (changed bits y) = y.kind

abbrev pub key_of : Change → ℕ
key_of (gone kind key) = key
key_of (new y) = y.key
key_of (changed bits y) = y.key

-- "lists each difference .. once": no two are about one record
abbrev pub OneForARecord : Type 0
OneForARecord =
    (a b : Sheet) → WellFormed a → WellFormed b → (list : List Change) → Lists (entries_of a) (entries_of b) list → (c d : Change) → In c list → In d list
    → kind_of c ≡ kind_of d → key_of c ≡ key_of d → c ≡ d

-- gone, and new
abbrev pub IsGone : Change → Type 0
IsGone (gone kind key) = Unit {0}
IsGone (new y) = ⊥
IsGone (changed bits y) = ⊥

abbrev pub IsNew : Change → Type 0
IsNew (gone kind key) = ⊥
IsNew (new y) = Unit {0}
IsNew (changed bits y) = ⊥

-- "in the order link, regions by start, parameters by number, ID items by code. .. Later requests' kinds follow the ID items": by kind, then by key; where the
-- link record's kind is another, "gone then comes before new" (request 7)
abbrev pub Precedes : Change → Change → Type 0
Precedes c d =
    (order_of_kind (kind_of c) < order_of_kind (kind_of d))
    ⊎ ((order_of_kind (kind_of c) ≡ order_of_kind (kind_of d)) × ((key_of c < key_of d) ⊎ ((key_of c ≡ key_of d) × IsGone c × IsNew d)))

-- "once, in the order": of two entries the one that stands first precedes, and so none stands twice
abbrev pub OnceAndInOrder : Type 0
OnceAndInOrder =
    (a b : Sheet) → WellFormed a → WellFormed b → (list : List Change) → Lists (entries_of a) (entries_of b) list → (i j : ℕ) → i < j → j < length list
    → Precedes (get_or list i (gone 0 0)) (get_or list j (gone 0 0))

-- the numbers of a list are octets
abbrev pub ListIsOctets : Type 0
ListIsOctets =
    (a b : Sheet) → WellFormed a → WellFormed b → (list : List Change) → Lists (entries_of a) (entries_of b) list → Every IsOctet (list_octets list)

-- a record that both sheets have is not in the list, nor is its key under its kind
abbrev pub UnchangedIsNotListed : Type 0
UnchangedIsNotListed =
    (a b : Sheet) → WellFormed a → WellFormed b → (list : List Change) → Lists (entries_of a) (entries_of b) list → (e : Entry) → In e (entries_of a)
    → In e (entries_of b) → (c : Change) → In c list → kind_of c ≡ e.kind → key_of c ≡ e.key → ⊥

-- "changed, with the field": in the first sheet is a record of that kind and key, and a bit is set exactly where the field of its number is another; at least one
-- is
abbrev pub BitsAreFields : Type 0
BitsAreFields =
    (a b : Sheet) → WellFormed a → WellFormed b → (list : List Change) → Lists (entries_of a) (entries_of b) list → (bits : ℕ) (y : Entry)
    → In (changed bits y) list
    → (x : Entry) × In x (entries_of a) × (x.kind ≡ y.kind) × (x.key ≡ y.key) × (bits ≡ 0 → ⊥)
    × ((k : ℕ) → (bit bits k ≡ true) ↔ (get_or x.fields k [] ≡ get_or y.fields k [] → ⊥))

-- the call for two good sheets: "28, exactly when the list is longer than the lent buffer", and its place is the length that is needed; else 0, with the
-- length of the list, which stands at the front of the buffer, and "octets behind the list stay"
pub record TheCallTellsIt : Type 0 where
  pub too_long_exactly : (a b : Sheet) → WellFormed a → WellFormed b → (list : List Change) → Lists (entries_of a) (entries_of b) list → (lent : List ℕ)
      → ((difference_of (sheet_octets a) (sheet_octets b) lent).answer.number ≡ 28) ↔ (length lent < length (list_octets list))
  pub the_length_is_told : (a b : Sheet) → WellFormed a → WellFormed b → (list : List Change) → Lists (entries_of a) (entries_of b) list → (lent : List ℕ)
      → (difference_of (sheet_octets a) (sheet_octets b) lent).answer.place ≡ length (list_octets list)
  pub else_it_is_written : (a b : Sheet) → WellFormed a → WellFormed b → (list : List Change) → Lists (entries_of a) (entries_of b) list → (lent : List ℕ)
      → length (list_octets list) ≤ length lent → let l = difference_of (sheet_octets a) (sheet_octets b) lent in
      (l.answer.number ≡ 0) × (length l.list ≡ length lent)
      × ((k : ℕ) → k < length (list_octets list) → get_or l.list k 0 ≡ get_or (list_octets list) k 0)
      × ((k : ℕ) → length (list_octets list) ≤ k → get_or l.list k 0 ≡ get_or lent k 0)

-- demand 1 for the call: whatever is lent, "These write nothing"
abbrev pub RefusedWritesNothing : Type 0
RefusedWritesNothing =
    (first second lent : List ℕ) → ((difference_of first second lent).answer.number ≡ 0 → ⊥) → (difference_of first second lent).list ≡ lent

-- "11 to 17 for the first sheet; then 21 to 27 likewise for the second": with the place, and whatever else is lent
pub record RefusalsInOrder : Type 0 where
  pub the_first_sheet : (first second lent : List ℕ) → Every IsOctet first → (f place : ℕ) → FirstFault first f place
      → ((difference_of first second lent).answer.number ≡ f) × ((difference_of first second lent).answer.place ≡ place)
  pub then_the_second : (a : Sheet) → WellFormed a → (second lent : List ℕ) → Every IsOctet second → (f place : ℕ) → FirstFault second f place
      → ((difference_of (sheet_octets a) second lent).answer.number ≡ f + 10) × ((difference_of (sheet_octets a) second lent).answer.place ≡ place)

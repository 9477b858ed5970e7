-- "One exchange": the tables of both types, a row for each code.
use Rattle.std.specs.Prelude.{ℕ, suc, ◌+◌, ◌-◌, ◌*◌, ◌%◌, Bool, false, ◌&&◌, ◌||◌, List, [], ◌∷◌, ◌++◌, map, eqb, leb, ltb, take, drop}
use Rattle.law.specs.Words.{when, implies, one_of, number_at, octet, bit, Piece, piece}
use Rattle.law.specs.Sheet.{PduType, enhanced, short, Parameter, Item, Sheet, is_release2}
use Rattle.law.specs.State.{link, command_latch, communication_latch}
use Rattle.law.specs.Memory.{Cell, cells, mapped, readable, writable, has_all, has_before, held}

-- a check: whether it holds, its alarm, and the place that is told where it is the first that does not hold. Request 3: "the first octet of the field that
-- failed, in document 01's order", 0 where no field is at fault; "For alarm 10 it is how many octets of the span come before the first that lacks the right"
pub record Check : Type 0 where
  pub holds : Bool
  pub alarm : ℕ
  pub place : ℕ

abbrev pub check : Bool → ℕ → ℕ → Check
check holds alarm place = record { holds = holds; alarm = alarm; place = place }

-- octets of a command: the first, and how many
pub record Run : Type 0 where
  pub first : ℕ
  pub many : ℕ

abbrev pub run : ℕ → ℕ → Run
run first many = record { first = first; many = many }

-- a row: the code, the links that allow it, the octets that it names beside code and WDT, its checks in order; if all hold, what changes in the state record,
-- what the body has, what is stored
pub record Row : Type 0 where
  pub code : ℕ
  pub links : List ℕ
  pub named : List Run
  pub checks : List Check
  pub changes : List Piece
  pub body : List Piece
  pub stores : List Piece

abbrev pub row : ℕ → List ℕ → List Run → List Check → List Piece → List Piece → List Piece → Row
row code links named checks changes body stores =
    record { code = code; links = links; named = named; checks = checks; changes = changes; body = body; stores = stores }

-- whether octet k is one of these
abbrev pub is_named : List Run → ℕ → Bool
is_named [] k = false
is_named (r ∷ rs) k = (leb r.first k && ltb k (r.first + r.many)) || is_named rs k

-- code and WDT
abbrev pub head_named : PduType → List Run
head_named enhanced = run 0 2 ∷ []
head_named short = run 0 1 ∷ run 15 1 ∷ []

-- what must be zero of octet k, where it is not named: all of it, "but for the two identity bits", of octet 2
abbrev pub unnamed_bits : PduType → ℕ → ℕ → ℕ
unnamed_bits enhanced k x = when (eqb k 2) (x % 64) x
unnamed_bits short k x = x

-- the first of the octets, numbered from k on, that is not named and not zero; 0 where there is none, as octet 0 is named
unfoldable pub stray_from : PduType → List Run → ℕ → List ℕ → ℕ
stray_from t named k [] = 0
stray_from t named k (x ∷ xs) = when (is_named named k || eqb (unnamed_bits t k x) 0) (stray_from t named (suc k) xs) k

-- of a whole command, of which a row names these octets
abbrev pub stray : PduType → List Run → List ℕ → ℕ
stray t named c = stray_from t (head_named t ++ named) 0 c

-- the sheet's parameter of a number and ID item of a code; where there is none, one of zeros, and the row's first check refuses
unfoldable pub parameter_of : List Parameter → ℕ → Parameter
parameter_of [] n = record { number = 0; address = 0; size = 0 }
parameter_of (p ∷ ps) n = when (eqb p.number n) p (parameter_of ps n)

unfoldable pub item_of : List Item → ℕ → Item
item_of [] n = record { code = 0; length = 0; octets = [] }
item_of (i ∷ is) n = when (eqb i.code n) i (item_of is n)

-- the command's octets from one to another, again
abbrev pub again : List ℕ → ℕ → ℕ → Piece
again c from to = piece from (take (to + 1 - from) (drop from c))

-- "Rights over the whole span: alarm 10", of n octets from an address on
abbrev pub rights_check : (ℕ → Bool) → List Cell → ℕ → ℕ → Check
rights_check right cs a n = check (has_all right cs a n) 10 (has_before right cs a n)

-- octet 5 of the memory commands: elements of 1, 2 or 4 octets, 0 where it is none of these. Document 01 has 1 in the high half and 1, 2 or 3 in the low
-- half, but "002 decides" (4.3.3.13, 4.3.3.14, 5.2.3): it fills the low half with data_type, described as the kind of memory (1 volatile), and the high half
-- with mode, described as the data type (1, 2, 3); we go by the descriptions, so the low half is 1 and the high half 1, 2 or 3
abbrev pub element : ℕ → ℕ
element x = when (eqb x 0x11) 1 (when (eqb x 0x21) 2 (when (eqb x 0x31) 4 0))

-- com_mod: "bit 1 synchronous, bits 2-3 transfer ..; bit 7 and bits 0, 4, 5, 6 must be 0; transfer 0 or 1; transfer 1 needs bit 1": so it is 0 or 2 with
-- transfer 0, and 6 with transfer 1
abbrev pub com_mod : ℕ → Bool
com_mod x = one_of x (0 ∷ 2 ∷ 6 ∷ [])

-- the rows for a sheet h, a state record s, a memory m and a command c
module _ (h : Sheet) (s m c : List ℕ) where
  -- request 13: "From release 2 of our drive rules, a command octet that document 01 doesn't name must be zero. Octets 2 and 3 and octets behind written data
  -- count too ..; in the short type, all octets but the code, the command's named fields and WDT."
  abbrev pub stray_in : PduType → List Run → ℕ
  stray_in t named = when (is_release2 h) (stray t named c) 0

  -- "alarm 9 at the first such octet, after a command's other data checks and before rights": a row with its data checks, the octets that it names, and its
  -- check of rights, if it has one
  abbrev pub line : PduType → ℕ → List ℕ → List Check → List Run → List Check → List Piece → List Piece → List Piece → Row
  line t code links first named rights changes body stores =
      row code links named (first ++ check (eqb (stray_in t named) 0) 9 (stray_in t named) ∷ rights) changes body stores

  abbrev pub number : ℕ
  number = number_at c 4 2

  abbrev pub parameter : Parameter
  parameter = parameter_of h.parameters number

  -- 01 and 02: "4-5 number in sheet; 6 size equal to its size and at most L - 8", which is `most`. Document 01 asks "span mapped" behind it; request 8 takes
  -- that out, since "fault 17 ensures it"
  abbrev pub parameter_checks : ℕ → List Check
  parameter_checks most =
      check (one_of number (map (λ (p : Parameter). p.number) h.parameters)) 9 4
      ∷ check (eqb (octet c 6) parameter.size) 9 6
      ∷ check (leb (octet c 6) most) 9 6
      ∷ []

  abbrev pub parameter_rights : (ℕ → Bool) → List Check
  parameter_rights right = rights_check right (cells h.regions) parameter.address parameter.size ∷ []

  abbrev pub item : Item
  item = item_of h.items (octet c 4)

  -- 03: "4 code in sheet; 5 offset; 6-7 size at least 1, offset + size within the item, size at most L - 8"
  abbrev pub item_checks : ℕ → ℕ → List Check
  item_checks size most =
      check (one_of (octet c 4) (map (λ (i : Item). i.code) h.items)) 9 4
      ∷ check (leb 1 size) 9 6
      ∷ check (leb (octet c 5 + size) item.length) 9 6
      ∷ check (leb size most) 9 6
      ∷ []

  abbrev pub item_part : ℕ → List ℕ
  item_part size = take size (drop (octet c 5) item.octets)

  -- 0E: "4 version of the sheet; 5 com_mod; 6 com_time at least 1 ..", and "com_time is at least 2 with transfer 1"; what else a type asks comes behind
  abbrev pub connect_checks : List Check → List Check
  connect_checks more =
      check (eqb (octet c 4) h.version) 9 4
      ∷ check (com_mod (octet c 5)) 9 5
      ∷ check (leb 1 (octet c 6) && implies (bit (octet c 5) 2) (leb 2 (octet c 6))) 9 6
      ∷ more

  -- "com_time and dual set; link 3 if bit 1 of com_mod, else 2". With such a com_mod, transfer is 1 where bit 2 is set
  abbrev pub connects : List Piece
  connects = piece 1 (when (bit (octet c 5) 1) 3 2 ∷ []) ∷ piece 3 (when (bit (octet c 5) 2) 1 0 ∷ []) ∷ piece 4 (octet c 6 ∷ []) ∷ []

  -- an ID item's size in the short type
  abbrev pub short_size : ℕ
  short_size = octet c 6

  -- "6-7 count", or an ID item's size; "8-11 address"
  abbrev pub count : ℕ
  count = number_at c 6 2

  abbrev pub address : ℕ
  address = number_at c 8 4

  -- "n = count times element"
  abbrev pub n : ℕ
  n = count * element (octet c 5)

  -- 1D and 1E: octet 5; "6-7 count; n .. 1 to L - 12; 8-11 address, all n octets in regions". At L 8, L - 12 counts as 0: "alarm 9 at the count at
  -- the latest"
  abbrev pub memory_checks : List Check
  memory_checks =
      check (leb 1 (element (octet c 5))) 9 5
      ∷ check (leb 1 n) 9 6
      ∷ check (leb n (h.l - 12)) 9 6
      ∷ check (has_all mapped (cells h.regions) address n) 9 8
      ∷ []

  abbrev pub memory_rights : (ℕ → Bool) → List Check
  memory_rights right = rights_check right (cells h.regions) address n ∷ []

  -- "Disconnected allows NOP, CONNECT, DISCONNECT. CONNECT is allowed nowhere else. SYNC_SET needs link 2. All others are allowed in links 2 and 3."
  -- "Not built: .. CONFIG, the PPRM commands": 002's codes 04, 1B and 1C have no row, and are unknown. "unnamed command octets ignored"
  -- in release 1
  -- Each row: code, links, data checks, named octets, rights; what changes in the state record, the body, what is stored by addresses
  abbrev pub enhanced_table : List Row
  enhanced_table =
      -- NOP
      line enhanced 0x00 (1 ∷ 2 ∷ 3 ∷ []) [] [] [] [] [] []
      -- PRM_RD, PRM_WR: "octets 4 to 6 again; from 8 the octets read or written"
      ∷ line enhanced 0x01 (2 ∷ 3 ∷ []) (parameter_checks (h.l - 8)) (run 4 3 ∷ []) (parameter_rights readable)
      [] (again c 4 6 ∷ piece 8 (held (cells h.regions) m parameter.address parameter.size) ∷ []) []
      ∷ line enhanced 0x02 (2 ∷ 3 ∷ []) (parameter_checks (h.l - 8)) (run 4 3 ∷ run 8 (octet c 6) ∷ []) (parameter_rights (writable (link s)))
      [] (again c 4 6 ∷ piece 8 (take parameter.size (drop 8 c)) ∷ []) (piece parameter.address (take parameter.size (drop 8 c)) ∷ [])
      -- ID_RD: "4 to 7 again, data from 8"
      ∷ line enhanced 0x03 (2 ∷ 3 ∷ []) (item_checks count (h.l - 8)) (run 4 4 ∷ []) [] [] (again c 4 7 ∷ piece 8 (item_part count) ∷ []) []
      -- ALM_RD: "L at least 16; 4-5 zero"; "old command latch at 8, old communication latch at 9"
      ∷ line enhanced 0x05 (2 ∷ 3 ∷ []) (check (leb 16 h.l) 9 0 ∷ check (eqb (number_at c 4 2) 0) 9 4 ∷ []) (run 4 2 ∷ []) []
      [] (piece 8 (command_latch s ∷ communication_latch s ∷ []) ∷ []) []
      -- ALM_CLR: "4-5 zero"; "both latches 0"
      ∷ line enhanced 0x06 (2 ∷ 3 ∷ []) (check (eqb (number_at c 4 2) 0) 9 4 ∷ []) (run 4 2 ∷ []) [] (piece 8 (0 ∷ []) ∷ piece 9 (0 ∷ []) ∷ []) [] []
      -- SYNC_SET: "link 3, single transfer"
      ∷ line enhanced 0x0D (2 ∷ []) [] [] [] (piece 1 (3 ∷ []) ∷ piece 3 (0 ∷ []) ∷ []) [] []
      -- CONNECT: "7 profile of the sheet"; "4 to 7 again"
      ∷ line enhanced 0x0E (1 ∷ []) (connect_checks (check (eqb (octet c 7) h.profile) 9 7 ∷ [])) (run 4 4 ∷ []) [] connects (again c 4 7 ∷ []) []
      -- DISCONNECT: "link 1, com_time 0, latches kept"
      ∷ line enhanced 0x0F (1 ∷ 2 ∷ 3 ∷ []) [] [] [] (piece 1 (1 ∷ []) ∷ piece 4 (0 ∷ []) ∷ []) [] []
      -- MEM_RD, MEM_WR: "5 to 11 again, the n octets from 12"
      ∷ line enhanced 0x1D (2 ∷ 3 ∷ []) memory_checks (run 5 7 ∷ []) (memory_rights readable)
      [] (again c 5 11 ∷ piece 12 (held (cells h.regions) m address n) ∷ []) []
      ∷ line enhanced 0x1E (2 ∷ 3 ∷ []) memory_checks (run 5 7 ∷ run 12 n ∷ []) (memory_rights (writable (link s)))
      [] (again c 5 11 ∷ piece 12 (take n (drop 12 c)) ∷ []) (piece address (take n (drop 12 c)) ∷ [])
      ∷ []

  -- request 7, the short type: "without MEM_RD and MEM_WR"; "Fields stand as there", in 002, 4.3.1, behind three reserve octets, "less reserve octets where a
  -- body sums too long; one not there isn't checked". Data stands from 7 on and ends before RWDT, so that it has 8 octets at most; effects are as above
  abbrev pub short_table : List Row
  short_table =
      -- NOP (4.3.1.1)
      line short 0x00 (1 ∷ 2 ∷ 3 ∷ []) [] [] [] [] [] []
      -- PRM_RD, PRM_WR (4.3.1.2, 4.3.1.3): 4-5 number, 6 size, data from 7
      ∷ line short 0x01 (2 ∷ 3 ∷ []) (parameter_checks 8) (run 4 3 ∷ []) (parameter_rights readable)
      [] (again c 4 6 ∷ piece 7 (held (cells h.regions) m parameter.address parameter.size) ∷ []) []
      ∷ line short 0x02 (2 ∷ 3 ∷ []) (parameter_checks 8) (run 4 3 ∷ run 7 (octet c 6) ∷ []) (parameter_rights (writable (link s)))
      [] (again c 4 6 ∷ piece 7 (take parameter.size (drop 7 c)) ∷ []) (piece parameter.address (take parameter.size (drop 7 c)) ∷ [])
      -- ID_RD (4.3.1.4): 4 code, 5 offset, 6 size, of one octet, data from 7
      ∷ line short 0x03 (2 ∷ 3 ∷ []) (item_checks short_size 8) (run 4 3 ∷ []) [] [] (again c 4 6 ∷ piece 7 (item_part short_size) ∷ []) []
      -- ALM_RD (4.3.1.6): 4 mode, of one octet; "Of the ALM_RD reply's two alm_data fields the first is the mode, the second begins with both latches,
      -- command first": the mode, at 4, is zero, and so is what is unnamed there
      ∷ line short 0x05 (2 ∷ 3 ∷ []) (check (eqb (octet c 4) 0) 9 4 ∷ []) (run 4 1 ∷ []) [] [] (piece 5 (command_latch s ∷ communication_latch s ∷ []) ∷ []) []
      -- ALM_CLR (4.3.1.7): 4 mode; where the reply has the mode again, by 4.3.2.7, it is zero too
      ∷ line short 0x06 (2 ∷ 3 ∷ []) (check (eqb (octet c 4) 0) 9 4 ∷ []) (run 4 1 ∷ []) [] (piece 8 (0 ∷ []) ∷ piece 9 (0 ∷ []) ∷ []) [] []
      -- SYNC_SET (4.3.1.8, which our copy of 002 lacks; by 4.3.2.8 and 4.3.3.8 it has no body)
      ∷ line short 0x0D (2 ∷ []) [] [] [] (piece 1 (3 ∷ []) ∷ piece 3 (0 ∷ []) ∷ []) [] []
      -- CONNECT (4.3.1.9, of which our copy of 002 has the end alone; 4.3.3.9 says that the profile is all that is enhanced): 4 version, 5 com_mod, 6 com_time,
      -- and no profile
      ∷ line short 0x0E (1 ∷ []) (connect_checks []) (run 4 3 ∷ []) [] connects (again c 4 6 ∷ []) []
      -- DISCONNECT (4.3.1.10)
      ∷ line short 0x0F (1 ∷ 2 ∷ 3 ∷ []) [] [] [] (piece 1 (1 ∷ []) ∷ piece 4 (0 ∷ []) ∷ []) [] []
      ∷ []

  abbrev pub table_of : PduType → List Row
  table_of enhanced = enhanced_table
  table_of short = short_table

  abbrev pub table : List Row
  table = table_of h.pdu

-- Request 2 on cases of our own: every entry that a list can have, each beside sheets that are written out.
use Rattle.std.specs.Prelude.{ℕ, ◌-◌, List, [], ◌∷◌, ◌++◌, ◌≡◌, length, replicate}
use Rattle.difference.specs.Difference.{difference_of}
use Rattle.law.specs.Words.{Every}
use Rattle.law.specs.Sheet.{enhanced, short, Region, Parameter, Item, Sheet, sheet_octets}

abbrev pub region : ℕ → ℕ → ℕ → Region
region start length rights = record { start = start; length = length; rights = rights }

abbrev pub parameter : ℕ → ℕ → ℕ → Parameter
parameter number address size = record { number = number; address = address; size = size }

-- an ID item of these octets, zeros behind them
abbrev pub item : ℕ → List ℕ → Item
item code octets = record { code = code; length = length octets; octets = octets ++ replicate (32 - length octets) 0 }

abbrev pub sheet_a : Sheet
sheet_a = record {
  pdu = enhanced;
  l = 0x10;
  version = 0x30;
  profile = 0;
  regions = region 0x1000 4 3 ∷ region 0x1004 4 6 ∷ [];
  parameters = parameter 7 0x1002 2 ∷ [];
  items = item 2 (1 ∷ 2 ∷ 3 ∷ 4 ∷ []) ∷ [];
  tolerances = 2 ∷ [];
  releases = [];
}

abbrev pub sheet_b : Sheet
sheet_b = record {
  pdu = short;
  l = 0x10;
  version = 0x30;
  profile = 0;
  regions = region 0x1000 4 1 ∷ region 0x1008 4 6 ∷ [];
  parameters = parameter 0 0x1000 1 ∷ parameter 7 0x1000 2 ∷ [];
  items = [];
  tolerances = 0 ∷ [];
  releases = 1 ∷ [];
}

abbrev pub sheet_c : Sheet
sheet_c = record {
  pdu = enhanced;
  l = 0x10;
  version = 1;
  profile = 2;
  regions = region 0x1000 4 3 ∷ region 0x80000000 4 1 ∷ [];
  parameters = parameter 7 0x1000 2 ∷ parameter 0x100 0x1000 1 ∷ [];
  items = item 1 (5 ∷ []) ∷ item 2 (1 ∷ 2 ∷ []) ∷ item 9 (3 ∷ []) ∷ [];
  tolerances = 1 ∷ [];
  releases = 1 ∷ [];
}

abbrev pub sheet_d : Sheet
sheet_d = record {
  pdu = enhanced;
  l = 0x20;
  version = 1;
  profile = 3;
  regions = region 0x1000 0x104 3 ∷ region 0x80000000 4 3 ∷ [];
  parameters = parameter 7 0x1000 3 ∷ [];
  items = item 2 (1 ∷ 2 ∷ 3 ∷ []) ∷ item 8 (4 ∷ []) ∷ item 9 (4 ∷ []) ∷ [];
  tolerances = [];
  releases = 2 ∷ [];
}

abbrev pub sheet_e : Sheet
sheet_e = record {
  pdu = short;
  l = 0x10;
  version = 0x30;
  profile = 0;
  regions = [];
  parameters = [];
  items = [];
  tolerances = [];
  releases = [];
}

abbrev pub sheet_f : Sheet
sheet_f = record {
  pdu = short;
  l = 0x10;
  version = 0x31;
  profile = 0;
  regions = [];
  parameters = [];
  items = [];
  tolerances = [];
  releases = [];
}

-- two sheets, and the octets of their list, entry by entry
pub record Case : Type 0 where
  pub first : Sheet
  pub second : Sheet
  pub list : List ℕ

-- a link record of the other type; regions changed, gone and new; a parameter new and one moved; an ID item gone; 06 changed, 07 new
abbrev pub list_ab : List ℕ
list_ab =
    (0x41 ∷ [])
    ++ (0x55 ∷ 0x10 ∷ 0x30 ∷ 0 ∷ [])
    ++ (0x62 ∷ 4 ∷ 0 ∷ 0x10 ∷ 0 ∷ 0 ∷ 4 ∷ 0 ∷ 0 ∷ 0 ∷ 1 ∷ [])
    ++ (0x42 ∷ 4 ∷ 0x10 ∷ 0 ∷ 0 ∷ [])
    ++ (0x52 ∷ 8 ∷ 0x10 ∷ 0 ∷ 0 ∷ 4 ∷ 0 ∷ 0 ∷ 0 ∷ 6 ∷ [])
    ++ (0x53 ∷ 0 ∷ 0 ∷ 0 ∷ 0x10 ∷ 0 ∷ 0 ∷ 1 ∷ [])
    ++ (0x63 ∷ 2 ∷ 7 ∷ 0 ∷ 0 ∷ 0x10 ∷ 0 ∷ 0 ∷ 2 ∷ [])
    ++ (0x44 ∷ 2 ∷ [])
    ++ (0x66 ∷ 1 ∷ 0 ∷ [])
    ++ (0x57 ∷ 1 ∷ [])

-- and back
abbrev pub list_ba : List ℕ
list_ba =
    (0x45 ∷ [])
    ++ (0x51 ∷ 0x10 ∷ 0x30 ∷ 0 ∷ [])
    ++ (0x62 ∷ 4 ∷ 0 ∷ 0x10 ∷ 0 ∷ 0 ∷ 4 ∷ 0 ∷ 0 ∷ 0 ∷ 3 ∷ [])
    ++ (0x52 ∷ 4 ∷ 0x10 ∷ 0 ∷ 0 ∷ 4 ∷ 0 ∷ 0 ∷ 0 ∷ 6 ∷ [])
    ++ (0x42 ∷ 8 ∷ 0x10 ∷ 0 ∷ 0 ∷ [])
    ++ (0x43 ∷ 0 ∷ 0 ∷ [])
    ++ (0x63 ∷ 2 ∷ 7 ∷ 0 ∷ 2 ∷ 0x10 ∷ 0 ∷ 0 ∷ 2 ∷ [])
    ++ (0x54 ∷ 2 ∷ 4 ∷ 1 ∷ 2 ∷ 3 ∷ 4 ∷ []) ++ replicate 28 0
    ++ (0x66 ∷ 1 ∷ 2 ∷ [])
    ++ (0x47 ∷ [])

-- every field but those changed; a parameter, an ID item and 06 gone
abbrev pub list_cd : List ℕ
list_cd =
    (0x61 ∷ 5 ∷ 0x20 ∷ 1 ∷ 3 ∷ [])
    ++ (0x62 ∷ 2 ∷ 0 ∷ 0x10 ∷ 0 ∷ 0 ∷ 4 ∷ 1 ∷ 0 ∷ 0 ∷ 3 ∷ [])
    ++ (0x62 ∷ 4 ∷ 0 ∷ 0 ∷ 0 ∷ 0x80 ∷ 4 ∷ 0 ∷ 0 ∷ 0 ∷ 3 ∷ [])
    ++ (0x63 ∷ 4 ∷ 7 ∷ 0 ∷ 0 ∷ 0x10 ∷ 0 ∷ 0 ∷ 3 ∷ [])
    ++ (0x43 ∷ 0 ∷ 1 ∷ [])
    ++ (0x44 ∷ 1 ∷ [])
    ++ (0x64 ∷ 6 ∷ 2 ∷ 3 ∷ 1 ∷ 2 ∷ 3 ∷ []) ++ replicate 29 0
    ++ (0x54 ∷ 8 ∷ 1 ∷ 4 ∷ []) ++ replicate 31 0
    ++ (0x64 ∷ 4 ∷ 9 ∷ 1 ∷ 4 ∷ []) ++ replicate 31 0
    ++ (0x46 ∷ [])
    ++ (0x67 ∷ 1 ∷ 2 ∷ [])

-- and back
abbrev pub list_dc : List ℕ
list_dc =
    (0x61 ∷ 5 ∷ 0x10 ∷ 1 ∷ 2 ∷ [])
    ++ (0x62 ∷ 2 ∷ 0 ∷ 0x10 ∷ 0 ∷ 0 ∷ 4 ∷ 0 ∷ 0 ∷ 0 ∷ 3 ∷ [])
    ++ (0x62 ∷ 4 ∷ 0 ∷ 0 ∷ 0 ∷ 0x80 ∷ 4 ∷ 0 ∷ 0 ∷ 0 ∷ 1 ∷ [])
    ++ (0x63 ∷ 4 ∷ 7 ∷ 0 ∷ 0 ∷ 0x10 ∷ 0 ∷ 0 ∷ 2 ∷ [])
    ++ (0x53 ∷ 0 ∷ 1 ∷ 0 ∷ 0x10 ∷ 0 ∷ 0 ∷ 1 ∷ [])
    ++ (0x54 ∷ 1 ∷ 1 ∷ 5 ∷ []) ++ replicate 31 0
    ++ (0x64 ∷ 6 ∷ 2 ∷ 2 ∷ 1 ∷ 2 ∷ []) ++ replicate 30 0
    ++ (0x44 ∷ 8 ∷ [])
    ++ (0x64 ∷ 4 ∷ 9 ∷ 1 ∷ 3 ∷ []) ++ replicate 31 0
    ++ (0x56 ∷ 1 ∷ [])
    ++ (0x67 ∷ 1 ∷ 1 ∷ [])

-- a short link record changed
abbrev pub list_ef : List ℕ
list_ef =
    (0x65 ∷ 2 ∷ 0x10 ∷ 0x31 ∷ 0 ∷ [])

abbrev pub cases : List Case
cases =
    record { first = sheet_a; second = sheet_b; list = list_ab }
    ∷ record { first = sheet_b; second = sheet_a; list = list_ba }
    ∷ record { first = sheet_c; second = sheet_d; list = list_cd }
    ∷ record { first = sheet_d; second = sheet_c; list = list_dc }
    ∷ record { first = sheet_e; second = sheet_f; list = list_ef }
    ∷ []

-- what the call leaves of each in a buffer of the list's length
abbrev pub Shown : Type 0
Shown =
    Every (λ (k : Case). (lent : List ℕ) → length lent ≡ length k.list
    → ((difference_of (sheet_octets k.first) (sheet_octets k.second) lent).answer.number ≡ 0)
    × ((difference_of (sheet_octets k.first) (sheet_octets k.second) lent).list ≡ k.list)) cases

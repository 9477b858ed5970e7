-- The memory. "A virtual address is not a place in the memory": here an octet is found by its address alone, and no place is counted.
use Rattle.std.specs.Prelude.{ℕ, zero, suc, Bool, false, true, ◌&&◌, List, [], ◌∷◌, ◌++◌, eqb, get_or, drop}
use Rattle.law.specs.Words.{when, bit, Piece, laid}
use Rattle.law.specs.Sheet.{Region}

-- an octet of memory: its address, and its region's rights
pub record Cell : Type 0 where
  pub address : ℕ
  pub rights : ℕ

-- n of them, one address after another
abbrev pub cells_from : ℕ → ℕ → ℕ → List Cell
cells_from start zero rights = []
cells_from start (suc n) rights = record { address = start; rights = rights } ∷ cells_from (suc start) n rights

-- "Memory is the regions one after another in sheet order."
abbrev pub cells : List Region → List Cell
cells [] = []
cells (r ∷ rs) = cells_from r.start r.length r.rights ++ cells rs

-- "Rights: bit 0 read, bit 1 write in AsyncConnected, bit 2 write in SyncConnected"; the link is that before the exchange, and an octet that is in a
-- region at all is mapped
abbrev pub mapped : ℕ → Bool
mapped rights = true

abbrev pub readable : ℕ → Bool
readable rights = bit rights 0

abbrev pub writable : ℕ → ℕ → Bool
writable link rights = when (eqb link 3) (bit rights 2) (bit rights 1)

-- the octet at an address is in a region, and its rights have what is asked
unfoldable pub has : (ℕ → Bool) → List Cell → ℕ → Bool
has asked [] a = false
has asked (x ∷ xs) a = when (eqb x.address a) (asked x.rights) (has asked xs a)

-- and so has each of n octets from an address on: "A span may cross from one region to the next where no address is missing between them"
unfoldable pub has_all : (ℕ → Bool) → List Cell → ℕ → ℕ → Bool
has_all asked cs a zero = true
has_all asked cs a (suc n) = has asked cs a && has_all asked cs (suc a) n

-- how many of n octets from an address on come before the first that lacks what is asked; n where none lacks it
unfoldable pub has_before : (ℕ → Bool) → List Cell → ℕ → ℕ → ℕ
has_before asked cs a zero = 0
has_before asked cs a (suc n) = when (has asked cs a) (suc (has_before asked cs (suc a) n)) 0

-- the octet of memory at an address, and n octets from an address on
unfoldable pub held_at : List Cell → List ℕ → ℕ → ℕ
held_at [] ms a = 0
held_at (x ∷ xs) ms a = when (eqb x.address a) (get_or ms 0 0) (held_at xs (drop 1 ms) a)

unfoldable pub held : List Cell → List ℕ → ℕ → ℕ → List ℕ
held cs ms a zero = []
held cs ms a (suc n) = held_at cs ms a ∷ held cs ms (suc a) n

-- the memory with pieces of the address space laid over it: "Data enters .. memory at the span's place; nothing before or after is touched"
unfoldable pub stored : List Piece → List Cell → List ℕ → List ℕ
stored ps [] ms = []
stored ps (x ∷ xs) [] = []
stored ps (x ∷ xs) (m ∷ ms) = laid ps x.address m ∷ stored ps xs ms

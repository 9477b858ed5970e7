-- What the rows need of a sheet's octets and of a memory.
use mathlib.Core.Bool.{Bool, true, false}
use mathlib.Core.Path.{◌≡◌, refl}
use mathlib.Core.List.{List, [], ◌∷◌, map}
use Prim.Native.Nat.{ℕ, zero, suc, ◌+◌, ◌≤◌}
use lib.ListN.{length, take, drop}
use Rattle.std.specs.Prelude.{None, Some}
use Rattle.octets.specs.Parts.{part, put_at}
use Rattle.law.specs.Words.{one_of, Piece, piece}
use Rattle.law.specs.Sheet.{Item as Ident, Sheet, allows}
use Rattle.law.specs.Memory.{Cell, cells, stored, held, has_all, mapped}
use Rattle.law.specs.Table.{Row, row, item_of as ident_of}
use Rattle.regions.specs.Region.{regions_of, gives_of}
use Rattle.regions.specs.Search.{span_place}
use Rattle.regions.specs.declared.Right.TheVariants.{Mapped}
use Rattle.sheet.specs.Entries.{parameters_of, items_of, sought_item}
use Rattle.sheet.specs.declared.entries.Item.{Item}
use Rattle.law.proofs.Layouts.{as_parameter, as_region}

-- a row of a table and a piece of a body, each by its place
abbrev pub nth : List Row → ℕ → Row
nth [] i = row 0 [] [] [] [] [] []
nth (r ∷ rs) zero = r
nth (r ∷ rs) (suc i) = nth rs i

abbrev pub piece_at : List Piece → ℕ → Piece
piece_at [] i = piece 0 []
piece_at (p ∷ ps) zero = p
piece_at (p ∷ ps) (suc i) = piece_at ps i

-- the data of a span that a command reads or writes, from a place of the PDU on, and what is stored of it
abbrev pub data_piece : Bool → ℕ → List Cell → List ℕ → List ℕ → ℕ → ℕ → Piece
data_piece false from cs m c a n = piece from (held cs m a n)
data_piece true from cs m c a n = piece from (take n (drop from c))

abbrev pub written : Bool → ℕ → List ℕ → ℕ → ℕ → List Piece
written false from c a n = []
written true from c a n = piece a (take n (drop from c)) ∷ []

-- what the sheet's octets and the memory say

pub record ItemSame (is : List Item) (ids : List Ident) (sheet : List ℕ) (n : ℕ) : Type 0 where
  pub at : ℕ
  pub found : one_of n (map (λ (i : Ident). i.code) ids) ≡ true → sought_item is n ≡ Some (record { code = n; length = (ident_of ids n).length; at = at })
  pub missing : one_of n (map (λ (i : Ident). i.code) ids) ≡ false → sought_item is n ≡ None
  pub own : one_of n (map (λ (i : Ident). i.code) ids) ≡ true → (o k : ℕ) → o + k ≤ (ident_of ids n).length → part sheet (at + o) k ≡ take k (drop o (ident_of ids n).octets)

pub record World (h : Sheet) (sheet m : List ℕ) : Type 0 where
  pub regions : regions_of sheet (length h.regions) ≡ map as_region h.regions
  pub parameters : parameters_of sheet (length h.regions) (length h.parameters) ≡ map as_parameter h.parameters
  pub items : (n : ℕ) → ItemSame (items_of sheet (length h.regions) (length h.parameters) (length h.items)) h.items sheet n
  pub long : 8 ≤ h.l
  pub few : allows h ≤ 3
  pub whole : length m ≡ length (cells h.regions)
  pub reads : (a n : ℕ) → has_all mapped (cells h.regions) a n ≡ true → part m (span_place (map as_region h.regions) a n) n ≡ held (cells h.regions) m a n
  pub writes : (a n : ℕ) (o : List ℕ) → has_all mapped (cells h.regions) a n ≡ true → length o ≡ n
      → put_at m (span_place (map as_region h.regions) a n) o ≡ stored (piece a o ∷ []) (cells h.regions) m

pub mapped_is : (x : ℕ) → mapped x ≡ gives_of x Mapped
unfolding gives_of
mapped_is x = refl

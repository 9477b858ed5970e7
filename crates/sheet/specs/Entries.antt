-- Parameters and ID items of the sheet. Document 01: kind 03, number (2), address (4), size (1); kind 04, code (1), length (1), 32 octets.
use Rattle.std.specs.Prelude.{ℕ, ◌+◌, ◌*◌, List, [], ◌∷◌, get_or, eqb, None, Option, Some}
use Rattle.octets.specs.Numbers.{le2_at, le4_at}
use Rattle.octets.specs.Pick.{pick}
use Rattle.regions.specs.Region.{listed}
use Rattle.sheet.specs.declared.entries.Parameter.{Parameter}
use Rattle.sheet.specs.declared.entries.Item.{Item}

-- the parameter record whose kind octet stands at a place of the sheet
unfoldable pub parameter_from : List ℕ → ℕ → Parameter
parameter_from s at = record { number = le2_at s (at + 1); address = le4_at s (at + 3); size = get_or s (at + 7) 0 }

-- parameter j stands behind the link record (4 octets), r regions (10 each) and j parameters (8 each)
abbrev pub parameter_at : List ℕ → ℕ → ℕ → Parameter
parameter_at s r j = parameter_from s (4 + 10 * r + 8 * j)

-- the ID item record whose kind octet stands at a place of the sheet; its own octets begin behind kind, code and length
unfoldable pub item_from : List ℕ → ℕ → Item
item_from s at = record { code = get_or s (at + 1) 0; length = get_or s (at + 2) 0; at = at + 3 }

-- item k stands behind the link record, r regions, p parameters and k items (35 octets each)
abbrev pub item_at : List ℕ → ℕ → ℕ → ℕ → Item
item_at s r p k = item_from s (4 + 10 * r + 8 * p + 35 * k)

-- the first p parameters, and the first k ID items, of a sheet
abbrev pub parameters_of : List ℕ → ℕ → ℕ → List Parameter
parameters_of s r p = listed (parameter_at s r) 0 p

abbrev pub items_of : List ℕ → ℕ → ℕ → ℕ → List Item
items_of s r p k = listed (item_at s r p) 0 k

-- the first entry of a list whose key is n
unfoldable pub sought : {A B : Type 0} → (A → ℕ) → (A → B) → B → List A → ℕ → B
sought key found missing [] n = missing
sought key found missing (x ∷ xs) n = pick (eqb (key x) n) (found x) (sought key found missing xs n)

-- the parameter of a number
abbrev pub sought_parameter : List Parameter → ℕ → Option Parameter
sought_parameter = sought (λ p. p.number) Some None

-- the ID item of a code
abbrev pub sought_item : List Item → ℕ → Option Item
sought_item = sought (λ i. i.code) Some None

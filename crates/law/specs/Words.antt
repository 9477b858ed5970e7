-- Words for tables of octets.
use Rattle.std.specs.Prelude.{ℕ, zero, suc, ◌+◌, ◌-◌, ◌*◌, ◌/◌, ◌%◌, ◌^◌, Bool, true, false, not, ◌&&◌, ◌||◌, List, [], ◌∷◌, ◌++◌, ◌⊎◌, ◌≡◌, eqb, leb, ltb, get_or, length}

-- the first where the test holds, else the second
unfoldable pub when {ℓ} : {A : Type ℓ} → Bool → A → A → A
when true x y = x
when false x y = y

-- where the first holds, the second must
abbrev pub implies : Bool → Bool → Bool
implies a b = not a || b

-- all tests of a list hold
abbrev pub all : List Bool → Bool
all [] = true
all (b ∷ bs) = b && all bs

-- a number is one of a list
abbrev pub one_of : ℕ → List ℕ → Bool
one_of x [] = false
one_of x (y ∷ ys) = eqb x y || one_of x ys

-- each of a list
abbrev pub Every : {A : Type 0} → (A → Type 0) → List A → Type 0
Every P [] = Unit {0}
Every P (x ∷ xs) = P x × Every P xs

-- one of a list
abbrev pub Some : {A : Type 0} → (A → Type 0) → List A → Type 0
Some P [] = ⊥
Some P (x ∷ xs) = P x ⊎ Some P xs

-- x and the first of a list, and each of the list and the one behind it
abbrev pub From : {A : Type 0} → (A → A → Type 0) → A → List A → Type 0
From R x [] = Unit {0}
From R x (y ∷ ys) = R x y × From R y ys

-- each of a list and the one behind it
abbrev pub InARow : {A : Type 0} → (A → A → Type 0) → List A → Type 0
InARow R [] = Unit {0}
InARow R (x ∷ xs) = From R x xs

-- f is the fault that is told: what is asked does not hold, and f is its number; or it holds, and f is a later one's
abbrev pub FaultUnless : ℕ → Type 0 → (ℕ → Type 0) → ℕ → Type 0
FaultUnless number Holds later f = ((Holds → ⊥) × (f ≡ number)) ⊎ (Holds × later f)

-- nothing more is asked, and so there is no fault
abbrev pub NoMore : ℕ → Type 0
NoMore f = ⊥

-- the sum over a list
abbrev pub sum_of : {A : Type 0} → (A → ℕ) → List A → ℕ
sum_of f [] = 0
sum_of f (x ∷ xs) = f x + sum_of f xs

-- the octets of each, one after another
abbrev pub joined : {A : Type 0} → (A → List ℕ) → List A → List ℕ
joined f [] = []
joined f (x ∷ xs) = f x ++ joined f xs

-- "Numbers of more than one octet are sent low octet first": a number in k octets, and the number in k octets from an octet on
abbrev pub in_octets : ℕ → ℕ → List ℕ
in_octets zero n = []
in_octets (suc k) n = n % 256 ∷ in_octets k (n / 256)

abbrev pub number_at : List ℕ → ℕ → ℕ → ℕ
number_at c from zero = 0
number_at c from (suc k) = get_or c from 0 + 256 * number_at c (suc from) k

-- one octet, and whether bit k is set in a number
abbrev pub octet : List ℕ → ℕ → ℕ
octet c i = get_or c i 0

abbrev pub bit : ℕ → ℕ → Bool
bit x k = eqb (x / (2 ^ k) % 2) 1

-- octets that stand from a number on: of the reply, of the state record, or of the address space
pub record Piece : Type 0 where
  pub first : ℕ
  pub octets : List ℕ

abbrev pub piece : ℕ → List ℕ → Piece
piece first octets = record { first = first; octets = octets }

-- the octet at number k, where pieces are laid over an old one; a later piece lies over an earlier
unfoldable pub laid : List Piece → ℕ → ℕ → ℕ
laid [] k old = old
laid (p ∷ ps) k old =
    laid ps k (when (leb p.first k && ltb k (p.first + length p.octets)) (get_or p.octets (k - p.first) 0) old)

-- pieces over octets that are numbered from k on
unfoldable pub over_from : ℕ → List Piece → List ℕ → List ℕ
over_from k ps [] = []
over_from k ps (x ∷ xs) = laid ps k x ∷ over_from (suc k) ps xs

abbrev pub over : List Piece → List ℕ → List ℕ
over = over_from 0

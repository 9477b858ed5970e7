-- A reply beside what is wanted of it, and what is left of an outcome then.
use Rattle.std.specs.Prelude.{ℕ, suc, List, [], ◌∷◌, eqb, length}
use Rattle.octets.specs.Pick.{pick}
use Rattle.slave.specs.Exchange.{Left}

-- the first octet at which a reply is not what is wanted; where there is none, the length of the shorter
unfoldable pub differs_at : List ℕ → List ℕ → ℕ
differs_at [] ys = 0
differs_at (x ∷ xs) [] = 0
differs_at (x ∷ xs) (y ∷ ys) = pick (eqb x y) (suc (differs_at xs ys)) 0

-- what is left of state and memory, with the first octet that is not what is wanted
pub record Stepped : Type 0 where
  pub at : ℕ
  pub state : List ℕ
  pub memory : List ℕ

abbrev pub stepped : ℕ → List ℕ → List ℕ → Stepped
stepped at state memory = record { at = at; state = state; memory = memory }

-- a reply beside what our machine left: its state and memory where the first l octets are what is wanted; else, as request 6 says, "on a difference,
-- state and memory stand as before that record"
unfoldable pub stepped_of : ℕ → List ℕ → List ℕ → List ℕ → Left → Stepped
stepped_of l state memory wanted x =
    pick (eqb (differs_at x.reply wanted) l) (stepped (differs_at x.reply wanted) x.state x.memory) (stepped (differs_at x.reply wanted) state memory)

-- what a command leaves behind: that, and the whole reply
pub record Performed : Type 0 where
  pub step : Stepped
  pub reply : List ℕ

abbrev pub performed : Stepped → List ℕ → Performed
performed step reply = record { step = step; reply = reply }

abbrev pub performed_of : List ℕ → List ℕ → List ℕ → Left → Performed
performed_of wanted state memory x = performed (stepped_of (length wanted) state memory wanted x) x.reply

-- the same, with the place that an exchange tells
pub record Came : Type 0 where
  pub place : ℕ
  pub left : Performed

abbrev pub came : ℕ → Performed → Came
came place left = record { place = place; left = left }

abbrev pub came_of : List ℕ → List ℕ → List ℕ → Left → Came
came_of wanted state memory x = came x.answer.place (performed_of wanted state memory x)

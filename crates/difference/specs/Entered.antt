-- How octets enter the list: the place behind them, and what the buffer holds.
use Rattle.std.specs.Prelude.{ℕ, ◌+◌, List, length}
use Rattle.difference.specs.Laid.{laid}
use Rattle.difference.specs.Merge.{Step}
use Rattle.difference.specs.declared.merging.Turn.{Turn}

pub record Entered : Type 0 where
  pub behind : ℕ
  pub list : List ℕ

abbrev pub entered : ℕ → List ℕ → Entered
entered behind list = record { behind = behind; list = list }

unfoldable pub enters : List ℕ → ℕ → List ℕ → Entered
enters list at octets = entered (at + length octets) (laid list at octets)

-- what a turn leaves: the places behind it, and what the buffer holds
pub record Turned : Type 0 where
  pub turn : Turn
  pub list : List ℕ

abbrev pub turned : Turn → List ℕ → Turned
turned turn list = record { turn = turn; list = list }

unfoldable pub turns_to : List ℕ → ℕ → Step → Turned
turns_to list at s =
    turned (record { first = s.first; second = s.second; list = at + length s.octets }) (laid list at s.octets)

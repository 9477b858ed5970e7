-- How a cursor moves on over the lent buffer: it lays octets from its place on, and stands behind them.
use Rattle.std.specs.Prelude.{ℕ, ◌+◌, List, length, ◌≡◌}
use Rattle.difference.specs.Laid.{laid}
use Rattle.difference.specs.declared.laying.Cursor.{Cursor}

pub record Moves (was is : Cursor) (octets : List ℕ) : Type 0 where
  pub same_list : is.list.ghost_name ≡ was.list.ghost_name
  pub behind : is.at ≡ was.at + length octets
  pub holds : is.list.now ≡ laid was.list.now was.at octets

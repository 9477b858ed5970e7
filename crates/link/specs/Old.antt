-- The state record of release 1, document 01's: "Ten octets: kind 11 hex", and the fields as they stand in the new one. It counts no failures.
use Rattle.std.specs.Prelude.{ℕ, List, Option}
use Rattle.link.specs.Stored.{recorded_of}
use Rattle.link.specs.declared.state.LinkState.{LinkState}

-- the state that an old record holds beside a sheet with this L: past its end there is no octet, so the count is 0
unfoldable pub old_state_of : List ℕ → ℕ → Option LinkState
old_state_of s l = recorded_of s 10 0x11 l 0

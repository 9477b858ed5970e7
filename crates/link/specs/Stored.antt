-- The state record. Document 01, "The state record": "kind ..; link ..; L; dual transfer ..; com_time; MN known ..; last MN ..; RSN ..; latched command
-- alarm ..; latched communication alarm"; request 9: "kind 12 hex with the count as eleventh octet".
use Rattle.std.specs.Prelude.{ℕ, not, List, [], ◌∷◌, eqb, length, get_or, None, Option, Some}
use Rattle.octets.specs.Pick.{pick}
use Rattle.link.specs.Valid.{valid_of}
use Rattle.link.specs.declared.state.LinkState.{LinkState}

-- the record of a state
unfoldable pub octets_of : LinkState → List ℕ
octets_of st =
    0x12 ∷ st.link ∷ st.l ∷ st.dual ∷ st.com_time ∷ st.watch.known ∷ st.watch.last ∷ st.watch.rsn
    ∷ st.latches.command ∷ st.latches.communication ∷ st.watch.failures ∷ []

-- the fields of a record
unfoldable pub fields_of : List ℕ → LinkState
fields_of s = record {
  link = get_or s 1 0;
  l = get_or s 2 0;
  dual = get_or s 3 0;
  com_time = get_or s 4 0;
  watch = record { known = get_or s 5 0; last = get_or s 6 0; rsn = get_or s 7 0; failures = get_or s 10 0 };
  latches = record { command = get_or s 8 0; communication = get_or s 9 0 };
}

-- the state that a record of this length and kind holds beside a sheet with this L that tolerates so many failures in a row
abbrev pub recorded_of : List ℕ → ℕ → ℕ → ℕ → ℕ → Option LinkState
recorded_of s n kind l tolerance =
    pick (not (eqb (length s) n)) None
    (pick (not (eqb (get_or s 0 0) kind)) None
    (pick (not (valid_of (fields_of s) l tolerance)) None
    (Some (fields_of s))))

unfoldable pub state_of : List ℕ → ℕ → ℕ → Option LinkState
state_of s l tolerance = recorded_of s 11 0x12 l tolerance

-- eleven lent octets after a state was written; octets of any other length stay
unfoldable pub stored : List ℕ → LinkState → List ℕ
stored s st = pick (not (eqb (length s) 11)) s (octets_of st)

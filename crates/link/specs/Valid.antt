-- Which states are valid. Document 01, "The state record".
use Rattle.std.specs.Prelude.{ℕ, Bool, ◌&&◌, ◌||◌, eqb, ltb, leb}
use Rattle.link.specs.declared.state.LinkState.{LinkState}

-- "latched command alarm (0, 8, 9, 10, 12)"
unfoldable pub is_command_alarm : ℕ → Bool
is_command_alarm a = eqb a 0 || eqb a 8 || eqb a 9 || eqb a 10 || eqb a 12

-- "latched communication alarm (0, 12)"
unfoldable pub is_communication_alarm : ℕ → Bool
is_communication_alarm a = eqb a 0 || eqb a 12

-- "link (0 .. 3); .. dual transfer 0 or 1; .. MN known 0 or 1; last MN 0 to 15; RSN 0 to 15", and the two alarms
unfoldable pub in_range : LinkState → Bool
in_range st =
    leb st.link 3
    && leb st.dual 1
    && leb st.watch.known 1
    && leb st.watch.last 15
    && leb st.watch.rsn 15
    && is_command_alarm st.latches.command
    && is_communication_alarm st.latches.communication

-- "com_time is nonzero exactly in links 2 and 3, dual is 0 outside link 3 and dual 1 has com_time at least 2, the MN and RSN fields are zero
-- outside link 3, last MN and RSN are zero when MN is not known, and both alarms are zero in link 0"; request 9: the count is "0 outside link 3 and while
-- MN is not known"
unfoldable pub agrees : LinkState → Bool
agrees st =
    (ltb st.link 2 || leb 1 st.com_time)
    && (leb 2 st.link || eqb st.com_time 0)
    && (eqb st.link 3 || eqb st.dual 0)
    && (eqb st.dual 0 || leb 2 st.com_time)
    && (eqb st.link 3 || (eqb st.watch.known 0 && eqb st.watch.last 0 && eqb st.watch.rsn 0 && eqb st.watch.failures 0))
    && (leb 1 st.watch.known || (eqb st.watch.last 0 && eqb st.watch.rsn 0 && eqb st.watch.failures 0))
    && (leb 1 st.link || (eqb st.latches.command 0 && eqb st.latches.communication 0))

-- "Valid only if L is the sheet's", the count is at most what the sheet tolerates, the fields are in range, and they agree
unfoldable pub valid_of : LinkState → ℕ → ℕ → Bool
valid_of st l tolerance = eqb st.l l && leb st.watch.failures tolerance && in_range st && agrees st

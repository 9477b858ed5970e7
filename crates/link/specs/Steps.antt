-- The steps of the link state. Document 01, "The state record" and "One exchange". Links: 0 Disabled, 1 Disconnected, 2 AsyncConnected,
-- 3 SyncConnected.
use Rattle.std.specs.Prelude.{ℕ, ◌+◌, ◌/◌, ◌%◌, Bool, ◌&&◌, ◌||◌, eqb}
use Rattle.octets.specs.Pick.{pick}
use Rattle.link.specs.declared.state.Watch.{Watch}
use Rattle.link.specs.declared.state.LinkState.{LinkState}

-- "On entry to link 3 MN is not known and RSN is 0; on leaving it those fields .. become 0"
abbrev pub idle : Watch
idle = record { known = 0; last = 0; rsn = 0; failures = 0 }

-- where MN is known: "MN must be last MN plus 1, modulo 16"; request 5: and "SN equals the state's RSN". MN is the low half of WDT, SN the high half
unfoldable pub follows_of : Watch → ℕ → Bool
follows_of w wdt = eqb w.known 0 || (eqb (wdt % 16) ((w.last + 1) % 16) && eqb (wdt / 16) w.rsn)

-- reset: "it writes Disabled with the sheet's L and zeros"
abbrev pub fresh : ℕ → LinkState
fresh l = record { link = 0; l = l; dual = 0; com_time = 0; watch = idle; latches = record { command = 0; communication = 0 } }

-- "Enable turns Disabled into Disconnected"
abbrev pub enabled : LinkState → LinkState
enabled st = record {
  link = 1;
  l = st.l;
  dual = st.dual;
  com_time = st.com_time;
  watch = st.watch;
  latches = st.latches;
}

-- CONNECT: "com_time and dual set; link 3 if bit 1 of com_mod, else 2"
abbrev pub connected : LinkState → ℕ → ℕ → ℕ → LinkState
connected st link dual time = record {
  link = link;
  l = st.l;
  dual = dual;
  com_time = time;
  watch = idle;
  latches = st.latches;
}

-- SYNC_SET: "link 3, single transfer"
abbrev pub synced : LinkState → LinkState
synced st = record {
  link = 3;
  l = st.l;
  dual = 0;
  com_time = st.com_time;
  watch = idle;
  latches = st.latches;
}

-- DISCONNECT: "link 1, com_time 0, latches kept"
abbrev pub dropped : LinkState → LinkState
dropped st = record { link = 1; l = st.l; dual = 0; com_time = 0; watch = idle; latches = st.latches }

-- a failed watchdog: "the communication latch becomes 12, .. the link becomes 2"; "on leaving [link 3] those fields and dual become 0"
abbrev pub lost : LinkState → LinkState
lost st = record {
  link = 2;
  l = st.l;
  dual = 0;
  com_time = st.com_time;
  watch = idle;
  latches = record { command = st.latches.command; communication = 12 };
}

-- the state with another command latch
abbrev pub with_command : LinkState → ℕ → LinkState
with_command st alarm = record {
  link = st.link;
  l = st.l;
  dual = st.dual;
  com_time = st.com_time;
  watch = st.watch;
  latches = record { command = alarm; communication = st.latches.communication };
}

-- "stores its alarm in the command latch if that is 0"
abbrev pub latched : LinkState → ℕ → LinkState
latched st alarm = with_command st (pick (eqb st.latches.command 0) alarm st.latches.command)

-- ALM_CLR: "both latches 0"
abbrev pub cleared : LinkState → LinkState
cleared st = record {
  link = st.link;
  l = st.l;
  dual = st.dual;
  com_time = st.com_time;
  watch = st.watch;
  latches = record { command = 0; communication = 0 };
}

-- behind an exchange that stays in link 3: "stores MN as known and adds 1 to RSN modulo 16", with so many failures in a row
abbrev pub advanced : Watch → ℕ → ℕ → Watch
advanced w mn failures = record { known = 1; last = mn; rsn = (w.rsn + 1) % 16; failures = failures }

-- "stores MN as known and adds 1 to RSN modulo 16"; request 9: "An exchange that passes check 1 sets the count to 0"
abbrev pub counted : LinkState → ℕ → LinkState
counted st mn = record {
  link = st.link;
  l = st.l;
  dual = st.dual;
  com_time = st.com_time;
  watch = advanced st.watch mn 0;
  latches = st.latches;
}

-- request 9, a failure that is tolerated: "link and latches stay, MN is taken as last MN and RSN advances"; the count, an octet, goes up by one
abbrev pub tolerated : LinkState → ℕ → LinkState
tolerated st mn = record {
  link = st.link;
  l = st.l;
  dual = st.dual;
  com_time = st.com_time;
  watch = advanced st.watch mn ((st.watch.failures + 1) % 256);
  latches = st.latches;
}

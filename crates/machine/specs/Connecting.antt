-- CONNECT. Document 01: "com_mod: bit 1 synchronous, bits 2-3 transfer, bit 7 subcommand; bit 7 and bits 0, 4, 5, 6 must be 0; transfer 0 or 1;
-- transfer 1 needs bit 1 (002, 9.2.1). All this is one check, at octet 5. That com_time is at least 2 with transfer 1 is checked at octet 6."
use Rattle.std.specs.Prelude.{ℕ, ◌/◌, ◌%◌, Bool, not, ◌&&◌, ◌||◌, eqb, leb}
use Rattle.octets.specs.Pick.{pick}
use Rattle.link.specs.Steps.{connected}
use Rattle.link.specs.declared.state.LinkState.{LinkState}
use Rattle.sheet.specs.declared.walk.Layout.{Layout}
use Rattle.machine.specs.Codes.{is_full}
use Rattle.machine.specs.declared.words.Command.{Command}
use Rattle.machine.specs.declared.words.Effect.TheVariants.{Connects}
use Rattle.machine.specs.declared.words.Field.TheVariants.{Version, ComMod, ComTime, Profile}
use Rattle.machine.specs.Judgements.{Judgement, accepted, refused}
use Rattle.machine.specs.declared.codes.Alarm.TheVariants.{OutOfRange}

-- bit 1
abbrev pub synchronous : ℕ → ℕ
synchronous m = m / 2 % 2

-- bits 2 and 3
abbrev pub transfer : ℕ → ℕ
transfer m = m / 4 % 4

-- bit 0 and bits 4 to 7 are 0, transfer is 0 or 1, and transfer 1 needs bit 1
unfoldable pub com_mod_fits : ℕ → Bool
com_mod_fits m = eqb (m % 2) 0 && eqb (m / 16) 0 && leb (transfer m) 1 && (eqb (transfer m) 0 || eqb (synchronous m) 1)

-- "com_time at least 1", and at least 2 with transfer 1
unfoldable pub com_time_fits : ℕ → ℕ → Bool
com_time_fits m time = leb 1 time && (eqb (transfer m) 0 || leb 2 time)

-- "7 profile of the sheet"; request 7: "one not there isn't checked"
unfoldable pub profile_fits : Layout → ℕ → Bool
profile_fits lay profile = not (is_full lay.form) || eqb profile lay.profile

-- "4 version of the sheet; 5 com_mod; 6 com_time ..; 7 profile of the sheet": "com_time and dual set; link 3 if bit 1 of com_mod, else 2"
unfoldable pub connect_of : Layout → LinkState → Command → Judgement
connect_of lay st c =
    pick (not (eqb c.version lay.version)) (refused OutOfRange Version)
    (pick (not (com_mod_fits c.com_mod)) (refused OutOfRange ComMod)
    (pick (not (com_time_fits c.com_mod c.com_time)) (refused OutOfRange ComTime)
    (pick (not (profile_fits lay c.profile)) (refused OutOfRange Profile)
    (accepted Connects
    (connected st (pick (eqb (synchronous c.com_mod) 1) 3 2) (transfer c.com_mod) c.com_time)))))

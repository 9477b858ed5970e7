-- A command's fields. Document 01: "octet 0 code, octet 1 WDT (low half MN, high half SN), octets 2 and 3 control, ignored", and the octets that the table
-- names for each code; request 1: bits 6 and 7 of octet 2 are the command's identity. An octet past the command's end counts as 0.
use Rattle.std.specs.Prelude.{ℕ, ◌/◌, List, get_or}
use Rattle.octets.specs.Numbers.{le2_at, le4_at}
use Rattle.machine.specs.declared.words.Command.{Command}
use Rattle.machine.specs.declared.words.Field.TheVariants.{Number, Size, Item, Count, Mode, Address, Version, ComMod, ComTime, Profile, AlarmMode}
use Rattle.sheet.specs.declared.walk.Form.{Form}
use Rattle.frame.specs.Places.{place_of, wdt_at, one_or_two, if_enhanced}

unfoldable pub command_of : Form → List ℕ → Command
command_of form c = record {
  code = get_or c 0 0;
  wdt = get_or c (wdt_at form) 0;
  identity = if_enhanced form (get_or c 2 0 / 64);
  number = le2_at c (place_of Number);
  size = get_or c (place_of Size) 0;
  item = get_or c (place_of Item) 0;
  offset = get_or c 5 0;
  count = one_or_two form c (place_of Count);
  mode = if_enhanced form (get_or c (place_of Mode) 0);
  address = if_enhanced form (le4_at c (place_of Address));
  version = get_or c (place_of Version) 0;
  com_mod = get_or c (place_of ComMod) 0;
  com_time = get_or c (place_of ComTime) 0;
  profile = if_enhanced form (get_or c (place_of Profile) 0);
  alarm_mode = one_or_two form c (place_of AlarmMode);
}

-- A command's fields by the octets that have them. Nothing has to be believed of it: `command_of` says where the fields stand.
use Rattle.std.specs.Prelude.{ℕ, ◌/◌}
use Rattle.octets.specs.Numbers.{le2}
use Rattle.machine.specs.declared.words.Command.{Command}

abbrev pub fields_of : ℕ → ℕ → ℕ → ℕ → ℕ → ℕ → ℕ → ℕ → Command
fields_of code wdt control four five six seven address = record {
  code = code;
  wdt = wdt;
  identity = control / 64;
  number = le2 four five;
  size = six;
  item = four;
  offset = five;
  count = le2 six seven;
  mode = five;
  address = address;
  version = four;
  com_mod = five;
  com_time = six;
  profile = seven;
  alarm_mode = le2 four five;
}

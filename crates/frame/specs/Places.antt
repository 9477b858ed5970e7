-- Where things stand in a PDU of each type, as a table of numbers: the enhanced type (002, 4.3.3; document 01) and the short one (002, 4.3.1; request 7). What
-- the two have in common is defined once, by these.
use Rattle.std.specs.Prelude.{ℕ, ◌+◌, ◌-◌, ◌≤◌, List, ◌≡◌, get_or}
use Rattle.octets.specs.Numbers.{le2_at}
use Rattle.machine.specs.declared.words.Carrier.{Carrier}
use Rattle.machine.specs.declared.words.Carrier.TheVariants.{Parameter, Memory}
use Rattle.machine.specs.declared.words.Field.{Field}
use Rattle.machine.specs.declared.words.Field.TheVariants.{Whole, Number, Size, Item, Count, Mode, Address, Version, ComMod, ComTime, Profile, AlarmMode, Stray, Span}
use Rattle.sheet.specs.declared.walk.Form.{Form}
use Rattle.sheet.specs.declared.walk.Form.TheVariants.{Enhanced, Short}

-- where a field begins, which is the place of a refusal that is about it. Request 3: "the first octet of the field that failed"; 0 where the whole command is
-- refused; request 13: "the first such octet" of those that should be zero; for a span "how many octets .. come before the first that lacks the right". In both types a field that both have begins at the same octet
unfoldable pub place_of : Field → ℕ
place_of Whole = 0
place_of Number = 4
place_of Size = 6
place_of Item = 4
place_of Count = 6
place_of Mode = 5
place_of Address = 8
place_of Version = 4
place_of ComMod = 5
place_of ComTime = 6
place_of Profile = 7
place_of AlarmMode = 4
place_of (Stray at) = at
place_of (Span before) = before

-- "octet 1 WDT", "octet 1 RWDT"; request 7: "WDT last", "RWDT last"
unfoldable pub wdt_at : Form → ℕ
wdt_at Enhanced = 1
wdt_at Short = 15

-- the octet of a reply whose low half is its command's alarm: "bits 8 to 11" of the status; request 7: "The command alarm goes in octet 1"
unfoldable pub own_alarm_at : Form → ℕ
own_alarm_at Enhanced = 3
own_alarm_at Short = 1

-- the named fields end before this octet, and data begins there
unfoldable pub fields_end : Form → ℕ
fields_end Enhanced = 8
fields_end Short = 7

-- "old command latch at 8"; request 7: of the two alm_data fields "the first is the mode, the second begins with both latches"
unfoldable pub alarms_at : Form → ℕ
alarms_at Enhanced = 8
alarms_at Short = 5

-- the body ends before this octet of a PDU of l octets: in the short type RWDT stands behind it
unfoldable pub body_end : Form → ℕ → ℕ
body_end Enhanced l = l
body_end Short l = l - 1

-- ALM_RD and ALM_CLR have a mode of two octets, in the short type of one
unfoldable pub mode_size : Form → ℕ
mode_size Enhanced = 2
mode_size Short = 1

-- a field of two octets, in the short type of one
unfoldable pub one_or_two : Form → List ℕ → ℕ → ℕ
one_or_two Enhanced c at = le2_at c at
one_or_two Short c at = get_or c at 0

-- a field that the short type has not, and that is 0 there
unfoldable pub if_enhanced : Form → ℕ → ℕ
if_enhanced Enhanced x = x
if_enhanced Short x = 0

-- a memory command has four octets of address behind the other fields; the short type has no such command
unfoldable pub data_from : Form → Carrier → ℕ
data_from form Parameter = fields_end form
data_from form Memory = fields_end form + 4

-- "octets 4 to 6 again" for parameters, "5 to 11 again" for memory
unfoldable pub echo_from : Carrier → ℕ
echo_from Parameter = 4
echo_from Memory = 5

unfoldable pub echo_size : Form → Carrier → ℕ
echo_size form Parameter = 3
echo_size form Memory = fields_end form - 1

-- the lengths of a PDU that a type has, as far as the frame leans on them
unfoldable pub Sized : Form → ℕ → Type 0
Sized Enhanced l = 8 ≤ l
Sized Short l = l ≡ 16

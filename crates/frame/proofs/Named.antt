-- A command's fields, each by the octets where it stands, and the place that a refusal about it tells.
use mathlib.Core.Path.{◌≡◌, refl}
use mathlib.Core.List.{List}
use Prim.Native.Nat.{ℕ, ◌/◌}
use lib.ListN.{get_or}
use Rattle.octets.specs.Numbers.{le2_at, le4_at}
use Rattle.machine.specs.declared.words.Command.{Command}
use Rattle.machine.specs.declared.words.Field.{Field}
use Rattle.machine.specs.declared.words.Field.TheVariants.{Whole, Number, Size, Item, Count, Mode, Address, Version, ComMod, ComTime, Profile, AlarmMode, Stray, Span}
use Rattle.sheet.specs.declared.walk.Form.{Form}
use Rattle.sheet.specs.declared.walk.Form.TheVariants.{Enhanced, Short}
use Rattle.frame.specs.Fields.{command_of}
use Rattle.frame.specs.Places.{place_of, wdt_at, one_or_two, if_enhanced}

-- a code, and the other fields of a command
abbrev pub named : Form → ℕ → List ℕ → Command
named form code c = record {
  code = code;
  wdt = get_or c (wdt_at form) 0;
  identity = if_enhanced form (get_or c 2 0 / 64);
  number = le2_at c 4;
  size = get_or c 6 0;
  item = get_or c 4 0;
  offset = get_or c 5 0;
  count = one_or_two form c 6;
  mode = if_enhanced form (get_or c 5 0);
  address = if_enhanced form (le4_at c 8);
  version = get_or c 4 0;
  com_mod = get_or c 5 0;
  com_time = get_or c 6 0;
  profile = if_enhanced form (get_or c 7 0);
  alarm_mode = one_or_two form c 4;
}

pub command_named : (form : Form) (c : List ℕ) → command_of form c ≡ named form (get_or c 0 0) c
unfolding command_of place_of
command_named form c = refl

-- what differs from type to type, in each
pub wdt_enhanced : wdt_at Enhanced ≡ 1
unfolding wdt_at
wdt_enhanced = refl

pub wdt_short : wdt_at Short ≡ 15
unfolding wdt_at
wdt_short = refl

pub two_enhanced : (c : List ℕ) (at : ℕ) → one_or_two Enhanced c at ≡ le2_at c at
unfolding one_or_two
two_enhanced c at = refl

pub one_short : (c : List ℕ) (at : ℕ) → one_or_two Short c at ≡ get_or c at 0
unfolding one_or_two
one_short c at = refl

pub is_enhanced : (x : ℕ) → if_enhanced Enhanced x ≡ x
unfolding if_enhanced
is_enhanced x = refl

pub is_short : (x : ℕ) → if_enhanced Short x ≡ 0
unfolding if_enhanced
is_short x = refl

-- a refusal that is about a field tells a place
pub record Tells (field : Field) (place : ℕ) : Type 0 where
  pub told : place_of field ≡ place

pub whole_at : Tells Whole 0
unfolding place_of
whole_at = record { told = refl }

pub number_at : Tells Number 4
unfolding place_of
number_at = record { told = refl }

pub size_at_lem : Tells Size 6
unfolding place_of
size_at_lem = record { told = refl }

pub item_at_lem : Tells Item 4
unfolding place_of
item_at_lem = record { told = refl }

pub count_at : Tells Count 6
unfolding place_of
count_at = record { told = refl }

pub mode_at : Tells Mode 5
unfolding place_of
mode_at = record { told = refl }

pub address_at : Tells Address 8
unfolding place_of
address_at = record { told = refl }

pub version_at : Tells Version 4
unfolding place_of
version_at = record { told = refl }

pub com_mod_at : Tells ComMod 5
unfolding place_of
com_mod_at = record { told = refl }

pub com_time_at : Tells ComTime 6
unfolding place_of
com_time_at = record { told = refl }

pub profile_at : Tells Profile 7
unfolding place_of
profile_at = record { told = refl }

pub alarm_mode_at : Tells AlarmMode 4
unfolding place_of
alarm_mode_at = record { told = refl }

pub stray_at : (at : ℕ) → Tells (Stray at) at
unfolding place_of
stray_at at = record { told = refl }

pub span_at : (before : ℕ) → Tells (Span before) before
unfolding place_of
span_at before = record { told = refl }

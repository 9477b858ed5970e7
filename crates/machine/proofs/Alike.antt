-- What comes of a command does not hang on its identity.
use Rattle.std.specs.Prelude.{Option, Some, None, Ok, Err}
use mathlib.Core.Bool.{Bool, true, false, not, ◌&&◌}
use mathlib.Core.Path.{◌≡◌, refl, ap, ◌∙◌}
use mathlib.Core.List.{List}
use Prim.Native.Nat.{ℕ}
use lib.Dec.{eqb}
use Rattle.octets.specs.Pick.{pick}
use Rattle.link.specs.Steps.{follows_of}
use Rattle.link.specs.declared.state.LinkState.{LinkState}
use Rattle.regions.specs.declared.Region.{Region}
use Rattle.sheet.specs.declared.walk.Layout.{Layout}
use Rattle.machine.specs.Connecting.{connect_of}
use Rattle.machine.specs.Judging.{parameter_data, parameter_of, item_data, item_of, alarms_of, clear_of, memory_of, data_of, judge_of}
use Rattle.machine.specs.Outcomes.{comes_to, mn_of, finished, missed_of, outcome_of}
use Rattle.machine.specs.declared.words.Command.{Command}
use Rattle.machine.specs.declared.words.Effect.TheVariants.{Quiet}
use Rattle.machine.specs.declared.words.Field.TheVariants.{Whole}
use Rattle.sheet.specs.declared.entries.Parameter.{Parameter}
use Rattle.sheet.specs.declared.entries.Item.{Item}
use Rattle.machine.specs.Judgements.{Judgement}

-- a command with another identity
abbrev pub identified : Command → ℕ → Command
identified c identity = record {
  code = c.code;
  wdt = c.wdt;
  identity = identity;
  number = c.number;
  size = c.size;
  item = c.item;
  offset = c.offset;
  count = c.count;
  mode = c.mode;
  address = c.address;
  version = c.version;
  com_mod = c.com_mod;
  com_time = c.com_time;
  profile = c.profile;
  alarm_mode = c.alarm_mode;
}

module _ (s : List ℕ) (lay : Layout) (st : LinkState) (c : Command) (i : ℕ) where
  parameter_alike : (writes : Bool) (rs : List Region) (x : Option Parameter) → parameter_data writes rs lay st c x ≡ parameter_data writes rs lay st (identified c i) x
  unfolding parameter_data
  parameter_alike writes rs None = refl
  parameter_alike writes rs (Some p) = refl

  item_alike : (x : Option Item) → item_data lay st c x ≡ item_data lay st (identified c i) x
  unfolding item_data
  item_alike None = refl
  item_alike (Some x) = refl

  finished_alike : (j : Judgement) → finished st c j ≡ finished st (identified c i) j
  unfolding finished
  finished_alike (Err r) = refl
  finished_alike (Ok d) = refl

  prm : (writes : Bool) → parameter_of writes s lay st c ≡ parameter_of writes s lay st (identified c i)
  unfolding parameter_of
  prm writes = parameter_alike writes _ _

  idr : item_of s lay st c ≡ item_of s lay st (identified c i)
  unfolding item_of
  idr = item_alike _

  data_alike : data_of s lay st c ≡ data_of s lay st (identified c i)
  unfolding data_of alarms_of clear_of connect_of memory_of
  data_alike = rw (prm false, prm true, idr)

  judge_alike : (stray : ℕ) → judge_of s lay st c stray ≡ judge_of s lay st (identified c i) stray
  unfolding judge_of
  judge_alike stray = rw data_alike

  pub outcome_alike : (stray : ℕ) → outcome_of s lay st c stray ≡ outcome_of s lay st (identified c i) stray
  unfolding outcome_of
  outcome_alike stray =
      ap (pick (eqb st.link 3 && not (follows_of st.watch c.wdt)) (comes_to 0 Whole Quiet (missed_of lay.tolerance st (mn_of c))))
      (finished_alike (judge_of s lay st c stray) ∙ ap (finished st (identified c i)) (judge_alike stray))

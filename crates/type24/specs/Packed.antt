-- What a C host is told: an answer as one number, document 01's number + 2^32 × place.
use Rattle.std.specs.Prelude.{ℕ, ◌+◌, ◌*◌, List, Ok, Err}
use Rattle.difference.specs.Difference.{Listed}
use Rattle.replay.specs.Replay.{Replayed}
use Rattle.slave.specs.declared.answers.Answer.{Answer}
use Rattle.slave.specs.Calls.{After}
use Rattle.slave.specs.Exchange.{Left}
use Rattle.sheet.specs.Told.{Verdict}

-- the release of the archive: 1 had a state record of ten octets, 2 no short type
abbrev pub release : ℕ
release = 3

abbrev pub packed : Answer → ℕ
packed a = a.number + 4294967296 * a.place

-- what a call of reset, enable or turning leaves behind
pub record PackedAfter : Type 0 where
  pub answer : ℕ
  pub state : List ℕ

abbrev pub packed_after : ℕ → List ℕ → PackedAfter
packed_after answer state = record { answer = answer; state = state }

abbrev pub after_call : After → PackedAfter
after_call a = packed_after (packed a.answer) a.state

-- what a call of exchange leaves behind
pub record PackedLeft : Type 0 where
  pub answer : ℕ
  pub state : List ℕ
  pub memory : List ℕ
  pub reply : List ℕ

abbrev pub packed_left : ℕ → List ℕ → List ℕ → List ℕ → PackedLeft
packed_left answer state memory reply = record { answer = answer; state = state; memory = memory; reply = reply }

abbrev pub left_by_call : Left → PackedLeft
left_by_call l = packed_left (packed l.answer) l.state l.memory l.reply

-- the lengths that a host lends: L + 2^32 × memory length, 0 for a refused sheet
unfoldable pub lengths_of : Verdict → ℕ
lengths_of (Ok layout) = layout.l + 4294967296 * layout.memory
lengths_of (Err flaw) = 0

-- what a call of replay leaves behind
pub record PackedReplay : Type 0 where
  pub answer : ℕ
  pub state : List ℕ
  pub memory : List ℕ

abbrev pub packed_replay : ℕ → List ℕ → List ℕ → PackedReplay
packed_replay answer state memory = record { answer = answer; state = state; memory = memory }

abbrev pub by_replay : Replayed → PackedReplay
by_replay r = packed_replay (packed r.answer) r.state r.memory

-- what a call of difference leaves behind
pub record PackedList : Type 0 where
  pub answer : ℕ
  pub list : List ℕ

abbrev pub packed_list : ℕ → List ℕ → PackedList
packed_list answer list = record { answer = answer; list = list }

abbrev pub by_difference : Listed → PackedList
by_difference l = packed_list (packed l.answer) l.list

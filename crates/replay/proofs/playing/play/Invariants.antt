use Rattle.std.proofs.Common.{◌≡◌, ℕ, ◌+◌, ◌-◌, ◌*◌, ◌≤◌, List, length, drop}
use Rattle.sheet.specs.declared.walk.Layout.{Layout}
use Rattle.replay.specs.Replay.{Replayed, play_of, Stands}
use Rattle.replay.specs.Trace.{record_size, records_of, traced_of}
use Rattle.replay.specs.declared.reader.Reader.{Reader}
use Rattle.replay.proofs.playing.play.Given as goal

-- k records were passed, and m are left; in all they come to what those from there on come to
pub record Passed (all : Replayed) (sheet : List ℕ) (lay : Layout) (state memory trace : List ℕ) (reader : Reader) (k : ℕ) : Type 0 where
  pub same : reader.trace.now ≡ trace
  pub of_sheet : reader.l ≡ lay.l
  pub few : 17 * k ≤ reader.at
  pub stands : Stands state memory lay
  pub m : ℕ
  pub left : length trace ≡ reader.at + m * record_size lay.l
  pub told : all ≡ play_of sheet lay.l k state memory (records_of lay.l m (drop reader.at trace))

abbrev pub invariant-loop-reader : goal.invariant-loop-reader
invariant-loop-reader l =
    let d = l.checked.device in
    (length l.state ≡ length l.initial.state) × (length l.memory ≡ length l.initial.memory) × (length l.room ≡ length l.initial.room)
    × Passed (play_of d.sheet.now d.layout.l 0 l.initial.state l.initial.memory (traced_of d.layout.l l.trace)) d.sheet.now d.layout l.state l.memory l.trace l.reader l.k

abbrev pub decreases-loop-reader : goal.decreases-loop-reader
decreases-loop-reader l = length l.trace - l.reader.at

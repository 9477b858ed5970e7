use Rattle.std.proofs.Common.{◌≡◌, ℕ, ◌+◌, ◌-◌, ◌*◌, ◌<◌, List, length}
use Rattle.replay.specs.Trace.{record_size, form_from, form_of}
use Rattle.replay.specs.declared.reader.Reader.{Reader}
use Rattle.replay.proofs.whole.form.Given as goal

-- k records were passed, and n at most may follow
pub record Passed (l : ℕ) (trace : List ℕ) (reader : Reader) : Type 0 where
  pub k : ℕ
  pub n : ℕ
  pub place : reader.at ≡ k * record_size reader.l
  pub left : length reader.trace.now < reader.at + n
  pub same : reader.trace.now ≡ trace
  pub form : form_of l trace ≡ form_from reader.l reader.trace.now k n

abbrev pub invariant-loop-fault : goal.invariant-loop-fault
invariant-loop-fault l = Passed l.l l.trace l.reader

abbrev pub decreases-loop-fault : goal.decreases-loop-fault
decreases-loop-fault l = length l.trace - l.reader.at

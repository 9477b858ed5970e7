-- `replay::form::reply_of` meets its contract: the part that is lent is the record's reply.
use Rattle.std.proofs.Common.{◌+◌}
use native.Mathlib.Omega.{arith}
use Rattle.replay.specs.Trace.{reply_at}
use Rattle.replay.proofs.Steps.{cut_part}
use Rattle.replay.proofs.form.reply_of.Goals as goal

pub returns : goal.returns
unfolding reply_at
returns c =
    let a = c.args in
    let from = a.at + 1 + a.l in
    cut_part a.trace.now a.at (1 + a.l) a.l from (from + a.l) (omega arith) (λ i. from + a.l)

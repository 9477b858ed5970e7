-- `replay::form::command_of` meets its contract: the part that is lent is the record's command.
use Rattle.std.proofs.Common.{◌+◌}
use Rattle.replay.specs.Trace.{command_at}
use Rattle.replay.proofs.Steps.{cut_part}
use Rattle.replay.proofs.form.command_of.Goals as goal

pub returns : goal.returns
unfolding command_at
returns c =
    let a = c.args in
    let from = a.at + 1 in
    cut_part a.trace.now a.at 1 a.l from (from + a.l) (λ i. from) (λ i. from + a.l)

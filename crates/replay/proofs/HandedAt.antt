-- The same for plain parameters: `command_of` and `reply_of`, which a reader at the place calls, hand out that part of the record.
use Rattle.replay.proofs.form.command_of.Statement as of_command_at
use Rattle.replay.proofs.form.command_of.Met as command_at
use Rattle.replay.proofs.form.reply_of.Statement as of_reply_at
use Rattle.replay.proofs.form.reply_of.Met as reply_at

pub hands_at : {M : Type 1} → of_command_at.statement M × of_reply_at.statement M
hands_at = (command_at.met, reply_at.met)

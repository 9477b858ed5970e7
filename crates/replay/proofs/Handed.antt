-- A part of the record at a reader's place, handed out: `command` and `reply` meet their contracts, by which what comes out is that part of the record.
use Rattle.replay.proofs.reader.Reader.command.Statement as of_command
use Rattle.replay.proofs.reader.Reader.command.Met as command
use Rattle.replay.proofs.reader.Reader.reply.Statement as of_reply
use Rattle.replay.proofs.reader.Reader.reply.Met as reply

pub hands : {M : Type 1} → of_command.statement M × of_reply.statement M
hands = (command.met, reply.met)

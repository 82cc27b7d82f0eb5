use Rattle.nat_events.proofs.MessageLaws.{message_written, message_reads_back}
use Rattle.nat_events.proofs.message.messages_read_back.Goals as goal

pub returns-clause-spelled : goal.returns-clause-spelled
returns-clause-spelled c = message_written

pub returns-clause-read : goal.returns-clause-read
returns-clause-read c = message_reads_back

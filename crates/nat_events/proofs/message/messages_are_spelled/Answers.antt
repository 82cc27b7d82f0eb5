use Rattle.nat_events.proofs.MessageLaws.{events_spelled, events_read}
use Rattle.nat_events.proofs.message.messages_are_spelled.Goals as goal

pub returns-clause-spelled : goal.returns-clause-spelled
returns-clause-spelled c = events_spelled

pub returns-clause-accepted : goal.returns-clause-accepted
returns-clause-accepted c = events_read

use Rattle.std.proofs.Common.{rules}
use Rattle.wire_icmp.proofs.Messages.{message_spelled, message_accepted}
use Rattle.wire_icmp.proofs.view.IcmpView.read.Goals as goal

pub returns-then-bytes-lt8-clause-accepts : goal.returns-then-bytes-lt8-clause-accepts
returns-then-bytes-lt8-clause-accepts c = message_accepted c.args.bytes.now

pub returns-clause-accepts : goal.returns-clause-accepts
returns-clause-accepts c = message_accepted c.args.bytes.now

pub returns-clause-spelled : goal.returns-clause-spelled
returns-clause-spelled c = message_spelled c.args.bytes.now (search rules) c.if-bytes-lt8.false (search rules)

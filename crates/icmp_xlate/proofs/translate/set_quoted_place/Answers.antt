use Rattle.std.proofs.Common.{rules}
use Rattle.icmp_xlate.proofs.Packets.{report_long, is_report, message_is_sound}
use Rattle.icmp_xlate.proofs.translate.set_quoted_place.Goals as goal

pub set_in_message-requires : goal.set_in_message-requires
set_in_message-requires c =
    let (r, s, there) = c.requires.quotes in
    record { header = report_long c.args.message.now r s; quotes = c.requires.quotes }

pub returns-clause-value : goal.returns-clause-value
returns-clause-value c = c.set_in_message.ensures.value

pub returns-clause-reads_back : goal.returns-clause-reads_back
returns-clause-reads_back c = λ r s there.
    is_report c.args.source c.args.new c.args.message.now c.set_in_message.new.message r (search rules) (search rules) s
    (c.set_in_message.ensures.value r s there)

pub returns-clause-sound : goal.returns-clause-sound
returns-clause-sound c = λ sound.
    let (r, s, there) = c.requires.quotes in
    message_is_sound c.args.source c.args.new c.args.message.now c.set_in_message.new.message r (search rules) (search rules) s
    (c.set_in_message.ensures.value r s there) sound

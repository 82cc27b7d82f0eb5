use Rattle.std.proofs.Common.{false, rules}
use Rattle.icmp_xlate.proofs.Packets.{error_long, is_error, header_is_sound, rest_is_sound}
use Rattle.icmp_xlate.proofs.translate.error_in.Goals as goal

pub translate-requires : goal.translate-requires
translate-requires c =
    let (h, r, e, there) = c.requires.error in
    record { header = error_long c.args.packet.now h r e; error = c.requires.error }

pub returns-clause-value : goal.returns-clause-value
returns-clause-value c = c.translate.ensures.value

pub returns-clause-reads_back : goal.returns-clause-reads_back
returns-clause-reads_back c = λ h r e there.
    is_error false c.args.new c.args.packet.now c.translate.new.packet h r (search rules) (search rules) e
    (c.translate.ensures.value h r e there)

pub returns-clause-header_sound : goal.returns-clause-header_sound
returns-clause-header_sound c =
    let (h, r, e, there) = c.requires.error in
    header_is_sound false c.args.new c.args.packet.now c.translate.new.packet h r (search rules) (search rules) e
    (c.translate.ensures.value h r e there)

pub returns-clause-message_sound : goal.returns-clause-message_sound
returns-clause-message_sound c =
    let (h, r, e, there) = c.requires.error in
    rest_is_sound false c.args.new c.args.packet.now c.translate.new.packet h r (search rules) (search rules) e
    (c.translate.ensures.value h r e there)

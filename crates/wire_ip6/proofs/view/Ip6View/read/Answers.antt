use Rattle.std.proofs.Common.{rules, arith}
use Rattle.wire_ip6.proofs.PacketLaws.{accepted, packet_made, packet_made_spelled}
use Rattle.wire_ip6.proofs.view.Ip6View.read.Goals as goal

pub returns-then-bytes-lt40-clause-accepts : goal.returns-then-bytes-lt40-clause-accepts
returns-then-bytes-lt40-clause-accepts c = accepted c.args.bytes.now _ (search rules)

pub returns-then-u32_in-ne6-clause-accepts : goal.returns-then-u32_in-ne6-clause-accepts
returns-then-u32_in-ne6-clause-accepts c = accepted c.args.bytes.now _ (search rules)

pub returns-then-bytes-len-clause-accepts : goal.returns-then-bytes-len-clause-accepts
returns-then-bytes-len-clause-accepts c = accepted c.args.bytes.now _ (search rules)

pub returns-clause-value : goal.returns-clause-value
returns-clause-value c = packet_made c.args.bytes.now c.from-len.result (search rules) (search rules) (search rules) (search rules)

pub returns-clause-spelled : goal.returns-clause-spelled
returns-clause-spelled c =
    packet_made_spelled c.args.bytes.now c.from-len.result (λ k. omega (arith, c.type_inv.bytes k)) (search rules) (search rules)
    (search rules) (search rules)

pub returns-clause-accepts : goal.returns-clause-accepts
returns-clause-accepts c =
    accepted c.args.bytes.now _ (packet_made c.args.bytes.now c.from-len.result (search rules) (search rules) (search rules) (search rules))

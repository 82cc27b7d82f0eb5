use Rattle.std.proofs.Common.{◌≡◌, ◌++◌, rules}
use Rattle.wire_ip4.specs.Grammar.{header_bytes, header_with}
use Rattle.ingress.specs.Ip4.{whole_fields, whole_packet}
use Rattle.ingress.specs.Packet.{HoldsWhole, packet_in}
use Rattle.ingress.proofs.Packets.{holds_joined}
use Rattle.ingress.proofs.packet.Packet.joined.Goals as goal

made : (c : goal.After-from_vec) → HoldsWhole c.from_vec.result × (packet_in c.from_vec.result ≡ whole_packet c.args.whole.now)
made c =
    let whole = c.args.whole.now in
    let e : c.from_vec.result ≡ header_bytes (header_with (whole_fields whole)) ++ whole.bytes = search rules in
    holds_joined whole c.from_vec.result c.requires.head c.requires.short e

pub invariant_of-result : goal.invariant_of-result
invariant_of-result c = (made c).0

pub returns : goal.returns
returns c = (made c).1

use Rattle.std.proofs.Common.{[], ap, ◌∙◌}
use Rattle.wire_ip4.specs.Grammar.{front_of, header_of}
use Rattle.ingress.proofs.Packets.{front_plain}
use Rattle.ingress.proofs.packet.whole_fields.Goals as goal

pub unreachable-requires : goal.unreachable-requires
unreachable-requires c =
    let head = c.args.whole.now.head in
    c.in_default.not-Ok (header_of head, []) (c.front.ensures.value ∙ ap front_of c.as_slice.ensures ∙ front_plain head c.requires.head)

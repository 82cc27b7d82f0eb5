use Rattle.std.proofs.Common.{◌+◌, ◌++◌, ℕ, List, length, ap, ◌∙◌, arith}
use Rattle.wire_ip6.specs.Grammar.{header_bytes}
use Rattle.softwire.specs.Tunnel.{tunnel_fields}
use Rattle.softwire.proofs.PieceBytes.{header_long, fragment_made}
use Rattle.softwire.proofs.fragments.fragment.Goals as goal

pub write_frag_header-requires-clause-room : goal.write_frag_header-requires-clause-room
write_frag_header-requires-clause-room c =
    let by = c.args.carrier in
    let header = tunnel_fields by.aftr by.softwire by.class 44 (8 + length c.args.part.now) in
    let made = c.write_header.ensures.value ∙ ap (λ (l : List ℕ). l ++ header_bytes header) c.new-front.ensures in
    omega (arith, ap length made, header_long header)

pub returns : goal.returns
returns c =
    let by = c.args.carrier in
    fragment_made by.aftr by.softwire by.class (record { next = 4; offset = c.args.offset; more = c.args.more; id = by.id }) c.args.part.now
    c.new-front.result.items c.write_header.new.out.items c.write_frag_header.new.out.items c.in_ok-bytes.bytes.items
    c.extend_from_slice.new.self.items c.new-front.ensures c.write_header.ensures.value c.write_frag_header.ensures.value
    (c.in_ok-bytes.ensures.items ∙ c.as_slice.ensures.value) c.in_ok-extend_from_slice.ensures.items

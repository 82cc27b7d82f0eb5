use Rattle.std.proofs.Common.{◌≡◌, ◌≤◌, ◌∙◌, sym, arith, length, length-take, []}
use Rattle.std.specs.Prelude.{Ok}
use Rattle.wire_ip4.specs.Grammar.{packet_of}
use Rattle.ingress.proofs.Packets.{holds_plain, is_read, no_options}
use Rattle.ingress.proofs.plain.Plain.read.Goals as goal

read : (c : goal.Else-has_options) → packet_of c.args.bytes.now ≡ Ok c.in-Ok.packet
read c = sym c.read.ensures.value ∙ c.in-Ok.is

pub slice_bounds-result-end : goal.slice_bounds-result-end
slice_bounds-result-end c =
    let is = is_read c.args.bytes.now c.in-Ok.packet (read c) in
    let long : 20 ≤ length c.args.bytes.now = omega (arith, is.least, is.counted, is.most) in
    omega (arith, length-take 20 c.args.bytes.now)

pub invariant_of-result : goal.invariant_of-result
invariant_of-result c =
    let plain : c.in-Ok.packet.0.options ≡ [] =
    no_options c.in-Ok.packet.0.options c.has_options.result c.has_options.ensures c.if-has_options.false in
    holds_plain c.args.bytes.now c.in-Ok.packet (read c) (λ i. omega (arith, c.type_inv.bytes i)) plain

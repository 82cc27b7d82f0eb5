use Rattle.std.proofs.Common.{◌≡◌, sym, ap, rules, arith}
use Rattle.ingress.specs.Arrival.{Arrival, brings}
use Rattle.ingress.specs.SoftwireSide.{received, softwire_arrival}
use Rattle.ingress.specs.declared.received.Received.{Received}
use Rattle.ingress.proofs.Arrivals.{softwire_brings_whole}
use Rattle.ingress.proofs.softwire_side.from_softwire.Goals as goal

pub returns-in-Some-clause-received : goal.returns-in-Some-clause-received
unfolding softwire_arrival
returns-in-Some-clause-received c =
    let config = c.args.config.now in
    let kept = c.args.pieces.now in
    let it = received c.in_ok-sent.sent.who c.in-Some.packet in
    let told : brings c.sent_packet.new.pieces it ≡ softwire_arrival config c.args.now.0 kept c.args.bytes.now = search rules in
    (softwire_brings_whole config c.args.now.0 kept c.args.bytes.now c.requires (λ i. omega (arith, c.type_inv.bytes i))).brings it
    (sym (ap (λ (a : Arrival Received). a.brought) told))

use Rattle.std.proofs.Common.{sym, ap, ◌∙◌, subst, arith}
use Rattle.frag_reasm.specs.declared.key.PieceKey.{PieceKey}
use Rattle.ingress.specs.Arrival.{Tells}
use Rattle.ingress.specs.Gathering.{AreKept}
use Rattle.ingress.specs.Ip4.{whole_of}
use Rattle.ingress.specs.Packet.{IsWhole}
use Rattle.ingress.specs.PublicSide.{addressed_to_us, public_arrival, public_key}
use Rattle.ingress.proofs.Arrivals.{public_brings_whole}
use Rattle.ingress.proofs.Steps.{goes_on, told_brings}
use Rattle.ingress.proofs.public_side.from_public.Goals as goal

pub returns-clause-whole : goal.returns-clause-whole
unfolding public_arrival
returns-clause-whole c =
    let config = c.args.config.now in
    let now = c.args.now.0 in
    let kept = c.args.pieces.now in
    let bytes = c.args.bytes.now in
    let after = c.whole.new.pieces in
    let packet = c.in_ok-packet.packet in
    let key = c.public_key-key.ensures.value ∙ ap public_key c.fields.ensures in
    let tells = goes_on (λ kept' p. whole_of (public_key p.0.fields) now kept' p) kept after packet (addressed_to_us config bytes)
    c.whole.result (sym c.addressed_to_us.ensures ∙ c.in_ok-packet.was)
    (subst (λ (k : PieceKey). Tells c.whole.result after (whole_of k now kept packet)) key c.whole.ensures.tells) in
    told_brings AreKept IsWhole c.whole.result after (public_arrival config now kept bytes)
    (public_brings_whole config now kept bytes c.requires (λ i. omega (arith, c.type_inv.bytes i))) tells

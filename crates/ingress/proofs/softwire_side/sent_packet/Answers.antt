use Rattle.std.proofs.Common.{◌≡◌, ◌∙◌, Option, sym, ap, subst}
use Rattle.std.specs.Prelude.{Ok}
use Rattle.frag_reasm.specs.declared.key.PieceKey.{PieceKey}
use Rattle.wire_ip6.specs.declared.chain.Chain.{Chain}
use Rattle.wire_ip6.specs.Chain.{chain_in}
use Rattle.ingress.specs.Arrival.{Arrival, Tells, brings, then_receive, tried}
use Rattle.ingress.specs.Gathering.{taken}
use Rattle.ingress.specs.SoftwireSide.{fragment, fragment_key, inner_arrival, inner_in, unwrapped}
use Rattle.ingress.specs.declared.gather.Gathered.{Gathered}
use Rattle.ingress.proofs.Steps.{goes_through}
use Rattle.ingress.proofs.softwire_side.sent_packet.Goals as goal

pub returns-in-Inner-clause-tells : goal.returns-in-Inner-clause-tells
returns-in-Inner-clause-tells c =
    let next = inner_arrival c.args.sent.who c.args.now.0 in
    subst (λ (chain : Chain). Tells c.inner_packet.result c.inner_packet.new.pieces
    (then_receive (unwrapped c.args.config.now c.args.now.0 c.args.sent.who c.args.pieces.now (chain_in chain)) next)) (sym c.in-Inner.is)
    c.inner_packet.ensures.tells

pub returns-in-Some-clause-tells : goal.returns-in-Some-clause-tells
returns-in-Some-clause-tells c =
    let config = c.args.config.now in
    let now = c.args.now.0 in
    let who = c.args.sent.who in
    let kept = c.args.pieces.now in
    let head = c.in-Piece.head in
    let part = c.in-Piece.part.now in
    let next = inner_arrival who now in
    let whole = c.in-Some.whole in
    let left = c.gathered.new.pieces in
    let told : brings left whole ≡ taken (fragment_key config who head) (fragment head part) now kept =
    ap (λ (o : Option Gathered). let a : Arrival Gathered = record { kept = left; brought = Ok o } in a) (sym c.in-Some.is)
    ∙ c.in_ok-whole-in-Piece.ensures.tells
    ∙ ap (λ (key : PieceKey). taken key (fragment head part) now kept) c.fragment_key-key.ensures.value in
    subst (λ (chain : Chain). Tells c.packet_in.result c.packet_in.new.pieces
    (then_receive (unwrapped config now who kept (chain_in chain)) next)) (sym c.in-Piece.is)
    (goes_through (λ kept' g. tried kept' (inner_in g)) next left c.packet_in.new.pieces whole
    (taken (fragment_key config who head) (fragment head part) now kept) c.packet_in.result told c.packet_in.ensures.tells)

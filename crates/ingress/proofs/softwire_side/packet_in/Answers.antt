use Rattle.std.proofs.Common.{◌≡◌, ◌∙◌, Option, Some, sym, ap, subst}
use Rattle.std.specs.Prelude.{Result, Ok}
use Rattle.ingress.specs.Arrival.{Tells}
use Rattle.ingress.specs.SoftwireSide.{inner_arrival, inner_in}
use Rattle.ingress.specs.declared.refusal.Refusal.{Refusal}
use Rattle.ingress.proofs.Steps.{goes_on, handed_on}
use Rattle.ingress.proofs.softwire_side.packet_in.Goals as goal

pub returns-in_err-packet-clause-tells : goal.returns-in_err-packet-clause-tells
returns-in_err-packet-clause-tells c =
    let answer = c.from_residual-in_err-packet.result in
    let same = handed_on answer c.in_err-packet.field-0.0 c.from_residual-in_err-packet.ensures.1 in
    let next = inner_arrival c.args.who c.args.now.0 in
    let inner = c.in_ok-inner.inner.now in
    goes_on next c.args.pieces.now c.inner_packet.new.pieces inner (inner_in c.args.whole.now) answer c.in_ok-inner.ensures.inner
    (subst (λ (r : Result (Option _) Refusal). Tells r c.inner_packet.new.pieces (next c.args.pieces.now inner)) (sym same)
    c.in_err-packet.ensures.tells)

pub returns-in_ok-into_owned-in-Some-clause-tells : goal.returns-in_ok-into_owned-in-Some-clause-tells
returns-in_ok-into_owned-in-Some-clause-tells c =
    let next = inner_arrival c.args.who c.args.now.0 in
    let inner = c.in_ok-inner.inner.now in
    let brought = c.in_ok-into_owned-in-Some.field-0 in
    let same : c.in_ok-packet.field-0 ≡ Some brought =
    c.in-Some.is ∙ ap (λ (p : _). Some p) (sym c.in_ok-into_owned-in-Some.ensures) in
    goes_on next c.args.pieces.now c.inner_packet.new.pieces inner (inner_in c.args.whole.now) (Ok (Some brought))
    c.in_ok-inner.ensures.inner
    (subst (λ (o : Option _). Tells (Ok o) c.inner_packet.new.pieces (next c.args.pieces.now inner)) same c.in_ok-packet.ensures.tells)

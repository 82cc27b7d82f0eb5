use Rattle.std.proofs.Common.{Option, Some, None, Ok, Err, sym, ap, ◌∙◌, subst}
use Rattle.std.proofs.lemmas.Result.{IfOk-weaker}
use Rattle.aftr_base.specs.declared.event.DropCause.{DropCause}
use Rattle.ingress.specs.Arrival.{Tells}
use Rattle.ingress.specs.declared.refusal.Refusal.{Refusal}
use Rattle.ingress.specs.declared.received.Received.{Received}
use Rattle.ingress.specs.SoftwireSide.{softwire_arrival}
use Rattle.xlate_core.specs.contracts.translator.Core.{the_view}
use Rattle.xlate_core.specs.State.{State, Step}
use Rattle.xlate_core.specs.Step.{from_subscriber, outbound_step, with_horizon}
use Rattle.xlate_core.specs.Stepped.{HasStepped}
use Rattle.xlate_core.proofs.Brought.{arrival_with, brought_so, dropped_so, quiet_so}
use Rattle.xlate_core.proofs.Treatments.{keeping}
use Rattle.xlate_core.proofs.translator.Core.step_outbound.Goals as goal

pub returns-in-Ok-Some : goal.returns-in-Ok-Some
returns-in-Ok-Some c =
    let out = c.from_subscriber.new.out in
    let after = c.from_subscriber.new.self in
    IfOk-weaker c.from_subscriber.result _ _ (λ (cause : Option DropCause) h. brought_so
    (λ (s : State). softwire_arrival s.config s.clock s.kept c.args.bytes.now) from_subscriber
    (λ (t : Step). HasStepped (with_horizon t) c.args.out.now after out cause) (the_view c.self.inside) c.args.self.now
    c.from_softwire.new.pieces (Ok (Some c.in-Ok-Some.got)) c.self.view_is c.if-settles.ensures
    (ap (λ (o : Option (Received)). arrival_with c.from_softwire.new.pieces (Ok o)) (sym c.in-Ok-Some.field-0-is) ∙ c.in-Ok-Some.ensures.tells) h) c.from_subscriber.ensures

pub returns-in-Ok-None : goal.returns-in-Ok-None
returns-in-Ok-None c =
    let after = keeping (the_view c.self.inside) c.from_softwire.new.pieces in
    brought_so (λ (s : State). softwire_arrival s.config s.clock s.kept c.args.bytes.now) from_subscriber
    (λ (t : Step). HasStepped (with_horizon t) c.args.out.now after c.args.out.now None) (the_view c.self.inside) c.args.self.now
    c.from_softwire.new.pieces (Ok None) c.self.view_is c.if-settles.ensures
    (ap (λ (o : Option (Received)). arrival_with c.from_softwire.new.pieces (Ok o)) (sym c.in-Ok-None.field-0-is) ∙ c.in-Ok-None.ensures.tells) (quiet_so after c.args.out.now)

pub returns-in-Err-Dropped : goal.returns-in-Err-Dropped
returns-in-Err-Dropped c =
    let after = keeping (the_view c.self.inside) c.from_softwire.new.pieces in
    let cause = c.in-Err-Dropped.cause in
    subst (λ (x : DropCause). HasStepped (with_horizon (outbound_step c.args.self.now c.args.bytes.now)) c.args.out.now after c.args.out.now (Some x))
    (sym c.in-Err-Dropped.cause-is) (brought_so (λ (s : State). softwire_arrival s.config s.clock s.kept c.args.bytes.now) from_subscriber
    (λ (t : Step). HasStepped (with_horizon t) c.args.out.now after c.args.out.now (Some cause)) (the_view c.self.inside) c.args.self.now
    c.from_softwire.new.pieces (Err cause) c.self.view_is c.if-settles.ensures
    (subst (λ (r : Refusal). Tells {A = Received} (Err r) c.from_softwire.new.pieces (softwire_arrival c.self.inside.config c.self.inside.clock.0 c.self.inside.kept c.args.bytes.now))
    c.in-Err-Dropped.field-0-is c.in-Err-Dropped.ensures.tells) (dropped_so after cause c.args.out.now))

use Rattle.std.proofs.Common.{◌≡◌, true, Ok, Err, Result, Some, refl, sym, ap, ◌∙◌, subst}
use Rattle.aftr_base.specs.declared.event.DropCause.{DropCause}
use Rattle.nat_mapping.specs.Rows.{Mapping}
use Rattle.xlate_core.specs.declared.grant.Flow.{Flow}
use Rattle.xlate_core.specs.declared.step_out.StepOut.{StepOut}
use Rattle.xlate_core.specs.Arrivals.{arrival_of, receiver_of}
use Rattle.xlate_core.specs.Datagram.{Datagram, translated}
use Rattle.xlate_core.specs.Grant.{granted_only}
use Rattle.xlate_core.specs.State.{State}
use Rattle.xlate_core.specs.Step.{flow_of, held_back, sent_back, turned, with_horizon}
use Rattle.xlate_core.specs.Stepped.{HasStepped}
use Rattle.xlate_core.proofs.Sending.{held_so}
use Rattle.xlate_core.proofs.translator.Core.turn_back.Goals as goal

pub returns-in_ok-promise_lease-in-Err : goal.returns-in_ok-promise_lease-in-Err
returns-in_ok-promise_lease-in-Err c =
    let s = c.args.self.now in
    let got = c.args.admitted.now.got in
    let g = c.args.admitted.now.grant in
    let cause = c.in-Err.cause in
    let kept = c.keep_new.new.self in
    let out' : StepOut = record { items = c.args.out.now.items; log = c.promise_lease.new.log } in
    let there : kept ≡ granted_only (flow_of got) g s =
    c.in_ok-keep_new.ensures ∙ ap (λ (f : Flow). granted_only f g s) c.flow-flow.ensures in
    let arrives : c.arrival_from-arrival.result ≡ arrival_of (turned got g) =
    c.arrival_from-arrival.ensures ∙ ap (λ (d : Datagram). arrival_of (translated true g.place d)) c.datagram.ensures in
    let refused : receiver_of (granted_only (flow_of got) g s) (arrival_of (turned got g)) ≡ Err cause =
    ap (λ (x : State). receiver_of x (arrival_of (turned got g))) (sym there) ∙ ap (receiver_of kept) (sym arrives) ∙ c.in-Err.ensures.refusal in
    subst (λ (r : Result Mapping DropCause). HasStepped
    (with_horizon (elim r [ Err bad ↦ held_back s got g bad | Ok row ↦ sent_back s got g row ])) c.args.out.now c.promise_lease.new.self
    out' (Some cause)) (sym refused)
    (held_so s kept c.promise_lease.new.self got g cause c.args.out.now out' there c.in_ok-promise_lease-in-Err.ensures.state refl
    c.in_ok-promise_lease-in-Err.ensures.log)

use Rattle.std.proofs.Common.{◌≡◌, Result, None, Ok, Err, sym, ap, ◌∙◌, subst}
use Rattle.aftr_base.specs.declared.event.DropCause.{DropCause}
use Rattle.nat_mapping.specs.Rows.{Mapping}
use Rattle.xlate_core.specs.declared.arrival.Arrival.{Arrival}
use Rattle.xlate_core.specs.Arrivals.{receiver_of}
use Rattle.xlate_core.specs.Step.{dropped, sent_in, with_horizon}
use Rattle.xlate_core.specs.Stepped.{HasStepped}
use Rattle.xlate_core.proofs.translator.Core.deliver.Goals as goal

pub returns-in_ok-send_in-in-Ok : goal.returns-in_ok-send_in-in-Ok
returns-in_ok-send_in-in-Ok c =
    let s = c.args.self.now in
    let (row, there, receives) = c.in-Ok.ensures.receiver in
    let is = ap (λ (a : Arrival). receiver_of s a) (sym c.arrival.ensures) ∙ receives in
    subst (λ (r : Result Mapping DropCause). HasStepped
    (with_horizon (elim r [ Err cause ↦ dropped s cause | Ok m ↦ sent_in s c.args.datagram m ])) c.args.out.now c.send_in.new.self
    c.send_in.new.out None) (sym is) (c.in_ok-send_in-in-Ok.ensures row there)

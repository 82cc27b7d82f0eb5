use Rattle.std.proofs.Common.{◌≡◌, ◌+◌, ◌++◌, [], ◌∷◌, take, sym, ap, ◌∙◌, subst}
use Rattle.std.proofs.lemmas.List.{take_more}
use Rattle.aftr_base.specs.declared.event.LogEvent.{LogEvent}
use Rattle.lease_log.specs.Batch.{Batch}
use Rattle.lease_log.specs.Sound.{HasSoundPlan}
use Rattle.egress_gate.proofs.Logging.{can_add}
use Rattle.egress_gate.proofs.batch.collect.Goals as goal

pub add-requires : goal.add-requires
add-requires c =
    let events = c.args.events.now in
    let k = c.loop-event.event-index in
    let e = c.event-item.result in
    let here : c.loop-event.batch.events ++ e ∷ [] ≡ take (k + 1) events =
    ap (λ (b : Batch). b.events ++ e ∷ []) c.loop-event.invariant
    ∙ ap (λ (x : LogEvent). take k events ++ x ∷ []) c.event-item.is ∙ sym (take_more events k e c.loop-event-test.true) in
    can_add c.loop-event.batch events k e here c.requires.short
    (subst HasSoundPlan (sym c.event-item.is) (c.requires.no_plan k e c.loop-event-test.true))

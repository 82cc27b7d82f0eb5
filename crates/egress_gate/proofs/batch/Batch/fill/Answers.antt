use Rattle.std.proofs.Common.{◌∙◌, sym, subst, arith, All, List}
use Rattle.aftr_base.specs.declared.event.LogEvent.{LogEvent}
use Rattle.lease_log.specs.Batch.{IsWithinLimits}
use Rattle.lease_log.specs.Sound.{HasSoundPlan}
use Rattle.egress_gate.proofs.Logging.{logged_limits, logged_sound}
use Rattle.egress_gate.proofs.Spelled.{its_events, spelled}
use Rattle.egress_gate.proofs.batch.Batch.fill.Goals as goal

pub restart-requires : goal.restart-requires
restart-requires c = omega (arith, c.clock.ensures.within)

pub collect-requires-clause-short : goal.collect-requires-clause-short
collect-requires-clause-short c =
    let s = c.args.core.now in
    let e = c.args.event.now in
    subst IsWithinLimits (sym (c.as_slice.ensures ∙ its_events s e c.in_ok-self.ensures c.clear.ensures.log)) (logged_limits s e)

pub collect-requires-clause-no_plan : goal.collect-requires-clause-no_plan
collect-requires-clause-no_plan c =
    let s = c.args.core.now in
    let e = c.args.event.now in
    let P : List LogEvent → Type 0 = λ l. All HasSoundPlan l in
    subst P (sym (c.as_slice.ensures ∙ its_events s e c.in_ok-self.ensures c.clear.ensures.log)) (logged_sound s e)

pub returns : goal.returns
returns c =
    spelled c.args.core.now c.args.event.now c.args.number c.in_ok-self.ensures c.clear.ensures.items c.clear.ensures.log
    (rw (c.restart.ensures, c.clock.ensures.moment, c.as_slice.ensures) at c.in_ok-collect.ensures)
    (rw (c.as_slice-2.ensures, c.clear-2.ensures) at c.in_ok-encode.ensures)

use Rattle.std.proofs.Common.{◌<◌, ap, sym, ◌∙◌, arith, length}
use Rattle.aftr_base.specs.Row.{plan_ended}
use Rattle.lease_log.proofs.Mapping.{mapped_more}
use Rattle.lease_log.proofs.applying.end_plan.Goals as goal

pub loop-plan-preserved : goal.loop-plan-preserved
loop-plan-preserved c =
    let f = plan_ended c.args.at.0 in
    let lt : c.loop-plan.plan-index < length c.args.plans.now =
    omega (arith, ap length c.deref_mut-plan-items.ensures.value, ap length c.into_vec-rows.ensures, ap length c.replace.ensures.value) in
    mapped_more f c.args.plans.now c.loop-plan.plan-items c.loop-plan.plan-index c.plan-item.result c.end.new.plan lt
    c.loop-plan.invariant c.plan-item.is (c.end.ensures ∙ ap f (sym c.plan-item.is))

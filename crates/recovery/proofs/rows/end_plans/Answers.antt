use Rattle.std.proofs.Common.{◌<◌, ap, sym, ◌∙◌, arith, length}
use Rattle.aftr_base.specs.Told.{plan_closed}
use Rattle.lease_log.proofs.Mapping.{mapped_more}
use Rattle.recovery.proofs.rows.end_plans.Goals as goal

pub loop-row-preserved : goal.loop-row-preserved
loop-row-preserved c =
    let f = plan_closed c.args.horizon.0 in
    let lt : c.loop-row.row-index < length c.args.plans.now =
    omega (arith, ap length c.deref_mut-row-items.ensures.value, ap length c.into_vec-rows.ensures, ap length c.replace.ensures.value) in
    mapped_more f c.args.plans.now c.loop-row.row-items c.loop-row.row-index c.row-item.result c.end_plan.new.plan lt
    c.loop-row.invariant c.row-item.is (c.end_plan.ensures ∙ ap f (sym c.row-item.is))

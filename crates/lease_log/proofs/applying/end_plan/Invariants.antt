use Rattle.std.proofs.Common.{◌≡◌, ◌++◌, take, drop, map}
use Rattle.aftr_base.specs.Row.{plan_ended}
use Rattle.lease_log.proofs.applying.end_plan.Given as goal

-- the plans so far are as they are after the end
abbrev pub invariant-loop-plan : goal.invariant-loop-plan
invariant-loop-plan l =
    l.plan-items ≡ map (plan_ended l.at.0) (take l.plan-index l.fn.plans) ++ drop l.plan-index l.fn.plans

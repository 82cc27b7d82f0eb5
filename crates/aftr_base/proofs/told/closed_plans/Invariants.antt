use Rattle.std.proofs.Common.{◌≡◌, map, take}
use Rattle.aftr_base.specs.Told.{plan_closed}
use Rattle.aftr_base.proofs.told.closed_plans.Given as goal

-- the plans so far
abbrev pub invariant-loop-plan : goal.invariant-loop-plan
invariant-loop-plan l = l.rows ≡ map (plan_closed l.horizon.0) (take l.plan-index l.plans)

use Rattle.std.proofs.Common.{◌≡◌, ◌++◌, take, drop, map}
use Rattle.aftr_base.specs.Told.{plan_closed}
use Rattle.recovery.proofs.rows.end_plans.Given as goal

-- the plans so far have ended
abbrev pub invariant-loop-row : goal.invariant-loop-row
invariant-loop-row l = l.row-items ≡ map (plan_closed l.horizon.0) (take l.row-index l.fn.plans) ++ drop l.row-index l.fn.plans

use Rattle.std.proofs.Common.{◌≡◌, take}
use Rattle.xlate_core.proofs.start.copied_plans.Given as goal

-- the plans so far
abbrev pub invariant-loop-plan : goal.invariant-loop-plan
invariant-loop-plan l = l.rows ≡ take l.plan-index l.plans

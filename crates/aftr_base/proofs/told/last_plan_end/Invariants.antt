use Rattle.std.proofs.Common.{◌≡◌, max, drop}
use Rattle.aftr_base.specs.Told.{last_plan_end}
use Rattle.aftr_base.proofs.told.last_plan_end.Given as goal

-- the last so far, with that of the plans that are left
abbrev pub invariant-loop-plan : goal.invariant-loop-plan
invariant-loop-plan l = max l.last (last_plan_end (drop l.plan-index l.plans)) ≡ last_plan_end l.plans

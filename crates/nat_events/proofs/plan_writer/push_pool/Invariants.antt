use Rattle.std.proofs.Common.{◌≡◌, ◌++◌, take}
use Rattle.nat_events.specs.PlanText.{pool_text}
use Rattle.nat_events.proofs.plan_writer.push_pool.Given as goal

abbrev pub invariant-loop-prefix : goal.invariant-loop-prefix
invariant-loop-prefix l = l.out ≡ l.initial.out ++ pool_text (take l.prefix-index l.pool)

use Rattle.std.proofs.Common.{◌≡◌, ◌++◌, take}
use Rattle.nat_events.specs.PlanText.{aggregates_text}
use Rattle.nat_events.proofs.plan_writer.push_aggregates.Given as goal

abbrev pub invariant-loop-prefix : goal.invariant-loop-prefix
invariant-loop-prefix l = l.out ≡ l.initial.out ++ aggregates_text (take l.prefix-index l.aggregates)

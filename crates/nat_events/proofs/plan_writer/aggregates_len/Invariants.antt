use Rattle.std.proofs.Common.{◌≡◌, length, take}
use Rattle.nat_events.specs.PlanText.{aggregates_text}
use Rattle.nat_events.proofs.plan_writer.aggregates_len.Given as goal

abbrev pub invariant-loop-prefix : goal.invariant-loop-prefix
invariant-loop-prefix l = l.len ≡ length (aggregates_text (take l.prefix-index l.aggregates))

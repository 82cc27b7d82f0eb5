use Rattle.std.proofs.Common.{◌≡◌, ◌++◌, ◌-◌}
use Rattle.nat_events.specs.PlanText.{hex_digits}
use Rattle.nat_events.proofs.plan_writer.push_hex.Given as goal

-- the digits so far, and those to come
abbrev pub invariant-loop-k : goal.invariant-loop-k
invariant-loop-k l = l.out ++ hex_digits (l.digits - l.k) l.bits ≡ l.initial.out ++ hex_digits l.digits l.bits

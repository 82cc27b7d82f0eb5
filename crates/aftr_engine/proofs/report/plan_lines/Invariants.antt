use Rattle.std.proofs.Common.{◌≡◌, take}
use Rattle.aftr_engine.specs.report.Lines.{plan_lines}
use Rattle.aftr_engine.proofs.report.plan_lines.Given as goal

-- the lines so far
abbrev pub invariant-loop-plan : goal.invariant-loop-plan
invariant-loop-plan l = l.lines ≡ plan_lines (take l.plan-index l.plans)

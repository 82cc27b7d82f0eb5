use Rattle.std.proofs.Common.{take}
use Rattle.plant_io.specs.Uses.{sink_use}
use Rattle.aftr_engine.specs.report.Lines.{lease_lines}
use Rattle.aftr_engine.proofs.Writes.{HasWritten}
use Rattle.aftr_engine.proofs.report.write_leases.Given as goal

-- the lines so far are written
abbrev pub invariant-loop-lease : goal.invariant-loop-lease
invariant-loop-lease g l = HasWritten (lease_lines (take l.lease-index l.leases)) (sink_use g.R.Sink l.fn.report l.report)

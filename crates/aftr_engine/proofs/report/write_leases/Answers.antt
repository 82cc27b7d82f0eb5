use Rattle.std.proofs.Common.{ℕ, ◌+◌, List, ◌++◌, take, drop, get_or, Ok, sym, subst, arith}
use Rattle.plant_io.specs.Uses.{Writes, sink_use}
use Rattle.aftr_engine.specs.report.Lines.{lease_line, lease_lines}
use Rattle.aftr_engine.proofs.Lines.{no_lease, leases_next, leases_split}
use Rattle.aftr_engine.proofs.Writes.{HasWritten, first_failed, none_written, next_written}
use Rattle.aftr_engine.proofs.report.write_leases.Goals as goal

pub loop-lease-init : goal.loop-lease-init
loop-lease-init g c = none_written g.R.Sink c.args.report.now

pub loop-lease-preserved : goal.loop-lease-preserved
loop-lease-preserved g c =
    let leases = c.args.leases.now in
    let k = c.loop-lease.lease-index in
    subst (λ (text : List ℕ). HasWritten text (sink_use g.R.Sink c.args.report.now c.write_lease.new.report))
    (sym (leases_next leases k (omega arith)))
    (next_written g.R.Sink (lease_lines (take k leases))
    (lease_line (get_or leases k no_lease)) c.args.report.now c.loop-lease.report c.write_lease.new.report (Ok tt)
    c.loop-lease.invariant c.in_ok-write_lease.ensures)

pub returns-in_err-write_lease : goal.returns-in_err-write_lease
returns-in_err-write_lease g c =
    let leases = c.args.leases.now in
    let k = c.loop-lease.lease-index in
    let failed = c.from_residual.result in
    subst (λ (text : List ℕ). Writes text (sink_use g.R.Sink c.args.report.now c.write_lease.new.report) failed)
    (leases_split leases k (omega arith))
    (first_failed (lease_lines (take k leases) ++ lease_line (get_or leases k no_lease))
    (lease_lines (drop (k + 1) leases)) failed c.from_residual.ensures.0
    (next_written g.R.Sink (lease_lines (take k leases))
    (lease_line (get_or leases k no_lease)) c.args.report.now c.loop-lease.report c.write_lease.new.report _
    c.loop-lease.invariant c.in_err-write_lease.ensures))

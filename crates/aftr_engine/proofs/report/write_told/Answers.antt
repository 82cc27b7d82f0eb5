use Rattle.std.proofs.Common.{◌++◌, Ok, ◌∙◌}
use Rattle.aftr_engine.specs.report.Lines.{horizon_line, lease_lines, plan_lines}
use Rattle.aftr_engine.proofs.Writes.{first_failed, first_of_three, next_written}
use Rattle.aftr_engine.proofs.report.write_told.Goals as goal

pub returns-in_err-write_leases : goal.returns-in_err-write_leases
returns-in_err-write_leases g c =
    let told = c.args.listing.now.told in
    first_of_three (lease_lines told.leases) (plan_lines told.plans)
    (horizon_line told.horizon.0) c.from_residual.result c.from_residual.ensures.0
    (rw c.as_slice.ensures at c.in_err-write_leases.ensures)

pub returns-in_err-write_lines : goal.returns-in_err-write_lines
returns-in_err-write_lines g c =
    let told = c.args.listing.now.told in
    let plans = c.as_slice-2.ensures ∙ c.args.listing.now.made in
    first_failed (lease_lines told.leases ++ plan_lines told.plans) (horizon_line told.horizon.0) c.from_residual-in_err-write_lines.result
    c.from_residual-in_err-write_lines.ensures.0
    (next_written g.R.Sink (lease_lines told.leases) (plan_lines told.plans) c.args.report.now c.write_leases.new.report
    c.write_lines.new.report _ (rw c.as_slice.ensures at c.in_ok-write_leases.ensures) (rw plans at c.in_err-write_lines.ensures))

pub returns : goal.returns
returns g c =
    let told = c.args.listing.now.told in
    let plans = c.as_slice-2.ensures ∙ c.args.listing.now.made in
    next_written g.R.Sink (lease_lines told.leases ++ plan_lines told.plans) (horizon_line told.horizon.0) c.args.report.now
    c.write_lines.new.report c.write_horizon.new.report c.write_horizon.result
    (next_written g.R.Sink (lease_lines told.leases) (plan_lines told.plans) c.args.report.now c.write_leases.new.report
    c.write_lines.new.report (Ok tt) (rw c.as_slice.ensures at c.in_ok-write_leases.ensures) (rw plans at c.in_ok-write_lines.ensures))
    c.write_horizon.ensures

use Rattle.std.proofs.Common.{◌<◌, get_or, length, ap, arith}
use Rattle.std.proofs.lemmas.List.{get_or_default}
use Rattle.aftr_base.specs.Plan.{prefix6}
use Rattle.aftr_base.specs.Telling.{lease_told}
use Rattle.aftr_base.specs.Told.{lease_closed}
use Rattle.aftr_base.specs.Value.{ip4, moment}
use Rattle.aftr_base.specs.declared.row.LeaseRow.{LeaseRow}
use Rattle.lease_log.proofs.Mapping.{mapped_more}
use Rattle.recovery.proofs.rows.end_leases.Goals as goal

-- what a read past the end would give
abbrev no_lease : LeaseRow
no_lease = lease_told record { 0 = prefix6 0 0 } (ip4 0) 0 0 (moment 0)

pub loop-row-preserved : goal.loop-row-preserved
loop-row-preserved c =
    let items = c.loop-row.row-items in
    let i = c.loop-row.row-index in
    let within : i < length items = omega arith in
    let lt : i < length c.args.leases.now =
    omega (arith, ap length c.deref_mut-row-items.ensures.value, ap length c.into_vec-rows.ensures, ap length c.replace.ensures.value) in
    let x = get_or items i no_lease in
    mapped_more (lease_closed c.args.horizon.0) c.args.leases.now items i x c.end_lease.new.lease lt c.loop-row.invariant
    (get_or_default items i no_lease x within) c.end_lease.ensures

use Rattle.std.proofs.Common.{sym, subst}
use Rattle.aftr_base.specs.declared.event.LogEvent.{LogEvent}
use Rattle.lease_log.specs.Batch.{CanAdd}
use Rattle.recovery.proofs.Taking.{can_add_lease}
use Rattle.recovery.proofs.closing.add_lease_closing.Goals as goal

pub add-requires : goal.add-requires
add-requires c =
    subst (λ (e : LogEvent). CanAdd c.args.batch.now e) (sym c.lease_closing.ensures)
    (can_add_lease c.args.batch.now c.args.horizon c.args.lease.now c.requires.few c.requires.limits)

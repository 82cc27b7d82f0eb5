use Rattle.recovery.proofs.Taking.{IsTaking}
use Rattle.recovery.proofs.closing.add_lease_closings.Given as goal

-- the closings of the leases so far are in the batch
abbrev pub invariant-loop-at : goal.invariant-loop-at
invariant-loop-at l = IsTaking l.horizon l.leases l.fn.batch l.batch l.at

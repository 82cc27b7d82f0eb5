use Rattle.std.proofs.Common.{◌≡◌, ◌++◌, take, drop, map}
use Rattle.aftr_base.specs.Told.{lease_closed}
use Rattle.recovery.proofs.rows.end_leases.Given as goal

-- the leases so far have ended
abbrev pub invariant-loop-row : goal.invariant-loop-row
invariant-loop-row l = l.row-items ≡ map (lease_closed l.horizon.0) (take l.row-index l.fn.leases) ++ drop l.row-index l.fn.leases

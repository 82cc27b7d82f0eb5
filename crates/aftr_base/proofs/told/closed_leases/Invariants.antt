use Rattle.std.proofs.Common.{◌≡◌, map, take}
use Rattle.aftr_base.specs.Told.{lease_closed}
use Rattle.aftr_base.proofs.told.closed_leases.Given as goal

-- the leases so far
abbrev pub invariant-loop-lease : goal.invariant-loop-lease
invariant-loop-lease l = l.rows ≡ map (lease_closed l.horizon.0) (take l.lease-index l.leases)

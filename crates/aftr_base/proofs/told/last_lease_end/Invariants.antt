use Rattle.std.proofs.Common.{◌≡◌, max, drop}
use Rattle.aftr_base.specs.Told.{last_lease_end}
use Rattle.aftr_base.proofs.told.last_lease_end.Given as goal

-- the last so far, with that of the leases that are left
abbrev pub invariant-loop-lease : goal.invariant-loop-lease
invariant-loop-lease l = max l.last (last_lease_end (drop l.lease-index l.leases)) ≡ last_lease_end l.leases

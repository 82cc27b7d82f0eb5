use Rattle.std.proofs.Common.{◌≡◌, drop}
use Rattle.aftr_base.specs.Attempt.{first_some}
use Rattle.port_blocks.specs.Free.{open_of}
use Rattle.xlate_core.specs.Grant.{place_in, place_in_lease}
use Rattle.xlate_core.proofs.translator.Core.place_in_lease.Given as goal

-- no lease had a free port so far
abbrev pub invariant-loop-lease : goal.invariant-loop-lease
invariant-loop-lease l =
    first_some (place_in l.self.rows l.flow.key.proto) (open_of l.flow.who.owner (drop l.lease-index l.lease-items)) ≡ place_in_lease l.self l.flow

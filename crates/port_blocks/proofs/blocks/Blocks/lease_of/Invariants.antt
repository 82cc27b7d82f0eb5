use Rattle.std.proofs.Common.{◌≡◌, drop}
use Rattle.std.specs.Prelude.{slice_get}
use Rattle.port_blocks.specs.Free.{open_of}
use Rattle.port_blocks.proofs.blocks.Blocks.lease_of.Given as goal

-- those that were passed don't count any more
abbrev pub invariant-loop-lease : goal.invariant-loop-lease
invariant-loop-lease l =
    slice_get (open_of l.owner (drop l.lease-index l.lease-items)) l.left ≡ slice_get (open_of l.owner l.self.rows) l.fn.before

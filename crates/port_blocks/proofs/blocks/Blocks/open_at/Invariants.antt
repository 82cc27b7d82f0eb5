use Rattle.std.proofs.Common.{◌≡◌, drop}
use Rattle.std.specs.Prelude.{slice_get}
use Rattle.port_blocks.specs.Free.{all_open}
use Rattle.port_blocks.proofs.blocks.Blocks.open_at.Given as goal

-- those that were passed don't count any more
abbrev pub invariant-loop-lease : goal.invariant-loop-lease
invariant-loop-lease l =
    slice_get (all_open (drop l.lease-index l.lease-items)) l.left ≡ slice_get (all_open l.self.rows) l.fn.before

use Rattle.std.proofs.Common.{◌≡◌, ◌+◌}
use Rattle.std.specs.Prelude.{map}
use Rattle.aftr_base.specs.Attempt.{first_some}
use Rattle.aftr_base.specs.Plan.{size4}
use Rattle.aftr_base.specs.Value.{ip4}
use Rattle.port_blocks.specs.Free.{block_at, addresses_in}
use Rattle.aftr_base.proofs.Searches.{numbers}
use Rattle.port_blocks.proofs.blocks.Blocks.block_in.Given as goal

-- no address had a free block so far
abbrev pub invariant-loop-at : goal.invariant-loop-at
invariant-loop-at l =
    first_some (block_at l.config l.self.rows l.owner l.now.0) (map ip4 (numbers l.at (l.fn.prefix.bits.0 + size4 l.fn.prefix)))
    ≡ first_some (block_at l.config l.self.rows l.owner l.now.0) (addresses_in l.fn.prefix)

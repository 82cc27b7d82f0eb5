use Rattle.std.proofs.Common.{◌≡◌, drop}
use Rattle.std.specs.Prelude.{flat_map}
use Rattle.aftr_base.specs.Attempt.{first_some}
use Rattle.port_blocks.specs.Free.{block_at, addresses_in, block_anywhere}
use Rattle.port_blocks.proofs.blocks.Blocks.block_anywhere.Given as goal

-- no prefix had a free block so far
abbrev pub invariant-loop-prefix : goal.invariant-loop-prefix
invariant-loop-prefix l =
    first_some (block_at l.config l.self.rows l.owner l.now.0) (flat_map addresses_in (drop l.prefix-index l.config.pool))
    ≡ block_anywhere l.config l.self.rows l.owner l.now.0

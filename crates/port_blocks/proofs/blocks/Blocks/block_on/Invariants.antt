use Rattle.std.proofs.Common.{◌≡◌}
use Rattle.std.specs.Prelude.{find, map}
use Rattle.aftr_base.specs.Plan.{block_count}
use Rattle.port_blocks.specs.Free.{is_free, port_of, block_on}
use Rattle.aftr_base.proofs.Searches.{numbers}
use Rattle.port_blocks.proofs.blocks.Blocks.block_on.Given as goal

-- no block was free so far
abbrev pub invariant-loop-block : goal.invariant-loop-block
invariant-loop-block l =
    find (is_free l.config l.self.rows l.owner l.now.0 l.addr)
    (map (port_of l.config.block_size) (numbers l.block (block_count l.config.block_size)))
    ≡ block_on l.config l.self.rows l.owner l.now.0 l.addr

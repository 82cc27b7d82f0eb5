use Rattle.std.proofs.Common.{sym, ◌∙◌, ◌<◌, arith}
use Rattle.aftr_base.specs.Plan.{block_count}
use Rattle.port_blocks.specs.Free.{is_free, port_of}
use Rattle.aftr_base.proofs.Searches.{mapped_passed}
use Rattle.port_blocks.proofs.blocks.Blocks.block_on.Goals as goal

pub loop-block-preserved : goal.loop-block-preserved
loop-block-preserved c =
    let lt : c.loop-block.block < block_count c.args.config.now.block_size = omega arith in
    sym (mapped_passed (is_free c.args.config.now c.args.self.now.rows c.args.owner c.args.now.0 c.args.addr)
    (port_of c.args.config.now.block_size) c.loop-block.block (block_count c.args.config.now.block_size) lt (sym c.is_free.ensures
    ∙ c.if-is_free.false))
    ∙ c.loop-block.invariant

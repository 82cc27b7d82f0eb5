use Rattle.cfg_text.proofs.Facts.{facts}
use Rattle.port_blocks.proofs.blocks.Blocks.choose_on.Goals as goal

pub block_on-requires : goal.block_on-requires
block_on-requires c = (facts c.args.config.now c.requires).block_least

use Rattle.cfg_text.proofs.Facts.{facts}
use Rattle.port_blocks.proofs.blocks.Blocks.choose_anywhere.Goals as goal

pub block_anywhere-requires-clause-pool : goal.block_anywhere-requires-clause-pool
block_anywhere-requires-clause-pool c = (facts c.args.config.now c.requires).pool

pub block_anywhere-requires-clause-size : goal.block_anywhere-requires-clause-size
block_anywhere-requires-clause-size c = (facts c.args.config.now c.requires).block_least

pub block_from-requires-clause-size : goal.block_from-requires-clause-size
block_from-requires-clause-size c = (facts c.args.config.now c.requires).block_least

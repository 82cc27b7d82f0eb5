use Rattle.xlate_core.proofs.translator.Core.new_block.Goals as goal

pub choose-choice-requires : goal.choose-choice-requires
choose-choice-requires c = c.self.invariant.0

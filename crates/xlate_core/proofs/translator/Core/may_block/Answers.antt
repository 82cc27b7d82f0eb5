use Rattle.std.proofs.Common.{ap, ◌∙◌, nat_lt, length}
use Rattle.port_blocks.specs.Free.{open_of}
use Rattle.xlate_core.specs.State.{State}
use Rattle.xlate_core.proofs.Settings.{below_same, is_set}
use Rattle.xlate_core.proofs.translator.Core.may_block.Goals as goal

pub returns : goal.returns
returns c =
    let config = c.self.inside.config in
    c.may_block.ensures
    ∙ below_same c.count_of.result c.blocks_used.result.blocks config.max_blocks c.blocks_used.ensures (is_set config c.self.invariant.0).blocks
    ∙ ap (λ n. nat_lt n config.max_blocks) c.count_of.ensures
    ∙ ap (λ (s : State). nat_lt (length (open_of c.args.owner s.leases)) s.config.max_blocks) c.self.view_is

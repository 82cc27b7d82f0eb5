use Rattle.std.proofs.Common.{ap, ◌∙◌, nat_lt}
use Rattle.nat_mapping.specs.declared.search.Holding.{Holding}
use Rattle.nat_mapping.specs.Rows.{row_count}
use Rattle.xlate_core.specs.State.{State}
use Rattle.xlate_core.proofs.Settings.{below_twice, is_set}
use Rattle.xlate_core.proofs.translator.Core.may_map.Goals as goal

pub returns : goal.returns
returns c =
    let config = c.self.inside.config in
    let count = row_count c.args.owner c.args.self.now.rows in
    c.may_map.ensures
    ∙ below_twice count c.args.holding.rows c.usage_in.result.mappings config.max_mappings (ap (λ (h : Holding). h.rows) c.requires)
    c.usage_in.ensures.mappings (is_set config c.self.invariant.0).mappings
    ∙ ap (λ (s : State). nat_lt count s.config.max_mappings) c.self.view_is

use Rattle.std.proofs.Common.{ap, ◌∙◌, nat_lt}
use Rattle.nat_mapping.specs.declared.search.Holding.{Holding}
use Rattle.nat_mapping.specs.Rows.{peer_count}
use Rattle.xlate_core.specs.State.{State}
use Rattle.xlate_core.proofs.Settings.{below_twice, is_set}
use Rattle.xlate_core.proofs.translator.Core.may_peer.Goals as goal

pub returns : goal.returns
returns c =
    let config = c.self.inside.config in
    let count = peer_count c.args.owner c.args.self.now.rows in
    c.may_peer.ensures
    ∙ below_twice count c.args.holding.peers c.usage_in.result.peers config.max_peers (ap (λ (h : Holding). h.peers) c.requires)
    c.usage_in.ensures.peers (is_set config c.self.invariant.0).peers
    ∙ ap (λ (s : State). nat_lt count s.config.max_peers) c.self.view_is

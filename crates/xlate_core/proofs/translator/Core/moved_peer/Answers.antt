use Rattle.std.proofs.Common.{◌≡◌, true, Option, IfSome, sym, ◌∙◌, subst}
use Rattle.nat_mapping.specs.declared.row.Peer.{Peer}
use Rattle.nat_mapping.specs.Rows.{has_peer}
use Rattle.xlate_core.proofs.Connections.{moved_known}
use Rattle.xlate_core.proofs.translator.Core.moved_peer.Goals as goal

pub returns-clause-known : goal.returns-clause-known
returns-clause-known c =
    let peers = c.args.peers.now in
    subst (λ (o : Option Peer). IfSome o (λ (p : Peer). has_peer p peers ≡ true)) (sym c.inbound_peer.ensures)
    (moved_known c.self.inside.config c.self.inside.clock.0 c.args.arrival.now.proto c.args.arrival.now.from c.args.arrival.now.flags c.in_ok-state.state peers
    (sym c.state_inbound.ensures ∙ c.in_ok-state.was))

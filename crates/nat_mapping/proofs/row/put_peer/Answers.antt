use Rattle.std.proofs.Common.{ap, sym, ◌∙◌, ◌++◌, ◌∷◌, [], List}
use Rattle.nat_mapping.specs.declared.row.Peer.{Peer}
use Rattle.nat_mapping.proofs.Peers.{put_behind}
use Rattle.nat_mapping.proofs.row.put_peer.Goals as goal

pub returns-clause-items : goal.returns-clause-items
returns-clause-items c =
    let none = sym c.replace_peer.ensures.found ∙ c.if-replace_peer.false in
    c.in-Ok.ensures.items ∙ ap (λ (l : List Peer). l ++ c.args.peer ∷ []) c.replace_peer.ensures.put ∙ put_behind c.args.peer c.args.peers.now.items none

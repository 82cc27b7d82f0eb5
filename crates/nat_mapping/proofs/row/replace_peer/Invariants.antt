use Rattle.std.proofs.Common.{◌≡◌, length}
use Rattle.std.specs.Vec.{vec_capacity}
use Rattle.nat_mapping.proofs.Peers.{Replacing}
use Rattle.nat_mapping.proofs.row.replace_peer.Given as goal

-- the peers before this one went through
abbrev pub invariant-loop-at : goal.invariant-loop-at
invariant-loop-at l = record {
  so_far : Replacing l.peer l.at l.fn.peers.items l.peers.items l.found;
  end : l.at-end ≡ length l.fn.peers.items;
  room : vec_capacity l.peers ≡ vec_capacity l.fn.peers;
}

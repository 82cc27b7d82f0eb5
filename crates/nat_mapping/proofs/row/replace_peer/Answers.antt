use Rattle.std.proofs.Common.{◌≡◌, ℕ, ◌<◌, ◌∙◌, ◌+◌, sym, ap, subst, get_or, set, length, arith, List, Bool, true}
use Rattle.std.specs.Vec.{vec_capacity}
use Rattle.nat_mapping.specs.declared.row.Peer.{Peer}
use Rattle.nat_mapping.specs.Rows.{same_peer}
use Rattle.nat_mapping.proofs.Peers.{Replacing, replacing_hit, replacing_missed}
use Rattle.nat_mapping.proofs.row.replace_peer.Goals.{then-is_same_peer, else-is_same_peer}
use Rattle.nat_mapping.proofs.row.replace_peer.Goals as goal

so : (p : Peer) (i : ℕ) (xs ys ys' : List Peer) (met met' : Bool) → ys' ≡ ys → met' ≡ met → Replacing p i xs ys met → Replacing p i xs ys' met'
so p i xs ys ys' met met' same found h = subst (λ (l : List Peer). Replacing p i xs l met') (sym same)
    (subst (λ (b : Bool). Replacing p i xs ys b) (sym found) h)

pub loop-at-preserved : goal.loop-at-preserved
loop-at-preserved c =
    let was = c.loop-at.invariant in
    let at = c.loop-at.at in
    let d = c.index.result.now in
    let lt : at < length c.args.peers.now.items = omega (arith, was.end) in
    let test : c.is_same_peer.result ≡ same_peer c.args.peer (get_or c.loop-at.peers.items at d) =
    c.is_same_peer.ensures ∙ ap (same_peer c.args.peer) c.index.ensures in
    elim c.if-is_same_peer.branch [
      | then-is_same_peer w ↦ record {
        so_far = so c.args.peer (at + 1) c.args.peers.now.items (set c.loop-at.peers.items at c.args.peer) _ true _
            (ap (λ v. v.items) w.peers-is) w.found-is
            (replacing_hit c.args.peer at c.args.peers.now.items c.loop-at.peers.items c.loop-at.found d was.so_far lt
            (sym test ∙ w.if-is_same_peer.true));
        end = was.end;
        room = ap vec_capacity w.peers-is ∙ was.room;
      }
      | else-is_same_peer w ↦ record {
        so_far = so c.args.peer (at + 1) c.args.peers.now.items c.loop-at.peers.items _ c.loop-at.found _
            (ap (λ v. v.items) w.peers-is) w.found-is
            (replacing_missed c.args.peer at c.args.peers.now.items c.loop-at.peers.items c.loop-at.found d was.so_far lt
            (sym test ∙ w.if-is_same_peer.false));
        end = was.end;
        room = ap vec_capacity w.peers-is ∙ was.room;
      }
    ]

use Rattle.std.proofs.Common.{All, ◌≡◌, ap, sym, ◌∙◌, ◌||◌, List, map, set, arith, ℕ, subst, Bool}
use Rattle.std.specs.Prelude.{nat_lt, IsTrue}
use Rattle.nat_mapping.specs.declared.row.Row.{Row}
use Rattle.nat_mapping.specs.declared.row.Peer.{Peer}
use Rattle.nat_mapping.specs.Rows.{LastsUntil, Mappings, are_apart, has_peer, has_peer_at, mapping_of, spare_at, touched_at}
use Rattle.nat_mapping.proofs.Apart.{apart_touched}
use Rattle.nat_mapping.proofs.Deadlines.{earlier, lasts_touched}
use Rattle.nat_mapping.proofs.Touched.{its_room, other_rooms, peer_there, room_there, stands, touched_row}
use Rattle.nat_mapping.proofs.table.Table.touch.Goals as goal

pub put_peer-requires : goal.put_peer-requires
put_peer-requires c =
    let there = c.index_mut-row.result.now in
    let rows = c.self.inside.rows.items in
    let here = stands rows c.args.self.now.rows c.args.id.0 there (ap (λ (t : Mappings). t.rows) c.self.view_is) c.requires.live
    c.index_mut-row.ensures.value in
    let peer = ap (λ (t : Mappings). has_peer_at c.args.id.0 c.args.peer t.rows) (sym c.self.view_is) ∙ peer_there c.args.peer rows c.args.id.0 there here in
    let room = ap (spare_at c.args.id.0) (sym c.self.view_is) ∙ room_there rows c.args.id.0 there here in
    let P : Bool → ℕ → Type 0 = λ b n. IsTrue (b || nat_lt 0 n) in
    subst (λ n. P (has_peer c.args.peer there.peers.items) n) room (subst (λ b. P b (spare_at c.args.id.0 c.args.self.now)) peer c.requires.room)

changed : (c : goal.After-self-2-1)
    → map mapping_of (set c.self.inside.rows.items c.args.id.0 (record c.index_mut-row.result.now { peers = c.put_peer.new.peers }))
    ≡ touched_at c.args.id.0 c.args.peer (map mapping_of c.self.inside.rows.items)
changed c =
    let there = c.index_mut-row.result.now in
    let rows = c.self.inside.rows.items in
    let here = stands rows c.args.self.now.rows c.args.id.0 there (ap (λ (t : Mappings). t.rows) c.self.view_is) c.requires.live
    c.index_mut-row.ensures.value in
    touched_row c.args.peer rows c.args.id.0 there (record there { peers = c.put_peer.new.peers }) here
    (ap (λ (ps : List Peer). record (mapping_of there) { peers = ps }) c.put_peer.ensures.items)

pub invariant_of-self : goal.invariant_of-self
invariant_of-self c =
    let rows = map mapping_of c.self.inside.rows.items in
    let e = c.min.result in
    let before = earlier c.self.inside.earliest.0 e rows (omega (arith, c.min.ensures)) c.self.invariant.1 in (
      ap are_apart (changed c) ∙ apart_touched c.args.id.0 c.args.peer rows ∙ c.self.invariant.0,
      subst (All (LastsUntil e)) (sym (changed c)) (lasts_touched e c.args.id.0 c.args.peer rows (omega (arith, c.min.ensures)) before),
    )

pub returns-clause-rows : goal.returns-clause-rows
returns-clause-rows c = changed c ∙ ap (λ (t : Mappings). touched_at c.args.id.0 c.args.peer t.rows) c.self.view_is

pub returns-clause-others : goal.returns-clause-others
returns-clause-others c =
    λ k other. other_rooms c.self.inside.rows.items c.args.id.0 (record c.index_mut-row.result.now { peers = c.put_peer.new.peers }) k other
    ∙ ap (spare_at k) c.self.view_is

pub returns-clause-spare : goal.returns-clause-spare
returns-clause-spare c =
    let there = c.index_mut-row.result.now in
    let row : Row = record there { peers = c.put_peer.new.peers } in
    let rows = c.self.inside.rows.items in
    let here = stands rows c.args.self.now.rows c.args.id.0 there (ap (λ (t : Mappings). t.rows) c.self.view_is) c.requires.live
    c.index_mut-row.ensures.value in
    omega (
      arith,
      its_room rows c.args.id.0 there row here,
      room_there rows c.args.id.0 there here,
      ap (spare_at c.args.id.0) c.self.view_is,
      c.put_peer.ensures.room,
      c.put_peer.ensures.len,
    )

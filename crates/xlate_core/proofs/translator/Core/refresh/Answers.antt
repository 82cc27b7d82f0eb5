use Rattle.std.proofs.Common.{◌≡◌, List, sym, ap, ◌∙◌, subst}
use Rattle.std.specs.Prelude.{slice_get}
use Rattle.aftr_base.proofs.Founds.{some_inj}
use Rattle.nat_mapping.specs.declared.row.Peer.{Peer}
use Rattle.nat_mapping.specs.Rows.{Mapping, is_of, mapping_of, row_of, touched_at}
use Rattle.xlate_core.specs.Endpoints.{outbound_peer, state_among}
use Rattle.xlate_core.specs.Grant.{peer_of}
use Rattle.xlate_core.specs.Rows.{touched}
use Rattle.xlate_core.specs.State.{State}
use Rattle.xlate_core.specs.Valid.{AreGranted}
use Rattle.xlate_core.proofs.IdleLeases.{known_touched}
use Rattle.xlate_core.proofs.Positions.{found_row, touched_there}
use Rattle.xlate_core.proofs.ValidForwards.{next_peer}
use Rattle.xlate_core.proofs.ValidRows.{granted_touched}
use Rattle.xlate_core.proofs.translator.Core.refresh.Goals as goal

pub invariant_of-self-2 : goal.invariant_of-self-2
invariant_of-self-2 c =
    let key = c.args.flow.now.key in
    let was = c.self.inside in
    let at = c.args.id.0 in
    let p = c.peer_of-peer.result in
    let rows = c.touch.new.self.rows in
    let put : rows ≡ touched_at at p was.table.rows = c.touch.ensures.rows ∙ ap (touched_at at p) c.reserve.ensures.rows in
    let found = c.requires ∙ ap (λ (x : State). row_of key x.rows) (sym c.self.view_is) in
    let same = put ∙ touched_there (is_of key) p was.table.rows c.args.id found in (
      c.self.invariant.0,
      c.self.invariant.1,
      known_touched was.all_used was.table.rows rows was.blocks.rows at p put c.self.invariant.2,
      subst (λ (rs : List Mapping). AreGranted rs was.blocks.rows) (sym same)
          (granted_touched was.blocks.rows (is_of key) p was.table.rows c.self.invariant.3),
      c.self.invariant.4,
    )

pub returns : goal.returns
returns c =
    let f = c.args.flow.now in
    let s = c.args.self.now in
    let was = c.self.inside in
    let at = c.args.id.0 in
    let p = c.peer_of-peer.result in
    let row = mapping_of c.row.result.now in
    let (r, lt, here, there) = found_row f.key s.rows c.args.id c.requires in
    let is : r ≡ row = some_inj r row (sym here ∙ ap (λ (x : State). slice_get x.rows at) (sym c.self.view_is) ∙ c.row.ensures) in
    let known = c.state_among-known.ensures ∙ ap (state_among f.key.proto f.remote) c.deref.ensures.value
    ∙ ap (λ (m : Mapping). state_among f.key.proto f.remote m.peers) (sym is) in
    let peer : p ≡ peer_of s f =
    c.peer_of-peer.ensures ∙ ap (outbound_peer s.config s.clock f.key.proto f.remote f.flags) known ∙ next_peer s f r there in
    let put : c.touch.new.self.rows ≡ touched (is_of f.key) (peer_of s f) s.rows =
    c.touch.ensures.rows ∙ ap (touched_at at p) c.reserve.ensures.rows
    ∙ ap (λ (x : State). touched_at at p x.rows) c.self.view_is ∙ touched_there (is_of f.key) p s.rows c.args.id c.requires
    ∙ ap (λ (q : Peer). touched (is_of f.key) q s.rows) peer in
    ap (λ (x : State). let y : State = record x { rows = c.touch.new.self.rows } in y) c.self.view_is
    ∙ ap (λ (rs : List Mapping). let y : State = record s { rows = rs } in y) put

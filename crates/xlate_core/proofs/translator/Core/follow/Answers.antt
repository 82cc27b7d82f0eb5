use Rattle.std.proofs.Common.{◌≡◌, ◌||◌, Bool, true, Some, None, Option, List, refl, sym, ap, ◌∙◌, subst}
use Rattle.std.specs.Prelude.{IsTrue, nat_lt, option_and_then, slice_get}
use Rattle.nat_mapping.specs.declared.row.Peer.{Peer}
use Rattle.nat_mapping.specs.Rows.{Mapping, has_peer, is_at, mapping_of, row_at, spare_at, touched_at}
use Rattle.xlate_core.specs.Arrivals.{moved_in, moved_peer, rows_inbound}
use Rattle.xlate_core.specs.Rows.{touched}
use Rattle.xlate_core.specs.State.{State}
use Rattle.xlate_core.specs.Valid.{AreGranted}
use Rattle.xlate_core.proofs.Connections.{has_there}
use Rattle.xlate_core.proofs.IdleLeases.{known_touched}
use Rattle.xlate_core.proofs.Positions.{found_there, live_at, touched_there}
use Rattle.xlate_core.proofs.ValidRows.{granted_touched_at}
use Rattle.xlate_core.proofs.translator.Core.follow.Goals as goal

pub row-requires : goal.row-requires
row-requires c =
    let a = c.args.arrival.now in
    live_at a.proto a.to c.self.inside.table.rows c.args.id
    (c.requires ∙ ap (λ (x : State). row_at a.proto a.to x.rows) (sym c.self.view_is))

pub touch-requires-clause-live : goal.touch-requires-clause-live
touch-requires-clause-live c =
    let a = c.args.arrival.now in
    live_at a.proto a.to c.self.inside.table.rows c.args.id
    (c.requires ∙ ap (λ (x : State). row_at a.proto a.to x.rows) (sym c.self.view_is))

pub touch-requires-clause-room : goal.touch-requires-clause-room
touch-requires-clause-room c =
    let p = c.in-Some.peer in
    let row = mapping_of c.row.result.now in
    let among : has_peer p row.peers ≡ true = ap (has_peer p) (sym c.deref.ensures.value) ∙ c.in-Some.ensures.known in
    let there = has_there p c.self.inside.table.rows c.args.id.0 row c.row.ensures among in
    subst (λ (b : Bool). IsTrue (b || nat_lt 0 (spare_at c.args.id.0 c.self.inside.table))) (sym there) refl

pub invariant_of-self : goal.invariant_of-self
invariant_of-self c =
    let was = c.self.inside in
    let at = c.args.id.0 in
    let p = c.in-Some.peer in
    let put = c.touch.ensures.rows in (
      c.self.invariant.0,
      c.self.invariant.1,
      known_touched was.all_used was.table.rows c.touch.new.self.rows was.blocks.rows at p put c.self.invariant.2,
      subst (λ (rs : List Mapping). AreGranted rs was.blocks.rows) (sym put)
          (granted_touched_at was.blocks.rows at p was.table.rows c.self.invariant.3),
      c.self.invariant.4,
    )

-- nothing moves
pub returns-in_default : goal.returns-in_default
returns-in_default c =
    let s = c.args.self.now in
    let a = c.args.arrival.now in
    let here = mapping_of c.row.result.now in
    let there : slice_get s.rows c.args.id.0 ≡ Some here =
    ap (λ (x : State). slice_get x.rows c.args.id.0) (sym c.self.view_is) ∙ c.row.ensures in
    let found = found_there a.proto a.to s.rows c.args.id here c.requires there in
    let moved : moved_in s a ≡ None =
    ap (option_and_then (λ (row : Mapping). moved_peer s.config s.clock a row.peers)) (sym found)
    ∙ ap (moved_peer s.config s.clock a) (sym c.deref.ensures.value) ∙ sym c.moved_peer.ensures.moved ∙ c.in_default.is in
    ap (λ (o : Option Peer). let y : State = record s {
      rows = elim o [ None ↦ s.rows | Some q ↦ touched (is_at a.proto a.to) q s.rows ];
    } in y) (sym moved)

pub returns-in-Some : goal.returns-in-Some
returns-in-Some c =
    let s = c.args.self.now in
    let a = c.args.arrival.now in
    let at = c.args.id.0 in
    let p = c.in-Some.peer in
    let here = mapping_of c.row.result.now in
    let there : slice_get s.rows at ≡ Some here = ap (λ (x : State). slice_get x.rows at) (sym c.self.view_is) ∙ c.row.ensures in
    let found = found_there a.proto a.to s.rows c.args.id here c.requires there in
    let moved : moved_in s a ≡ Some p =
    ap (option_and_then (λ (row : Mapping). moved_peer s.config s.clock a row.peers)) (sym found)
    ∙ ap (moved_peer s.config s.clock a) (sym c.deref.ensures.value) ∙ sym c.moved_peer.ensures.moved ∙ c.in-Some.is in
    let put : c.touch.new.self.rows ≡ rows_inbound s a =
    c.touch.ensures.rows ∙ ap (λ (x : State). touched_at at p x.rows) c.self.view_is
    ∙ touched_there (is_at a.proto a.to) p s.rows c.args.id c.requires
    ∙ ap (λ (o : Option Peer). elim o [ None ↦ s.rows | Some q ↦ touched (is_at a.proto a.to) q s.rows ]) (sym moved) in
    ap (λ (x : State). let y : State = record x { rows = c.touch.new.self.rows } in y) c.self.view_is
    ∙ ap (λ (rs : List Mapping). let y : State = record s { rows = rs } in y) put

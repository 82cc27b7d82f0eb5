use Rattle.std.proofs.Common.{◌≡◌, ◌++◌, ◌∷◌, [], true, false, List, sym, ap, ◌∙◌, subst}
use Rattle.std.specs.Prelude.{option_to_list}
use Rattle.aftr_base.specs.declared.row.LeaseRow.{LeaseRow}
use Rattle.aftr_base.proofs.Founds.{found_none}
use Rattle.cfg_text.specs.Accepted.{is_accepted}
use Rattle.nat_mapping.specs.declared.row.Peer.{Peer}
use Rattle.nat_mapping.specs.Rows.{Mapping, has_key, has_place, is_of}
use Rattle.xlate_core.specs.State.{State}
use Rattle.xlate_core.specs.Expiry.{has_idle}
use Rattle.xlate_core.specs.Grant.{row_for}
use Rattle.xlate_core.specs.Valid.{AreGranted}
use Rattle.xlate_core.specs.contracts.translator.Core.{the_view}
use Rattle.xlate_core.proofs.IdleLeases.{known_opened, known_pushed, lease_used}
use Rattle.xlate_core.proofs.Positions.{unfound}
use Rattle.xlate_core.proofs.ValidForwards.{added, after, first_peer, granted_after, new_granted, new_unused, none_has}
use Rattle.xlate_core.proofs.translator.Core.add_row.Goals as goal

pub insert-requires-clause-key_unused : goal.insert-requires-clause-key_unused
insert-requires-clause-key_unused c =
    let key = c.args.flow.now.key in
    let rows = c.args.self.now.rows in
    let none = unfound key rows c.requires.row in
    ap (λ (x : State). has_key key x.rows) c.self.view_is ∙ none_has (is_of key) rows (found_none (is_of key) rows none)

pub insert-requires-clause-place_unused : goal.insert-requires-clause-place_unused
insert-requires-clause-place_unused c =
    let f = c.args.flow.now in
    let s = c.args.self.now in
    let none = unfound f.key s.rows c.requires.row in
    let ok = subst (λ (x : State). is_accepted x.config ≡ true) c.self.view_is c.self.invariant.0 in
    let all = subst (λ (x : State). AreGranted x.rows x.leases) c.self.view_is c.self.invariant.3 in
    ap (λ (x : State). has_place f.key.proto c.args.grant.now.place x.rows) c.self.view_is
    ∙ new_unused s f c.args.grant.now ok none all c.requires.grant

pub invariant_of-self-2 : goal.invariant_of-self-2
invariant_of-self-2 c =
    let f = c.args.flow.now in
    let s = c.args.self.now in
    let g = c.args.grant.now in
    let was = c.self.inside in
    let p = c.peer_of-peer.result in
    let rows = c.insert.new.self.rows in
    let leases = c.take_lease.new.blocks.rows in
    let more = option_to_list g.lease in
    let none = unfound f.key s.rows c.requires.row in
    let ok = subst (λ (x : State). is_accepted x.config ≡ true) c.self.view_is c.self.invariant.0 in
    let all = subst (λ (x : State). AreGranted x.rows x.leases) c.self.view_is c.self.invariant.3 in
    let pushed = c.in_ok-_id.ensures.row in
    let rows_are : rows ≡ s.rows ++ row_for f p g.place ∷ [] =
    pushed ∙ ap (λ (x : State). x.rows ++ row_for f p g.place ∷ []) c.self.view_is in
    let opened : leases ≡ was.blocks.rows ++ more =
    c.take_lease.ensures ∙ ap (λ (ls : List LeaseRow). ls ++ more) c.reserve_for.ensures.rows in
    let leases_are : leases ≡ after s g = opened ∙ ap (λ (x : State). x.leases ++ more) c.self.view_is in
    let peer = c.peer_of-peer.ensures ∙ first_peer s f none in
    let whole = added (the_view was) s f g rows leases c.self.view_is none
    (rows_are ∙ ap (λ (q : Peer). s.rows ++ row_for f q g.place ∷ []) peer) leases_are in
    let used : has_idle rows more ≡ false =
    ap (λ (x : State). has_idle x.rows more) whole ∙ lease_used s f g ok c.requires.grant in
    let here = new_granted s f g ok none c.requires.grant in (
      c.self.invariant.0,
      c.self.invariant.1,
      known_opened was.all_used rows was.blocks.rows leases more opened used
          (known_pushed was.all_used was.table.rows rows was.blocks.rows (row_for f p g.place) pushed c.self.invariant.2),
      subst (λ (rs : List Mapping). AreGranted rs leases) (sym rows_are)
          (subst (λ (ls : List LeaseRow). AreGranted (s.rows ++ row_for f p g.place ∷ []) ls) (sym leases_are)
          (granted_after s f g p all here)),
      c.self.invariant.4,
    )

pub returns : goal.returns
returns c =
    let f = c.args.flow.now in
    let s = c.args.self.now in
    let g = c.args.grant.now in
    let p = c.peer_of-peer.result in
    let rows = c.insert.new.self.rows in
    let leases = c.take_lease.new.blocks.rows in
    let more = option_to_list g.lease in
    let none = unfound f.key s.rows c.requires.row in
    let peer = c.peer_of-peer.ensures ∙ first_peer s f none in
    added (the_view c.self.inside) s f g rows leases c.self.view_is none
    (c.in_ok-_id.ensures.row ∙ ap (λ (x : State). x.rows ++ row_for f p g.place ∷ []) c.self.view_is
    ∙ ap (λ (q : Peer). s.rows ++ row_for f q g.place ∷ []) peer)
    (c.take_lease.ensures ∙ ap (λ (ls : List LeaseRow). ls ++ more) c.reserve_for.ensures.rows
    ∙ ap (λ (x : State). x.leases ++ more) c.self.view_is)

use Rattle.std.proofs.Common.{◌≡◌, ◌++◌, ℕ, List, Some, true, sym, ap, ◌∙◌, subst}
use Rattle.std.specs.Prelude.{slice_get}
use Rattle.std.proofs.lemmas.Result.{on_ok_weaker}
use Rattle.aftr_base.specs.declared.value.Ext.{Ext}
use Rattle.aftr_base.proofs.Founds.{some_inj}
use Rattle.cfg_text.specs.Accepted.{is_accepted}
use Rattle.nat_mapping.specs.Rows.{Mapping, mapping_of, row_of}
use Rattle.wire_ip4.specs.declared.fields.Ip4Fields.{Ip4Fields}
use Rattle.xlate_core.specs.declared.arrival.Arrival.{Arrival}
use Rattle.xlate_core.specs.declared.grant.Flow.{Flow}
use Rattle.xlate_core.specs.declared.step_out.StepOut.{StepOut}
use Rattle.xlate_core.specs.Arrivals.{arrival_of, rows_inbound}
use Rattle.xlate_core.specs.Datagram.{Datagram, datagram_bytes, hairpinned, inner_place, translated}
use Rattle.xlate_core.specs.Grant.{after_grant, granted, granted_only}
use Rattle.xlate_core.specs.Sending.{cuts_after, softwire_items}
use Rattle.xlate_core.specs.State.{State}
use Rattle.xlate_core.specs.Step.{flow_of, turned}
use Rattle.xlate_core.proofs.Sending.{passage, passed_items, passed_state, turned_so}
use Rattle.xlate_core.proofs.translator.Core.send_back.Goals as goal

pub returns : goal.returns
returns c = λ s row same there receives own grants.
    let got = c.args.admitted.now.got in
    let g = c.args.admitted.now.grant in
    let d = got.datagram in
    let out = c.args.out.now in
    let here = mapping_of c.row-row.result.now in
    let at = c.args.id.0 in
    let is : here ≡ row = some_inj here row (sym c.row-row.ensures ∙ ap (λ (x : State). slice_get x.rows at) c.self.view_is ∙ there) in
    let asked = c.flow-flow.ensures in
    let datagram = c.datagram-datagram.ensures in
    let class = d.header.fields.tos in
    let inner = datagram_bytes (hairpinned g.place (inner_place row.key) d) in
    let tos = c.fields.ensures.value ∙ ap (λ (x : Datagram). x.header.fields) datagram in
    let through = c.passage_to-passage.ensures ∙ ap (λ (f : Ip4Fields). passage (Some c.flow-flow.result.who.owner) here f.tos) tos
    ∙ ap (λ (f : Flow). passage (Some f.who.owner) here class) asked ∙ ap (λ (m : Mapping). passage (Some got.who.owner) m class) is in
    let given = c.deref.ensures.value ∙ c.in_ok-inner.ensures.bytes
    ∙ ap (λ (x : Datagram). datagram_bytes (hairpinned g.place c.inner_place.result x)) datagram
    ∙ ap (λ (e : Ext). datagram_bytes (hairpinned g.place e d)) c.inner_place.ensures
    ∙ ap (λ (m : Mapping). datagram_bytes (hairpinned g.place (inner_place m.key) d)) is in
    let kept : c.refresh_old.new.self ≡ after_grant (flow_of got) g s =
    c.in_ok-refresh_old.ensures.granted s g (same ∙ ap (λ (f : Flow). granted_only f g s) (sym asked))
    (own ∙ ap (λ (f : Flow). row_of f.key s.rows) (sym asked)) (ap (granted s) asked ∙ grants)
    ∙ ap (λ (f : Flow). after_grant f g s) asked in
    let arrives : c.arrival_from.result ≡ arrival_of (turned got g) =
    c.arrival_from.ensures ∙ ap (λ (x : Datagram). arrival_of (translated true g.place x)) datagram in
    let after = after_grant (flow_of got) g s in
    let before : State = record after { rows = rows_inbound after (arrival_of (turned got g)) } in
    let followed : c.follow.new.self ≡ before = c.follow.ensures
    ∙ ap (λ (x : State). let y : State = record x { rows = rows_inbound x c.arrival_from.result } in y) kept
    ∙ ap (λ (a : Arrival). let y : State = record after { rows = rows_inbound after a } in y) arrives in
    let done = c.in_ok-pass_in.ensures in
    let from = Some got.who.owner in
    let items = passed_items c.follow.new.self out.items c.pass_in.new.items c.deref.result.now c.passage_to-passage.result from row class inner
    through given done.items
    ∙ ap (λ (y : State). out.items ++ softwire_items y from row class inner) followed in
    let reaches = passed_state c.follow.new.self c.pass_in.new.self c.deref.result.now c.passage_to-passage.result from row class inner
    through given done.state
    ∙ ap (λ (y : State). let z : State = record y { cuts = cuts_after y row inner } in z) followed in
    let ok = subst (λ (y : State). is_accepted y.config ≡ true) followed done.accepted in
    let out' : StepOut = record { items = c.pass_in.new.items; log = c.log_opening.new.log } in
    on_ok_weaker c.log_opening.result
    (λ opened. turned_so s c.pass_in.new.self c.raise_horizon.new.self got g row out out' c.raise_horizon.new.log ok reaches
    c.in_ok-raise_horizon.ensures.state c.in_ok-raise_horizon.ensures.log items opened)
    c.log_opening.ensures

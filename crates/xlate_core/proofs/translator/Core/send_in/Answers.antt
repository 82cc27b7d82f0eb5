use Rattle.std.proofs.Common.{◌≡◌, ◌++◌, ℕ, List, true, false, None, refl, sym, ap, ◌∙◌, subst}
use Rattle.std.specs.Prelude.{slice_get}
use Rattle.aftr_base.specs.declared.value.Ext.{Ext}
use Rattle.cfg_text.specs.Accepted.{is_accepted}
use Rattle.aftr_base.proofs.Founds.{some_inj}
use Rattle.nat_mapping.specs.Rows.{Mapping, mapping_of}
use Rattle.wire_ip4.specs.declared.fields.Ip4Fields.{Ip4Fields}
use Rattle.xlate_core.specs.declared.arrival.Arrival.{Arrival}
use Rattle.xlate_core.specs.declared.step_out.StepOut.{StepOut}
use Rattle.xlate_core.specs.Arrivals.{arrival_of, rows_inbound}
use Rattle.xlate_core.specs.Datagram.{datagram_bytes, inner_place, translated}
use Rattle.xlate_core.specs.Sending.{cuts_after, softwire_items}
use Rattle.xlate_core.specs.State.{State}
use Rattle.xlate_core.specs.Step.{sent_in, with_horizon}
use Rattle.xlate_core.specs.Stepped.{HasStepped}
use Rattle.xlate_core.proofs.Leaving.{nobodys_softwire, short_softwire}
use Rattle.xlate_core.proofs.Sending.{passage, passed_items, passed_state, plain_so}
use Rattle.xlate_core.proofs.translator.Core.send_in.Goals as goal

pub returns : goal.returns
returns c = λ row there.
    let s = c.args.self.now in
    let done = c.in_ok-pass_in.ensures in
    let d = c.args.admitted.now.datagram in
    let out = c.args.out.now in
    let here = mapping_of c.row-row.result.now in
    let at = c.args.admitted.now.row.0 in
    let is : row ≡ here =
    some_inj row here (sym there ∙ ap (λ (x : State). slice_get x.rows at) (sym c.self.view_is) ∙ c.row-row.ensures) in
    let class = d.header.fields.tos in
    let inner = datagram_bytes (translated false (inner_place here.key) d) in
    let through = c.passage_to-passage.ensures ∙ ap (λ (f : Ip4Fields). passage None here f.tos) c.fields.ensures.value in
    let given = c.deref.ensures.value ∙ c.in_ok-inner.ensures.bytes
    ∙ ap (λ (e : Ext). datagram_bytes (translated false e d)) c.inner_place.ensures in
    let before : State = record s { rows = rows_inbound s (arrival_of d) } in
    let followed : c.follow.new.self ≡ before =
    c.follow.ensures ∙ ap (λ (a : Arrival). let y : State = record s { rows = rows_inbound s a } in y) c.arrival.ensures in
    let items = passed_items c.follow.new.self out.items c.pass_in.new.items c.deref.result.now c.passage_to-passage.result None here class inner
    through given done.items
    ∙ ap (λ (y : State). out.items ++ softwire_items y None here class inner) followed in
    let reaches = passed_state c.follow.new.self c.pass_in.new.self c.deref.result.now c.passage_to-passage.result None here class inner
    through given done.state
    ∙ ap (λ (y : State). let z : State = record y { cuts = cuts_after y here inner } in z) followed in
    let ok = subst (λ (y : State). is_accepted y.config ≡ true) followed done.accepted in
    let out' : StepOut = record { items = c.pass_in.new.items; log = out.log } in
    subst (λ (m : Mapping). HasStepped (with_horizon (sent_in s d m)) out c.pass_in.new.self out' None) (sym is)
    (plain_so (sent_in s d here).state c.pass_in.new.self (softwire_items s None here class inner) out out' (nobodys_softwire s here class inner)
    (short_softwire s None here class inner ok) reaches items refl)

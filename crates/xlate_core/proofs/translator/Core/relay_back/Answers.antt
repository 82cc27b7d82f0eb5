use Rattle.std.proofs.Common.{◌≡◌, ◌++◌, ℕ, List, [], Option, Some, None, Result, true, false, sym, ap, ap₂, ◌∙◌, subst, append-nil}
use Rattle.std.specs.Prelude.{Ok, slice_get}
use Rattle.aftr_base.specs.declared.event.DropCause.{DropCause}
use Rattle.aftr_base.specs.declared.value.Ext.{Ext}
use Rattle.aftr_base.specs.declared.value.Proto.{Proto}
use Rattle.aftr_base.specs.declared.value.Subscriber.{Subscriber}
use Rattle.aftr_base.proofs.Founds.{some_inj}
use Rattle.icmp_xlate.specs.Errors.{error_bytes, error_place, error_proto, forwarded_error, turned_error}
use Rattle.nat_mapping.specs.Rows.{Mapping, mapping_of}
use Rattle.wire_ip4.specs.declared.fields.Ip4Fields.{Ip4Fields}
use Rattle.xlate_core.specs.declared.step_out.StepOut.{StepOut}
use Rattle.xlate_core.specs.Datagram.{inner_place}
use Rattle.xlate_core.specs.Errors.{error_in}
use Rattle.xlate_core.specs.Rows.{find_in}
use Rattle.xlate_core.specs.Sending.{Sending}
use Rattle.xlate_core.specs.State.{State}
use Rattle.xlate_core.specs.Step.{relayed, relayed_if, with_horizon}
use Rattle.xlate_core.specs.Stepped.{HasStepped}
use Rattle.xlate_core.proofs.Leaving.{owned_softwire, short_softwire}
use Rattle.xlate_core.proofs.Relaying.{back_from, turns_back}
use Rattle.xlate_core.proofs.Sending.{passage, passed_items, passed_state, raised_so}
use Rattle.xlate_core.proofs.translator.Core.relay_back.Goals as goal

pub returns : goal.returns
returns c = λ who sender whose ext.
    let s = c.args.self.now in
    let e = c.args.error.now in
    let out = c.args.out.now in
    let owner = c.args.origin.owner in
    let src = c.args.origin.place in
    let here = mapping_of c.row-row.result.now in
    let at = c.in-Some.id.0 in
    let (row, there, found) = c.in-Some.ensures.row in
    let is : row ≡ here =
    some_inj row here (sym there ∙ ap (λ (x : State). slice_get x.rows at) (sym c.self.view_is) ∙ c.row-row.ensures) in
    let finds = ap₂ (λ (p : Proto) (to : Ext). find_in p to s.rows) (sym c.proto.ensures) (sym c.place_from.ensures) ∙ found ∙ ap Some is in
    let class = e.header.fields.tos in
    let turned = turned_error src (inner_place here.key) e in
    let inner = error_bytes turned in
    let from = Some owner in
    let through = c.passage_to-passage.ensures ∙ ap (λ (f : Ip4Fields). passage from here f.tos) c.fields.ensures.value in
    let given = c.deref.ensures.value ∙ c.in_ok-inner.ensures.bytes
    ∙ ap (λ (x : Ext). error_bytes (turned_error src x e)) c.inner_place.ensures in
    let done = c.in_ok-pass_in.ensures in
    let items = passed_items s out.items c.pass_in.new.items c.deref.result.now c.passage_to-passage.result from here class inner through given done.items in
    let reaches = passed_state s c.pass_in.new.self c.deref.result.now c.passage_to-passage.result from here class inner through given done.state in
    let out' : StepOut = record { items = c.pass_in.new.items; log = c.raise_horizon.new.log } in
    let sent = error_in s from here turned in
    let after = c.raise_horizon.new.self in
    let stepped = subst (λ (r : Result Sending DropCause). HasStepped (with_horizon (relayed_if s r)) out after out' None) (sym (turns_back s owner src e here finds))
    (raised_so (relayed s sent).state c.pass_in.new.self after sent.items [] c.raise_horizon.new.log out out' (owned_softwire s owner here class inner done.accepted)
    (short_softwire s from here class inner done.accepted) reaches c.in_ok-raise_horizon.ensures.state c.in_ok-raise_horizon.ensures.log items
    (sym (append-nil c.raise_horizon.new.log))) in
    subst (λ (o : Subscriber). HasStepped (with_horizon (relayed_if s (back_from s o sender.ext e))) out after out' None) (sym whose)
    (subst (λ (x : Ext). HasStepped (with_horizon (relayed_if s (back_from s owner x e))) out after out' None) (sym ext) stepped)

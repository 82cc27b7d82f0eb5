use Rattle.std.proofs.Common.{◌≡◌, ◌++◌, ℕ, List, Option, Some, None, Result, true, false, refl, sym, ap, ap₂, ◌∙◌, subst}
use Rattle.std.specs.Prelude.{Ok, slice_get}
use Rattle.aftr_base.specs.declared.event.DropCause.{DropCause}
use Rattle.aftr_base.specs.declared.value.Ext.{Ext}
use Rattle.aftr_base.specs.declared.value.Proto.{Proto}
use Rattle.aftr_base.proofs.Founds.{some_inj}
use Rattle.icmp_xlate.specs.Errors.{error_bytes, error_place, error_proto, forwarded_error}
use Rattle.nat_mapping.specs.Rows.{Mapping, mapping_of}
use Rattle.wire_ip4.specs.declared.fields.Ip4Fields.{Ip4Fields}
use Rattle.xlate_core.specs.declared.step_out.StepOut.{StepOut}
use Rattle.xlate_core.specs.Datagram.{inner_place}
use Rattle.xlate_core.specs.Errors.{error_from_public, error_in}
use Rattle.xlate_core.specs.Rows.{find_in}
use Rattle.xlate_core.specs.Sending.{Sending}
use Rattle.xlate_core.specs.State.{State}
use Rattle.xlate_core.specs.Step.{relayed, relayed_if, with_horizon}
use Rattle.xlate_core.specs.Stepped.{HasStepped}
use Rattle.xlate_core.proofs.Leaving.{nobodys_softwire, short_softwire}
use Rattle.xlate_core.proofs.Relaying.{goes_in}
use Rattle.xlate_core.proofs.Sending.{passage, passed_items, passed_state, plain_so}
use Rattle.xlate_core.proofs.translator.Core.relay_from_public.Goals as goal

pub returns : goal.returns
returns c =
    let s = c.args.self.now in
    let e = c.args.error.now in
    let out = c.args.out.now in
    let here = mapping_of c.row-row.result.now in
    let at = c.in-Some.id.0 in
    let (row, there, found) = c.in-Some.ensures.row in
    let is : row ≡ here =
    some_inj row here (sym there ∙ ap (λ (x : State). slice_get x.rows at) (sym c.self.view_is) ∙ c.row-row.ensures) in
    let finds = ap₂ (λ (p : Proto) (to : Ext). find_in p to s.rows) (sym c.proto.ensures) (sym c.place.ensures) ∙ found ∙ ap Some is in
    let class = e.header.fields.tos in
    let inner = error_bytes (forwarded_error false (inner_place here.key) e) in
    let through = c.passage_to-passage.ensures ∙ ap (λ (f : Ip4Fields). passage None here f.tos) c.fields.ensures.value in
    let given = c.deref.ensures.value ∙ c.in_ok-inner.ensures.bytes
    ∙ ap (λ (x : Ext). error_bytes (forwarded_error false x e)) c.inner_place.ensures in
    let done = c.in_ok-pass_in.ensures in
    let items = passed_items s out.items c.pass_in.new.items c.deref.result.now c.passage_to-passage.result None here class inner through given done.items in
    let reaches = passed_state s c.pass_in.new.self c.deref.result.now c.passage_to-passage.result None here class inner through given done.state in
    let out' : StepOut = record { items = c.pass_in.new.items; log = out.log } in
    let sent = error_in s None here (forwarded_error false (inner_place here.key) e) in
    subst (λ (r : Result Sending DropCause). HasStepped (with_horizon (relayed_if s r)) out c.pass_in.new.self out' None) (sym (goes_in s e here finds))
    (plain_so (relayed s sent).state c.pass_in.new.self sent.items out out' (nobodys_softwire s here class inner)
    (short_softwire s None here class inner done.accepted) reaches items refl)

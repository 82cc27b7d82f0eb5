use Rattle.std.proofs.Common.{◌≡◌, ◌++◌, ◌-◌, ℕ, List, [], Some, None, true, map, refl, sym, ap, ◌∙◌, subst, append-nil}
use Rattle.aftr_base.specs.declared.value.Ext.{Ext}
use Rattle.aftr_base.specs.declared.value.Side.TheVariants.{Public as PublicSide}
use Rattle.aftr_base.specs.declared.value.Subscriber.{Subscriber}
use Rattle.icmp_xlate.specs.Errors.{forwarded_error}
use Rattle.wire_icmp.specs.Quoted.{report_bytes}
use Rattle.wire_ip4.specs.declared.fields.Ip4Fields.{Ip4Fields}
use Rattle.xlate_core.specs.declared.step_out.StepOut.{StepOut}
use Rattle.xlate_core.specs.Sending.{public_items, to_public}
use Rattle.xlate_core.specs.State.{State, item}
use Rattle.xlate_core.specs.Step.{relayed, with_horizon}
use Rattle.xlate_core.specs.Stepped.{AreShort, HasStepped}
use Rattle.xlate_core.proofs.Leaving.{owned_public, short_items}
use Rattle.xlate_core.proofs.Relaying.{out_from}
use Rattle.xlate_core.proofs.Sending.{raised_so}
use Rattle.xlate_core.proofs.translator.Core.relay_out.Goals as goal

-- what has been written is the error as it leaves
pub cut_for_public-requires-clause-packet : goal.cut_for_public-requires-clause-packet
cut_for_public-requires-clause-packet c =
    let src = c.args.origin.place in
    let sent = forwarded_error true src c.args.error.now in (
      sent.header,
      report_bytes sent.report,
      sym (c.fields_from-fields.ensures
          ∙ ap (λ (f : Ip4Fields). let g : Ip4Fields = record f { ttl = f.ttl - 1; src = src.addr } in g) c.fields.ensures.value),
      c.fields.ensures.bare,
      c.deref.ensures.value ∙ c.in_ok-bytes.ensures.bytes,
    )

pub returns : goal.returns
returns c =
    let s = c.args.self.now in
    let e = c.args.error.now in
    let out = c.args.out.now in
    let owner = c.args.origin.owner in
    let src = c.args.origin.place in
    let sent = forwarded_error true src e in
    let payload = report_bytes sent.report in
    let fields = c.fields_from-fields.ensures
    ∙ ap (λ (f : Ip4Fields). let g : Ip4Fields = record f { ttl = f.ttl - 1; src = src.addr } in g) c.fields.ensures.value in
    let cut = c.in_ok-packets.ensures.packets sent.header payload (sym fields) c.fields.ensures.bare
    (c.deref.ensures.value ∙ c.in_ok-bytes.ensures.bytes) in
    let ok = c.in_ok-packets.ensures.accepted in
    let items = c.in_ok-emit.ensures ∙ ap (λ (l : List (List ℕ)). out.items ++ map (item s PublicSide (Some owner)) l) cut in
    let short = subst (λ (l : List (List ℕ)). AreShort (map (item s PublicSide (Some owner)) l)) cut
    (short_items s PublicSide (Some owner) c.in_ok-packets.packets c.in_ok-packets.ensures.short) in
    let after = c.raise_horizon.new.self in
    let out' : StepOut = record { items = c.emit.new.items; log = c.raise_horizon.new.log } in
    λ who row whose ext.
    let stepped = raised_so s s after (public_items s owner sent.header payload) [] c.raise_horizon.new.log out out'
    (owned_public s owner sent.header payload ok) short refl c.in_ok-raise_horizon.ensures.state c.in_ok-raise_horizon.ensures.log items (sym (append-nil c.raise_horizon.new.log)) in
    subst (λ (o : Subscriber). HasStepped (with_horizon (relayed s (out_from s o row.ext e))) out after out' None) (sym whose)
    (subst (λ (x : Ext). HasStepped (with_horizon (relayed s (out_from s owner x e))) out after out' None) (sym ext) stepped)

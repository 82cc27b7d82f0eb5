use Rattle.std.proofs.Common.{◌≡◌, ◌-◌, true, List, ℕ, ap, ◌∙◌, sym, arith}
use Rattle.std.proofs.lemmas.Result.{IfOk-weaker}
use Rattle.wire_ip4.specs.declared.fields.Ip4Fields.{Ip4Fields}
use Rattle.wire_l4.specs.Grammar.{transport_bytes}
use Rattle.xlate_core.specs.Datagram.{Datagram, datagram_bytes, translated}
use Rattle.xlate_core.specs.Step.{turned}
use Rattle.xlate_core.proofs.translator.Core.cut_out.Goals as goal

pub fields_from-requires : goal.fields_from-requires
fields_from-requires c = omega (arith, c.fields.ensures.alive, ap (λ (f : Ip4Fields). f.ttl) c.fields.ensures.value)

-- what has been written is the datagram as it leaves
pub cut_for_public-requires-clause-packet : goal.cut_for_public-requires-clause-packet
cut_for_public-requires-clause-packet c =
    let d = c.args.admitted.now.got.datagram in
    let sent = turned c.args.admitted.now.got c.args.admitted.now.grant in
    let src = c.args.admitted.now.grant.place in
    let is = c.datagram-datagram.ensures in
    let fields = c.fields.ensures.value ∙ ap (λ (x : Datagram). x.header.fields) is in (
      sent.header,
      transport_bytes sent.body,
      sym (c.fields_from.ensures ∙ ap (λ (f : Ip4Fields). let g : Ip4Fields = record f { ttl = f.ttl - 1; src = src.addr } in g) fields),
      sym (ap (λ (x : Datagram). x.header.options) is) ∙ c.fields.ensures.bare,
      c.deref.ensures.value ∙ c.in_ok-bytes.ensures.bytes ∙ ap (λ (x : Datagram). datagram_bytes (translated true src x)) is,
    )

pub returns-clause-packets : goal.returns-clause-packets
returns-clause-packets c =
    let d = c.args.admitted.now.got.datagram in
    let sent = turned c.args.admitted.now.got c.args.admitted.now.grant in
    let src = c.args.admitted.now.grant.place in
    let is = c.datagram-datagram.ensures in
    let fields = c.fields.ensures.value ∙ ap (λ (x : Datagram). x.header.fields) is in
    let left = sym (c.fields_from.ensures ∙ ap (λ (f : Ip4Fields). let g : Ip4Fields = record f { ttl = f.ttl - 1; src = src.addr } in g) fields) in
    let bare = sym (ap (λ (x : Datagram). x.header.options) is) ∙ c.fields.ensures.bare in
    let written = c.deref.ensures.value ∙ c.in_ok-bytes.ensures.bytes ∙ ap (λ (x : Datagram). datagram_bytes (translated true src x)) is in
    IfOk-weaker c.cut_for_public.result _ _ (λ (packets : List (List ℕ)) cut. cut sent.header (transport_bytes sent.body) left bare written)
    c.cut_for_public.ensures.packets

use Rattle.std.proofs.Common.{◌≡◌, ◌++◌, ℕ, List, length, take, drop, sym, ap, ◌∙◌, subst, arith}
use Rattle.aftr_base.specs.declared.value.Ext.{Ext}
use Rattle.wire_ip4.specs.Forwarded.{forwarded}
use Rattle.wire_l4.specs.Grammar.{Transport, transport_in}
use Rattle.wire_l4.specs.Places.{port_at}
use Rattle.xlate_core.specs.Datagram.{Datagram, datagram_bytes, place_on, translated}
use Rattle.xlate_core.proofs.Datagrams.{made_of, whole_len, transport_there, written, all_written}
use Rattle.xlate_core.proofs.packet.Datagram.translated.Goals as goal

pub set_behind-requires-clause-whole : goal.set_behind-requires-clause-whole
set_behind-requires-clause-whole c =
    let h = forwarded c.args.source c.args.new.addr c.self.inside.packet.0 in
    let so = made_of h c.self.inside.packet.1 c.deref_mut.result.now c.in_ok-bytes.bytes.items c.as_slice.result.now c.payload.result.now
    c.deref_mut.ensures.value c.in_ok-bytes.ensures (c.as_slice.ensures.value ∙ c.write_forwarded.ensures.bytes) c.payload.ensures in
    omega (arith, whole_len h c.self.inside.packet.1 c.deref_mut.result.now c.self.invariant.bare so, c.self.invariant.whole)

pub set_behind-requires-clause-there : goal.set_behind-requires-clause-there
set_behind-requires-clause-there c =
    let h = forwarded c.args.source c.args.new.addr c.self.inside.packet.0 in
    let so = made_of h c.self.inside.packet.1 c.deref_mut.result.now c.in_ok-bytes.bytes.items c.as_slice.result.now c.payload.result.now
    c.deref_mut.ensures.value c.in_ok-bytes.ensures (c.as_slice.ensures.value ∙ c.write_forwarded.ensures.bytes) c.payload.ensures in
    ap (λ (t : Transport). port_at c.args.source t)
    (transport_there h c.self.inside.packet.1 c.deref_mut.result.now c.self.inside.proto c.self.invariant.bare so)
    ∙ ap (λ (d : Datagram). (place_on c.args.source d).port) c.self.view_is ∙ sym (ap (λ (e : Ext). e.port) c.place.ensures)

pub returns-clause-bytes : goal.returns-clause-bytes
returns-clause-bytes c =
    let h = forwarded c.args.source c.args.new.addr c.self.inside.packet.0 in
    let so = made_of h c.self.inside.packet.1 c.deref_mut.result.now c.in_ok-bytes.bytes.items c.as_slice.result.now c.payload.result.now
    c.deref_mut.ensures.value c.in_ok-bytes.ensures (c.as_slice.ensures.value ∙ c.write_forwarded.ensures.bytes) c.payload.ensures in
    let d : Datagram = record { header = c.self.inside.packet.0; body = transport_in c.self.inside.proto c.self.inside.packet.1 } in
    let len : c.in_ok-bytes.bytes.len ≡ length c.set_behind.new.bytes = sym (c.set_behind.auto.bytes ∙ c.deref_mut.ensures.len) in
    subst (λ (x : Datagram). take c.in_ok-bytes.bytes.len
    (c.set_behind.new.bytes ++ drop (length c.set_behind.new.bytes) c.in_ok-bytes.bytes.items) ≡ datagram_bytes
    (translated c.args.source c.args.new x)) c.self.view_is
    (ap (λ (l : List ℕ). take c.in_ok-bytes.bytes.len (c.set_behind.new.bytes ++ drop (length c.set_behind.new.bytes) l))
    (sym c.deref_mut.ensures.value)
    ∙ written h c.self.inside.packet.1 c.deref_mut.result.now c.set_behind.new.bytes c.in_ok-bytes.bytes.len c.self.inside.proto
    c.args.source c.place.result (place_on c.args.source d) c.args.new
    c.self.invariant.bare so (c.place.ensures ∙ ap (place_on c.args.source) (sym c.self.view_is)) c.set_behind.ensures.value len)

pub returns-clause-total : goal.returns-clause-total
returns-clause-total c =
    let h = forwarded c.args.source c.args.new.addr c.self.inside.packet.0 in
    let so = made_of h c.self.inside.packet.1 c.deref_mut.result.now c.in_ok-bytes.bytes.items c.as_slice.result.now c.payload.result.now
    c.deref_mut.ensures.value c.in_ok-bytes.ensures (c.as_slice.ensures.value ∙ c.write_forwarded.ensures.bytes) c.payload.ensures in
    let len : c.in_ok-bytes.bytes.len ≡ length c.set_behind.new.bytes = sym (c.set_behind.auto.bytes ∙ c.deref_mut.ensures.len) in
    ap (λ (l : List ℕ). length l) (all_written c.in_ok-bytes.bytes.len c.set_behind.new.bytes c.in_ok-bytes.bytes.items len)
    ∙ c.set_behind.auto.bytes ∙ whole_len h c.self.inside.packet.1 c.deref_mut.result.now c.self.invariant.bare so
    ∙ sym c.self.invariant.total ∙ ap (λ (d : Datagram). d.header.fields.total) c.self.view_is

pub returns-clause-short : goal.returns-clause-short
returns-clause-short c =
    let h = forwarded c.args.source c.args.new.addr c.self.inside.packet.0 in
    let so = made_of h c.self.inside.packet.1 c.deref_mut.result.now c.in_ok-bytes.bytes.items c.as_slice.result.now c.payload.result.now
    c.deref_mut.ensures.value c.in_ok-bytes.ensures (c.as_slice.ensures.value ∙ c.write_forwarded.ensures.bytes) c.payload.ensures in
    let len : c.in_ok-bytes.bytes.len ≡ length c.set_behind.new.bytes = sym (c.set_behind.auto.bytes ∙ c.deref_mut.ensures.len) in
    let whole = ap (λ (l : List ℕ). length l) (all_written c.in_ok-bytes.bytes.len c.set_behind.new.bytes c.in_ok-bytes.bytes.items len)
    ∙ c.set_behind.auto.bytes ∙ whole_len h c.self.inside.packet.1 c.deref_mut.result.now c.self.invariant.bare so in
    omega (arith, whole, c.self.invariant.total, c.self.invariant.short)

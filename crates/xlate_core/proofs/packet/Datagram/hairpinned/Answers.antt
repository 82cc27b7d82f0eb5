use Rattle.std.proofs.Common.{◌≡◌, true, Ok, ℕ, List, length, drop, sym, ap, ◌∙◌, subst, arith}
use Rattle.aftr_base.specs.declared.value.Ext.{Ext}
use Rattle.aftr_base.specs.declared.value.Proto.{Proto}
use Rattle.wire_ip4.specs.Forwarded.{hairpinned as turned_header}
use Rattle.wire_l4.specs.Grammar.{header_len, transport_in, transport_of}
use Rattle.wire_l4.specs.Places.{port_at}
use Rattle.xlate_core.specs.declared.arrival.Arrival.{Arrival}
use Rattle.xlate_core.specs.Arrivals.{arrival_of}
use Rattle.xlate_core.specs.Datagram.{Datagram, datagram_bytes, hairpinned, place_on, translated}
use Rattle.xlate_core.proofs.Arriving.{datagram_in, destination_there, turned_proto, written_back}
use Rattle.xlate_core.proofs.Datagrams.{all_written, behind_is, made_of, whole_len}
use Rattle.xlate_core.proofs.packet.Datagram.hairpinned.Goals as goal

pub set_both_behind-requires-clause-whole : goal.set_both_behind-requires-clause-whole
set_both_behind-requires-clause-whole c =
    let h = c.self.inside.packet.0 in
    let payload = c.self.inside.packet.1 in
    let src = c.args.src in
    let d = datagram_in h c.self.inside.proto payload in
    let written = turned_header src.addr c.args.dst.addr h in
    let so = made_of written payload c.deref_mut.result.now c.in_ok-bytes.bytes.items c.as_slice.result.now c.payload.result.now
    c.deref_mut.ensures.value c.in_ok-bytes.ensures (c.as_slice.ensures.value ∙ c.write_hairpinned.ensures.bytes) c.payload.ensures in
    let is = c.arrival_from.ensures ∙ ap (λ (x : Datagram). arrival_of (translated true src x)) (sym c.self.view_is) in
    let known = ap (λ (a : Arrival). a.proto) is ∙ turned_proto c.self.inside.proto payload (place_on true d) src in
    omega (arith, whole_len written payload c.deref_mut.result.now c.self.invariant.bare so, c.self.invariant.whole, ap header_len known)

pub set_both_behind-requires-clause-read : goal.set_both_behind-requires-clause-read
set_both_behind-requires-clause-read c =
    let h = c.self.inside.packet.0 in
    let payload = c.self.inside.packet.1 in
    let src = c.args.src in
    let bytes = c.deref_mut.result.now in
    let proto = c.self.inside.proto in
    let d = datagram_in h proto payload in
    let written = turned_header src.addr c.args.dst.addr h in
    let so = made_of written payload bytes c.in_ok-bytes.bytes.items c.as_slice.result.now c.payload.result.now
    c.deref_mut.ensures.value c.in_ok-bytes.ensures (c.as_slice.ensures.value ∙ c.write_hairpinned.ensures.bytes) c.payload.ensures in
    let is = c.arrival_from.ensures ∙ ap (λ (x : Datagram). arrival_of (translated true src x)) (sym c.self.view_is) in
    let known = ap (λ (a : Arrival). a.proto) is ∙ turned_proto proto payload (place_on true d) src in
    let behind = behind_is written payload bytes c.self.invariant.bare so in
    subst (λ (p : Proto). transport_of p (drop 20 bytes) ≡ Ok (transport_in p (drop 20 bytes))) (sym known)
    (subst (λ (l : List ℕ). transport_of proto l ≡ Ok (transport_in proto l)) (sym behind) c.self.invariant.sound)

pub set_both_behind-requires-clause-source : goal.set_both_behind-requires-clause-source
set_both_behind-requires-clause-source c =
    let h = c.self.inside.packet.0 in
    let payload = c.self.inside.packet.1 in
    let src = c.args.src in
    let bytes = c.deref_mut.result.now in
    let proto = c.self.inside.proto in
    let d = datagram_in h proto payload in
    let written = turned_header src.addr c.args.dst.addr h in
    let so = made_of written payload bytes c.in_ok-bytes.bytes.items c.as_slice.result.now c.payload.result.now
    c.deref_mut.ensures.value c.in_ok-bytes.ensures (c.as_slice.ensures.value ∙ c.write_hairpinned.ensures.bytes) c.payload.ensures in
    let is = c.arrival_from.ensures ∙ ap (λ (x : Datagram). arrival_of (translated true src x)) (sym c.self.view_is) in
    let known = ap (λ (a : Arrival). a.proto) is ∙ turned_proto proto payload (place_on true d) src in
    let behind = behind_is written payload bytes c.self.invariant.bare so in
    ap (λ (p : Proto). port_at true (transport_in p (drop 20 bytes))) known
    ∙ ap (λ (l : List ℕ). port_at true (transport_in proto l)) behind
    ∙ ap (λ (x : Datagram). (place_on true x).port) c.self.view_is ∙ sym (ap (λ (e : Ext). e.port) c.place.ensures)

pub set_both_behind-requires-clause-destination : goal.set_both_behind-requires-clause-destination
set_both_behind-requires-clause-destination c =
    let h = c.self.inside.packet.0 in
    let payload = c.self.inside.packet.1 in
    let src = c.args.src in
    let bytes = c.deref_mut.result.now in
    let written = turned_header src.addr c.args.dst.addr h in
    let so = made_of written payload bytes c.in_ok-bytes.bytes.items c.as_slice.result.now c.payload.result.now
    c.deref_mut.ensures.value c.in_ok-bytes.ensures (c.as_slice.ensures.value ∙ c.write_hairpinned.ensures.bytes) c.payload.ensures in
    destination_there h c.self.inside.proto payload bytes src c.place.result c.arrival_from.result
    (behind_is written payload bytes c.self.invariant.bare so) (c.place.ensures ∙ ap (place_on true) (sym c.self.view_is))
    (c.arrival_from.ensures ∙ ap (λ (x : Datagram). arrival_of (translated true src x)) (sym c.self.view_is))

pub returns-clause-bytes : goal.returns-clause-bytes
returns-clause-bytes c =
    let h = c.self.inside.packet.0 in
    let payload = c.self.inside.packet.1 in
    let src = c.args.src in
    let dst = c.args.dst in
    let bytes = c.deref_mut.result.now in
    let made = c.set_both_behind.new.bytes in
    let written = turned_header src.addr dst.addr h in
    let so = made_of written payload bytes c.in_ok-bytes.bytes.items c.as_slice.result.now c.payload.result.now
    c.deref_mut.ensures.value c.in_ok-bytes.ensures (c.as_slice.ensures.value ∙ c.write_hairpinned.ensures.bytes) c.payload.ensures in
    let len : c.in_ok-bytes.bytes.len ≡ length made = sym (c.set_both_behind.auto.bytes ∙ c.deref_mut.ensures.len) in
    all_written c.in_ok-bytes.bytes.len made c.in_ok-bytes.bytes.items len ∙ c.set_both_behind.ensures
    ∙ written_back h written c.self.inside.proto payload bytes src dst c.place.result c.arrival_from.result c.self.invariant.bare so
    (c.place.ensures ∙ ap (place_on true) (sym c.self.view_is))
    (c.arrival_from.ensures ∙ ap (λ (x : Datagram). arrival_of (translated true src x)) (sym c.self.view_is))
    ∙ ap (λ (x : Datagram). datagram_bytes (hairpinned src dst x)) c.self.view_is

pub returns-clause-total : goal.returns-clause-total
returns-clause-total c =
    let h = c.self.inside.packet.0 in
    let payload = c.self.inside.packet.1 in
    let bytes = c.deref_mut.result.now in
    let made = c.set_both_behind.new.bytes in
    let written = turned_header c.args.src.addr c.args.dst.addr h in
    let so = made_of written payload bytes c.in_ok-bytes.bytes.items c.as_slice.result.now c.payload.result.now
    c.deref_mut.ensures.value c.in_ok-bytes.ensures (c.as_slice.ensures.value ∙ c.write_hairpinned.ensures.bytes) c.payload.ensures in
    let len : c.in_ok-bytes.bytes.len ≡ length made = sym (c.set_both_behind.auto.bytes ∙ c.deref_mut.ensures.len) in
    ap (λ (l : List ℕ). length l) (all_written c.in_ok-bytes.bytes.len made c.in_ok-bytes.bytes.items len)
    ∙ c.set_both_behind.auto.bytes ∙ whole_len written payload bytes c.self.invariant.bare so
    ∙ sym c.self.invariant.total ∙ ap (λ (d : Datagram). d.header.fields.total) c.self.view_is

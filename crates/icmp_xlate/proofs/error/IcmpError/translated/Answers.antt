use Rattle.std.proofs.Common.{◌≡◌, ◌++◌, not, ℕ, List, length, sym, ap, ◌∙◌}
use Rattle.wire_ip4.specs.Forwarded.{forwarded}
use Rattle.wire_ip4.specs.Grammar.{header_bytes}
use Rattle.wire_icmp.specs.Quoted.{report_bytes}
use Rattle.icmp_xlate.specs.Errors.{ErrorPacket}
use Rattle.icmp_xlate.specs.Translated.{translated}
use Rattle.icmp_xlate.proofs.ErrorPackets.{all_written, put_together}
use Rattle.icmp_xlate.proofs.error.IcmpError.translated.Goals as goal

pub set_behind-requires-clause-header : goal.set_behind-requires-clause-header
set_behind-requires-clause-header c =
    let before = c.self.inside.packet.0 in
    (put_together c.args.self.now before (forwarded c.args.source c.args.new.addr before) c.self.inside.packet.1 c.deref_mut.result.now
    c.in_ok-bytes.bytes.items c.as_slice.result.now c.payload.result.now c.self.inside.fields _ c.self.invariant c.self.view_is
    c.self.invariant.bare c.deref_mut.ensures.value c.in_ok-bytes.ensures (c.as_slice.ensures.value ∙ c.write_forwarded.ensures.bytes)
    c.payload.ensures).long

pub set_behind-requires-clause-quotes : goal.set_behind-requires-clause-quotes
set_behind-requires-clause-quotes c =
    let before = c.self.inside.packet.0 in
    let whole = put_together c.args.self.now before (forwarded c.args.source c.args.new.addr before) c.self.inside.packet.1
    c.deref_mut.result.now c.in_ok-bytes.bytes.items c.as_slice.result.now c.payload.result.now c.self.inside.fields _ c.self.invariant
    c.self.view_is c.self.invariant.bare c.deref_mut.ensures.value c.in_ok-bytes.ensures
    (c.as_slice.ensures.value ∙ c.write_forwarded.ensures.bytes) c.payload.ensures in
    (c.args.self.now.report, whole.reports, sym c.place.ensures)

pub returns-clause-bytes : goal.returns-clause-bytes
returns-clause-bytes c =
    let e = c.args.self.now in
    let before = c.self.inside.packet.0 in
    let source = c.args.source in
    let new = c.args.new in
    let made : List ℕ = c.set_behind.new.bytes in
    let whole = put_together e before (forwarded source new.addr before) c.self.inside.packet.1
    c.deref_mut.result.now c.in_ok-bytes.bytes.items c.as_slice.result.now c.payload.result.now c.self.inside.fields _ c.self.invariant
    c.self.view_is c.self.invariant.bare c.deref_mut.ensures.value c.in_ok-bytes.ensures
    (c.as_slice.ensures.value ∙ c.write_forwarded.ensures.bytes) c.payload.ensures in
    let len : c.in_ok-bytes.bytes.len ≡ length made = sym (c.set_behind.auto.bytes ∙ c.deref_mut.ensures.len) in
    all_written c.in_ok-bytes.bytes.len made c.in_ok-bytes.bytes.items len
    ∙ c.set_behind.ensures.value e.report whole.reports (sym c.place.ensures)
    ∙ (λ i. whole.head i ++ report_bytes (translated (not source) new e.report))
    ∙ ap (λ (x : ErrorPacket). header_bytes (forwarded source new.addr x.header) ++ report_bytes (translated (not source) new e.report))
    c.self.view_is

pub returns-clause-total : goal.returns-clause-total
returns-clause-total c =
    let before = c.self.inside.packet.0 in
    let made : List ℕ = c.set_behind.new.bytes in
    let whole = put_together c.args.self.now before (forwarded c.args.source c.args.new.addr before) c.self.inside.packet.1
    c.deref_mut.result.now c.in_ok-bytes.bytes.items c.as_slice.result.now c.payload.result.now c.self.inside.fields _ c.self.invariant
    c.self.view_is c.self.invariant.bare c.deref_mut.ensures.value c.in_ok-bytes.ensures
    (c.as_slice.ensures.value ∙ c.write_forwarded.ensures.bytes) c.payload.ensures in
    let len : c.in_ok-bytes.bytes.len ≡ length made = sym (c.set_behind.auto.bytes ∙ c.deref_mut.ensures.len) in
    ap (λ (l : List ℕ). length l) (all_written c.in_ok-bytes.bytes.len made c.in_ok-bytes.bytes.items len)
    ∙ c.set_behind.auto.bytes ∙ whole.total

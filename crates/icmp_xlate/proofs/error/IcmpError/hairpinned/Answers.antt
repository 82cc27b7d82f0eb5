use Rattle.std.proofs.Common.{◌≡◌, ◌++◌, true, false, ℕ, List, length, sym, ap, ◌∙◌}
use Rattle.wire_ip4.specs.Forwarded.{hairpinned}
use Rattle.wire_ip4.specs.Grammar.{header_bytes}
use Rattle.wire_icmp.specs.Quoted.{report_bytes}
use Rattle.icmp_xlate.specs.Errors.{ErrorPacket}
use Rattle.icmp_xlate.specs.Translated.{translated}
use Rattle.icmp_xlate.proofs.ErrorPackets.{all_written, put_together}
use Rattle.icmp_xlate.proofs.error.IcmpError.hairpinned.Goals as goal

pub set_both_behind-requires-clause-header : goal.set_both_behind-requires-clause-header
set_both_behind-requires-clause-header c =
    let before = c.self.inside.packet.0 in
    (put_together c.args.self.now before (hairpinned c.args.src.addr c.args.dst.addr before) c.self.inside.packet.1
    c.deref_mut.result.now c.in_ok-bytes.bytes.items c.as_slice.result.now c.payload.result.now c.self.inside.fields _ c.self.invariant
    c.self.view_is c.self.invariant.bare c.deref_mut.ensures.value c.in_ok-bytes.ensures
    (c.as_slice.ensures.value ∙ c.write_hairpinned.ensures.bytes) c.payload.ensures).long

pub set_both_behind-requires-clause-quotes : goal.set_both_behind-requires-clause-quotes
set_both_behind-requires-clause-quotes c =
    let before = c.self.inside.packet.0 in
    let whole = put_together c.args.self.now before (hairpinned c.args.src.addr c.args.dst.addr before) c.self.inside.packet.1
    c.deref_mut.result.now c.in_ok-bytes.bytes.items c.as_slice.result.now c.payload.result.now c.self.inside.fields _ c.self.invariant
    c.self.view_is c.self.invariant.bare c.deref_mut.ensures.value c.in_ok-bytes.ensures
    (c.as_slice.ensures.value ∙ c.write_hairpinned.ensures.bytes) c.payload.ensures in
    (c.args.self.now.report, whole.reports, sym c.place-there.ensures, sym c.place_from-back.ensures)

pub returns-clause-bytes : goal.returns-clause-bytes
returns-clause-bytes c =
    let e = c.args.self.now in
    let before = c.self.inside.packet.0 in
    let src = c.args.src in
    let dst = c.args.dst in
    let made : List ℕ = c.set_both_behind.new.bytes in
    let whole = put_together e before (hairpinned src.addr dst.addr before) c.self.inside.packet.1
    c.deref_mut.result.now c.in_ok-bytes.bytes.items c.as_slice.result.now c.payload.result.now c.self.inside.fields _ c.self.invariant
    c.self.view_is c.self.invariant.bare c.deref_mut.ensures.value c.in_ok-bytes.ensures
    (c.as_slice.ensures.value ∙ c.write_hairpinned.ensures.bytes) c.payload.ensures in
    let len : c.in_ok-bytes.bytes.len ≡ length made = sym (c.set_both_behind.auto.bytes ∙ c.deref_mut.ensures.len) in
    let report = translated true dst (translated false src e.report) in
    all_written c.in_ok-bytes.bytes.len made c.in_ok-bytes.bytes.items len
    ∙ c.set_both_behind.ensures.value e.report whole.reports (sym c.place-there.ensures) (sym c.place_from-back.ensures)
    ∙ ap (λ (l : List ℕ). l ++ report_bytes report) whole.head
    ∙ ap (λ (x : ErrorPacket). header_bytes (hairpinned src.addr dst.addr x.header) ++ report_bytes report) c.self.view_is

pub returns-clause-total : goal.returns-clause-total
returns-clause-total c =
    let before = c.self.inside.packet.0 in
    let made : List ℕ = c.set_both_behind.new.bytes in
    let whole = put_together c.args.self.now before (hairpinned c.args.src.addr c.args.dst.addr before) c.self.inside.packet.1
    c.deref_mut.result.now c.in_ok-bytes.bytes.items c.as_slice.result.now c.payload.result.now c.self.inside.fields _ c.self.invariant
    c.self.view_is c.self.invariant.bare c.deref_mut.ensures.value c.in_ok-bytes.ensures
    (c.as_slice.ensures.value ∙ c.write_hairpinned.ensures.bytes) c.payload.ensures in
    let len : c.in_ok-bytes.bytes.len ≡ length made = sym (c.set_both_behind.auto.bytes ∙ c.deref_mut.ensures.len) in
    ap (λ (l : List ℕ). length l) (all_written c.in_ok-bytes.bytes.len made c.in_ok-bytes.bytes.items len)
    ∙ c.set_both_behind.auto.bytes ∙ whole.total

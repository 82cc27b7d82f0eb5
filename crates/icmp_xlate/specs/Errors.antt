-- ICMP errors that are forwarded once more, in their packets (RFC 792, RFC 5508 4).
use Rattle.std.specs.Prelude.{◌≡◌, ◌≤◌, ◌+◌, ℕ, Bool, true, false, not, List, [], ◌++◌, length, drop, Option}
use Rattle.std.specs.Prelude.{option_map, unwrap_or}
use Rattle.aftr_base.specs.declared.value.Ext.{Ext}
use Rattle.aftr_base.specs.declared.value.Proto.{Proto}
use Rattle.wire_ip4.specs.declared.fields.Ip4Fields.{Ip4Fields}
use Rattle.wire_ip4.specs.Grammar.{Header, header_bytes, header_of}
use Rattle.wire_ip4.specs.Forwarded.{forwarded, readdressed}
use Rattle.wire_l4.specs.Grammar.{Query, echo_of}
use Rattle.wire_l4.specs.Places.{proto_of}
use Rattle.wire_icmp.specs.Quoted.{Quoted, Report, SpellsReport, quoted_place, report_bytes, report_of, report_with}
use Rattle.wire_icmp.specs.Quoted.{Shown, shown}
use Rattle.icmp_xlate.specs.Translated.{translated}

-- an ICMP error in its packet
pub record ErrorPacket : Type 0 where
  pub header : Header
  pub report : Report

abbrev pub error_bytes : ErrorPacket → List ℕ
error_bytes e = header_bytes e.header ++ report_bytes e.report

-- the error that a packet's payload is, where what it quotes can be translated
abbrev pub error_of : Header × List ℕ → Option ErrorPacket
error_of packet = option_map (λ (r : Report). record { header = packet.0; report = r }) (report_of packet.1)

-- the protocol whose mapping it belongs to
abbrev pub error_proto : ErrorPacket → Proto
error_proto e = proto_of e.report.quoted.front

-- Its place on either side, which is that on the other side of the packet that it quotes (RFC 5508 4).
abbrev pub error_place : Bool → ErrorPacket → Ext
error_place source e = quoted_place (not source) e.report.quoted

-- The error as it goes on, with the place on one side replaced: outbound its source, inbound its destination.
abbrev pub forwarded_error : Bool → Ext → ErrorPacket → ErrorPacket
forwarded_error source new e = record {
  header = forwarded source new.addr e.header;
  report = translated (not source) new e.report;
}

-- The error between two subscribers (RFC 4787 6): its source replaced on its way out, then its destination, one hop on in all.
abbrev pub turned_error : Ext → Ext → ErrorPacket → ErrorPacket
turned_error src dst e =
    let out = forwarded_error true src e in
    record { header = readdressed false dst.addr out.header; report = translated true dst out.report }

-- ---- as it lies in its packet

-- the error that a payload is, where it is known to be one
abbrev pub report_in : List ℕ → Report
report_in bytes =
    let none : Quoted = record { header = header_of (drop 8 bytes); front = Query (echo_of (drop 28 bytes)) } in
    unwrap_or (report_of bytes) (report_with bytes none)

-- An error whose header has no options and whose TTL is at least 2, with the header's fields and what is shown of the packet that
-- it quotes.
pub record IsReady (header : Header) (payload : List ℕ) (fields : Ip4Fields) (quoted : Shown) : Type 0 where
  pub bare : header.options ≡ []
  pub alive : 2 ≤ header.fields.ttl
  pub total : header.fields.total ≡ 20 + length payload
  pub short : header.fields.total ≤ 65535
  pub fields_are : fields ≡ header.fields
  pub reports : SpellsReport payload (report_in payload)
  pub shows : quoted ≡ shown (report_in payload)

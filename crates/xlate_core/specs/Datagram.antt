-- Whole datagrams and their translation, either way (RFC 3022 4, RFC 4787 4).
use Rattle.std.specs.Prelude.{ℕ, Bool, true, false, ◌==◌, List, ◌++◌}
use Rattle.aftr_base.specs.Value.{place}
use Rattle.aftr_base.specs.declared.value.Ip6.{Ip6}
use Rattle.aftr_base.specs.declared.value.Ext.{Ext}
use Rattle.aftr_base.specs.declared.value.InnerKey.{InnerKey}
use Rattle.wire_ip4.specs.Grammar.{Header, header_bytes}
use Rattle.wire_ip4.specs.Forwarded.{address_on, forwarded, readdressed}
use Rattle.aftr_base.specs.declared.value.Proto.TheVariants.{Tcp, Udp, Icmp}
use Rattle.wire_l4.specs.Grammar.{Transport, Ports, Query, tcp_flags, transport_bytes}
use Rattle.wire_l4.specs.Places.{proto_of, port_at, replaced}

-- an IPv4 header and the transport behind it
pub record Datagram : Type 0 where
  pub header : Header
  pub body : Transport

abbrev pub datagram_bytes : Datagram → List ℕ
datagram_bytes d = header_bytes d.header ++ transport_bytes d.body

-- its source, or else its destination
abbrev pub place_on : Bool → Datagram → Ext
place_on source d = place (address_on source d.header) (port_at source d.body)

-- what the mapping of a subscriber's datagram is found by
abbrev pub key_of : Ip6 → Datagram → InnerKey
key_of softwire d = record { softwire = softwire; proto = proto_of d.body; addr = (place_on true d).addr; port = (place_on true d).port }

-- the control bits, which only TCP has
abbrev pub flags_of : Transport → ℕ
flags_of (Ports Tcp s) = tcp_flags s
flags_of (Ports Udp s) = 0
flags_of (Ports Icmp s) = 0
flags_of (Query e) = 0

-- an answer to an echo request
abbrev pub is_answer : Transport → Bool
is_answer (Ports p s) = false
is_answer (Query e) = e.kind == 0

-- the place of a mapping behind its softwire
abbrev pub inner_place : InnerKey → Ext
inner_place key = place key.addr key.port

-- The datagram as it goes on, with the place on one side replaced: outbound its source, inbound its destination.
abbrev pub translated : Bool → Ext → Datagram → Datagram
translated source new d = record {
  header = forwarded source new.addr d.header;
  body = replaced source (place_on source d) new d.body;
}

-- The datagram between two subscribers (RFC 4787 6): its source replaced on its way out, then its destination, one hop on in all.
abbrev pub hairpinned : Ext → Ext → Datagram → Datagram
hairpinned src dst d =
    let out = translated true src d in
    record { header = readdressed false dst.addr out.header; body = replaced false (place_on false out) dst out.body }

-- The packet that an ICMP error quotes (RFC 792), as far as a translator has to know it (RFC 5508 4).
use Rattle.std.specs.Prelude.{◌≡◌, ℕ, ◌^◌, ◌<◌, ◌≤◌, Bool, true, false, ◌&&◌, ◌||◌, ◌==◌, nat_lt, List, [], ◌∷◌, ◌++◌, length, drop}
use Rattle.std.specs.Prelude.{Option, Some, None, option_map, option_and_then, if◌then◌else◌}
use Rattle.std.specs.Result.{result_ok}
use Rattle.aftr_base.specs.Bytes.{u8_at, u16_at, u32_at, be16, be32}
use Rattle.aftr_base.specs.Value.{place}
use Rattle.aftr_base.specs.declared.value.Ext.{Ext}
use Rattle.aftr_base.specs.declared.value.Proto.{Proto}
use Rattle.aftr_base.specs.declared.value.Proto.TheVariants.{Tcp, Udp, Icmp}
use Rattle.wire_ip4.specs.declared.fields.Ip4Fields.{Ip4Fields}
use Rattle.wire_ip4.specs.Grammar.{Header, IsHeader, header_bytes, front_of}
use Rattle.wire_ip4.specs.Forwarded.{address_on}
use Rattle.wire_l4.specs.Grammar.{Segment, HasSum, segment_at, Echo, echo_of, Transport, Ports, Query, transport_bytes}
use Rattle.wire_l4.specs.Places.{proto_of, port_at}
use Rattle.wire_icmp.specs.declared.quoted.Embedded.{Embedded}

-- ---- what is read

-- a segment that ends before its checksum
abbrev pub cut_segment : List ℕ → Segment
cut_segment bytes = record { src = u16_at 0 bytes; dst = u16_at 2 bytes; fixed = drop 4 bytes; sum = None; rest = [] }

-- a TCP segment that was cut anywhere behind its first 8 bytes
abbrev pub quoted_segment : List ℕ → Segment
quoted_segment bytes = if nat_lt (length bytes) 18 then cut_segment bytes else segment_at 16 bytes

-- the type of an echo request or of its reply
abbrev pub is_echo : ℕ → Bool
is_echo kind = kind == 8 || kind == 0

-- the transport of the protocol of this number, at least 8 bytes of which are there
abbrev pub quoted_transport : ℕ → List ℕ → Option Transport
quoted_transport proto bytes =
    if nat_lt (length bytes) 8 then None
    else if proto == 17 then Some (Ports Udp (segment_at 6 bytes))
    else if proto == 6 then Some (Ports Tcp (quoted_segment bytes))
    else if proto == 1 && is_echo (u8_at 0 bytes) then Some (Query (echo_of bytes))
    else None

-- its protocol, and its ports or twice its identifier
abbrev pub ends_of : Transport → Proto × ℕ × ℕ
ends_of t = (proto_of t, port_at true t, port_at false t)

-- a quoted packet: its header and the front of its transport
pub record Quoted : Type 0 where
  pub header : Header
  pub front : Transport

-- A header can be translated that has no options and is of no later fragment.
abbrev pub quoted_behind : Header × List ℕ → Option Quoted
quoted_behind front =
    if length front.0.options == 0 && front.0.fields.offset == 0
    then option_map (λ (t : Transport). record { header = front.0; front = t }) (quoted_transport front.0.fields.proto front.1)
    else None

-- The packet at the front of these bytes. Its length and its header's checksum don't count.
abbrev pub quoted_of : List ℕ → Option Quoted
quoted_of bytes = option_and_then quoted_behind (result_ok (front_of bytes))

-- an error: a type, a code, a checksum and a word that depends on them, and the packet that it quotes
pub record Report : Type 0 where
  pub kind : ℕ
  pub code : ℕ
  pub sum : ℕ
  pub word : ℕ
  pub quoted : Quoted

-- the bytes of a quoted packet, and of an error
abbrev pub quoted_bytes : Quoted → List ℕ
quoted_bytes q = header_bytes q.header ++ transport_bytes q.front

abbrev pub report_bytes : Report → List ℕ
report_bytes r = r.kind ∷ r.code ∷ (be16 r.sum ++ (be32 r.word ++ quoted_bytes r.quoted))

-- the error that begins with the fields at the front of these bytes and quotes this packet
abbrev pub report_with : List ℕ → Quoted → Report
report_with bytes q = record { kind = u8_at 0 bytes; code = u8_at 1 bytes; sum = u16_at 2 bytes; word = u32_at 4 bytes; quoted = q }

-- the error in the bytes of a message, where what it quotes can be translated
abbrev pub report_of : List ℕ → Option Report
report_of bytes = option_map (report_with bytes) (quoted_of (drop 8 bytes))

-- the place on either side of a quoted packet
abbrev pub quoted_place : Bool → Quoted → Ext
quoted_place source q = place (address_on source q.header) (port_at source q.front)

-- ---- what the code shows of it

pub record Shown : Type 0 where
  pub fields : Ip4Fields
  pub proto : Proto
  pub src : Ext
  pub dst : Ext
  pub rest : List ℕ

-- of what it answers, of a quoted packet, and of an error
abbrev pub shown_in : Embedded → Shown
shown_in e = record { fields = e.fields; proto = e.proto; src = e.src; dst = e.dst; rest = e.rest.now }

abbrev pub shown_quoted : Quoted → Shown
shown_quoted q = record {
  fields = q.header.fields;
  proto = proto_of q.front;
  src = quoted_place true q;
  dst = quoted_place false q;
  rest = transport_bytes q.front;
}

abbrev pub shown : Report → Shown
shown r = shown_quoted r.quoted

-- ---- the grammar: a relation on whole byte lists

-- a UDP header behind a header of this protocol number, and what follows it
pub record QuotesUdp (proto : ℕ) (s : Segment) : Type 0 where
  pub number : proto ≡ 17
  pub src : s.src < 2 ^ 16
  pub dst : s.dst < 2 ^ 16
  pub len : length s.fixed ≡ 2
  pub sum : HasSum s

-- the first 8 bytes of a segment and up to 9 more, or all up to its checksum and what follows it
abbrev pub ReachesSum : Option ℕ → List ℕ → List ℕ → Type 0
ReachesSum None fixed rest = (4 ≤ length fixed) × (length fixed < 14) × (rest ≡ [])
ReachesSum (Some n) fixed rest = (length fixed ≡ 12) × (n < 2 ^ 16)

pub record QuotesTcp (proto : ℕ) (s : Segment) : Type 0 where
  pub number : proto ≡ 6
  pub src : s.src < 2 ^ 16
  pub dst : s.dst < 2 ^ 16
  pub sum : ReachesSum s.sum s.fixed s.rest

pub record QuotesEcho (proto : ℕ) (e : Echo) : Type 0 where
  pub number : proto ≡ 1
  pub kind : is_echo e.kind ≡ true
  pub code : e.code < 256
  pub sum : e.sum < 2 ^ 16
  pub id : e.id < 2 ^ 16
  pub words : 2 ≤ length e.rest

-- the transport is the front of one of the protocol of this number
abbrev pub IsQuoted : ℕ → Transport → Type 0
IsQuoted proto (Ports Udp s) = QuotesUdp proto s
IsQuoted proto (Ports Tcp s) = QuotesTcp proto s
IsQuoted proto (Ports Icmp s) = ⊥
IsQuoted proto (Query e) = QuotesEcho proto e

-- The bytes are a quoted packet that can be translated: a header without options, of no later fragment, and
-- at least 8 bytes of a transport.
pub record SpellsQuoted (bytes : List ℕ) (q : Quoted) : Type 0 where
  pub header : IsHeader q.header
  pub plain : q.header.options ≡ []
  pub first : q.header.fields.offset ≡ 0
  pub front : IsQuoted q.header.fields.proto q.front
  pub spelled : bytes ≡ quoted_bytes q

-- The bytes are an error that quotes such a packet.
pub record SpellsReport (bytes : List ℕ) (r : Report) : Type 0 where
  pub kind : r.kind < 256
  pub code : r.code < 256
  pub sum : r.sum < 2 ^ 16
  pub word : r.word < 2 ^ 32
  pub quotes : SpellsQuoted (quoted_bytes r.quoted) r.quoted
  pub spelled : bytes ≡ report_bytes r

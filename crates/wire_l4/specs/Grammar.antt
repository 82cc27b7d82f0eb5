-- UDP datagrams (RFC 768), TCP segments (RFC 9293 3.1) and echo messages (RFC 792), by what a translator changes in them.
use Rattle.std.specs.Prelude.{◌≡◌, ℕ, ◌+◌, ◌*◌, ◌/◌, ◌^◌, ◌<◌, ◌≤◌, ◌&&◌, nat_le, List, [], ◌∷◌, ◌++◌, length, drop}
use Rattle.std.specs.Prelude.{slice_range, Option, Some, None, Result, Ok}
use Rattle.aftr_base.specs.Attempt.{◌>>=◌, ◌>>◌, require}
use Rattle.aftr_base.specs.Bytes.{u8_at, u16_at, be16, be32}
use Rattle.aftr_base.specs.declared.value.Proto.{Proto}
use Rattle.aftr_base.specs.declared.value.Proto.TheVariants.{Tcp, Udp, Icmp}
use Rattle.wire_l4.specs.declared.L4Bad.{L4Bad}
use Rattle.wire_l4.specs.declared.L4Bad.TheVariants.{Short, Len, Offset}

-- The ports, the bytes up to the checksum, the checksum and what follows it. A segment that is cut
-- before its checksum, as an ICMP error may quote it, has none.
pub record Segment : Type 0 where
  pub src : ℕ
  pub dst : ℕ
  pub fixed : List ℕ
  pub sum : Option ℕ
  pub rest : List ℕ

abbrev pub sum_bytes : Option ℕ → List ℕ
sum_bytes None = []
sum_bytes (Some n) = be16 n

abbrev pub segment_bytes : Segment → List ℕ
segment_bytes s = be16 s.src ++ be16 s.dst ++ s.fixed ++ sum_bytes s.sum ++ s.rest

-- a segment whose checksum stands at this offset
abbrev pub segment_at : ℕ → List ℕ → Segment
segment_at at bytes = record {
  src = u16_at 0 bytes;
  dst = u16_at 2 bytes;
  fixed = slice_range bytes 4 at;
  sum = Some (u16_at at bytes);
  rest = drop (at + 2) bytes;
}

-- bytes past the length field are kept
abbrev pub udp_of : List ℕ → Result Segment L4Bad
udp_of bytes = do
  require (nat_le 8 (length bytes)) Short
  require (nat_le 8 (u16_at 4 bytes) && nat_le (u16_at 4 bytes) (length bytes)) Len
  Ok (segment_at 6 bytes)

abbrev pub tcp_of : List ℕ → Result Segment L4Bad
tcp_of bytes = do
  let offset = u8_at 12 bytes / 16
  require (nat_le 20 (length bytes)) Short
  require (nat_le 5 offset && nat_le (4 * offset) (length bytes)) Offset
  Ok (segment_at 16 bytes)

-- the control bits of a TCP segment, FIN lowest (RFC 9293 3.1)
abbrev pub tcp_flags : Segment → ℕ
tcp_flags s = u8_at 9 s.fixed

-- an echo request or reply
pub record Echo : Type 0 where
  pub kind : ℕ
  pub code : ℕ
  pub sum : ℕ
  pub id : ℕ
  pub rest : List ℕ

abbrev pub echo_bytes : Echo → List ℕ
echo_bytes e = e.kind ∷ e.code ∷ (be16 e.sum ++ be16 e.id ++ e.rest)

abbrev pub echo_of : List ℕ → Echo
echo_of bytes = record { kind = u8_at 0 bytes; code = u8_at 1 bytes; sum = u16_at 2 bytes; id = u16_at 4 bytes; rest = drop 6 bytes }

-- what has a place behind an IPv4 header
pub data Transport : Type 0 where
  Ports : Proto → Segment → Transport
  Query : Echo → Transport

abbrev pub transport_bytes : Transport → List ℕ
transport_bytes (Ports p s) = segment_bytes s
transport_bytes (Query e) = echo_bytes e

-- how many bytes a header has at least, of which ICMP's is an echo message's
abbrev pub header_len : Proto → ℕ
header_len Udp = 8
header_len Tcp = 20
header_len Icmp = 8

-- bytes of at least a header as a transport, whatever their lengths say
abbrev pub transport_in : Proto → List ℕ → Transport
transport_in Udp bytes = Ports Udp (segment_at 6 bytes)
transport_in Tcp bytes = Ports Tcp (segment_at 16 bytes)
transport_in Icmp bytes = Query (echo_of bytes)

-- bytes as a transport, or the first thing that is wrong
abbrev pub transport_of : Proto → List ℕ → Result Transport L4Bad
transport_of Udp bytes = do
  s ← udp_of bytes
  Ok (Ports Udp s)
transport_of Tcp bytes = do
  s ← tcp_of bytes
  Ok (Ports Tcp s)
transport_of Icmp bytes = do
  require (nat_le 8 (length bytes)) Short
  Ok (Query (echo_of bytes))

-- ---- the grammar: a relation on whole byte lists

-- what follows the ports of a UDP datagram: its length in bytes, with the header's 8 (RFC 768)
pub record UdpLen (fixed : List ℕ) (n : ℕ) : Type 0 where
  pub field : fixed ≡ be16 n
  pub fits : n < 2 ^ 16
  pub least : 8 ≤ n

-- a checksum of 16 bits is there
abbrev pub HasSum : Segment → Type 0
HasSum s = (n : ℕ) × (s.sum ≡ Some n) × (n < 2 ^ 16)

-- The bytes are the ports, the length, the checksum and the data in a row; bytes may follow the length.
pub record SpellsUdp (bytes : List ℕ) (s : Segment) : Type 0 where
  pub spelled : bytes ≡ segment_bytes s
  pub src : s.src < 2 ^ 16
  pub dst : s.dst < 2 ^ 16
  pub len : (n : ℕ) × UdpLen s.fixed n × (n ≤ length bytes)
  pub sum : HasSum s

-- what stands between the ports and the checksum of a TCP segment (RFC 9293 3.1)
pub record TcpMiddle : Type 0 where
  pub sequence : ℕ
  pub acknowledged : ℕ
  pub offset : ℕ
  pub reserved : ℕ
  pub flags : ℕ
  pub window : ℕ

abbrev pub middle_bytes : TcpMiddle → List ℕ
middle_bytes m = be32 m.sequence ++ be32 m.acknowledged ++ (16 * m.offset + m.reserved) ∷ m.flags ∷ be16 m.window

-- each number fits its field, and the header of so many words has its least length
pub record FitsMiddle (m : TcpMiddle) : Type 0 where
  pub sequence : m.sequence < 2 ^ 32
  pub acknowledged : m.acknowledged < 2 ^ 32
  pub least : 5 ≤ m.offset
  pub offset : m.offset < 16
  pub reserved : m.reserved < 16
  pub flags : m.flags < 256
  pub window : m.window < 2 ^ 16

-- The bytes are the ports, the numbers up to the window, the checksum and the rest in a row; the header lies within them.
pub record SpellsTcp (bytes : List ℕ) (s : Segment) : Type 0 where
  pub spelled : bytes ≡ segment_bytes s
  pub src : s.src < 2 ^ 16
  pub dst : s.dst < 2 ^ 16
  pub middle : (m : TcpMiddle) × FitsMiddle m × (s.fixed ≡ middle_bytes m) × (tcp_flags s ≡ m.flags) × (4 * m.offset ≤ length bytes)
  pub sum : HasSum s

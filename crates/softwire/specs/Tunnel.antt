-- The two ends of a softwire (RFC 2473 3, RFC 6333 5).
use Rattle.std.specs.Prelude.{◌≡◌, ℕ, ◌==◌, false, List, ◌++◌, length, Result, Ok, Err}
use Rattle.aftr_base.specs.Attempt.{◌>>=◌, ◌>>◌, require, refused_as}
use Rattle.aftr_base.specs.declared.value.Ip6.{Ip6}
use Rattle.wire_ip6.specs.declared.fields.Ip6Fields.{Ip6Fields}
use Rattle.wire_ip6.specs.Grammar.{header_bytes, packet_of}
use Rattle.wire_ip6.specs.Chain.{Behind, InnerPacket, InnerPiece, OtherHeader, CutShort, chain_in, chain_of}
use Rattle.softwire.specs.declared.from_tunnel.Tunnel.{Tunnel}
use Rattle.softwire.specs.declared.from_tunnel.DecapBad.{DecapBad}
use Rattle.softwire.specs.declared.from_tunnel.DecapBad.TheVariants.{Packet, NotUs, NotTunnel}

-- ---- out of the softwire

-- the softwire's other end, and what the packet carries
pub record Carried : Type 0 where
  pub softwire : Ip6
  pub behind : Behind

-- the same of what the code answers
abbrev pub tunnel_in : Result Tunnel DecapBad → Result Carried DecapBad
tunnel_in (Ok tunnel) = Ok record { softwire = tunnel.softwire; behind = chain_in tunnel.chain }
tunnel_in (Err e) = Err e

-- A packet from this softwire carries an IPv4 packet or a piece of one, or it is refused (RFC 2473 3.3).
abbrev pub tunnel_of : Ip6 → Behind → Result Carried DecapBad
tunnel_of softwire (InnerPacket bytes) = Ok record { softwire = softwire; behind = InnerPacket bytes }
tunnel_of softwire (InnerPiece h bytes) = Ok record { softwire = softwire; behind = InnerPiece h bytes }
tunnel_of softwire OtherHeader = Err NotTunnel
tunnel_of softwire CutShort = Err Packet

-- What the IPv6 packet in these bytes carries to this end of the softwire.
abbrev pub decapsulated : Ip6 → List ℕ → Result Carried DecapBad
decapsulated aftr bytes = do
  packet ← refused_as (packet_of bytes) Packet
  require (packet.0.dst.0 == aftr.0) NotUs
  tunnel_of packet.0.src (chain_of packet.0.next packet.1 false)

-- ---- into the softwire

-- the header from this end of the softwire to the other, before so many bytes that begin with this header
abbrev pub tunnel_fields : Ip6 → Ip6 → ℕ → ℕ → ℕ → Ip6Fields
tunnel_fields aftr softwire class next len =
    record { class = class; payload = len; next = next; hops = 64; src = aftr; dst = softwire }

-- the IPv6 packet from this end to the other that carries these bytes (RFC 2473 3.1)
abbrev pub tunnel_packet : Ip6 → Ip6 → ℕ → ℕ → List ℕ → List ℕ
tunnel_packet aftr softwire class next bytes = header_bytes (tunnel_fields aftr softwire class next (length bytes)) ++ bytes

-- the IPv6 packet that carries an IPv4 packet (4)
abbrev pub carrier : Ip6 → Ip6 → ℕ → List ℕ → List ℕ
carrier aftr softwire class inner = tunnel_packet aftr softwire class 4 inner

-- that packet is read as its fields, and the IPv4 packet as its payload
abbrev pub IsReadAs : Ip6 → Ip6 → ℕ → List ℕ → Type 0
IsReadAs aftr softwire class inner =
    packet_of (carrier aftr softwire class inner) ≡ Ok (tunnel_fields aftr softwire class 4 (length inner), inner)

-- at the other end it carries that IPv4 packet from this end, and nothing else
abbrev pub Arrives : Ip6 → Ip6 → ℕ → List ℕ → Type 0
Arrives aftr softwire class inner =
    decapsulated softwire (carrier aftr softwire class inner) ≡ Ok record { softwire = aftr; behind = InnerPacket inner }

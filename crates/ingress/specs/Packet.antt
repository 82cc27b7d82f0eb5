-- A whole IPv4 packet without options.
use Rattle.std.specs.Prelude.{◌≡◌, ◌≤◌, ℕ, ◌+◌, ◌-◌, false, List, [], length, take, drop, Ok}
use Rattle.aftr_base.specs.Bytes.{u16_at, IsBytes}
use Rattle.wire_ip4.specs.Grammar.{Header, IsHeader, header_bytes, header_of, is_piece, len_of, packet_of}
use Rattle.ingress.specs.declared.packet.Bytes.{Bytes}
use Rattle.ingress.specs.declared.packet.Bytes.TheVariants.{Lent, Made}

-- A packet without options that is no piece, and has its own length.
pub record IsUncut (packet : Header × List ℕ) : Type 0 where
  pub plain : packet.0.options ≡ []
  pub whole : is_piece packet.0 ≡ false
  pub total : packet.0.fields.total ≡ 20 + length packet.1

-- A header and a payload that stand in some bytes as such a packet.
pub record IsWhole (packet : Header × List ℕ) : Type 0 where
  pub stands : (bytes : List ℕ) × (packet_of bytes ≡ Ok packet)
  pub plain : packet.0.options ≡ []
  pub whole : is_piece packet.0 ≡ false
  pub total : packet.0.fields.total ≡ 20 + length packet.1
  pub short : packet.0.fields.total ≤ 65535

-- where a packet's bytes stand
abbrev pub bytes_in : Bytes → List ℕ
bytes_in (Lent bytes) = bytes.now
bytes_in (Made bytes) = bytes

-- the header at the front of the bytes, and the payload that its total length counts
abbrev pub packet_in : List ℕ → Header × List ℕ
packet_in bytes = (header_of bytes, take (u16_at 2 bytes - len_of bytes) (drop (len_of bytes) bytes))

-- such a packet stands in these bytes
pub record HoldsWhole (bytes : List ℕ) : Type 0 where
  pub read : packet_of bytes ≡ Ok (packet_in bytes)
  pub plain : (header_of bytes).options ≡ []
  pub whole : is_piece (header_of bytes) ≡ false
  pub total : (header_of bytes).fields.total ≡ 20 + length (packet_in bytes).1
  pub short : (header_of bytes).fields.total ≤ 65535

-- the bytes begin with a packet without options, whose header is the head
pub record HoldsPlain (head bytes : List ℕ) (packet : Header × List ℕ) : Type 0 where
  pub read : packet_of bytes ≡ Ok packet
  pub header : IsHeader packet.0
  pub plain : packet.0.options ≡ []
  pub front : head ≡ header_bytes packet.0
  pub payload : IsBytes packet.1

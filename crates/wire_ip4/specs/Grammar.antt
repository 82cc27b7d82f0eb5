-- IPv4 packets (RFC 791 3.1).
use Rattle.std.specs.Prelude.{◌≡◌, ℕ, ◌+◌, ◌-◌, ◌*◌, ◌/◌, ◌%◌, ◌^◌, ◌<◌, ◌≤◌, Bool, false, ◌&&◌, ◌||◌, ◌==◌, nat_le, nat_lt, List, [], ◌∷◌}
use Rattle.std.specs.Prelude.{◌++◌, length, take, drop, Result, Ok, if◌then◌else◌}
use Rattle.aftr_base.specs.Attempt.{◌>>=◌, ◌>>◌, require}
use Rattle.aftr_base.specs.Value.{ip4}
use Rattle.aftr_base.specs.Bytes.{u8_at, u16_at, u32_at, be16, be32, IsBytes}
use Rattle.aftr_base.specs.Checksum.{sum16, is_sound}
use Rattle.wire_ip4.specs.declared.fields.Ip4Fields.{Ip4Fields}
use Rattle.wire_ip4.specs.declared.fields.Ip4Bad.{Ip4Bad}
use Rattle.wire_ip4.specs.declared.fields.Ip4Bad.TheVariants.{Short, Version, HeaderLen, TotalLen, Sum}

-- a header with what its fields leave out
pub record Header : Type 0 where
  pub fields : Ip4Fields
  pub reserved : Bool
  pub sum : ℕ
  pub options : List ℕ

-- what a flag bit adds to the word that it stands in
abbrev pub bit_of : Bool → ℕ → ℕ
bit_of b worth = if b then worth else 0

-- the header's length, in bytes
abbrev pub header_len : Header → ℕ
header_len h = 20 + length h.options

-- The one spelling of a header: version 4 and its length in words, the fields, the options.
abbrev pub header_bytes : Header → List ℕ
header_bytes h =
    let f = h.fields in
    (64 + header_len h / 4) ∷ f.tos ∷ (be16 f.total ++ be16 f.id
    ++ be16 (bit_of h.reserved 32768 + bit_of f.dont_cut 16384 + bit_of f.more 8192 + f.offset)
    ++ f.ttl ∷ f.proto ∷ (be16 h.sum ++ be32 f.src.0 ++ be32 f.dst.0 ++ h.options))

-- the fields at the front of the bytes
abbrev pub fields_of : List ℕ → Ip4Fields
fields_of bytes = record {
  tos = u8_at 1 bytes;
  total = u16_at 2 bytes;
  id = u16_at 4 bytes;
  dont_cut = u8_at 6 bytes / 64 % 2 == 1;
  more = u8_at 6 bytes / 32 % 2 == 1;
  offset = u16_at 6 bytes % 8192;
  ttl = u8_at 8 bytes;
  proto = u8_at 9 bytes;
  src = ip4 (u32_at 12 bytes);
  dst = ip4 (u32_at 16 bytes);
}

-- the header's length that the first byte says, in bytes
abbrev pub len_of : List ℕ → ℕ
len_of bytes = 4 * (u8_at 0 bytes % 16)

-- the header at the front of the bytes
abbrev pub header_of : List ℕ → Header
header_of bytes = record {
  fields = fields_of bytes;
  reserved = u8_at 6 bytes / 128 == 1;
  sum = u16_at 10 bytes;
  options = drop 20 (take (len_of bytes) bytes);
}

-- the header at the front, and the bytes after it; or the first thing that is wrong
abbrev pub front_of : List ℕ → Result (Header × List ℕ) Ip4Bad
front_of bytes = do
  require (nat_le 20 (length bytes)) Short
  require (u8_at 0 bytes / 16 == 4) Version
  require (nat_le 20 (len_of bytes) && nat_le (len_of bytes) (length bytes)) HeaderLen
  Ok (header_of bytes, drop (len_of bytes) bytes)

-- A packet and its payload, which ends where the total length says: bytes may follow it.
abbrev pub packet_of : List ℕ → Result (Header × List ℕ) Ip4Bad
packet_of bytes = do
  front ← front_of bytes
  let total = front.0.fields.total
  require (nat_le (len_of bytes) total && nat_le total (length bytes)) TotalLen
  require (is_sound (take (len_of bytes) bytes)) Sum
  Ok (front.0, take (total - len_of bytes) front.1)

-- a fragment of a datagram
abbrev pub is_piece_of : Ip4Fields → Bool
is_piece_of f = f.more || nat_lt 0 f.offset

abbrev pub is_piece : Header → Bool
is_piece h = is_piece_of h.fields

-- ---- the grammar, without an offset into the bytes

-- each field fits its place in the header
pub record AreFields (f : Ip4Fields) : Type 0 where
  pub tos : f.tos < 256
  pub total : f.total < 65536
  pub id : f.id < 65536
  pub offset : f.offset < 8192
  pub ttl : f.ttl < 256
  pub proto : f.proto < 256
  pub src : f.src.0 < 2 ^ 32
  pub dst : f.dst.0 < 2 ^ 32

-- a header that bytes can spell: its options are whole words, ten at the most
pub record IsHeader (h : Header) : Type 0 where
  pub fields : AreFields h.fields
  pub sum : h.sum < 65536
  pub options : IsBytes h.options
  pub words : length h.options % 4 ≡ 0
  pub most : length h.options ≤ 40

-- the bytes are this header's and those after it
pub record SpellsFront (bytes : List ℕ) (h : Header) (rest : List ℕ) : Type 0 where
  pub header : IsHeader h
  pub spelled : bytes ≡ header_bytes h ++ rest

-- the bytes are this packet's header, its payload, and whatever lies beyond its total length
pub record SpellsPacket (bytes : List ℕ) (h : Header) (payload : List ℕ) : Type 0 where
  pub header : IsHeader h
  pub spelled : (beyond : List ℕ) × (bytes ≡ header_bytes h ++ payload ++ beyond)
  pub total : h.fields.total ≡ header_len h + length payload
  pub sound : sum16 (header_bytes h) ≡ 65535

-- ---- headers that are made

-- the header of these fields alone: the reserved flag bit 0, no checksum yet, no options
abbrev pub bare : Ip4Fields → Header
bare f = record { fields = f; reserved = false; sum = 0; options = [] }

-- the checksum of bytes in which its own field counts as zero (RFC 1071 1)
abbrev pub checksum_of : List ℕ → ℕ
checksum_of bytes = 65535 - sum16 bytes

-- the same header with the checksum that it should have
abbrev pub with_sum : Header → Header
with_sum h = record h { sum = checksum_of (header_bytes (record h { sum = 0 })) }

-- the header that is written for these fields
abbrev pub header_with : Ip4Fields → Header
header_with f = with_sum (bare f)

-- IPv6 headers and Fragment headers (RFC 8200 3, 4.5).
use Rattle.std.specs.Prelude.{◌≡◌, ℕ, ◌+◌, ◌*◌, ◌/◌, ◌%◌, ◌^◌, ◌<◌, ◌==◌, nat_le, List, ◌∷◌, ◌++◌, length, take, drop, Result, Ok}
use Rattle.std.specs.Prelude.{if◌then◌else◌}
use Rattle.aftr_base.specs.Attempt.{◌>>◌, require}
use Rattle.aftr_base.specs.Value.{ip6}
use Rattle.aftr_base.specs.Bytes.{u8_at, u16_at, u32_at, u128_at, be16, be32, be128}
use Rattle.wire_ip6.specs.declared.fields.Ip6Fields.{Ip6Fields}
use Rattle.wire_ip6.specs.declared.fields.FragHead.{FragHead}
use Rattle.wire_ip6.specs.declared.fields.Ip6Bad.{Ip6Bad}
use Rattle.wire_ip6.specs.declared.fields.Ip6Bad.TheVariants.{Short, Version, PayloadLen}

-- ---- packets

-- The bytes of a header with this flow label, which is none of the fields (RFC 8200 3).
abbrev pub header_bytes_with : ℕ → Ip6Fields → List ℕ
header_bytes_with label f =
    be32 (6 * 2 ^ 28 + f.class * 2 ^ 20 + label) ++ be16 f.payload ++ f.next ∷ f.hops ∷ (be128 f.src.0 ++ be128 f.dst.0)

-- The one spelling of a header that is written: its flow label is 0.
abbrev pub header_bytes : Ip6Fields → List ℕ
header_bytes f = header_bytes_with 0 f

-- each field has the width that the header gives it
pub record FitsHeader (f : Ip6Fields) : Type 0 where
  pub class : f.class < 2 ^ 8
  pub payload : f.payload < 2 ^ 16
  pub next : f.next < 2 ^ 8
  pub hops : f.hops < 2 ^ 8
  pub src : f.src.0 < 2 ^ 128
  pub dst : f.dst.0 < 2 ^ 128

-- The bytes are a header with any flow label, the payload that it counts, and whatever stands beyond.
pub record SpellsPacket (bytes : List ℕ) (f : Ip6Fields) (payload : List ℕ) : Type 0 where
  pub fits : FitsHeader f
  pub counted : f.payload ≡ length payload
  pub spelled : (label : ℕ) × (beyond : List ℕ) × (label < 2 ^ 20) × (bytes ≡ header_bytes_with label f ++ payload ++ beyond)

-- the fields of the header at the front
abbrev pub fields_of : List ℕ → Ip6Fields
fields_of bytes = record {
  class = u32_at 0 bytes / 2 ^ 20 % 2 ^ 8;
  payload = u16_at 4 bytes;
  next = u8_at 6 bytes;
  hops = u8_at 7 bytes;
  src = ip6 (u128_at 8 bytes);
  dst = ip6 (u128_at 24 bytes);
}

-- A packet and its payload, which ends where the payload length says: bytes may follow it.
abbrev pub packet_of : List ℕ → Result (Ip6Fields × List ℕ) Ip6Bad
packet_of bytes = do
  require (nat_le 40 (length bytes)) Short
  require (u32_at 0 bytes / 2 ^ 28 == 6) Version
  require (nat_le (40 + u16_at 4 bytes) (length bytes)) PayloadLen
  Ok (fields_of bytes, take (u16_at 4 bytes) (drop 40 bytes))

-- every packet that the bytes spell is the answer
abbrev pub AcceptsPackets : List ℕ → Result (Ip6Fields × List ℕ) Ip6Bad → Type 0
AcceptsPackets bytes answer =
    (f : Ip6Fields) (payload : List ℕ) → SpellsPacket bytes f payload → answer ≡ Ok (f, payload)

-- this header, before a payload that it counts and anything beyond, is read as these fields and that payload
abbrev pub ReadsBack : Ip6Fields → List ℕ → Type 0
ReadsBack f header =
    (payload beyond : List ℕ) → length payload ≡ f.payload → packet_of (header ++ payload ++ beyond) ≡ Ok (f, payload)

-- ---- pieces

-- the last bit of a Fragment header's second word: whether pieces follow
abbrev pub more_bit : FragHead → ℕ
more_bit h = if h.more then 1 else 0

-- The bytes of a Fragment header with these reserved bits, a byte and two bits (RFC 8200 4.5).
abbrev pub frag_bytes_with : ℕ → ℕ → FragHead → List ℕ
frag_bytes_with reserved two h = h.next ∷ reserved ∷ (be16 (8 * h.offset + 2 * two + more_bit h) ++ be32 h.id)

-- The one spelling of a Fragment header that is written: its reserved bits are 0.
abbrev pub frag_bytes : FragHead → List ℕ
frag_bytes h = frag_bytes_with 0 0 h

-- each field has the width that the header gives it
pub record FitsPiece (h : FragHead) : Type 0 where
  pub next : h.next < 2 ^ 8
  pub offset : h.offset < 2 ^ 13
  pub id : h.id < 2 ^ 32

-- The bytes are a Fragment header with any reserved bits, and then the rest.
pub record SpellsPiece (bytes : List ℕ) (h : FragHead) (rest : List ℕ) : Type 0 where
  pub fits : FitsPiece h
  pub spelled : (reserved : ℕ) × (two : ℕ) × (reserved < 2 ^ 8) × (two < 4) × (bytes ≡ frag_bytes_with reserved two h ++ rest)

-- the Fragment header at the front
abbrev pub frag_of : List ℕ → FragHead
frag_of bytes = record { next = u8_at 0 bytes; offset = u16_at 2 bytes / 8; more = u16_at 2 bytes % 2 == 1; id = u32_at 4 bytes }

-- this Fragment header, before anything, is read as these fields
abbrev pub ReadsPieceBack : FragHead → List ℕ → Type 0
ReadsPieceBack h header = (rest : List ℕ) → frag_of (header ++ rest) ≡ h

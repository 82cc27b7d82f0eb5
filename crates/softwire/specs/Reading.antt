-- What the pieces of a cut packet are read as, and what their bytes show (RFC 791 3.1; RFC 8200 3, 4.5).
use Rattle.std.specs.Prelude.{◌≡◌, ℕ, ◌+◌, ◌*◌, ◌/◌, ◌%◌, ◌^◌, ◌<◌, ◌≤◌, ◌==◌, List, [], ◌∷◌, ◌++◌, length, Ok}
use Rattle.std.specs.List.{All}
use Rattle.aftr_base.specs.Bytes.{u8_at, u16_at, u32_at, u128_at}
use Rattle.aftr_base.specs.declared.value.Ip6.{Ip6}
use Rattle.wire_ip4.specs.declared.fields.Ip4Fields.{Ip4Fields}
use Rattle.wire_ip4.specs.Grammar.{Header, header_bytes, header_with, packet_of}
use Rattle.wire_ip6.specs.declared.fields.FragHead.{FragHead}
use Rattle.wire_ip6.specs.Chain.{InnerPiece}
use Rattle.softwire.specs.Tunnel.{decapsulated, carrier, Arrives}
use Rattle.softwire.specs.Cut.{piece_count, piece_of, more_follow, room_of, piece_fields, ip4_piece, cut_packet, fragment, encapsulated}

-- so many bytes at the front of the payload stand at this offset
pub record ShowsFront (offset n : ℕ) (payload bytes : List ℕ) : Type 0 where
  pub octets : (k : ℕ) → k + 1 ≤ n → u8_at (offset + k) bytes ≡ u8_at k payload
  pub words : (k : ℕ) → k + 2 ≤ n → u16_at (offset + k) bytes ≡ u16_at k payload
  pub long_words : (k : ℕ) → k + 4 ≤ n → u32_at (offset + k) bytes ≡ u32_at k payload

-- each of the packets has at most so many bytes
abbrev pub AreWithin : ℕ → List (List ℕ) → Type 0
AreWithin most packets = All (λ (packet : List ℕ). length packet ≤ most) packets

-- ---- an IPv4 packet

-- the header of the i-th piece
abbrev pub piece_header : Ip4Fields → ℕ → List ℕ → ℕ → Header
piece_header f n payload i = header_with (piece_fields f (length (piece_of n payload i)) (n * i / 8) (more_follow n payload i))

-- each piece is read as its header and its part of the payload
abbrev pub PiecesReadBack : Ip4Fields → ℕ → List ℕ → Type 0
PiecesReadBack f n payload =
    (i : ℕ) → i < piece_count n payload → packet_of (ip4_piece f n payload i) ≡ Ok (piece_header f n payload i, piece_of n payload i)

-- the bytes show these fields of their header
pub record ShowsHeader (f : Ip4Fields) (bytes : List ℕ) : Type 0 where
  pub id : u16_at 4 bytes ≡ f.id
  pub more : (u8_at 6 bytes / 32 % 2 == 1) ≡ f.more
  pub offset : u16_at 6 bytes % 8192 ≡ f.offset
  pub protocol : u8_at 9 bytes ≡ f.proto
  pub source : u32_at 12 bytes ≡ f.src.0
  pub destination : u32_at 16 bytes ≡ f.dst.0

-- the bytes show the i-th piece's header, and whether it is the first piece
pub record ShowsPiece (f : Ip4Fields) (n : ℕ) (payload : List ℕ) (i : ℕ) (bytes : List ℕ) : Type 0 where
  pub header : ShowsHeader (piece_header f n payload i).fields bytes
  pub first : (u16_at 6 bytes % 8192 == 0) ≡ (i == 0)

-- each piece's bytes do, and the first one's show the front of the payload
pub record PiecesShow (f : Ip4Fields) (n : ℕ) (payload : List ℕ) : Type 0 where
  pub each : (i : ℕ) → i < piece_count n payload → ShowsPiece f n payload i (ip4_piece f n payload i)
  pub front : ShowsFront 20 n payload (ip4_piece f n payload 0)

-- the bytes show this header, and the whole payload
pub record ShowsWhole (h : Header) (payload bytes : List ℕ) : Type 0 where
  pub header : ShowsHeader h.fields bytes
  pub front : (n : ℕ) → ShowsFront 20 n payload bytes

-- What a packet without options becomes: itself where it fits the MTU, and else pieces that are read as its parts. Their
-- bytes show their places, and none of the packets is longer than the MTU.
pub record CutTells (mtu : ℕ) (h : Header) (payload : List ℕ) : Type 0 where
  pub fits : 20 + length payload ≤ mtu → cut_packet mtu h payload ≡ (header_bytes h ++ payload) ∷ []
  pub whole : ShowsWhole h payload (header_bytes h ++ payload)
  pub read_back : PiecesReadBack h.fields (room_of mtu 20) payload
  pub pieces : PiecesShow h.fields (room_of mtu 20) payload
  pub within : AreWithin mtu (cut_packet mtu h payload)
  pub short : AreWithin 65535 (cut_packet mtu h payload)

-- ---- a packet for a softwire

-- the Fragment header of the i-th fragment
abbrev pub frag_head : ℕ → ℕ → List ℕ → ℕ → FragHead
frag_head id n inner i = record { next = 4; offset = n * i / 8; more = more_follow n inner i; id = id }

-- at the other end each fragment carries its part of the IPv4 packet from this end, and nothing else
abbrev pub FragmentsArrive : Ip6 → Ip6 → ℕ → ℕ → ℕ → List ℕ → Type 0
FragmentsArrive aftr softwire class id n inner =
    (i : ℕ) → i < piece_count n inner → decapsulated softwire (fragment aftr softwire class id n inner i)
    ≡ Ok record { softwire = aftr; behind = InnerPiece (frag_head id n inner i) (piece_of n inner i) }

-- The bytes show where they go, what they are a fragment of, and where it stands there.
pub record ShowsFragment (softwire : Ip6) (id n : ℕ) (inner : List ℕ) (i : ℕ) (bytes : List ℕ) : Type 0 where
  pub next : u8_at 6 bytes ≡ 44
  pub destination : u128_at 24 bytes ≡ softwire.0
  pub carries : u8_at 40 bytes ≡ 4
  pub offset : u16_at 42 bytes / 8 ≡ n * i / 8
  pub first : (u16_at 42 bytes / 8 == 0) ≡ (i == 0)
  pub more : (u16_at 42 bytes % 2 == 1) ≡ more_follow n inner i
  pub number : u32_at 44 bytes ≡ id

-- each fragment's bytes do, and the first one's show the front of the IPv4 packet
pub record FragmentsShow (aftr softwire : Ip6) (class id n : ℕ) (inner : List ℕ) : Type 0 where
  pub each : (i : ℕ) → i < piece_count n inner → ShowsFragment softwire id n inner i (fragment aftr softwire class id n inner i)
  pub front : ShowsFront 48 n inner (fragment aftr softwire class id n inner 0)

-- the bytes show where they go, and the whole IPv4 packet
pub record ShowsCarrier (softwire : Ip6) (inner bytes : List ℕ) : Type 0 where
  pub next : u8_at 6 bytes ≡ 4
  pub destination : u128_at 24 bytes ≡ softwire.0
  pub front : (n : ℕ) → ShowsFront 40 n inner bytes

-- the addresses and the class have the width that a header gives them
pub record FitEnds (aftr softwire : Ip6) (class : ℕ) : Type 0 where
  pub near : aftr.0 < 2 ^ 128
  pub far : softwire.0 < 2 ^ 128
  pub marked : class < 2 ^ 8

-- What is sent into the softwire: the one packet where it fits the MTU, and else the fragments. Either comes to the other
-- end, their bytes show their places, and none of the packets is longer than the MTU.
pub record EncapTells (aftr softwire : Ip6) (class mtu id : ℕ) (inner : List ℕ) : Type 0 where
  pub fits : 40 + length inner ≤ mtu → encapsulated aftr softwire class mtu id inner ≡ carrier aftr softwire class inner ∷ []
  pub arrives : 40 + length inner ≤ mtu → Arrives aftr softwire class inner
  pub whole : ShowsCarrier softwire inner (carrier aftr softwire class inner)
  pub fragments_arrive : FragmentsArrive aftr softwire class id (room_of mtu 48) inner
  pub fragments : FragmentsShow aftr softwire class id (room_of mtu 48) inner
  pub within : AreWithin mtu (encapsulated aftr softwire class mtu id inner)
  pub short : AreWithin 65535 (encapsulated aftr softwire class mtu id inner)

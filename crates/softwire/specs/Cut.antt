-- Packets that are longer than a link takes, cut (RFC 791 3.2; RFC 8200 4.5, RFC 6333 5.3).
use Rattle.std.specs.Prelude.{◌≡◌, ◌<◌, ℕ, ◌+◌, ◌-◌, ◌*◌, ◌/◌, ◌%◌, Bool, nat_lt, min, List, [], ◌∷◌, ◌++◌, length, map}
use Rattle.std.specs.Prelude.{slice_range, if◌then◌else◌}
use Rattle.std.specs.List.{concat, range_with_len}
use Rattle.aftr_base.specs.declared.value.Ip6.{Ip6}
use Rattle.wire_ip4.specs.declared.fields.Ip4Fields.{Ip4Fields}
use Rattle.wire_ip4.specs.Grammar.{Header, header_bytes, header_with}
use Rattle.wire_ip6.specs.Grammar.{frag_bytes}
use Rattle.softwire.specs.Tunnel.{carrier, tunnel_packet}

-- how many parts of n bytes these bytes are cut into, of which the last may be shorter
abbrev pub piece_count : ℕ → List ℕ → ℕ
piece_count n bytes = length bytes / n + min 1 (length bytes % n)

-- the i-th of these parts, from 0
abbrev pub piece_of : ℕ → List ℕ → ℕ → List ℕ
piece_of n bytes i = slice_range bytes (n * i) (n * i + n)

-- whether a further part follows the i-th
abbrev pub more_follow : ℕ → List ℕ → ℕ → Bool
more_follow n bytes i = nat_lt (i + 1) (piece_count n bytes)

-- the parts before the i-th, joined in order
abbrev pub joined_before : ℕ → List ℕ → ℕ → List ℕ
joined_before n bytes i = concat (map (piece_of n bytes) (range_with_len 0 i))

-- All the parts joined in order are the bytes, and each part's offset, in units of 8 bytes, is where those before it end.
pub record JoinsAgain (n : ℕ) (bytes : List ℕ) : Type 0 where
  pub whole : joined_before n bytes (piece_count n bytes) ≡ bytes
  pub places : (i : ℕ) → i < piece_count n bytes → n * i / 8 * 8 ≡ length (joined_before n bytes i)

-- the greatest multiple of 8 bytes that fits behind so many bytes of headers
abbrev pub room_of : ℕ → ℕ → ℕ
room_of mtu headers = (mtu - headers) / 8 * 8

-- ---- an IPv4 packet

-- the fields of a piece: its own length, its place, and whether others follow
abbrev pub piece_fields : Ip4Fields → ℕ → ℕ → Bool → Ip4Fields
piece_fields f len offset more = record f { total = 20 + len; more = more; offset = offset }

-- the i-th piece, with a header and a checksum of its own
abbrev pub ip4_piece : Ip4Fields → ℕ → List ℕ → ℕ → List ℕ
ip4_piece f n payload i =
    let piece = piece_of n payload i in
    header_bytes (header_with (piece_fields f (length piece) (n * i / 8) (more_follow n payload i))) ++ piece

abbrev pub ip4_pieces : Ip4Fields → ℕ → List ℕ → List (List ℕ)
ip4_pieces f n payload = map (ip4_piece f n payload) (range_with_len 0 (piece_count n payload))

-- The packet as it stands, or its pieces where it is longer than the MTU.
abbrev pub cut_packet : ℕ → Header → List ℕ → List (List ℕ)
cut_packet mtu h payload =
    if nat_lt mtu (20 + length payload) then ip4_pieces h.fields (room_of mtu 20) payload else (header_bytes h ++ payload) ∷ []

-- ---- a packet for a softwire

-- whether it is longer than the MTU once it is encapsulated
abbrev pub is_cut : ℕ → List ℕ → Bool
is_cut mtu inner = nat_lt mtu (40 + length inner)

-- the i-th fragment, whose Fragment header (44) stands before a part of the IPv4 packet (4)
abbrev pub fragment : Ip6 → Ip6 → ℕ → ℕ → ℕ → List ℕ → ℕ → List ℕ
fragment aftr softwire class id n inner i =
    tunnel_packet aftr softwire class 44
    (frag_bytes record { next = 4; offset = n * i / 8; more = more_follow n inner i; id = id } ++ piece_of n inner i)

abbrev pub fragments : Ip6 → Ip6 → ℕ → ℕ → ℕ → List ℕ → List (List ℕ)
fragments aftr softwire class id n inner = map (fragment aftr softwire class id n inner) (range_with_len 0 (piece_count n inner))

-- The IPv6 packet that carries the IPv4 packet, or its fragments where it is longer than the MTU.
abbrev pub encapsulated : Ip6 → Ip6 → ℕ → ℕ → ℕ → List ℕ → List (List ℕ)
encapsulated aftr softwire class mtu id inner =
    if is_cut mtu inner then fragments aftr softwire class id (room_of mtu 48) inner else carrier aftr softwire class inner ∷ []

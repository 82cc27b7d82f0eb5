-- How long the packets are that come of a cut.
use Rattle.std.proofs.Common.{◌≡◌, ℕ, ◌+◌, ◌≤◌, ◌<◌, Bool, true, false, cond, List, [], ◌∷◌, ◌++◌, length, map, refl, sym, ap}
use Rattle.std.proofs.Common.{◌∙◌, subst, arith, length-append}
use Rattle.std.specs.Prelude.{nat_lt}
use Rattle.std.specs.List.{All, range_with_len}
use Rattle.std.proofs.lemmas.Bool.{ltb-true, ltb-false, le-ltb}
use Rattle.std.proofs.lemmas.List.Elements.{All-nil, All-cons}
use Rattle.std.proofs.lemmas.List.FromFn.{get_or-map-range_with_len, length-map-range_with_len}
use Rattle.aftr_base.specs.declared.value.Ip6.{Ip6}
use Rattle.wire_ip4.specs.declared.fields.Ip4Fields.{Ip4Fields}
use Rattle.wire_ip4.specs.Grammar.{Header, header_bytes}
use Rattle.wire_ip4.proofs.HeaderRead.{length_written}
use Rattle.wire_ip6.specs.Grammar.{frag_bytes, header_bytes as header_bytes6}
use Rattle.softwire.specs.Tunnel.{tunnel_fields, tunnel_packet, carrier}
use Rattle.softwire.specs.Cut.{piece_count, piece_of, room_of, ip4_piece, ip4_pieces, cut_packet, fragment, fragments, is_cut, encapsulated}
use Rattle.softwire.specs.Reading.{AreWithin, piece_header, frag_head}
use Rattle.softwire.proofs.PieceBytes.{header_long, behind_long}
use Rattle.softwire.proofs.PieceReads.{part_short, part_inside}

-- what holds of each number from 0 on below n holds of what f makes of them
pub all_made : {X : Type 0} (P : X → Type 0) (f : ℕ → X) (n : ℕ) → ((i : ℕ) → i < n → P (f i)) → All P (map f (range_with_len 0 n))
all_made P f n each = λ i d lt.
    let inside : i < n = omega (arith, lt, length-map-range_with_len f 0 n) in
    subst P (sym (get_or-map-range_with_len f 0 n i i d inside (omega arith))) (each i inside)

either : {X : Type 0} (P : X → Type 0) (b : Bool) (cut : List X) (x : X) → (b ≡ true → All P cut) → (b ≡ false → P x)
    → All P (cond b cut (x ∷ []))
either P true cut x pieces whole = pieces refl
either P false cut x pieces whole = All-cons P x [] (whole refl) (All-nil P)

-- no longer than any greater length
pub within_more : (less more : ℕ) (packets : List (List ℕ)) → less ≤ more → AreWithin less packets → AreWithin more packets
within_more less more packets le each i d lt = omega (arith, le, each i d lt)

-- ---- an IPv4 packet

pub piece_long : (f : Ip4Fields) (n : ℕ) (payload : List ℕ) (i : ℕ) → length (ip4_piece f n payload i) ≡ 20 + length (piece_of n payload i)
piece_long f n payload i =
    let header = piece_header f n payload i in
    length-append (header_bytes header) (piece_of n payload i) ∙ ap (λ (k : ℕ). k + length (piece_of n payload i)) (length_written header)

-- what holds of the packet that fits, or of each piece of one that doesn't
pub all_packets : (P : List ℕ → Type 0) (mtu : ℕ) (h : Header) (payload : List ℕ)
    → (20 + length payload ≤ mtu → P (header_bytes h ++ payload))
    → (mtu < 20 + length payload → (i : ℕ) → i < piece_count (room_of mtu 20) payload → P (ip4_piece h.fields (room_of mtu 20) payload i))
    → All P (cut_packet mtu h payload)
all_packets P mtu h payload whole each =
    let n = room_of mtu 20 in
    either P (nat_lt mtu (20 + length payload)) (ip4_pieces h.fields n payload) (header_bytes h ++ payload)
    (λ longer. all_made P (ip4_piece h.fields n payload) (piece_count n payload) (each (ltb-true mtu (20 + length payload) longer)))
    (λ fits. whole (ltb-false mtu (20 + length payload) fits))

pub packet_alone : (mtu : ℕ) (h : Header) (payload : List ℕ) → 20 + length payload ≤ mtu
    → cut_packet mtu h payload ≡ (header_bytes h ++ payload) ∷ []
packet_alone mtu h payload fits =
    ap (λ (b : Bool). cond b (ip4_pieces h.fields (room_of mtu 20) payload) ((header_bytes h ++ payload) ∷ []))
    (le-ltb mtu (20 + length payload) fits)

pub packets_within : (mtu : ℕ) (h : Header) (payload : List ℕ) → 20 ≤ mtu → h.options ≡ [] → AreWithin mtu (cut_packet mtu h payload)
packets_within mtu h payload room bare =
    all_packets (λ (packet : List ℕ). length packet ≤ mtu) mtu h payload
    (λ fits. omega (arith, fits, length-append (header_bytes h) payload, length_written h, ap length bare))
    (λ longer i lt. omega (arith, room, piece_long h.fields (room_of mtu 20) payload i, part_short (room_of mtu 20) payload i))

pub packets_short : (mtu : ℕ) (h : Header) (payload : List ℕ) → 20 ≤ mtu → length payload ≤ 65515 → h.options ≡ []
    → AreWithin 65535 (cut_packet mtu h payload)
packets_short mtu h payload room short bare =
    all_packets (λ (packet : List ℕ). length packet ≤ 65535) mtu h payload
    (λ fits. omega (arith, short, length-append (header_bytes h) payload, length_written h, ap length bare))
    (λ longer i lt. omega (arith, short, piece_long h.fields (room_of mtu 20) payload i, part_inside (room_of mtu 20) payload i))

-- ---- a packet for a softwire

packet_long : (aftr softwire : Ip6) (class next : ℕ) (bytes : List ℕ)
    → length (tunnel_packet aftr softwire class next bytes) ≡ 40 + length bytes
packet_long aftr softwire class next bytes =
    let header = tunnel_fields aftr softwire class next (length bytes) in
    length-append (header_bytes6 header) bytes ∙ ap (λ (k : ℕ). k + length bytes) (header_long header)

pub fragment_long : (aftr softwire : Ip6) (class id n : ℕ) (inner : List ℕ) (i : ℕ)
    → length (fragment aftr softwire class id n inner i) ≡ 48 + length (piece_of n inner i)
fragment_long aftr softwire class id n inner i =
    let head = frag_head id n inner i in
    let whole = packet_long aftr softwire class 44 (frag_bytes head ++ piece_of n inner i) in
    omega (arith, whole, behind_long head (piece_of n inner i))

-- what holds of the packet that fits, or of each fragment of one that doesn't
pub all_encapsulated : (P : List ℕ → Type 0) (aftr softwire : Ip6) (class mtu id : ℕ) (inner : List ℕ)
    → (40 + length inner ≤ mtu → P (carrier aftr softwire class inner))
    → (mtu < 40 + length inner → (i : ℕ) → i < piece_count (room_of mtu 48) inner
    → P (fragment aftr softwire class id (room_of mtu 48) inner i))
    → All P (encapsulated aftr softwire class mtu id inner)
all_encapsulated P aftr softwire class mtu id inner whole each =
    let n = room_of mtu 48 in
    either P (is_cut mtu inner) (fragments aftr softwire class id n inner) (carrier aftr softwire class inner)
    (λ longer. all_made P (fragment aftr softwire class id n inner) (piece_count n inner) (each (ltb-true mtu (40 + length inner) longer)))
    (λ fits. whole (ltb-false mtu (40 + length inner) fits))

pub carrier_alone : (aftr softwire : Ip6) (class mtu id : ℕ) (inner : List ℕ) → 40 + length inner ≤ mtu
    → encapsulated aftr softwire class mtu id inner ≡ carrier aftr softwire class inner ∷ []
carrier_alone aftr softwire class mtu id inner fits =
    ap (λ (b : Bool). cond b (fragments aftr softwire class id (room_of mtu 48) inner) (carrier aftr softwire class inner ∷ []))
    (le-ltb mtu (40 + length inner) fits)

pub encapsulated_within : (aftr softwire : Ip6) (class mtu id : ℕ) (inner : List ℕ) → 48 ≤ mtu
    → AreWithin mtu (encapsulated aftr softwire class mtu id inner)
encapsulated_within aftr softwire class mtu id inner room =
    let n = room_of mtu 48 in
    all_encapsulated (λ (packet : List ℕ). length packet ≤ mtu) aftr softwire class mtu id inner
    (λ fits. omega (arith, fits, packet_long aftr softwire class 4 inner))
    (λ longer i lt. omega (arith, room, fragment_long aftr softwire class id n inner i, part_short n inner i))

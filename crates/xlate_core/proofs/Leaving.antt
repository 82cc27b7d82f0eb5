-- Packets that leave, whole or in pieces: how many they are, how long, and whose.
use Rattle.std.proofs.Common.{◌≡◌, ℕ, zero, suc, ◌+◌, ◌-◌, ◌*◌, ◌/◌, ◌%◌, ◌≤◌, ◌<◌, Bool, true, false, cond, List, [], ◌∷◌, ◌++◌, length, map}
use Rattle.std.proofs.Common.{All, Some, None, nat_le, refl, arith}
use Rattle.std.specs.Prelude.{Option, is_some, min, nat_lt}
use Rattle.std.specs.List.{list_any, range_with_len}
use Rattle.std.proofs.Math.Nat.{mul-le-mul_right}
use Rattle.std.proofs.lemmas.Bool.{leb-true, leb-false, ltb-true}
use Rattle.std.proofs.lemmas.Grind.{div_ceil_times}
use Rattle.std.proofs.lemmas.List.{length-map}
use Rattle.std.proofs.lemmas.List.Elements.{All-nil, All-cons, All-head, All-tail}
use Rattle.std.proofs.lemmas.List.FromFn.{length-map-range_with_len}
use Rattle.aftr_base.specs.declared.value.Ip6.{Ip6}
use Rattle.aftr_base.specs.declared.value.Side.{Side}
use Rattle.aftr_base.specs.declared.value.Side.TheVariants.{Public as PublicSide, Softwire as SoftwireSide}
use Rattle.aftr_base.specs.declared.value.Subscriber.{Subscriber}
use Rattle.cfg_text.specs.Accepted.{is_accepted}
use Rattle.cfg_text.proofs.Facts.{facts}
use Rattle.fragment_ids.specs.Ids.{next_id}
use Rattle.nat_mapping.specs.Rows.{Mapping}
use Rattle.softwire.specs.Cut.{cut_packet, encapsulated, fragment, fragments, ip4_piece, ip4_pieces, is_cut, piece_count, room_of}
use Rattle.softwire.specs.Reading.{AreWithin}
use Rattle.softwire.specs.Tunnel.{carrier}
use Rattle.softwire.proofs.Lengths.{encapsulated_within, packets_short, within_more}
use Rattle.wire_ip4.specs.Grammar.{Header, header_bytes}
use Rattle.xlate_core.specs.declared.step_out.Item.{Item}
use Rattle.xlate_core.specs.Sending.{public_items, softwire_items}
use Rattle.xlate_core.specs.State.{State, item}
use Rattle.xlate_core.specs.Stepped.{AreShort}

-- ---- what holds of each packet holds of each item

pub all_items : (P : Item → Type 0) (f : List ℕ → Item) (packets : List (List ℕ)) → All (λ (bytes : List ℕ). P (f bytes)) packets
    → All P (map f packets)
all_items P f [] h = All-nil P
all_items P f (x ∷ xs) h =
    let here = All-head (λ (bytes : List ℕ). P (f bytes)) x xs h in
    let later = All-tail (λ (bytes : List ℕ). P (f bytes)) x xs h in
    All-cons P (f x) (map f xs) here (all_items P f xs later)

pub all_of : (P : Item → Type 0) (f : List ℕ → Item) (packets : List (List ℕ)) → ((bytes : List ℕ) → P (f bytes)) → All P (map f packets)
all_of P f [] each = All-nil P
all_of P f (x ∷ xs) each = All-cons P (f x) (map f xs) (each x) (all_of P f xs each)

-- ---- whose they are

abbrev pub is_owned : Item → Bool
is_owned i = is_some i.owner

some_owned : (s : State) (side : Side) (owner : Subscriber) (packets : List (List ℕ)) → 0 < length packets
    → list_any is_owned (map (item s side (Some owner)) packets) ≡ true
some_owned s side owner [] some = absurd (omega (arith, some))
some_owned s side owner (x ∷ xs) some = refl

none_owned : (s : State) (side : Side) (packets : List (List ℕ)) → list_any is_owned (map (item s side None) packets) ≡ false
none_owned s side [] = refl
none_owned s side (x ∷ xs) = none_owned s side xs

-- ---- how many they are

positive : (count n len : ℕ) → 0 < len → len ≤ count * n → 0 < count
positive zero n len some le = absurd (omega (arith, some, le))
positive (suc count) n len some le = omega arith

some_pieces : (n : ℕ) (bytes : List ℕ) → 0 < n → 0 < length bytes → 0 < piece_count n bytes
some_pieces n bytes room some = positive (piece_count n bytes) n (length bytes) some (div_ceil_times (length bytes) n room).0

some_by : (cut : Bool) (pieces : List (List ℕ)) (whole : List ℕ) → (cut ≡ true → 0 < length pieces) → 0 < length (cond cut pieces (whole ∷ []))
some_by true pieces whole h = h refl
some_by false pieces whole h = omega arith

some_cut : (mtu : ℕ) (h : Header) (payload : List ℕ) → 28 ≤ mtu → 0 < length (cut_packet mtu h payload)
some_cut mtu h payload room =
    let n = room_of mtu 20 in
    let count = piece_count n payload in
    some_by (nat_lt mtu (20 + length payload)) (ip4_pieces h.fields n payload) (header_bytes h ++ payload) (λ longer.
    let some = some_pieces n payload (omega arith) (omega (arith, ltb-true mtu (20 + length payload) longer)) in
    omega (arith, some, length-map-range_with_len (ip4_piece h.fields n payload) 0 count))

some_encapsulated : (aftr softwire : Ip6) (class mtu id : ℕ) (inner : List ℕ) → 56 ≤ mtu
    → 0 < length (encapsulated aftr softwire class mtu id inner)
some_encapsulated aftr softwire class mtu id inner room =
    let n = room_of mtu 48 in
    let count = piece_count n inner in
    some_by (is_cut mtu inner) (fragments aftr softwire class id n inner) (carrier aftr softwire class inner) (λ longer.
    let some = some_pieces n inner (omega arith) (omega (arith, ltb-true mtu (40 + length inner) longer)) in
    omega (arith, some, length-map-range_with_len (fragment aftr softwire class id n inner) 0 count))

-- however many units of 8 bytes a piece has
few_by : (few : Bool) (count n len : ℕ) → nat_le count 8192 ≡ few → 8 ≤ n → len ≤ 65535 → count * n < len + n → count ≤ 8192
few_by true count n len e units short most = leb-true count 8192 e
few_by false count n len e units short most =
    let more : 8193 * n ≤ count * n = mul-le-mul_right n (omega (arith, leb-false count 8192 e)) in
    absurd (omega (arith, more, units, short, most))

few_pieces : (units : ℕ) (bytes : List ℕ) → length bytes ≤ 65535 → piece_count (units * 8) bytes ≤ 8192
few_pieces zero bytes short = omega (arith, short)
few_pieces (suc units) bytes short =
    let n = suc units * 8 in
    let len = length bytes in
    few_by (nat_le (piece_count n bytes) 8192) (piece_count n bytes) n len refl (omega arith) short (div_ceil_times len n (omega arith)).1

few_or_one : (cut : Bool) (pieces : List (List ℕ)) (whole : List ℕ) → length pieces ≤ 8192 → length (cond cut pieces (whole ∷ [])) ≤ 8192
few_or_one true pieces whole few = few
few_or_one false pieces whole few = omega arith

few_cut : (mtu : ℕ) (h : Header) (payload : List ℕ) → length payload ≤ 65535 → length (cut_packet mtu h payload) ≤ 8192
few_cut mtu h payload short =
    let n = room_of mtu 20 in
    few_or_one (nat_lt mtu (20 + length payload)) (ip4_pieces h.fields n payload) (header_bytes h ++ payload)
    (omega (arith, few_pieces ((mtu - 20) / 8) payload short, length-map-range_with_len (ip4_piece h.fields n payload) 0 (piece_count n payload)))

few_encapsulated : (aftr softwire : Ip6) (class mtu id : ℕ) (inner : List ℕ) → length inner ≤ 65535
    → length (encapsulated aftr softwire class mtu id inner) ≤ 8192
few_encapsulated aftr softwire class mtu id inner short =
    let n = room_of mtu 48 in
    few_or_one (is_cut mtu inner) (fragments aftr softwire class id n inner) (carrier aftr softwire class inner)
    (omega (arith, few_pieces ((mtu - 48) / 8) inner short, length-map-range_with_len (fragment aftr softwire class id n inner) 0 (piece_count n inner)))

-- ---- to the public side

pub few_public : (s : State) (owner : Subscriber) (h : Header) (payload : List ℕ) → length payload ≤ 65535
    → length (public_items s owner h payload) ≤ 8192
few_public s owner h payload short =
    let packets = cut_packet s.config.public_mtu h payload in
    omega (arith, length-map packets (item s PublicSide (Some owner)), few_cut s.config.public_mtu h payload short)

pub owned_public : (s : State) (owner : Subscriber) (h : Header) (payload : List ℕ) → is_accepted s.config ≡ true
    → list_any is_owned (public_items s owner h payload) ≡ true
owned_public s owner h payload ok =
    let least = (facts s.config ok).public_least in
    some_owned s PublicSide owner (cut_packet s.config.public_mtu h payload) (some_cut s.config.public_mtu h payload (omega (arith, least)))

pub short_items : (s : State) (side : Side) (owner : Option Subscriber) (packets : List (List ℕ)) → AreWithin 65535 packets
    → AreShort (map (item s side owner) packets)
short_items s side owner packets short = all_items (λ (i : Item). length i.bytes ≤ 65535) (item s side owner) packets short

pub short_public : (s : State) (owner : Subscriber) (h : Header) (payload : List ℕ) → is_accepted s.config ≡ true → h.options ≡ []
    → length payload ≤ 65515 → AreShort (public_items s owner h payload)
short_public s owner h payload ok bare short =
    let least = (facts s.config ok).public_least in
    short_items s PublicSide (Some owner) (cut_packet s.config.public_mtu h payload)
    (packets_short s.config.public_mtu h payload (omega (arith, least)) short bare)

-- ---- to a softwire

abbrev pub packets_in : State → Mapping → ℕ → List ℕ → List (List ℕ)
packets_in s row class inner =
    encapsulated s.config.aftr row.key.softwire class s.config.softwire_mtu (next_id row.owner s.cuts) inner

pub few_softwire : (s : State) (owner : Option Subscriber) (row : Mapping) (class : ℕ) (inner : List ℕ) → length inner ≤ 65535
    → length (softwire_items s owner row class inner) ≤ 8192
few_softwire s owner row class inner short =
    let few = few_encapsulated s.config.aftr row.key.softwire class s.config.softwire_mtu (next_id row.owner s.cuts) inner short in
    omega (arith, length-map (packets_in s row class inner) (item s SoftwireSide owner), few)

pub owned_softwire : (s : State) (owner : Subscriber) (row : Mapping) (class : ℕ) (inner : List ℕ) → is_accepted s.config ≡ true
    → list_any is_owned (softwire_items s (Some owner) row class inner) ≡ true
owned_softwire s owner row class inner ok =
    let least = (facts s.config ok).softwire_least in
    some_owned s SoftwireSide owner (packets_in s row class inner)
    (some_encapsulated s.config.aftr row.key.softwire class s.config.softwire_mtu (next_id row.owner s.cuts) inner (omega (arith, least)))

pub nobodys_softwire : (s : State) (row : Mapping) (class : ℕ) (inner : List ℕ)
    → list_any is_owned (softwire_items s None row class inner) ≡ false
nobodys_softwire s row class inner = none_owned s SoftwireSide (packets_in s row class inner)

pub short_softwire : (s : State) (owner : Option Subscriber) (row : Mapping) (class : ℕ) (inner : List ℕ) → is_accepted s.config ≡ true
    → AreShort (softwire_items s owner row class inner)
short_softwire s owner row class inner ok =
    let mtu = s.config.softwire_mtu in
    let within = encapsulated_within s.config.aftr row.key.softwire class mtu (next_id row.owner s.cuts) inner
    (omega (arith, (facts s.config ok).softwire_least)) in
    short_items s SoftwireSide owner (packets_in s row class inner)
    (within_more mtu 65535 (packets_in s row class inner) (facts s.config ok).softwire_most within)

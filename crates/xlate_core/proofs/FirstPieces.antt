-- Where a packet that leaves comes from, read from its first piece as from the whole packet.
use Rattle.std.proofs.Common.{◌≡◌, ℕ, ◌+◌, ◌-◌, ◌*◌, ◌/◌, ◌%◌, ◌≤◌, ◌<◌, ◌==◌, Bool, true, false, not, List, [], ◌∷◌, ◌++◌, length, drop, All}
use Rattle.std.proofs.Common.{Option, Some, None, refl, sym, ap, ap₂, ◌∙◌, subst, arith}
use Rattle.std.specs.Prelude.{IfSome, ◌&&◌, ◌||◌, if◌then◌else◌}
use Rattle.std.proofs.lemmas.Bool.{eqb-true, not-true}
use Rattle.aftr_base.specs.Bytes.{u8_at, u16_at, u32_at, be16, be32, be128}
use Rattle.aftr_base.specs.Value.{ip4, ip6, place}
use Rattle.aftr_base.specs.declared.value.Ext.{Ext}
use Rattle.aftr_base.specs.declared.value.Ip6.{Ip6}
use Rattle.aftr_base.specs.declared.value.Side.TheVariants.{Public as PublicSide, Softwire as SoftwireSide}
use Rattle.aftr_base.specs.declared.value.Subscriber.{Subscriber}
use Rattle.aftr_base.specs.declared.row.LeaseRow.{LeaseRow}
use Rattle.cfg_text.specs.Accepted.{is_accepted}
use Rattle.cfg_text.proofs.Facts.{facts}
use Rattle.fragment_ids.specs.Ids.{next_id}
use Rattle.nat_mapping.specs.Rows.{Mapping}
use Rattle.softwire.specs.Cut.{cut_packet, encapsulated, fragment, ip4_piece, piece_count, piece_of, room_of}
use Rattle.softwire.specs.Reading.{FitEnds, ShowsFront, piece_header}
use Rattle.softwire.specs.Tunnel.{carrier}
use Rattle.softwire.proofs.FragmentReads.{fragments_show}
use Rattle.softwire.proofs.Fronts.{first_is, shows_front}
use Rattle.softwire.proofs.Lengths.{all_encapsulated, all_packets}
use Rattle.softwire.proofs.PieceReads.{behind_header, pieces_show}
use Rattle.wire_ip4.specs.declared.fields.Ip4Fields.{Ip4Fields}
use Rattle.wire_ip4.specs.Grammar.{AreFields, Header, header_bytes}
use Rattle.xlate_core.specs.declared.step_out.Item.{Item}
use Rattle.xlate_core.specs.Packet.{is_fault}
use Rattle.xlate_core.specs.Sending.{public_items, softwire_items}
use Rattle.xlate_core.specs.Sources.{is_fragment, is_query_at, port_at, port_offset, sender_of, source_of}
use Rattle.xlate_core.specs.State.{State, item}
use Rattle.xlate_core.proofs.Leaving.{all_items}
use Rattle.xlate_core.proofs.ValidRows.{lies_at}

-- a subscriber's packet has its source in an open lease of the subscriber
abbrev pub IsFromLease : List LeaseRow → Item → Type 0
IsFromLease leases i = IfSome (sender_of i) (λ (owner : Subscriber). lies_at leases owner (source_of i) ≡ true)

-- the place that a packet shows which begins there
abbrev pub source_at : ℕ → List ℕ → Ext
source_at at bytes = place (ip4 (u32_at (at + 12) bytes)) (port_at at bytes)

-- whose it is, where it is a first piece and shows it
shown_first : (P : Subscriber → Type 0) (owner : Subscriber) (first shows : Bool) → (first ≡ true → shows ≡ true → P owner)
    → IfSome (if first && shows then Some owner else None) P
shown_first P owner true true h = h refl refl
shown_first P owner true false h = tt
shown_first P owner false shows h = tt

-- ---- bytes with the same front show the same source

-- those that stand at an offset
record ShowsSource (at : ℕ) (inner bytes : List ℕ) : Type 0 where
  port : port_at at bytes ≡ port_at 0 inner
  query : is_query_at at bytes ≡ is_query_at 0 inner
  address : u32_at (at + 12) bytes ≡ u32_at 12 inner

port_shown : (at n : ℕ) (inner bytes : List ℕ) → 54 ≤ n → ShowsFront at n inner bytes → (icmp error about : Bool)
    → u16_at (port_offset at icmp error about) bytes ≡ u16_at (port_offset 0 icmp error about) inner
port_shown at n inner bytes room front false error about = front.words 20 (omega (arith, room))
port_shown at n inner bytes room front true false about = front.words 24 (omega (arith, room))
port_shown at n inner bytes room front true true true = front.words 52 (omega (arith, room))
port_shown at n inner bytes room front true true false = front.words 50 (omega (arith, room))

shown_behind : (at n : ℕ) (inner bytes : List ℕ) → 54 ≤ n → ShowsFront at n inner bytes → ShowsSource at inner bytes
shown_behind at n inner bytes room front =
    let proto = front.octets 9 (omega (arith, room)) in
    let kind = front.octets 20 (omega (arith, room)) in
    let number = front.octets 37 (omega (arith, room)) in
    record {
      port = (λ i. u16_at (port_offset at (proto i == 1) (is_fault (kind i)) (number i == 1)) bytes)
          ∙ port_shown at n inner bytes room front (u8_at 9 inner == 1) (is_fault (u8_at 20 inner)) (u8_at 37 inner == 1);
      query = λ i. (proto i == 1) && (not (is_fault (kind i)) || number i == 1);
      address = front.long_words 12 (omega (arith, room));
    }

-- two packets of one protocol whose payloads begin alike
port_alike : (n : ℕ) (payload x y : List ℕ) → 34 ≤ n → ShowsFront 20 n payload x → ShowsFront 20 n payload y → (icmp error about : Bool)
    → u16_at (port_offset 0 icmp error about) x ≡ u16_at (port_offset 0 icmp error about) y
port_alike n payload x y room f g false error about = f.words 0 (omega (arith, room)) ∙ sym (g.words 0 (omega (arith, room)))
port_alike n payload x y room f g true false about = f.words 4 (omega (arith, room)) ∙ sym (g.words 4 (omega (arith, room)))
port_alike n payload x y room f g true true true = f.words 32 (omega (arith, room)) ∙ sym (g.words 32 (omega (arith, room)))
port_alike n payload x y room f g true true false = f.words 30 (omega (arith, room)) ∙ sym (g.words 30 (omega (arith, room)))

same_port : (n : ℕ) (payload x y : List ℕ) → 34 ≤ n → ShowsFront 20 n payload x → ShowsFront 20 n payload y → u8_at 9 x ≡ u8_at 9 y
    → port_at 0 x ≡ port_at 0 y
same_port n payload x y room f g proto =
    let kind : u8_at 20 x ≡ u8_at 20 y = f.octets 0 (omega (arith, room)) ∙ sym (g.octets 0 (omega (arith, room))) in
    let number : u8_at 37 x ≡ u8_at 37 y = f.octets 17 (omega (arith, room)) ∙ sym (g.octets 17 (omega (arith, room))) in
    (λ i. u16_at (port_offset 0 (proto i == 1) (is_fault (kind i)) (number i == 1)) x)
    ∙ port_alike n payload x y room f g (u8_at 9 y == 1) (is_fault (u8_at 20 y)) (u8_at 37 y == 1)

-- ---- to the public side

-- fields that matter to none of what is read here are 0
abbrev bare_fields : Ip4Fields → Ip4Fields
bare_fields f = record f { tos = 0; total = 0; id = 0; offset = 0; ttl = 0; proto = 0; src = ip4 0; dst = ip4 0 }

bare_are : (f : Ip4Fields) → AreFields (bare_fields f)
bare_are f = record {
  tos = omega arith;
  total = omega arith;
  id = omega arith;
  offset = omega arith;
  ttl = omega arith;
  proto = omega arith;
  src = omega arith;
  dst = omega arith;
}

first_told : (f : Ip4Fields) (n : ℕ) (payload : List ℕ) (i : ℕ) → 8 ≤ n → length payload ≤ 65515 → i < piece_count n payload
    → (u16_at 6 (ip4_piece f n payload i) % 8192 == 0) ≡ (i == 0)
unfolding be16 be32
first_told f n payload i units short lt = ((pieces_show (bare_fields f) (bare_are f) n units payload short).each i lt).first

same_proto : (h : Header) (n : ℕ) (payload : List ℕ) → u8_at 9 (ip4_piece h.fields n payload 0) ≡ u8_at 9 (header_bytes h ++ payload)
unfolding be16 be32
same_proto h n payload = refl

same_address : (h : Header) (n : ℕ) (payload : List ℕ) → u32_at 12 (ip4_piece h.fields n payload 0) ≡ u32_at 12 (header_bytes h ++ payload)
unfolding be16 be32
same_address h n payload = refl

-- the first piece shows the source of the whole packet
first_source : (h : Header) (n : ℕ) (payload : List ℕ) → 34 ≤ n → h.options ≡ []
    → source_at 0 (ip4_piece h.fields n payload 0) ≡ source_at 0 (header_bytes h ++ payload)
first_source h n payload room bare =
    let piece = ip4_piece h.fields n payload 0 in
    let whole = header_bytes h ++ payload in
    let part = piece_of n payload 0 in
    let front = shows_front 20 n payload part piece (behind_header (piece_header h.fields n payload 0) part refl) (first_is n payload) in
    let all = shows_front 20 n payload payload whole (behind_header h payload bare) refl in
    ap₂ (λ (a p : ℕ). place (ip4 a) p) (same_address h n payload) (same_port n payload piece whole room front all (same_proto h n payload))

-- what lies in a lease, as the packet shows it
pub from_public : (leases : List LeaseRow) (s : State) (owner : Subscriber) (h : Header) (payload : List ℕ) → is_accepted s.config ≡ true
    → h.options ≡ [] → length payload ≤ 65515 → lies_at leases owner (source_at 0 (header_bytes h ++ payload)) ≡ true
    → All (IsFromLease leases) (public_items s owner h payload)
from_public leases s owner h payload ok bare short lies =
    let mtu = s.config.public_mtu in
    let n = room_of mtu 20 in
    let least = (facts s.config ok).public_least in
    let room : 34 ≤ n = omega (arith, least) in
    let P = λ (bytes : List ℕ). IsFromLease leases (item s PublicSide (Some owner) bytes) in
    let shown = λ (bytes : List ℕ) (h : (u16_at 6 bytes % 8192 == 0) ≡ true → lies_at leases owner (source_at 0 bytes) ≡ true).
    shown_first (λ (o : Subscriber). lies_at leases o (source_at 0 bytes) ≡ true) owner (u16_at 6 bytes % 8192 == 0) true (λ first shows. h first) in
    all_items (IsFromLease leases) (item s PublicSide (Some owner)) (cut_packet mtu h payload)
    (all_packets P mtu h payload (λ fits. shown (header_bytes h ++ payload) (λ first. lies))
    (λ longer i lt. shown (ip4_piece h.fields n payload i) (λ first.
    let zero : i ≡ 0 = eqb-true i 0 (sym (first_told h.fields n payload i (omega (arith, room)) short lt) ∙ first) in
    ap (λ (k : ℕ). lies_at leases owner (source_at 0 (ip4_piece h.fields n payload k))) zero
    ∙ ap (lies_at leases owner) (first_source h n payload room bare) ∙ lies)))

-- ---- to a softwire

-- where the packet in it begins, and what it shows, by whether it is a fragment
abbrev ShownBy : List LeaseRow → Subscriber → List ℕ → Bool → Type 0
ShownBy leases owner bytes fragment =
    let at = if fragment then 48 else 40 in
    IfSome (if (not fragment || u16_at 42 bytes / 8 == 0) && not (is_query_at at bytes) then Some owner else None)
    (λ (o : Subscriber). lies_at leases o (source_at at bytes) ≡ true)

no_fragment : (aftr softwire : Ip6) (class : ℕ) (inner : List ℕ) → is_fragment (carrier aftr softwire class inner) ≡ false
unfolding be16 be32 be128
no_fragment aftr softwire class inner = refl

fragment_told : (aftr softwire : Ip6) (class id n : ℕ) (inner : List ℕ) (i : ℕ) → is_fragment (fragment aftr softwire class id n inner i) ≡ true
unfolding be16 be32 be128
fragment_told aftr softwire class id n inner i = refl

no_ends : FitEnds (ip6 0) (ip6 0) 0
no_ends = record { near = omega arith; far = omega arith; marked = omega arith }

first_fragment : (aftr softwire : Ip6) (class id n : ℕ) (inner : List ℕ) (i : ℕ) → 8 ≤ n → length inner ≤ 65535 → i < piece_count n inner
    → (u16_at 42 (fragment aftr softwire class id n inner i) / 8 == 0) ≡ (i == 0)
unfolding be16 be32 be128
first_fragment aftr softwire class id n inner i units short lt =
    ((fragments_show (ip6 0) (ip6 0) 0 0 n inner no_ends (omega arith) short units).each i lt).first

behind_carrier : (aftr softwire : Ip6) (class : ℕ) (inner : List ℕ) → drop 40 (carrier aftr softwire class inner) ≡ inner
unfolding be16 be32 be128
behind_carrier aftr softwire class inner = refl

behind_fragment : (aftr softwire : Ip6) (class id n : ℕ) (inner : List ℕ) (i : ℕ)
    → drop 48 (fragment aftr softwire class id n inner i) ≡ piece_of n inner i
unfolding be16 be32 be128
behind_fragment aftr softwire class id n inner i = refl

module _ (leases : List LeaseRow) (owner : Subscriber) (inner : List ℕ)
    (given : is_query_at 0 inner ≡ false → lies_at leases owner (source_at 0 inner) ≡ true) where
  lies_shown : (at : ℕ) (bytes : List ℕ) → ShowsSource at inner bytes → is_query_at at bytes ≡ false
      → lies_at leases owner (source_at at bytes) ≡ true
  lies_shown at bytes shows none =
      ap₂ (λ (a p : ℕ). lies_at leases owner (place (ip4 a) p)) shows.address shows.port ∙ given (sym shows.query ∙ none)

  whole_shown : (aftr softwire : Ip6) (class : ℕ) → ShownBy leases owner (carrier aftr softwire class inner) false
  whole_shown aftr softwire class =
      let bytes = carrier aftr softwire class inner in
      let front = shows_front 40 54 inner inner bytes (behind_carrier aftr softwire class inner) refl in
      shown_first (λ (o : Subscriber). lies_at leases o (source_at 40 bytes) ≡ true) owner true (not (is_query_at 40 bytes))
      (λ first shows. lies_shown 40 bytes (shown_behind 40 54 inner bytes (omega arith) front) (not-true (is_query_at 40 bytes) shows))

  piece_shown : (aftr softwire : Ip6) (class id n i : ℕ) → 54 ≤ n → length inner ≤ 65535 → i < piece_count n inner
      → ShownBy leases owner (fragment aftr softwire class id n inner i) true
  piece_shown aftr softwire class id n i room short lt =
      let bytes = fragment aftr softwire class id n inner in
      let first = fragment aftr softwire class id n inner 0 in
      let front = shows_front 48 n inner (piece_of n inner 0) first (behind_fragment aftr softwire class id n inner 0) (first_is n inner) in
      let lies = lies_shown 48 first (shown_behind 48 n inner first room front) in
      shown_first (λ (o : Subscriber). lies_at leases o (source_at 48 (bytes i)) ≡ true) owner (u16_at 42 (bytes i) / 8 == 0)
      (not (is_query_at 48 (bytes i))) (λ is_first shows.
      let zero : i ≡ 0 =
      eqb-true i 0 (sym (first_fragment aftr softwire class id n inner i (omega (arith, room)) short lt) ∙ is_first) in
      let none : is_query_at 48 first ≡ false =
      ap (λ (k : ℕ). is_query_at 48 (bytes k)) (sym zero) ∙ not-true (is_query_at 48 (bytes i)) shows in
      ap (λ (k : ℕ). lies_at leases owner (source_at 48 (bytes k))) zero ∙ lies none)

-- one that shows no identifier lies in a lease
pub from_softwire : (leases : List LeaseRow) (s : State) (owner : Subscriber) (row : Mapping) (class : ℕ) (inner : List ℕ)
    → is_accepted s.config ≡ true → length inner ≤ 65535
    → (is_query_at 0 inner ≡ false → lies_at leases owner (source_at 0 inner) ≡ true)
    → All (IsFromLease leases) (softwire_items s (Some owner) row class inner)
from_softwire leases s owner row class inner ok short given =
    let aftr = s.config.aftr in
    let to = row.key.softwire in
    let mtu = s.config.softwire_mtu in
    let n = room_of mtu 48 in
    let id = next_id row.owner s.cuts in
    let least = (facts s.config ok).softwire_least in
    let room : 54 ≤ n = omega (arith, least) in
    let P = λ (bytes : List ℕ). IsFromLease leases (item s SoftwireSide (Some owner) bytes) in
    all_items (IsFromLease leases) (item s SoftwireSide (Some owner)) (encapsulated aftr to class mtu id inner)
    (all_encapsulated P aftr to class mtu id inner
    (λ fits. subst (ShownBy leases owner (carrier aftr to class inner)) (sym (no_fragment aftr to class inner))
    (whole_shown leases owner inner given aftr to class))
    (λ longer i lt. subst (ShownBy leases owner (fragment aftr to class id n inner i)) (sym (fragment_told aftr to class id n inner i))
    (piece_shown leases owner inner given aftr to class id n i room short lt)))

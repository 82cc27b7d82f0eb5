-- The fragments of a packet for a softwire, as they are read.
use Rattle.std.proofs.Common.{◌≡◌, ℕ, ◌*◌, ◌/◌, ◌%◌, ◌^◌, ◌≤◌, ◌<◌, false, List, [], ◌++◌, length, drop, refl, sym, ap}
use Rattle.std.proofs.Common.{◌∙◌, arith}
use Rattle.std.specs.Prelude.{◌==◌, nat_lt, Ok}
use Rattle.std.proofs.lemmas.Bool.{cond-false, le-ltb}
use Rattle.std.proofs.lemmas.List.{append-nil}
use Rattle.std.specs.Int.{w16, w32, from_be_bytes}
use Rattle.aftr_base.specs.Bytes.{u8_at, u16_at, u32_at, u128_at, be16, be32, be128}
use Rattle.aftr_base.specs.declared.value.Ip6.{Ip6}
use Rattle.aftr_base.proofs.OctetLaws.{u128_spelled}
use Rattle.wire_ip6.specs.declared.fields.FragHead.{FragHead}
use Rattle.wire_ip6.specs.Grammar.{frag_bytes, frag_of, packet_of, SpellsPiece}
use Rattle.wire_ip6.specs.Chain.{InnerPacket, InnerPiece, CutShort, chain_of}
use Rattle.wire_ip6.proofs.ChainLaws.{chain_end}
use Rattle.wire_ip6.proofs.PacketLaws.{packet_read}
use Rattle.wire_ip6.proofs.PieceLaws.{piece_read}
use Rattle.softwire.specs.Tunnel.{decapsulated, tunnel_fields, tunnel_packet, carrier, Arrives}
use Rattle.softwire.specs.Cut.{piece_count, piece_of, fragment}
use Rattle.softwire.specs.Reading.{FitEnds, frag_head, FragmentsArrive, ShowsFragment, FragmentsShow, ShowsCarrier}
use Rattle.softwire.proofs.Pieces.{begins}
use Rattle.softwire.proofs.Fronts.{shows_front, first_is, part_at}
use Rattle.softwire.proofs.PieceReads.{part_short, first_offset}
use Rattle.softwire.proofs.TunnelLaws.{arrives_as}
use Rattle.softwire.proofs.PieceBytes.{behind_long}

-- ---- a packet from one end to the other

behind_header : (aftr softwire : Ip6) (class next : ℕ) (bytes : List ℕ) → drop 40 (tunnel_packet aftr softwire class next bytes) ≡ bytes
unfolding be16 be32 be128
behind_header aftr softwire class next bytes = refl

behind_both : (aftr softwire : Ip6) (class : ℕ) (h : FragHead) (part : List ℕ)
    → drop 48 (tunnel_packet aftr softwire class 44 (frag_bytes h ++ part)) ≡ part
unfolding be16 be32 be128
behind_both aftr softwire class h part = refl

next_shown : (aftr softwire : Ip6) (class next : ℕ) (bytes : List ℕ) → u8_at 6 (tunnel_packet aftr softwire class next bytes) ≡ next
unfolding be16 be32 be128
next_shown aftr softwire class next bytes = refl

destination_shown : (aftr softwire : Ip6) (class next : ℕ) (bytes : List ℕ) → softwire.0 < 2 ^ 128
    → u128_at 24 (tunnel_packet aftr softwire class next bytes) ≡ softwire.0
unfolding be16 be32 be128
destination_shown aftr softwire class next bytes fits =
    u128_spelled 24 softwire.0 (tunnel_packet aftr softwire class next bytes) bytes fits refl

-- it is read as it was written: nothing stands beyond it
read_there : (aftr softwire : Ip6) (class next : ℕ) (bytes : List ℕ) → FitEnds aftr softwire class → next < 2 ^ 8 → length bytes < 2 ^ 16
    → packet_of (tunnel_packet aftr softwire class next bytes) ≡ Ok (tunnel_fields aftr softwire class next (length bytes), bytes)
read_there aftr softwire class next bytes fit numbered short =
    packet_read (tunnel_packet aftr softwire class next bytes) (tunnel_fields aftr softwire class next (length bytes)) bytes (record {
      fits = record {
        class = fit.marked;
        payload = short;
        next = numbered;
        hops = omega arith;
        src = fit.near;
        dst = fit.far;
      };
      counted = refl;
      spelled = (0, [], omega arith, sym (append-nil (tunnel_packet aftr softwire class next bytes)));
    })

-- ---- a fragment

-- what stands behind the header of the i-th fragment
abbrev content : ℕ → ℕ → List ℕ → ℕ → List ℕ
content id n inner i = frag_bytes (frag_head id n inner i) ++ piece_of n inner i

module _ (aftr softwire : Ip6) (class id n : ℕ) (inner : List ℕ) (fit : FitEnds aftr softwire class) (numbered : id < 2 ^ 32) (some : 0 < n)
    (short : length inner ≤ 65535) (i : ℕ) (within : i < piece_count n inner) where
  spells : SpellsPiece (content id n inner i) (frag_head id n inner i) (piece_of n inner i)
  spells =
      let start = begins n inner i some within in
      record {
        fits = record { next = omega arith; offset = omega arith; id = numbered };
        spelled = (0, 0, omega arith, omega arith, refl);
      }

  leads : chain_of 44 (content id n inner i) false ≡ InnerPiece (frag_head id n inner i) (piece_of n inner i)
  leads =
      let bytes = content id n inner i in
      let read = piece_read bytes (piece_of n inner i) (frag_head id n inner i) spells in
      chain_end 44 bytes false refl
      ∙ cond-false (nat_lt (length bytes) 8) CutShort (InnerPiece (frag_of bytes) (drop 8 bytes)) (le-ltb (length bytes) 8 read.2)
      ∙ (λ j. InnerPiece (read.0 j) (read.1 j))

  pub fragment_arrives : n ≤ 65527 → decapsulated softwire (fragment aftr softwire class id n inner i)
      ≡ Ok record { softwire = aftr; behind = InnerPiece (frag_head id n inner i) (piece_of n inner i) }
  fragment_arrives most =
      let bytes = content id n inner i in
      let long = behind_long (frag_head id n inner i) (piece_of n inner i) in
      let part = part_short n inner i in
      arrives_as aftr softwire class 44 bytes (InnerPiece (frag_head id n inner i) (piece_of n inner i))
      (read_there aftr softwire class 44 bytes fit (omega arith) (omega arith)) leads

  pub shows_fragment : 8 ≤ n → ShowsFragment softwire id n inner i (fragment aftr softwire class id n inner i)
  unfolding be16 be32 be128
  shows_fragment units =
      let bytes = fragment aftr softwire class id n inner i in
      let there : drop 40 bytes ≡ content id n inner i = behind_header aftr softwire class 44 (content id n inner i) in
      let read = (piece_read (content id n inner i) (piece_of n inner i) (frag_head id n inner i) spells).0 in
      let word : u16_at 42 bytes ≡ u16_at 2 (content id n inner i) =
      ap (from_be_bytes w16) (part_at 40 2 2 bytes (content id n inner i) there) in
      let number : u32_at 44 bytes ≡ u32_at 4 (content id n inner i) =
      ap (from_be_bytes w32) (part_at 40 4 4 bytes (content id n inner i) there) in
      let offset : u16_at 42 bytes / 8 ≡ n * i / 8 = ap (λ (w : ℕ). w / 8) word ∙ ap (λ (h : FragHead). h.offset) read in
      record {
        next = next_shown aftr softwire class 44 (content id n inner i);
        destination = destination_shown aftr softwire class 44 (content id n inner i) fit.far;
        carries = ap (u8_at 0) there;
        offset = offset;
        first = ap (λ (k : ℕ). k == 0) offset ∙ first_offset n i units;
        more = ap (λ (w : ℕ). w % 2 == 1) word ∙ ap (λ (h : FragHead). h.more) read;
        number = number ∙ ap (λ (h : FragHead). h.id) read;
      }

-- ---- all fragments

module _ (aftr softwire : Ip6) (class id n : ℕ) (inner : List ℕ) (fit : FitEnds aftr softwire class) (numbered : id < 2 ^ 32)
    (short : length inner ≤ 65535) where
  pub fragments_arrive : 0 < n → n ≤ 65527 → FragmentsArrive aftr softwire class id n inner
  fragments_arrive some most i within = fragment_arrives aftr softwire class id n inner fit numbered some short i within most

  pub fragments_show : 8 ≤ n → FragmentsShow aftr softwire class id n inner
  fragments_show units = record {
    each = λ i within. shows_fragment aftr softwire class id n inner fit numbered (omega arith) short i within units;
    front = shows_front 48 n inner (piece_of n inner 0) (fragment aftr softwire class id n inner 0)
        (behind_both aftr softwire class (frag_head id n inner 0) (piece_of n inner 0)) (first_is n inner);
  }

-- a packet that isn't cut shows the whole IPv4 packet
pub carrier_shows : (aftr softwire : Ip6) (class : ℕ) (inner : List ℕ) → softwire.0 < 2 ^ 128
    → ShowsCarrier softwire inner (carrier aftr softwire class inner)
carrier_shows aftr softwire class inner fits = record {
  next = next_shown aftr softwire class 4 inner;
  destination = destination_shown aftr softwire class 4 inner fits;
  front = λ n. shows_front 40 n inner inner (carrier aftr softwire class inner) (behind_header aftr softwire class 4 inner) refl;
}

-- and it comes to the other end
pub carrier_arrives : (aftr softwire : Ip6) (class : ℕ) (inner : List ℕ) → FitEnds aftr softwire class → length inner ≤ 65535
    → Arrives aftr softwire class inner
carrier_arrives aftr softwire class inner fit short =
    arrives_as aftr softwire class 4 inner (InnerPacket inner)
    (read_there aftr softwire class 4 inner fit (omega arith) (omega (arith, short))) (chain_end 4 inner false refl)

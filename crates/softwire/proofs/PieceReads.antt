-- The pieces of an IPv4 packet, as they are read.
use Rattle.std.proofs.Common.{◌≡◌, ℕ, zero, suc, ◌+◌, ◌-◌, ◌*◌, ◌/◌, ◌≤◌, ◌<◌, List, [], ◌++◌, length, drop, refl, sym, ap}
use Rattle.std.proofs.Common.{◌∙◌, arith}
use Rattle.std.specs.Prelude.{◌==◌, Ok}
use Rattle.std.proofs.lemmas.Bool.{ne_eqb}
use Rattle.std.proofs.lemmas.List.{append-nil, length-take, length-drop}
use Rattle.std.proofs.Math.Nat.{mul-le-mul_left}
use Rattle.aftr_base.specs.Bytes.{be16, be32}
use Rattle.wire_ip4.specs.declared.fields.Ip4Fields.{Ip4Fields}
use Rattle.wire_ip4.specs.Grammar.{Header, AreFields, IsHeader, header_bytes, fields_of, packet_of}
use Rattle.wire_ip4.proofs.GrammarLaws.{packet_accepts}
use Rattle.wire_ip4.proofs.HeaderRead.{fields_read}
use Rattle.wire_ip4.proofs.SumLaws.{is_header_with, sound_with}
use Rattle.softwire.specs.Cut.{piece_count, piece_of, more_follow, piece_fields, ip4_piece}
use Rattle.softwire.specs.Reading.{piece_header, PiecesReadBack, ShowsHeader, ShowsPiece, ShowsWhole, PiecesShow}
use Rattle.softwire.proofs.Pieces.{begins}
use Rattle.softwire.proofs.Fronts.{shows_front, first_is}

-- ---- a part of cut bytes

-- it is no longer than n, and ends where the bytes do at the latest
pub part_short : (n : ℕ) (bytes : List ℕ) (i : ℕ) → length (piece_of n bytes i) ≤ n
part_short n bytes i = omega (arith, length-take (n * i + n - n * i) (drop (n * i) bytes))

pub part_inside : (n : ℕ) (bytes : List ℕ) (i : ℕ) → length (piece_of n bytes i) ≤ length bytes
part_inside n bytes i = omega (arith, length-take (n * i + n - n * i) (drop (n * i) bytes), length-drop (n * i) bytes)

-- its offset is 0 where it is the first
pub first_offset : (n i : ℕ) → 8 ≤ n → (n * i / 8 == 0) ≡ (i == 0)
first_offset n zero units = let none : n * 0 / 8 ≡ 0 = omega arith in ap (λ (k : ℕ). k == 0) none
first_offset n (suc i) units =
    let least : n * 1 ≤ n * suc i = mul-le-mul_left n (omega arith) in
    ne_eqb (n * suc i / 8) 0 (λ e. omega (arith, least, e)) ∙ sym (ne_eqb (suc i) 0 (λ e. omega (arith, e)))

-- ---- an IPv4 packet, and a piece of one

shows_header : (h : Header) (rest : List ℕ) → IsHeader h → ShowsHeader h.fields (header_bytes h ++ rest)
shows_header h rest is =
    let read : fields_of (header_bytes h ++ rest) ≡ h.fields = fields_read h rest is in
    record {
      id = ap (λ (g : Ip4Fields). g.id) read;
      more = ap (λ (g : Ip4Fields). g.more) read;
      offset = ap (λ (g : Ip4Fields). g.offset) read;
      protocol = ap (λ (g : Ip4Fields). g.proto) read;
      source = ap (λ (g : Ip4Fields). g.src.0) read;
      destination = ap (λ (g : Ip4Fields). g.dst.0) read;
    }

module _ (f : Ip4Fields) (are : AreFields f) (n : ℕ) (some : 0 < n) (payload : List ℕ) (short : length payload ≤ 65515) (i : ℕ)
    (within : i < piece_count n payload) where
  piece_are : AreFields (piece_fields f (length (piece_of n payload i)) (n * i / 8) (more_follow n payload i))
  piece_are =
      let inside = part_inside n payload i in
      let start = begins n payload i some within in
      record {
        tos = are.tos;
        total = omega arith;
        id = are.id;
        offset = omega arith;
        ttl = are.ttl;
        proto = are.proto;
        src = are.src;
        dst = are.dst;
      }

  pub piece_reads_back : packet_of (ip4_piece f n payload i) ≡ Ok (piece_header f n payload i, piece_of n payload i)
  piece_reads_back =
      packet_accepts (ip4_piece f n payload i) (piece_header f n payload i) (piece_of n payload i) (record {
        header = is_header_with _ piece_are;
        spelled = ([], sym (append-nil (ip4_piece f n payload i)));
        total = refl;
        sound = sound_with _ piece_are;
      })

  pub shows_piece : 8 ≤ n → ShowsPiece f n payload i (ip4_piece f n payload i)
  shows_piece units =
      let header = shows_header (piece_header f n payload i) (piece_of n payload i) (is_header_with _ piece_are) in
      record { header = header; first = ap (λ (k : ℕ). k == 0) header.offset ∙ first_offset n i units }

-- ---- all pieces

pub pieces_read_back : (f : Ip4Fields) → AreFields f → (n : ℕ) → 0 < n → (payload : List ℕ) → length payload ≤ 65515
    → PiecesReadBack f n payload
pieces_read_back f are n some payload short i within = piece_reads_back f are n some payload short i within

pub behind_header : (h : Header) (rest : List ℕ) → h.options ≡ [] → drop 20 (header_bytes h ++ rest) ≡ rest
unfolding be16 be32
behind_header h rest bare = ap (λ (l : List ℕ). l ++ rest) bare

pub pieces_show : (f : Ip4Fields) → AreFields f → (n : ℕ) → 8 ≤ n → (payload : List ℕ) → length payload ≤ 65515 → PiecesShow f n payload
pieces_show f are n units payload short = record {
  each = λ i within. shows_piece f are n (omega arith) payload short i within units;
  front = shows_front 20 n payload (piece_of n payload 0) (ip4_piece f n payload 0)
      (behind_header (piece_header f n payload 0) (piece_of n payload 0) refl) (first_is n payload);
}

-- a packet that isn't cut shows its whole payload
pub whole_shows : (h : Header) (payload : List ℕ) → IsHeader h → h.options ≡ [] → ShowsWhole h payload (header_bytes h ++ payload)
whole_shows h payload is bare = record {
  header = shows_header h payload is;
  front = λ n. shows_front 20 n payload payload (header_bytes h ++ payload) (behind_header h payload bare) refl;
}

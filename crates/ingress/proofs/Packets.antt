-- IPv4 packets as they stand in bytes, whole and as pieces.
use Rattle.std.proofs.Common.{◌≡◌, ℕ, ◌+◌, ◌-◌, ◌/◌, ◌≤◌, Bool, true, false, not, ◌&&◌, List, [], ◌++◌, length, take, drop, nat_le}
use Rattle.std.proofs.Common.{refl, sym, ap, ◌∙◌, subst, arith, append_assoc, length-drop, length-take, leb-true}
use Rattle.std.specs.Prelude.{Result, Ok, Err, ◌==◌}
use Rattle.std.proofs.lemmas.Bool.{eqb-true}
use Rattle.std.proofs.lemmas.List.{append-nil, nil_from_length}
use Rattle.std.proofs.Math.Seq.{take-append_seam}
use Rattle.aftr_base.specs.Attempt.{◌>>◌, require, refused_as}
use Rattle.aftr_base.specs.Bytes.{IsBytes, u8_at, u16_at}
use Rattle.aftr_base.specs.Checksum.{is_sound}
use Rattle.aftr_base.specs.declared.event.DropCause.{DropCause}
use Rattle.aftr_base.specs.declared.event.DropCause.TheVariants.{BadPacket, Options}
use Rattle.frag_reasm.specs.declared.key.PieceKey.{PieceKey}
use Rattle.wire_ip4.specs.declared.fields.Ip4Bad.{Ip4Bad}
use Rattle.wire_ip4.specs.declared.fields.Ip4Bad.TheVariants.{Short, Version, HeaderLen, TotalLen, Sum}
use Rattle.wire_ip4.specs.Grammar.{AreFields, Header, IsHeader, front_of, header_bytes, header_of, header_with, is_piece, len_of, packet_of}
use Rattle.wire_ip4.proofs.Attempts.{followed, passed, both}
use Rattle.wire_ip4.proofs.GrammarLaws.{front_accepts, packet_accepts, packet_spelled}
use Rattle.wire_ip4.proofs.HeaderRead.{header_read, length_written}
use Rattle.wire_ip4.proofs.Pieces.{bytes_of_front, bytes_of_rest}
use Rattle.wire_ip4.proofs.SumLaws.{is_header_with, sound_with}
use Rattle.ingress.specs.Gathering.{IsPiece, IsPlainHead}
use Rattle.ingress.specs.Ip4.{piece_in, plain_ip4, whole_fields, whole_packet}
use Rattle.ingress.specs.Packet.{HoldsPlain, HoldsWhole, IsUncut, IsWhole, packet_in}
use Rattle.ingress.specs.declared.gather.Gathered.{Gathered}

-- ---- what is read

pub ok_same : {A E : Type 0} (x y : A) → ◌≡◌ {A = Result A E} (Ok x) (Ok y) → x ≡ y
ok_same x y e = cc

abbrev front_in : List ℕ → Header × List ℕ
front_in bytes = (header_of bytes, drop (len_of bytes) bytes)

opened : (bytes : List ℕ) (front : Header × List ℕ) → front_of bytes ≡ Ok front → (20 ≤ len_of bytes) × (front_in bytes ≡ front)
opened bytes front h =
    let one = passed (nat_le 20 (length bytes)) Short _ front h in
    let two = passed (u8_at 0 bytes / 16 == 4) Version _ front one.1 in
    let three = passed (nat_le 20 (len_of bytes) && nat_le (len_of bytes) (length bytes)) HeaderLen _ front two.1 in
    let ends = both (nat_le 20 (len_of bytes)) (nat_le (len_of bytes) (length bytes)) three.0 in
    (leb-true 20 (len_of bytes) ends.0, ok_same (front_in bytes) front three.1)

abbrev rest_of : List ℕ → Header × List ℕ → Result (Header × List ℕ) Ip4Bad
rest_of bytes front =
    let total = front.0.fields.total in
    require (nat_le (len_of bytes) total && nat_le total (length bytes)) TotalLen
    >> (require (is_sound (take (len_of bytes) bytes)) Sum >> Ok (front.0, take (total - len_of bytes) front.1))

pub record IsRead (bytes : List ℕ) (packet : Header × List ℕ) : Type 0 where
  pub least : 20 ≤ len_of bytes
  pub counted : len_of bytes ≤ u16_at 2 bytes
  pub most : u16_at 2 bytes ≤ length bytes
  pub same : packet_in bytes ≡ packet

pub is_read : (bytes : List ℕ) (packet : Header × List ℕ) → packet_of bytes ≡ Ok packet → IsRead bytes packet
is_read bytes packet h =
    let (front, opens, next) = followed (front_of bytes) (rest_of bytes) packet h in
    let (least, begins) = opened bytes front opens in
    let at : rest_of bytes (front_in bytes) ≡ Ok packet = ap (rest_of bytes) begins ∙ next in
    let one = passed (nat_le (len_of bytes) (u16_at 2 bytes) && nat_le (u16_at 2 bytes) (length bytes)) TotalLen _ packet at in
    let two = passed (is_sound (take (len_of bytes) bytes)) Sum _ packet one.1 in
    let ends = both (nat_le (len_of bytes) (u16_at 2 bytes)) (nat_le (u16_at 2 bytes) (length bytes)) one.0 in
    record {
      least = least;
      counted = leb-true (len_of bytes) (u16_at 2 bytes) ends.0;
      most = leb-true (u16_at 2 bytes) (length bytes) ends.1;
      same = ok_same (packet_in bytes) packet two.1;
    }

-- a packet without options has 20 bytes before its payload
total_in : (bytes : List ℕ) (packet : Header × List ℕ) → IsRead bytes packet → (header_of bytes).options ≡ []
    → (header_of bytes).fields.total ≡ 20 + length (packet_in bytes).1
total_in bytes packet is plain =
    let len = len_of bytes in
    let none : length (drop 20 (take len bytes)) ≡ 0 = ap length plain in
    omega (
      arith,
      none,
      is.least,
      is.counted,
      is.most,
      length-drop 20 (take len bytes),
      length-take len bytes,
      length-take (u16_at 2 bytes - len) (drop len bytes),
      length-drop len bytes,
    )

pub total_read : (bytes : List ℕ) (packet : Header × List ℕ) → packet_of bytes ≡ Ok packet → packet.0.options ≡ []
    → packet.0.fields.total ≡ 20 + length packet.1
total_read bytes packet h plain =
    let is = is_read bytes packet h in
    subst (λ (p : Header × List ℕ). p.0.fields.total ≡ 20 + length p.1) is.same
    (total_in bytes packet is (ap (λ (p : Header × List ℕ). p.0.options) is.same ∙ plain))

-- whatever a refusal is called
pub gave_anyway : {A E F : Type 0} (r : Result A E) (f : F) (y : A) → refused_as r f ≡ Ok y → r ≡ Ok y
gave_anyway (Ok x) f y h = cc
gave_anyway (Err e) f y h = cc

abbrev without_options : Header × List ℕ → Result (Header × List ℕ) DropCause
without_options packet = require (length packet.0.options == 0) Options >> Ok packet

-- a packet without options
pub plain_read : (bytes : List ℕ) (packet : Header × List ℕ) → plain_ip4 bytes ≡ Ok packet
    → (packet_of bytes ≡ Ok packet) × (packet.0.options ≡ [])
plain_read bytes packet h =
    let (read, is, next) = followed (refused_as (packet_of bytes) BadPacket) without_options packet h in
    let (none, same) = passed (length read.0.options == 0) Options _ packet next in
    let e = ok_same {E = DropCause} read packet same in (
      gave_anyway (packet_of bytes) BadPacket packet (is ∙ ap (λ (p : Header × List ℕ). Ok p) e),
      subst (λ (p : Header × List ℕ). p.0.options ≡ []) e
          (nil_from_length read.0.options (eqb-true (length read.0.options) 0 none)),
    )

-- its payload is bytes too
payload_read : (bytes : List ℕ) (packet : Header × List ℕ) → packet_of bytes ≡ Ok packet → IsBytes bytes → IsBytes packet.1
payload_read bytes packet read fits =
    let len = len_of bytes in
    subst (λ (p : Header × List ℕ). IsBytes p.1) (is_read bytes packet read).same
    (bytes_of_front (drop len bytes) (u16_at 2 bytes - len) (bytes_of_rest bytes len fits))

-- ---- whole packets

pub uncut_read : (bytes : List ℕ) (packet : Header × List ℕ) → plain_ip4 bytes ≡ Ok packet → is_piece packet.0 ≡ false → IsUncut packet
uncut_read bytes packet h whole =
    let (read, plain) = plain_read bytes packet h in
    record { plain = plain; whole = whole; total = total_read bytes packet read plain }

pub whole_read : (bytes : List ℕ) (packet : Header × List ℕ) → plain_ip4 bytes ≡ Ok packet → is_piece packet.0 ≡ false → IsBytes bytes
    → IsWhole packet
whole_read bytes packet h whole fits =
    let (read, plain) = plain_read bytes packet h in
    let spells = packet_spelled bytes packet.0 packet.1 fits read in
    record {
      stands = (bytes, read);
      plain = plain;
      whole = whole;
      total = total_read bytes packet read plain;
      short = omega (arith, spells.header.fields.total);
    }

-- and where it stands
pub holds_from : (bytes : List ℕ) (packet : Header × List ℕ) → packet_of bytes ≡ Ok packet → IsUncut packet
    → packet.0.fields.total ≤ 65535 → HoldsWhole bytes
holds_from bytes packet read uncut short =
    let is = is_read bytes packet read in
    let plain = ap (λ (p : Header × List ℕ). p.0.options) is.same ∙ uncut.plain in
    let total = ap (λ (p : Header × List ℕ). p.0.fields.total) is.same in
    record {
      read = read ∙ ap (λ (p : Header × List ℕ). Ok p) (sym is.same);
      plain = plain;
      whole = ap (λ (p : Header × List ℕ). is_piece p.0) is.same ∙ uncut.whole;
      total = total_in bytes packet is plain;
      short = omega (arith, total, short);
    }

pub holds_whole : (head bytes : List ℕ) (packet : Header × List ℕ) → HoldsPlain head bytes packet → is_piece packet.0 ≡ false
    → HoldsWhole bytes
holds_whole head bytes packet holds whole =
    let uncut : IsUncut packet = record { plain = holds.plain; whole = whole; total = total_read bytes packet holds.read holds.plain } in
    holds_from bytes packet holds.read uncut (omega (arith, holds.header.fields.total))

pub whole_held : (bytes : List ℕ) → HoldsWhole bytes → IsWhole (packet_in bytes)
whole_held bytes holds = record {
  stands = (bytes, holds.read);
  plain = holds.plain;
  whole = holds.whole;
  total = holds.total;
  short = holds.short;
}

-- ---- pieces

plain_head : (h : Header) → IsHeader h → h.options ≡ [] → IsPlainHead (header_bytes h)
plain_head h is plain =
    let same : header_of (header_bytes h) ≡ h = ap header_of (sym (append-nil (header_bytes h))) ∙ header_read h [] is in
    record {
      header = subst IsHeader (sym same) is;
      plain = ap (λ (k : Header). k.options) same ∙ plain;
      spelled = ap header_bytes (sym same);
    }

-- the front of the bytes is the header
pub holds_plain : (bytes : List ℕ) (packet : Header × List ℕ) → packet_of bytes ≡ Ok packet → IsBytes bytes → packet.0.options ≡ []
    → HoldsPlain (take 20 bytes) bytes packet
holds_plain bytes packet read fits plain =
    let spells = packet_spelled bytes packet.0 packet.1 fits read in
    let header = header_bytes packet.0 in
    let (beyond, spelled) = spells.spelled in
    let none : length packet.0.options ≡ 0 = ap length plain in
    let long : 20 ≡ length header = omega (arith, none, length_written packet.0) in
    record {
      read = read;
      header = spells.header;
      plain = plain;
      front = ap (take 20) (spelled ∙ append_assoc header packet.1 beyond) ∙ ap (λ (n : ℕ). take n (header ++ (packet.1 ++ beyond))) long
          ∙ take-append_seam header (packet.1 ++ beyond);
      payload = payload_read bytes packet read fits;
    }

pub is_piece_in : (packet : Header × List ℕ) → IsHeader packet.0 → packet.0.options ≡ [] → IsBytes packet.1 → (key : PieceKey)
    → IsPiece key (piece_in packet)
is_piece_in packet is plain bytes key = record { head = λ four. plain_head packet.0 is plain; bytes = bytes }

pub piece_read : (bytes : List ℕ) (packet : Header × List ℕ) → plain_ip4 bytes ≡ Ok packet → IsBytes bytes → (key : PieceKey)
    → IsPiece key (piece_in packet)
piece_read bytes packet h fits key =
    let (read, plain) = plain_read bytes packet h in
    is_piece_in packet (packet_spelled bytes packet.0 packet.1 fits read).header plain (payload_read bytes packet read fits) key

-- ---- what pieces make whole

pub fields_joined : (g : Gathered) → IsPlainHead g.head → 20 + length g.bytes ≤ 65535 → AreFields (whole_fields g)
fields_joined g is short =
    let are = is.header.fields in
    record {
      tos = are.tos;
      total = omega (arith, short);
      id = are.id;
      offset = omega arith;
      ttl = are.ttl;
      proto = are.proto;
      src = are.src;
      dst = are.dst;
    }

pub uncut_joined : (g : Gathered) → IsUncut (whole_packet g)
uncut_joined g = record { plain = refl; whole = refl; total = refl }

-- the header of a piece is read as it stands
pub front_plain : (head : List ℕ) → IsPlainHead head → front_of head ≡ Ok (header_of head, [])
front_plain head is = front_accepts head (header_of head) []
    (record { header = is.header; spelled = is.spelled ∙ sym (append-nil (header_bytes (header_of head))) })

pub read_joined : (g : Gathered) → IsPlainHead g.head → 20 + length g.bytes ≤ 65535
    → packet_of (header_bytes (header_with (whole_fields g)) ++ g.bytes) ≡ Ok (whole_packet g)
read_joined g is short =
    let f = whole_fields g in
    let are = fields_joined g is short in
    packet_accepts (header_bytes (header_with f) ++ g.bytes) (header_with f) g.bytes (record {
      header = is_header_with f are;
      spelled = ([], sym (append-nil (header_bytes (header_with f) ++ g.bytes)));
      total = refl;
      sound = sound_with f are;
    })

pub whole_joined : (g : Gathered) → IsPlainHead g.head → 20 + length g.bytes ≤ 65535 → IsWhole (whole_packet g)
whole_joined g is short = record {
  stands = (header_bytes (header_with (whole_fields g)) ++ g.bytes, read_joined g is short);
  plain = refl;
  whole = refl;
  total = refl;
  short = short;
}

-- and so it is held
pub holds_joined : (g : Gathered) (bytes : List ℕ) → IsPlainHead g.head → 20 + length g.bytes ≤ 65535
    → bytes ≡ header_bytes (header_with (whole_fields g)) ++ g.bytes → HoldsWhole bytes × (packet_in bytes ≡ whole_packet g)
holds_joined g bytes is short e =
    let read = ap packet_of e ∙ read_joined g is short in
    (holds_from bytes (whole_packet g) read (uncut_joined g) short, (is_read bytes (whole_packet g) read).same)

-- ---- a test that the code makes

not_false : (b : Bool) → not b ≡ false → b ≡ true
not_false true h = refl
not_false false h = cc

pub no_options : (options : List ℕ) (test : Bool) → test ≡ not (length options == 0) → test ≡ false → options ≡ []
no_options options test e f = nil_from_length options (eqb-true (length options) 0 (not_false (length options == 0) (sym e ∙ f)))

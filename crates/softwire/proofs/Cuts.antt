-- A packet that is added as it stands, and one that is added in pieces.
use Rattle.std.proofs.Common.{◌≡◌, ℕ, ◌+◌, ◌≤◌, ◌<◌, Bool, true, false, List, [], ◌∷◌, ◌++◌, length, take, drop, Result, Ok}
use Rattle.std.proofs.Common.{Err, refl, sym, ap, ◌∙◌, arith}
use Rattle.std.proofs.Common.{length-append}
use Rattle.std.specs.Prelude.{OnOk, nat_lt, not, ◌==◌, if◌then◌else◌}
use Rattle.std.proofs.lemmas.Bool.{eqb-true, lt-ltb, le-ltb}
use Rattle.std.proofs.lemmas.List.{take_at, nil_from_length}
use Rattle.wire_ip4.specs.declared.fields.Ip4Bad.{Ip4Bad}
use Rattle.wire_ip4.specs.declared.fields.Ip4Fields.{Ip4Fields}
use Rattle.wire_ip4.specs.Grammar.{Header, header_bytes, packet_of, SpellsPacket}
use Rattle.wire_ip4.proofs.HeaderRead.{length_written}
use Rattle.softwire.specs.Cut.{cut_packet, ip4_pieces, room_of}
use Rattle.softwire.proofs.PieceReads.{behind_header}

pub on_ok : {A E : Type 0} {P Q : Type 0} (r : Result A E) → (P → Q) → OnOk r P → OnOk r Q
on_ok (Ok x) f h = f h
on_ok (Err e) f h = h

pub same_read : (r : Result (Header × List ℕ) Ip4Bad) (x y : Header × List ℕ) → Ok x ≡ r → r ≡ Ok y → x ≡ y
same_read r x y p q = let same : ◌≡◌ {A = Result (Header × List ℕ) Ip4Bad} (Ok x) (Ok y) = p ∙ q in cc

-- the bytes up to the total length
pub whole_is : (bytes : List ℕ) (x : Header × List ℕ) → SpellsPacket bytes x.0 x.1 → x.0.options ≡ []
    → take (20 + length x.1) bytes ≡ header_bytes x.0 ++ x.1
whole_is bytes x s bare =
    let packet = header_bytes x.0 ++ x.1 in
    let (beyond, spelled) = s.spelled in
    let size : length packet ≡ 20 + length x.1 =
    omega (arith, length-append (header_bytes x.0) x.1, length_written x.0, ap length bare) in
    ap (take (20 + length x.1)) spelled ∙ take_at packet beyond (20 + length x.1) size

-- what was read has no options where it has none when it is read again
pub read_bare : (bytes : List ℕ) (x y : Header × List ℕ) → Ok x ≡ packet_of bytes → packet_of bytes ≡ Ok y → y.0.options ≡ []
    → x.0.options ≡ []
read_bare bytes x y read again bare = ap (λ (z : Header × List ℕ). z.0.options) (same_read (packet_of bytes) x y read again) ∙ bare

-- a packet whose header has no options is longer by that header
pub whole_long : (h : Header) (payload packet : List ℕ) → h.options ≡ [] → packet ≡ header_bytes h ++ payload
    → length packet ≡ 20 + length payload
whole_long h payload packet bare spelled =
    omega (arith, ap length spelled, length-append (header_bytes h) payload, length_written h, ap length bare)

module _ (mtu : ℕ) (packet : List ℕ) (out new : List (List ℕ)) (h : Header) (payload : List ℕ) (bare : h.options ≡ [])
    (spelled : packet ≡ header_bytes h ++ payload) where
  long : length packet ≡ 20 + length payload
  long = whole_long h payload packet bare spelled

  pub as_it_stands : (whole : List ℕ) → length packet ≤ mtu → whole ≡ packet → new ≡ out ++ whole ∷ []
      → new ≡ out ++ cut_packet mtu h payload
  as_it_stands whole fits is added =
      let test : nat_lt mtu (20 + length payload) ≡ false = le-ltb mtu (20 + length payload) (omega (arith, long, fits)) in
      let all : whole ≡ header_bytes h ++ payload = is ∙ spelled in
      added ∙ (λ i. out ++ all i ∷ [])
      ∙ (λ i. out ++ (if sym test i then ip4_pieces h.fields (room_of mtu 20) payload else (header_bytes h ++ payload) ∷ []))

  pub in_pieces : (pieces : List (List ℕ)) (fields : Ip4Fields) → mtu < length packet → h.fields ≡ fields
      → pieces ≡ ip4_pieces fields (room_of mtu 20) (drop 20 packet) → new ≡ out ++ pieces → new ≡ out ++ cut_packet mtu h payload
  in_pieces pieces fields longer same are added =
      let test : nat_lt mtu (20 + length payload) ≡ true = lt-ltb mtu (20 + length payload) (omega (arith, long, longer)) in
      let behind : drop 20 packet ≡ payload = ap (drop 20) spelled ∙ behind_header h payload bare in
      added ∙ (λ i. out ++ are i) ∙ (λ i. out ++ ip4_pieces (sym same i) (room_of mtu 20) (behind i))
      ∙ (λ i. out ++ (if sym test i then ip4_pieces h.fields (room_of mtu 20) payload else (header_bytes h ++ payload) ∷ []))

-- ---- what a caller of it has asked

passed : (b : Bool) → not b ≡ false → b ≡ true
passed true e = refl
passed false e = absurd cc

pub no_options : (h : Header) (b : Bool) → b ≡ not (length h.options == 0) → b ≡ false → h.options ≡ []
no_options h b has none = nil_from_length h.options (eqb-true (length h.options) 0 (passed (length h.options == 0) (sym has ∙ none)))

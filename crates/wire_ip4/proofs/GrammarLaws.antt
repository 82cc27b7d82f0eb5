-- What is read is spelled so, and what is spelled so is read.
use Rattle.std.proofs.Common.{◌≡◌, ℕ, ◌+◌, ◌-◌, ◌*◌, ◌/◌, ◌%◌, ◌<◌, ◌≤◌, ◌&&◌, List, ◌∷◌, ◌++◌, length, take, drop, nat_le, Result, Ok}
use Rattle.std.proofs.Common.{zero, suc, refl, sym, ap, subst, ◌∙◌, arith, eq-eqb, append_assoc, length-append, length-drop, length-take}
use Rattle.std.proofs.Common.{leb-true}
use Rattle.std.specs.Prelude.{◌==◌}
use Rattle.std.proofs.lemmas.Bool.{eqb-true, le-leb}
use Rattle.std.proofs.lemmas.List.{drop-take, take-append-drop, drop-drop, take_all}
use Rattle.std.proofs.Math.Seq.{take-append_seam}
use Rattle.aftr_base.specs.Attempt.{◌>>◌, require}
use Rattle.aftr_base.specs.Bytes.{u8_at, u16_at, be16, be32, IsBytes}
use Rattle.aftr_base.specs.Checksum.{sum16, is_sound}
use Rattle.wire_ip4.specs.declared.fields.Ip4Bad.{Ip4Bad}
use Rattle.wire_ip4.specs.declared.fields.Ip4Bad.TheVariants.{Short, Version, HeaderLen, TotalLen, Sum}
use Rattle.wire_ip4.specs.Grammar.{Header, IsHeader, SpellsFront, SpellsPacket, bit_of, header_len, header_bytes, header_of, len_of}
use Rattle.wire_ip4.specs.Grammar.{front_of, packet_of}
use Rattle.wire_ip4.proofs.Attempts.{passes, follows, passed, followed, both, and_true}
use Rattle.wire_ip4.proofs.Pieces.{two_ones, two_more, four_more, word_at, fits_16, fits_32, bytes_of_front, bytes_of_rest}
use Rattle.wire_ip4.proofs.HeaderRead.{word_of, header_read, version_read, len_read, rest_read, front_read, length_written}

-- ---- what is read is spelled so

-- a bit's worth
worth_of : (x worth : ℕ) → x < 2 → bit_of (x == 1) worth ≡ x * worth
worth_of zero worth lt = omega arith
worth_of (suc zero) worth lt = omega arith
worth_of (suc (suc x)) worth lt = absurd (omega arith)

-- the word of the flags and the offset
word_again : (bytes : List ℕ) → IsBytes bytes → 8 ≤ length bytes
    → let b = u8_at 6 bytes in word_of (b / 128 == 1) (b / 64 % 2 == 1) (b / 32 % 2 == 1) (u16_at 6 bytes % 8192) ≡ u16_at 6 bytes
word_again bytes fits le =
    let high = u8_at 6 bytes in
    let whole = word_at bytes 6 le in
    let reserved = worth_of (high / 128) 32768 (omega (arith, fits 6)) in
    let dont_cut = worth_of (high / 64 % 2) 16384 (omega arith) in
    let more = worth_of (high / 32 % 2) 8192 (omega arith) in
    omega (arith, whole, fits 6, fits 7, reserved, dont_cut, more)

pub record IsFront (bytes : List ℕ) : Type 0 where
  pub fits : IsBytes bytes
  pub version : u8_at 0 bytes / 16 ≡ 4
  pub least : 20 ≤ len_of bytes
  pub most : len_of bytes ≤ length bytes

length_of_options : (bytes : List ℕ) → IsFront bytes → length (header_of bytes).options ≡ len_of bytes - 20
length_of_options bytes is = omega (arith, is.least, is.most, length-drop 20 (take (len_of bytes) bytes), length-take (len_of bytes) bytes)

options_again : (bytes : List ℕ) → IsFront bytes → (header_of bytes).options ++ drop (len_of bytes) bytes ≡ drop 20 bytes
options_again bytes is =
    let more = len_of bytes - 20 in
    let whole : len_of bytes ≡ 20 + more = omega (arith, is.least) in
    ap (λ (n : ℕ). drop 20 (take n bytes) ++ drop n bytes) whole
    ∙ ap (λ (l : List ℕ). l ++ drop (20 + more) bytes) (drop-take 20 more bytes)
    ∙ ap (λ (l : List ℕ). take more (drop 20 bytes) ++ l) (sym (drop-drop more 20 bytes))
    ∙ take-append-drop more (drop 20 bytes)

pub front_again : (bytes : List ℕ) → IsFront bytes → header_bytes (header_of bytes) ++ drop (len_of bytes) bytes ≡ bytes
front_again bytes is =
    let h = header_of bytes in
    let rest = drop (len_of bytes) bytes in
    let fits = is.fits in
    let long : 20 ≤ length bytes = omega (arith, is.least, is.most) in
    let first : 64 + header_len h / 4 ≡ u8_at 0 bytes = omega (arith, is.version, is.least, length_of_options bytes is, fits 0) in
    let flags : be16 (word_of h.reserved h.fields.dont_cut h.fields.more h.fields.offset) ++ drop 8 bytes ≡ drop 6 bytes =
    ap (λ (n : ℕ). be16 n ++ drop 8 bytes) (word_again bytes fits (omega arith)) ∙ two_more bytes 6 fits (omega arith) in
    let dst = ap (λ (l : List ℕ). be32 h.fields.dst.0 ++ l) (options_again bytes is) ∙ four_more bytes 16 fits long in
    let src = ap (λ (l : List ℕ). be32 h.fields.src.0 ++ l) dst ∙ four_more bytes 12 fits (omega arith) in
    let sum = ap (λ (l : List ℕ). be16 h.sum ++ l) src ∙ two_more bytes 10 fits (omega arith) in
    let hops = ap (λ (l : List ℕ). h.fields.ttl ∷ h.fields.proto ∷ l) sum ∙ two_ones bytes 8 10 refl (omega arith) in
    let cut = ap (λ (l : List ℕ). be16 (word_of h.reserved h.fields.dont_cut h.fields.more h.fields.offset) ++ l) hops ∙ flags in
    let id = ap (λ (l : List ℕ). be16 h.fields.id ++ l) cut ∙ two_more bytes 4 fits (omega arith) in
    let total = ap (λ (l : List ℕ). be16 h.fields.total ++ l) id ∙ two_more bytes 2 fits (omega arith) in
    let whole = ap (λ (l : List ℕ). u8_at 0 bytes ∷ h.fields.tos ∷ l) total ∙ two_ones bytes 0 2 refl (omega arith) in
    rw first (simp append_assoc whole)

pub is_header : (bytes : List ℕ) → IsFront bytes → IsHeader (header_of bytes)
is_header bytes is =
    let fits = is.fits in
    let options = length_of_options bytes is in
    let long : 20 ≤ length bytes = omega (arith, is.least, is.most) in
    record {
      fields = record {
        tos = fits 1;
        total = fits_16 bytes 2 fits (omega arith);
        id = fits_16 bytes 4 fits (omega arith);
        offset = omega arith;
        ttl = fits 8;
        proto = fits 9;
        src = fits_32 bytes 12 fits (omega arith);
        dst = fits_32 bytes 16 fits (omega arith);
      };
      sum = fits_16 bytes 10 fits (omega arith);
      options = bytes_of_rest (take (len_of bytes) bytes) 20 (bytes_of_front bytes (len_of bytes) fits);
      words = omega (arith, options, is.least);
      most = omega (arith, options);
    }

ok_inj : (x y : Header × List ℕ) → ◌≡◌ {A = Result (Header × List ℕ) Ip4Bad} (Ok x) (Ok y) → x ≡ y
ok_inj x y e = cc

-- the tests of a front that is read
front_parts : (bytes : List ℕ) (x : Header × List ℕ) → IsBytes bytes → front_of bytes ≡ Ok x
    → IsFront bytes × ((header_of bytes, drop (len_of bytes) bytes) ≡ x)
front_parts bytes x fits ok =
    let one = passed (nat_le 20 (length bytes)) Short _ x ok in
    let two = passed (u8_at 0 bytes / 16 == 4) Version _ x one.1 in
    let three = passed (nat_le 20 (len_of bytes) && nat_le (len_of bytes) (length bytes)) HeaderLen _ x two.1 in
    let ends = both (nat_le 20 (len_of bytes)) (nat_le (len_of bytes) (length bytes)) three.0 in
    let is : IsFront bytes = record {
      fits = fits;
      version = eqb-true (u8_at 0 bytes / 16) 4 two.0;
      least = leb-true 20 (len_of bytes) ends.0;
      most = leb-true (len_of bytes) (length bytes) ends.1;
    } in
    (is, ok_inj (header_of bytes, drop (len_of bytes) bytes) x three.1)

pub front_spelled : (bytes : List ℕ) (h : Header) (rest : List ℕ) → IsBytes bytes → front_of bytes ≡ Ok (h, rest) → SpellsFront bytes h rest
front_spelled bytes h rest fits ok =
    let parts = front_parts bytes (h, rest) fits ok in
    let read : SpellsFront bytes (header_of bytes) (drop (len_of bytes) bytes) =
    record { header = is_header bytes parts.0; spelled = sym (front_again bytes parts.0) } in
    subst (λ (x : Header × List ℕ). SpellsFront bytes x.0 x.1) parts.1 read

-- and of a packet
pub record IsPacket (bytes : List ℕ) : Type 0 where
  pub front : IsFront bytes
  pub least : len_of bytes ≤ u16_at 2 bytes
  pub most : u16_at 2 bytes ≤ length bytes
  pub sound : sum16 (take (len_of bytes) bytes) ≡ 65535

-- what is read after the front
abbrev whole_of : List ℕ → Header × List ℕ → Result (Header × List ℕ) Ip4Bad
whole_of bytes front =
    let total = front.0.fields.total in
    require (nat_le (len_of bytes) total && nat_le total (length bytes)) TotalLen
    >> (require (is_sound (take (len_of bytes) bytes)) Sum >> Ok (front.0, take (total - len_of bytes) front.1))

abbrev payload_in : List ℕ → List ℕ
payload_in bytes = take (u16_at 2 bytes - len_of bytes) (drop (len_of bytes) bytes)

packet_parts : (bytes : List ℕ) (x : Header × List ℕ) → IsBytes bytes → packet_of bytes ≡ Ok x
    → IsPacket bytes × ((header_of bytes, payload_in bytes) ≡ x)
packet_parts bytes x fits ok =
    let (front, is_front, next) = followed (front_of bytes) (whole_of bytes) x ok in
    let parts = front_parts bytes front fits is_front in
    let at : whole_of bytes (header_of bytes, drop (len_of bytes) bytes) ≡ Ok x = ap (whole_of bytes) parts.1 ∙ next in
    let one = passed (nat_le (len_of bytes) (u16_at 2 bytes) && nat_le (u16_at 2 bytes) (length bytes)) TotalLen _ x at in
    let two = passed (is_sound (take (len_of bytes) bytes)) Sum _ x one.1 in
    let ends = both (nat_le (len_of bytes) (u16_at 2 bytes)) (nat_le (u16_at 2 bytes) (length bytes)) one.0 in
    let is : IsPacket bytes = record {
      front = parts.0;
      least = leb-true (len_of bytes) (u16_at 2 bytes) ends.0;
      most = leb-true (u16_at 2 bytes) (length bytes) ends.1;
      sound = eqb-true (sum16 (take (len_of bytes) bytes)) 65535 two.0;
    } in
    (is, ok_inj (header_of bytes, payload_in bytes) x two.1)

packet_again : (bytes : List ℕ) → IsPacket bytes → SpellsPacket bytes (header_of bytes) (payload_in bytes)
packet_again bytes is =
    let h = header_of bytes in
    let len = len_of bytes in
    let rest = drop len bytes in
    let size = u16_at 2 bytes - len in
    let options = length_of_options bytes is.front in
    let whole : length (header_bytes h) ≡ len = length_written h ∙ omega (arith, options, is.front.least) in
    let again = front_again bytes is.front in
    let front : take len bytes ≡ header_bytes h =
    ap (take len) (sym again) ∙ ap (λ (n : ℕ). take n (header_bytes h ++ rest)) (sym whole) ∙ take-append_seam (header_bytes h) rest in
    record {
      header = is_header bytes is.front;
      spelled = (
        drop size rest,
        sym (append_assoc (header_bytes h) (take size rest) (drop size rest)
            ∙ ap (λ (l : List ℕ). header_bytes h ++ l) (take-append-drop size rest) ∙ again),
      );
      total = omega (arith, options, is.front.least, is.least, is.most, length-take size rest, length-drop len bytes);
      sound = ap sum16 (sym front) ∙ is.sound;
    }

pub packet_spelled : (bytes : List ℕ) (h : Header) (payload : List ℕ) → IsBytes bytes → packet_of bytes ≡ Ok (h, payload)
    → SpellsPacket bytes h payload
packet_spelled bytes h payload fits ok =
    let parts = packet_parts bytes (h, payload) fits ok in
    subst (λ (x : Header × List ℕ). SpellsPacket bytes x.0 x.1) parts.1 (packet_again bytes parts.0)

-- ---- what is spelled so is read

front_on : (h : Header) (rest : List ℕ) → IsHeader h → front_of (header_bytes h ++ rest) ≡ Ok (h, rest)
front_on h rest is =
    let bytes = header_bytes h ++ rest in
    let len = len_read h rest is in
    let long = length-append (header_bytes h) rest ∙ ap (λ (n : ℕ). n + length rest) (length_written h) in
    let header = header_read h rest is in
    let after = rest_read h rest is in
    let least = le-leb 20 (len_of bytes) (omega (arith, len)) in
    let most = le-leb (len_of bytes) (length bytes) (omega (arith, len, long)) in
    passes Short _ (le-leb 20 (length bytes) (omega (arith, long)))
    ∙ passes Version _ (eq-eqb (u8_at 0 bytes / 16) 4 (version_read h rest is))
    ∙ passes HeaderLen _ (and_true least most)
    ∙ λ i. Ok (header i, after i)

pub front_accepts : (bytes : List ℕ) (h : Header) (rest : List ℕ) → SpellsFront bytes h rest → front_of bytes ≡ Ok (h, rest)
front_accepts bytes h rest s = subst (λ (b : List ℕ). front_of b ≡ Ok (h, rest)) (sym s.spelled) (front_on h rest s.header)

packet_on : (h : Header) (payload beyond : List ℕ) → IsHeader h → h.fields.total ≡ header_len h + length payload
    → sum16 (header_bytes h) ≡ 65535
    → packet_of (header_bytes h ++ payload ++ beyond) ≡ Ok (h, payload)
packet_on h payload beyond is total sound =
    let rest = payload ++ beyond in
    let bytes = header_bytes h ++ rest in
    let len = len_read h rest is in
    let long = length-append (header_bytes h) rest ∙ ap (λ (n : ℕ). n + length rest) (length_written h) in
    let more = length-append payload beyond in
    let size : h.fields.total - len_of bytes ≡ length payload = omega (arith, len, total) in
    let taken : take (h.fields.total - len_of bytes) rest ≡ payload = ap (λ (n : ℕ). take n rest) size ∙ take-append_seam payload beyond in
    let least = le-leb (len_of bytes) h.fields.total (omega (arith, len, total)) in
    let most = le-leb h.fields.total (length bytes) (omega (arith, long, more, total)) in
    ap packet_of (append_assoc (header_bytes h) payload beyond)
    ∙ follows (whole_of bytes) (front_on h rest is)
    ∙ passes TotalLen _ (and_true least most)
    ∙ passes Sum _ (eq-eqb (sum16 (take (len_of bytes) bytes)) 65535 (ap sum16 (front_read h rest is) ∙ sound))
    ∙ λ i. Ok (h, taken i)

pub packet_accepts : (bytes : List ℕ) (h : Header) (payload : List ℕ) → SpellsPacket bytes h payload → packet_of bytes ≡ Ok (h, payload)
packet_accepts bytes h payload s =
    subst (λ (b : List ℕ). packet_of b ≡ Ok (h, payload)) (sym s.spelled.1) (packet_on h payload s.spelled.0 s.header s.total s.sound)

-- the bytes past an offset, to the end
pub all_after : (n : ℕ) (bytes : List ℕ) → take (length bytes - n) (drop n bytes) ≡ drop n bytes
all_after n bytes = take_all (length bytes - n) (drop n bytes) (omega (arith, length-drop n bytes))

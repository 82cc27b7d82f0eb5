-- Of bytes that begin with a header's, each part of the header is read.
use Rattle.std.proofs.Common.{◌≡◌, ℕ, ◌+◌, ◌*◌, ◌/◌, ◌%◌, ◌<◌, ◌≤◌, Bool, true, false, List, ◌++◌, length, take, drop, refl, sym, ap, ◌∙◌}
use Rattle.std.proofs.Common.{arith, eq-eqb}
use Rattle.std.specs.Prelude.{◌==◌}
use Rattle.std.proofs.lemmas.Bool.{ne_eqb}
use Rattle.std.proofs.lemmas.List.{drop-take}
use Rattle.std.proofs.Math.Seq.{take-append_seam, drop-append_seam}
use Rattle.std.proofs.lemmas.Nat.{from_be_bytes-to_be_bytes_2, from_be_bytes-to_be_bytes_4}
use Rattle.aftr_base.specs.Value.{ip4}
use Rattle.aftr_base.specs.Bytes.{u8_at, u16_at, be16, be32}
use Rattle.wire_ip4.specs.Grammar.{Header, IsHeader, bit_of, header_len, header_bytes, fields_of, header_of, len_of}

-- ---- the word of the flags and the offset

-- a bit from what it is worth
bit_again : (b : Bool) (x : ℕ) → x ≡ bit_of b 1 → (x == 1) ≡ b
bit_again true x e = eq-eqb x 1 e
bit_again false x e = ne_eqb x 1 (λ h. omega (arith, h, e))

abbrev pub word_of : Bool → Bool → Bool → ℕ → ℕ
word_of reserved dont_cut more offset = bit_of reserved 32768 + bit_of dont_cut 16384 + bit_of more 8192 + offset

pub record IsWordOf (r d m : Bool) (o w : ℕ) : Type 0 where
  pub small : w < 65536
  pub reserved : (w / 256 % 256 / 128 == 1) ≡ r
  pub dont_cut : (w / 256 % 256 / 64 % 2 == 1) ≡ d
  pub more : (w / 256 % 256 / 32 % 2 == 1) ≡ m
  pub offset : w % 8192 ≡ o

worth : (b : Bool) (n : ℕ) → (bit_of b n ≡ n * bit_of b 1) × (bit_of b 1 ≤ 1)
worth true n = (omega arith, omega arith)
worth false n = (omega arith, omega arith)

pub word_read : (r d m : Bool) (offset : ℕ) → offset < 8192 → IsWordOf r d m offset (word_of r d m offset)
word_read r d m offset lt =
    let rs = worth r 32768 in
    let ds = worth d 16384 in
    let ms = worth m 8192 in
    record {
      small = omega (arith, rs, ds, ms);
      reserved = bit_again r (word_of r d m offset / 256 % 256 / 128) (omega (arith, rs, ds, ms));
      dont_cut = bit_again d (word_of r d m offset / 256 % 256 / 64 % 2) (omega (arith, rs, ds, ms));
      more = bit_again m (word_of r d m offset / 256 % 256 / 32 % 2) (omega (arith, rs, ds, ms));
      offset = omega (arith, rs, ds, ms);
    }

-- ---- the parts of a header that stands at the front

pub fields_read : (h : Header) (rest : List ℕ) → IsHeader h → fields_of (header_bytes h ++ rest) ≡ h.fields
unfolding be16 be32
fields_read h rest is =
    let f = h.fields in
    let w = word_of h.reserved f.dont_cut f.more f.offset in
    let flags = word_read h.reserved f.dont_cut f.more f.offset is.fields.offset in
    let word = from_be_bytes-to_be_bytes_2 w flags.small in
    let total = from_be_bytes-to_be_bytes_2 f.total is.fields.total in
    let id = from_be_bytes-to_be_bytes_2 f.id is.fields.id in
    let src = from_be_bytes-to_be_bytes_4 f.src.0 is.fields.src in
    let dst = from_be_bytes-to_be_bytes_4 f.dst.0 is.fields.dst in
    let offset : u16_at 6 (header_bytes h ++ rest) % 8192 ≡ f.offset = ap (λ (n : ℕ). n % 8192) word ∙ flags.offset in
    λ i. record {
      tos = f.tos;
      total = total i;
      id = id i;
      dont_cut = flags.dont_cut i;
      more = flags.more i;
      offset = offset i;
      ttl = f.ttl;
      proto = f.proto;
      src = ip4 (src i);
      dst = ip4 (dst i);
    }

pub sum_read : (h : Header) (rest : List ℕ) → IsHeader h → u16_at 10 (header_bytes h ++ rest) ≡ h.sum
unfolding be16 be32
sum_read h rest is = from_be_bytes-to_be_bytes_2 h.sum is.sum

pub reserved_read : (h : Header) (rest : List ℕ) → IsHeader h → (u8_at 6 (header_bytes h ++ rest) / 128 == 1) ≡ h.reserved
unfolding be16 be32
reserved_read h rest is = (word_read h.reserved h.fields.dont_cut h.fields.more h.fields.offset is.fields.offset).reserved

pub version_read : (h : Header) (rest : List ℕ) → IsHeader h → u8_at 0 (header_bytes h ++ rest) / 16 ≡ 4
version_read h rest is = omega (arith, is.words, is.most)

pub len_read : (h : Header) (rest : List ℕ) → IsHeader h → len_of (header_bytes h ++ rest) ≡ header_len h
len_read h rest is = omega (arith, is.words, is.most)

-- past the first twenty bytes
past_twenty : (h : Header) (rest : List ℕ) → drop 20 (header_bytes h ++ rest) ≡ h.options ++ rest
unfolding be16 be32
past_twenty h rest = refl

pub length_written : (h : Header) → length (header_bytes h) ≡ header_len h
unfolding be16 be32
length_written h = omega arith

pub options_read : (h : Header) (rest : List ℕ) → IsHeader h
    → drop 20 (take (len_of (header_bytes h ++ rest)) (header_bytes h ++ rest)) ≡ h.options
options_read h rest is =
    let bytes = header_bytes h ++ rest in
    ap (λ (n : ℕ). drop 20 (take n bytes)) (len_read h rest is)
    ∙ drop-take 20 (length h.options) bytes
    ∙ ap (take (length h.options)) (past_twenty h rest)
    ∙ take-append_seam h.options rest

pub rest_read : (h : Header) (rest : List ℕ) → IsHeader h → drop (len_of (header_bytes h ++ rest)) (header_bytes h ++ rest) ≡ rest
rest_read h rest is =
    ap (λ (n : ℕ). drop n (header_bytes h ++ rest)) (len_read h rest is ∙ sym (length_written h)) ∙ drop-append_seam (header_bytes h) rest

pub front_read : (h : Header) (rest : List ℕ) → IsHeader h
    → take (len_of (header_bytes h ++ rest)) (header_bytes h ++ rest) ≡ header_bytes h
front_read h rest is =
    ap (λ (n : ℕ). take n (header_bytes h ++ rest)) (len_read h rest is ∙ sym (length_written h)) ∙ take-append_seam (header_bytes h) rest

pub header_read : (h : Header) (rest : List ℕ) → IsHeader h → header_of (header_bytes h ++ rest) ≡ h
header_read h rest is =
    let fields = fields_read h rest is in
    let reserved = reserved_read h rest is in
    let sum = sum_read h rest is in
    let options = options_read h rest is in
    λ i. record { fields = fields i; reserved = reserved i; sum = sum i; options = options i }

-- An address of a header, replaced in its bytes.
use Rattle.std.proofs.Common.{◌≡◌, ℕ, ◌+◌, ◌<◌, ◌^◌, Bool, true, false, List, [], ◌++◌, length, take, drop, refl, ap, ◌∙◌, arith}
use Rattle.std.specs.Prelude.{if◌then◌else◌}
use Rattle.std.proofs.lemmas.List.{take_at, drop_at}
use Rattle.aftr_base.specs.Bytes.{u8_at, u16_at, u32_at, be16, be32}
use Rattle.aftr_base.specs.Checksum.{adjusted, address_words}
use Rattle.aftr_base.specs.declared.value.Ip4.{Ip4}
use Rattle.wire_ip4.specs.Grammar.{Header, IsHeader, header_bytes}
use Rattle.wire_ip4.specs.Forwarded.{address_on, with_address}
use Rattle.wire_ip4.proofs.HeaderRead.{fields_read, sum_read, length_written}
use Rattle.wire_l4.proofs.Replacing.{adjusted_fits}
use Rattle.icmp_xlate.specs.Translated.{readdressed}

-- the checksum, and then an address behind the bytes before them
source_put : (h : Header) (rest : List ℕ) (sum : ℕ) (addr : Ip4)
    → let old = header_bytes h ++ rest in let mid = take 10 old ++ be16 sum ++ drop 12 old in
    take 12 mid ++ be32 addr.0 ++ drop 16 mid ≡ header_bytes (record (with_address true addr h) { sum = sum }) ++ rest
unfolding be16 be32
source_put h rest sum addr = refl

target_put : (h : Header) (rest : List ℕ) (sum : ℕ) (addr : Ip4)
    → let old = header_bytes h ++ rest in let mid = take 10 old ++ be16 sum ++ drop 12 old in
    take 16 mid ++ be32 addr.0 ++ drop 20 mid ≡ header_bytes (record (with_address false addr h) { sum = sum }) ++ rest
unfolding be16 be32
target_put h rest sum addr = refl

address_put : (source : Bool) (at : ℕ) (h : Header) (rest : List ℕ) (sum : ℕ) (addr : Ip4) → at ≡ (if source then 12 else 16)
    → let old = header_bytes h ++ rest in let mid = take 10 old ++ be16 sum ++ drop 12 old in
    take at mid ++ be32 addr.0 ++ drop (at + 4) mid ≡ header_bytes (record (with_address source addr h) { sum = sum }) ++ rest
address_put true at h rest sum addr e = rw e (source_put h rest sum addr)
address_put false at h rest sum addr e = rw e (target_put h rest sum addr)

address_read : (source : Bool) (at : ℕ) (h : Header) (rest : List ℕ) → IsHeader h → at ≡ (if source then 12 else 16)
    → u32_at at (header_bytes h ++ rest) ≡ (address_on source h).0
address_read true at h rest is e = ap (λ (n : ℕ). u32_at n (header_bytes h ++ rest)) e ∙ (λ i. (fields_read h rest is i).src.0)
address_read false at h rest is e = ap (λ (n : ℕ). u32_at n (header_bytes h ++ rest)) e ∙ (λ i. (fields_read h rest is i).dst.0)

pub number_read : (h : Header) (rest : List ℕ) → u8_at 9 (header_bytes h ++ rest) ≡ h.fields.proto
unfolding be16 be32
number_read h rest = refl

-- both are written, where the checksum was updated for what was read there
pub readdressed_bytes : (source : Bool) (at sum : ℕ) (addr : Ip4) (h : Header) (rest bytes mid new : List ℕ)
    → IsHeader h → bytes ≡ header_bytes h ++ rest → at ≡ (if source then 12 else 16)
    → sum ≡ adjusted (u16_at 10 bytes) (address_words (u32_at at bytes)) (address_words addr.0)
    → mid ≡ take 10 bytes ++ be16 sum ++ drop 12 bytes
    → new ≡ take at mid ++ be32 addr.0 ++ drop (at + 4) mid
    → new ≡ header_bytes (readdressed source addr h) ++ rest
readdressed_bytes source at sum addr h rest bytes mid new is spelled offset summed first second =
    let old : List ℕ = header_bytes h ++ rest in
    let sum' : ℕ = adjusted h.sum (address_words (address_on source h).0) (address_words addr.0) in
    let right : sum ≡ sum' =
    summed ∙ (λ i. adjusted (u16_at 10 (spelled i)) (address_words (u32_at at (spelled i))) (address_words addr.0))
    ∙ (λ i. adjusted (sum_read h rest is i) (address_words (address_read source at h rest is offset i)) (address_words addr.0)) in
    let half : mid ≡ take 10 old ++ be16 sum' ++ drop 12 old =
    first ∙ (λ i. take 10 (spelled i) ++ be16 (right i) ++ drop 12 (spelled i)) in
    second ∙ ap (λ (l : List ℕ). take at l ++ be32 addr.0 ++ drop (at + 4) l) half ∙ address_put source at h rest sum' addr offset

-- ---- a header without options

pub head_long : (h : Header) → h.options ≡ [] → length (header_bytes h) ≡ 20
head_long h bare = omega (arith, length_written h, ap length bare)

pub head_taken : (h : Header) (rest : List ℕ) → h.options ≡ [] → take 20 (header_bytes h ++ rest) ≡ header_bytes h
head_taken h rest bare = take_at (header_bytes h) rest 20 (head_long h bare)

pub head_dropped : (h : Header) (rest : List ℕ) → h.options ≡ [] → drop 20 (header_bytes h ++ rest) ≡ rest
head_dropped h rest bare = drop_at (header_bytes h) rest 20 (head_long h bare)

-- ---- the header is one still

address_fits : (source : Bool) (addr : Ip4) (h : Header) → IsHeader h → addr.0 < 2 ^ 32
    → ((with_address source addr h).fields.src.0 < 2 ^ 32) × ((with_address source addr h).fields.dst.0 < 2 ^ 32)
address_fits true addr h is lt = (lt, is.fields.dst)
address_fits false addr h is lt = (is.fields.src, lt)

pub is_readdressed : (source : Bool) (addr : Ip4) (h : Header) → IsHeader h → addr.0 < 2 ^ 32 → IsHeader (readdressed source addr h)
is_readdressed source addr h is lt =
    let addresses = address_fits source addr h is lt in
    record {
      fields = record {
        tos = is.fields.tos;
        total = is.fields.total;
        id = is.fields.id;
        offset = is.fields.offset;
        ttl = is.fields.ttl;
        proto = is.fields.proto;
        src = addresses.0;
        dst = addresses.1;
      };
      sum = adjusted_fits h.sum (address_words (address_on source h).0) (address_words addr.0);
      options = is.options;
      words = is.words;
      most = is.most;
    }

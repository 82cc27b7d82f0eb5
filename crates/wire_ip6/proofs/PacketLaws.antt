-- The bytes of a packet and what is read of them.
use Rattle.std.proofs.Common.{◌≡◌, ℕ, ◌+◌, ◌-◌, ◌*◌, ◌/◌, ◌%◌, ◌^◌, ◌≤◌, ◌<◌, Bool, true, List, ◌∷◌, ◌++◌, length, take, drop, refl, sym}
use Rattle.std.proofs.Common.{ap, subst, ◌∙◌, arith, append_assoc, eq-eqb}
use Rattle.std.specs.Prelude.{slice_index, Result, Ok}
use Rattle.std.proofs.lemmas.Bool.{le-leb}
use Rattle.std.proofs.lemmas.List.{take_at, take-append-drop, take_rest, drop_more, length-append, length-take-le, length-drop}
use Rattle.aftr_base.specs.Attempt.{◌>>◌, require}
use Rattle.aftr_base.specs.Value.{ip6}
use Rattle.aftr_base.specs.Bytes.{u8_at, u16_at, u32_at, u128_at, be16, be32, be128, IsBytes}
use Rattle.aftr_base.proofs.OctetLaws.{u16_spelled, u32_spelled, u128_spelled, u16_read, u32_read, u128_read, u16_below, u128_below}
use Rattle.wire_ip6.specs.declared.fields.Ip6Fields.{Ip6Fields}
use Rattle.wire_ip6.specs.declared.fields.Ip6Bad.{Ip6Bad}
use Rattle.wire_ip6.specs.declared.fields.Ip6Bad.TheVariants.{Short, Version, PayloadLen}
use Rattle.wire_ip6.specs.Grammar.{header_bytes_with, header_bytes, fields_of, packet_of, FitsHeader, SpellsPacket, ReadsBack}
use Rattle.wire_ip6.specs.Grammar.{AcceptsPackets}

-- ---- the parts of a packet in a row

in_a_row : (word len src dst payload beyond : List ℕ) (next hops : ℕ)
    → word ++ len ++ next ∷ hops ∷ (src ++ dst) ++ payload ++ beyond ≡ word ++
    (len ++ (next ∷ hops ∷ (src ++ (dst ++ (payload ++ beyond)))))
in_a_row word len src dst payload beyond next hops = simp append_assoc

-- ---- what is read is spelled so

first_word : (word : ℕ) → word / 2 ^ 28 ≡ 6 → 6 * 2 ^ 28 + word / 2 ^ 20 % 2 ^ 8 * 2 ^ 20 + word % 2 ^ 20 ≡ word
first_word word version = omega arith

header_again : (bytes : List ℕ) → IsBytes bytes → 40 ≤ length bytes → u32_at 0 bytes / 2 ^ 28 ≡ 6
    → bytes ≡ header_bytes_with (u32_at 0 bytes % 2 ^ 20) (fields_of bytes) ++ drop 40 bytes
header_again bytes fits room version =
    let word : ℕ = 6 * 2 ^ 28 + u32_at 0 bytes / 2 ^ 20 % 2 ^ 8 * 2 ^ 20 + u32_at 0 bytes % 2 ^ 20 in
    let src : List ℕ = be128 (u128_at 8 bytes) in
    let dst : List ℕ = be128 (u128_at 24 bytes) in
    u32_read 0 bytes fits (omega arith) ∙ ap (λ n. be32 n ++ drop 4 bytes) (sym (first_word (u32_at 0 bytes) version))
    ∙ ap (λ t. be32 word ++ t) (u16_read 4 bytes fits (omega arith)
    ∙ ap (λ t. be16 (u16_at 4 bytes) ++ t) (drop_more bytes 6 0 (omega arith)
    ∙ ap (λ t. u8_at 6 bytes ∷ t) (drop_more bytes 7 0 (omega arith)
    ∙ ap (λ t. u8_at 7 bytes ∷ t) (u128_read 8 bytes fits (omega arith)
    ∙ ap (λ t. src ++ t) (u128_read 24 bytes fits (omega arith))))))
    ∙ simp append_assoc

fits_header : (bytes : List ℕ) → IsBytes bytes → FitsHeader (fields_of bytes)
fits_header bytes fits = record {
  class = omega arith;
  payload = u16_below 4 bytes fits;
  next = fits 6;
  hops = fits 7;
  src = u128_below 8 bytes fits;
  dst = u128_below 24 bytes fits;
}

-- what a packet is read from spells it
pub packet_spelled : (bytes : List ℕ) → IsBytes bytes → 40 ≤ length bytes → u32_at 0 bytes / 2 ^ 28 ≡ 6 → 40 + u16_at 4 bytes ≤ length bytes
    → SpellsPacket bytes (fields_of bytes) (take (u16_at 4 bytes) (drop 40 bytes))
packet_spelled bytes fits room version within =
    let after : List ℕ = drop 40 bytes in
    let len : ℕ = u16_at 4 bytes in
    let label : ℕ = u32_at 0 bytes % 2 ^ 20 in
    let header : List ℕ = header_bytes_with label (fields_of bytes) in
    let left : len ≤ length after = omega (arith, length-drop 40 bytes) in
    record {
      fits = fits_header bytes fits;
      counted = sym (length-take-le len after left);
      spelled = (
        label,
        drop len after,
        omega arith,
        header_again bytes fits room version ∙ ap (λ t. header ++ t) (sym (take-append-drop len after))
            ∙ sym (append_assoc header (take len after) (drop len after)),
      );
    }

-- ---- what is spelled is read back

passes : {X E : Type 0} {a b c : Bool} (e f g : E) (r : Result X E) → a ≡ true → b ≡ true → c ≡ true
    → (require a e >> (require b f >> (require c g >> r))) ≡ r
passes e f g r p q s = rw (p, q, s) refl

-- the packet, where its three tests pass
packet_from : (bytes : List ℕ) (f : Ip6Fields) (payload : List ℕ) → 40 ≤ length bytes → u32_at 0 bytes / 2 ^ 28 ≡ 6
    → 40 + u16_at 4 bytes ≤ length bytes
    → fields_of bytes ≡ f → take (u16_at 4 bytes) (drop 40 bytes) ≡ payload → packet_of bytes ≡ Ok (f, payload)
packet_from bytes f payload room version within fields rest =
    passes Short Version PayloadLen
    (Ok (fields_of bytes, take (u16_at 4 bytes) (drop 40 bytes)))
    (le-leb 40 (length bytes) room) (eq-eqb (u32_at 0 bytes / 2 ^ 28) 6 version) (le-leb (40 + u16_at 4 bytes) (length bytes) within)
    ∙ λ i. Ok (fields i, rest i)

packet_in_a_row : (bytes : List ℕ) (f : Ip6Fields) (payload beyond : List ℕ) (label : ℕ) → FitsHeader f → f.payload ≡ length payload
    → label < 2 ^ 20
    → bytes ≡ be32 (6 * 2 ^ 28 + f.class * 2 ^ 20 + label) ++
    (be16 f.payload ++ (f.next ∷ f.hops ∷ (be128 f.src.0 ++ (be128 f.dst.0 ++ (payload ++ beyond)))))
    → packet_of bytes ≡ Ok (f, payload)
unfolding be16 be32 be128
packet_in_a_row bytes f payload beyond label fits counted low whole =
    let word : ℕ = 6 * 2 ^ 28 + f.class * 2 ^ 20 + label in
    let class_fits = fits.class in
    let at_word : u32_at 0 bytes ≡ word = u32_spelled 0 word bytes _ (omega arith) whole in
    let at_len : u16_at 4 bytes ≡ f.payload = u16_spelled 4 f.payload bytes _ fits.payload (ap (drop 4) whole) in
    let at_next : u8_at 6 bytes ≡ f.next = ap (λ b. slice_index b 6) whole in
    let at_hops : u8_at 7 bytes ≡ f.hops = ap (λ b. slice_index b 7) whole in
    let at_src : u128_at 8 bytes ≡ f.src.0 = u128_spelled 8 f.src.0 bytes _ fits.src (ap (drop 8) whole) in
    let at_dst : u128_at 24 bytes ≡ f.dst.0 = u128_spelled 24 f.dst.0 bytes _ fits.dst (ap (drop 24) whole) in
    let at_class : u32_at 0 bytes / 2 ^ 20 % 2 ^ 8 ≡ f.class = ap (λ n. n / 2 ^ 20 % 2 ^ 8) at_word ∙ omega arith in
    let version : u32_at 0 bytes / 2 ^ 28 ≡ 6 = ap (λ n. n / 2 ^ 28) at_word ∙ omega arith in
    let len : length bytes ≡ 40 + (length payload + length beyond) = ap length whole ∙ omega (arith, length-append payload beyond) in
    let at_payload : take (u16_at 4 bytes) (drop 40 bytes) ≡ payload =
    ap (λ n. take n (drop 40 bytes)) at_len ∙ ap (take f.payload) (ap (drop 40) whole) ∙ take_at payload beyond f.payload (sym counted) in
    packet_from bytes f payload (omega arith) version (omega arith)
    (λ i. record {
      class = at_class i;
      payload = at_len i;
      next = at_next i;
      hops = at_hops i;
      src = ip6 (at_src i);
      dst = ip6
          (at_dst i);
    }) at_payload

-- what is read of bytes that pass the three tests; the payload is cut from all that follows the header
pub packet_made : (bytes : List ℕ) (len : ℕ) → 40 ≤ length bytes → u32_at 0 bytes / 2 ^ 28 ≡ 6 → len ≡ u16_at 4 bytes
    → 40 + len ≤ length bytes
    → Ok (fields_of bytes, take len (take (length bytes - 40) (drop 40 bytes))) ≡ packet_of bytes
packet_made bytes len room version is within =
    let all : take (length bytes - 40) (drop 40 bytes) ≡ drop 40 bytes = take_rest bytes 40 in
    let at_payload : take len (take (length bytes - 40) (drop 40 bytes)) ≡ take (u16_at 4 bytes) (drop 40 bytes) =
    ap (take len) all ∙ ap (λ n. take n (drop 40 bytes)) is in
    sym (packet_from bytes (fields_of bytes) (take len (take (length bytes - 40) (drop 40 bytes))) room version (omega arith) refl
    (sym at_payload))

pub packet_made_spelled : (bytes : List ℕ) (len : ℕ) → IsBytes bytes → 40 ≤ length bytes → u32_at 0 bytes / 2 ^ 28 ≡ 6
    → len ≡ u16_at 4 bytes → 40 + len ≤ length bytes
    → SpellsPacket bytes (fields_of bytes) (take len (take (length bytes - 40) (drop 40 bytes)))
packet_made_spelled bytes len fits room version is within =
    let all : take (length bytes - 40) (drop 40 bytes) ≡ drop 40 bytes = take_rest bytes 40 in
    subst (λ payload. SpellsPacket bytes (fields_of bytes) payload) (sym (ap (take len) all ∙ ap (λ n. take n (drop 40 bytes)) is))
    (packet_spelled bytes fits room version (omega arith))

-- bytes that spell a packet are read as it
pub packet_read : (bytes : List ℕ) (f : Ip6Fields) (payload : List ℕ) → SpellsPacket bytes f payload → packet_of bytes ≡ Ok (f, payload)
packet_read bytes f payload spells =
    let parts = spells.spelled in
    packet_in_a_row bytes f payload parts.1 parts.0 spells.fits spells.counted parts.2
    (parts.3 ∙ in_a_row (be32 (6 * 2 ^ 28 + f.class * 2 ^ 20 + parts.0)) (be16 f.payload) (be128 f.src.0)
    (be128 f.dst.0) payload parts.1 f.next f.hops)

-- an answer that is what is read accepts what is spelled
pub accepted : (bytes : List ℕ) (answer : Result (Ip6Fields × List ℕ) Ip6Bad) → answer ≡ packet_of bytes → AcceptsPackets bytes answer
accepted bytes answer is f payload spells = is ∙ packet_read bytes f payload spells

-- what was written reads back
pub header_reads_back : (f : Ip6Fields) → FitsHeader f → ReadsBack f (header_bytes f)
header_reads_back f fits payload beyond counted =
    packet_read (header_bytes f ++ payload ++ beyond) f payload
    record { fits = fits; counted = sym counted; spelled = (0, beyond, omega arith, refl) }

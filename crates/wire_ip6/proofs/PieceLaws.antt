-- The bytes of a Fragment header and what is read of them.
use Rattle.std.proofs.Common.{◌≡◌, ℕ, ◌+◌, ◌*◌, ◌/◌, ◌%◌, ◌≤◌, ◌<◌, Bool, true, false, cond, List, ◌∷◌, ◌++◌, length, drop, refl, sym, ap}
use Rattle.std.proofs.Common.{◌∙◌, arith, append_assoc, eq-eqb, inl, inr}
use Rattle.std.specs.Prelude.{◌==◌, slice_index}
use Rattle.std.proofs.lemmas.Bool.{ne_eqb, cases_eq}
use Rattle.std.proofs.lemmas.List.{drop_more}
use Rattle.aftr_base.specs.Bytes.{u8_at, u16_at, u32_at, be16, be32, IsBytes}
use Rattle.aftr_base.proofs.OctetLaws.{u16_spelled, u32_spelled, u16_read, u32_read, u16_below, u32_below}
use Rattle.wire_ip6.specs.declared.fields.FragHead.{FragHead}
use Rattle.wire_ip6.specs.Grammar.{more_bit, frag_bytes, frag_of, FitsPiece, SpellsPiece, ReadsPieceBack}

-- ---- whether pieces follow

one_bit : (b : Bool) → cond b 1 0 < 2
one_bit true = omega arith
one_bit false = omega arith

bit_of_test : (n : ℕ) → cond (n % 2 == 1) 1 0 ≡ n % 2
bit_of_test n = elim (cases_eq (n % 2) 1) [ inl e ↦ rw (eq-eqb (n % 2) 1 e) (sym e) | inr ne ↦ rw (ne_eqb (n % 2) 1 ne) (omega arith) ]

test_of_bit : (b : Bool) (n : ℕ) → n % 2 ≡ cond b 1 0 → (n % 2 == 1) ≡ b
test_of_bit true n e = eq-eqb (n % 2) 1 e
test_of_bit false n e = ne_eqb (n % 2) 1 (λ h. absurd (omega arith))

-- ---- what is read is spelled so

second_word : (n bit : ℕ) → bit ≡ n % 2 → n ≡ 8 * (n / 8) + 2 * (n / 2 % 4) + bit
second_word n bit e = omega arith

pub piece_spelled : (bytes : List ℕ) → IsBytes bytes → 8 ≤ length bytes → SpellsPiece bytes (frag_of bytes) (drop 8 bytes)
piece_spelled bytes fits room =
    let word : ℕ = u16_at 2 bytes in
    let two : ℕ = word / 2 % 4 in
    let h : FragHead = frag_of bytes in
    let below = u16_below 2 bytes fits in
    record {
      fits = record { next = fits 0; offset = omega arith; id = u32_below 4 bytes fits };
      spelled = (
        u8_at 1 bytes,
        two,
        fits 1,
        omega arith,
        drop_more bytes 0 0 (omega arith)
            ∙ ap (λ t. h.next ∷ t) (drop_more bytes 1 0 (omega arith)
            ∙ ap (λ t. u8_at 1 bytes ∷ t) (u16_read 2 bytes fits (omega arith)
            ∙ ap (λ n. be16 n ++ drop 4 bytes) (second_word word (more_bit h) (bit_of_test word))
            ∙ ap (λ t. be16 (8 * h.offset + 2 * two + more_bit h) ++ t) (u32_read 4 bytes fits (omega arith))
            ∙ sym (append_assoc (be16 (8 * h.offset + 2 * two + more_bit h)) (be32 h.id) (drop 8 bytes)))),
      );
    }

-- ---- what is spelled is read back

-- bytes that spell a piece are read as it
pub piece_read : (bytes rest : List ℕ) (h : FragHead) → SpellsPiece bytes h rest
    → (frag_of bytes ≡ h) × (drop 8 bytes ≡ rest) × (8 ≤ length bytes)
unfolding be16 be32
piece_read bytes rest h spells =
    let parts = spells.spelled in
    let whole = parts.4 in
    let two : ℕ = parts.1 in
    let two_fits : two < 4 = parts.3 in
    let bit : ℕ = more_bit h in
    let bit_fits : bit < 2 = one_bit h.more in
    let offset_fits = spells.fits.offset in
    let word : ℕ = 8 * h.offset + 2 * two + bit in
    let at_next : u8_at 0 bytes ≡ h.next = ap (λ b. slice_index b 0) whole in
    let at_word : u16_at 2 bytes ≡ word = u16_spelled 2 word bytes (be32 h.id ++ rest) (omega arith) (ap (drop 2) whole) in
    let at_id : u32_at 4 bytes ≡ h.id = u32_spelled 4 h.id bytes rest spells.fits.id (ap (drop 4) whole) in
    let at_offset : u16_at 2 bytes / 8 ≡ h.offset = omega arith in
    let at_more : (u16_at 2 bytes % 2 == 1) ≡ h.more = test_of_bit h.more (u16_at 2 bytes) (omega arith) in
    let len : length bytes ≡ 8 + length rest = ap length whole ∙ omega arith in
    (λ i. record { next = at_next i; offset = at_offset i; more = at_more i; id = at_id i }, ap (drop 8) whole, omega arith)

-- what was written reads back
pub piece_reads_back : (h : FragHead) → FitsPiece h → ReadsPieceBack h (frag_bytes h)
piece_reads_back h fits rest =
    (piece_read (frag_bytes h ++ rest) rest h record { fits = fits; spelled = (0, 0, omega arith, omega arith, refl) }).0

-- What is read as a TCP segment is spelled so, and what is spelled so is read.
use Rattle.std.proofs.Common.{◌≡◌, ℕ, ◌+◌, ◌*◌, ◌/◌, ◌%◌, ◌≤◌, ◌<◌, ◌^◌}
use Rattle.std.proofs.Common.{List, ◌∷◌, ◌++◌, length, take, Ok, Some, refl, sym, ap, ◌∙◌, arith, append_assoc}
use Rattle.std.specs.Prelude.{slice_range}
use Rattle.std.proofs.lemmas.Bool.{le-leb}
use Rattle.std.proofs.lemmas.List.{drop_more}
use Rattle.std.proofs.lemmas.List.Edits.{get_or-between}
use Rattle.aftr_base.specs.Bytes.{u8_at, u16_at, u32_at, be16, be32, IsBytes}
use Rattle.wire_l4.specs.Grammar.{Segment, SpellsTcp, TcpMiddle, middle_bytes, segment_at, segment_bytes, tcp_of}
use Rattle.wire_l4.proofs.Words.{word_again, word_back, word_fits, part_split, quad_again, quad_fits}
use Rattle.wire_l4.proofs.Segments.{segment_again}
use Rattle.wire_l4.proofs.UdpGrammar.{passed}

-- ---- what was read

middle_in : List ℕ → TcpMiddle
middle_in bytes = record {
  sequence = u32_at 4 bytes;
  acknowledged = u32_at 8 bytes;
  offset = u8_at 12 bytes / 16;
  reserved = u8_at 12 bytes % 16;
  flags = u8_at 13 bytes;
  window = u16_at 14 bytes;
}

-- a byte is its upper half and its lower half
halves : (n : ℕ) → n ≡ 16 * (n / 16) + n % 16
halves n = omega arith

-- four bytes from the offset's on
offset_again : (bytes : List ℕ) → IsBytes bytes → 20 ≤ length bytes
    → slice_range bytes 12 16 ≡ (16 * (u8_at 12 bytes / 16) + u8_at 12 bytes % 16) ∷ u8_at 13 bytes ∷ be16 (u16_at 14 bytes)
offset_again bytes fits whole =
    ap (λ (t : List ℕ). take 4 t) (drop_more bytes 12 0 (omega arith))
    ∙ ap (λ (t : List ℕ). take 4 (u8_at 12 bytes ∷ t)) (drop_more bytes 13 0 (omega arith))
    ∙ (λ i. halves (u8_at 12 bytes) i ∷ u8_at 13 bytes ∷ sym (word_again 14 bytes fits (omega arith)) i)

middle_again : (bytes : List ℕ) → IsBytes bytes → 20 ≤ length bytes → slice_range bytes 4 16 ≡ middle_bytes (middle_in bytes)
unfolding middle_in
middle_again bytes fits whole =
    part_split 4 4 8 bytes
    ∙ (λ i. sym (quad_again 4 bytes fits (omega arith)) i ++ part_split 8 4 4 bytes i)
    ∙ (λ i. be32 (u32_at 4 bytes) ++ (sym (quad_again 8 bytes fits (omega arith)) i ++ offset_again bytes fits whole i))
    ∙ sym (append_assoc (be32 (u32_at 4 bytes)) (be32 (u32_at 8 bytes)) _)

pub tcp_spelled : (bytes : List ℕ) → IsBytes bytes → 20 ≤ length bytes → 5 ≤ u8_at 12 bytes / 16 → 4 * (u8_at 12 bytes / 16) ≤ length bytes
    → SpellsTcp bytes (segment_at 16 bytes)
unfolding middle_in
tcp_spelled bytes fits whole least most = record {
  spelled = segment_again {at = 16} (record { fits = fits; low = omega arith; room = omega arith });
  src = word_fits 0 bytes fits;
  dst = word_fits 2 bytes fits;
  middle = (
    middle_in bytes,
    record {
      sequence = quad_fits 4 bytes fits;
      acknowledged = quad_fits 8 bytes fits;
      least = least;
      offset = omega (arith, fits 12);
      reserved = omega arith;
      flags = fits 13;
      window = word_fits 14 bytes fits;
    },
    middle_again bytes fits whole,
    get_or-between bytes 4 16 9 0 (omega arith),
    most,
  );
  sum = (u16_at 16 bytes, refl, word_fits 16 bytes fits);
}

-- ---- what is spelled

segment : ℕ → ℕ → TcpMiddle → ℕ → List ℕ → Segment
segment src dst m sum rest = record { src = src; dst = dst; fixed = middle_bytes m; sum = Some sum; rest = rest }

module _ (src dst sum : ℕ) (m : TcpMiddle) (rest : List ℕ) where
  fields_read : src < 2 ^ 16 → dst < 2 ^ 16 → sum < 2 ^ 16
      → segment_at 16 (segment_bytes (segment src dst m sum rest)) ≡ segment src dst m sum rest
  unfolding be16 be32 segment
  fields_read p q r =
      λ i. record { src = word_back src p i; dst = word_back dst q i; fixed = middle_bytes m; sum = Some (word_back sum r i); rest = rest }

  offset_read : m.reserved < 16 → u8_at 12 (segment_bytes (segment src dst m sum rest)) / 16 ≡ m.offset
  unfolding be16 be32 segment
  offset_read p = omega arith

pub tcp_accepted : (bytes : List ℕ) (s : Segment) → SpellsTcp bytes s → tcp_of bytes ≡ Ok s
unfolding segment
tcp_accepted bytes s h =
    let (m, middle, field, flags, most) = h.middle in
    let (n, there, fits) = h.sum in
    let t : Segment = segment s.src s.dst m n s.rest in
    let same : s ≡ t = λ i. record s { fixed = field i; sum = there i } in
    let spelled : bytes ≡ segment_bytes t = h.spelled ∙ ap segment_bytes same in
    let read : u8_at 12 (segment_bytes t) / 16 ≡ m.offset = offset_read s.src s.dst n m s.rest middle.reserved in
    let whole : 20 ≤ length (segment_bytes t) = omega (arith, most, middle.least, ap length spelled) in
    let least : 5 ≤ u8_at 12 (segment_bytes t) / 16 = omega (arith, read, middle.least) in
    let within : 4 * (u8_at 12 (segment_bytes t) / 16) ≤ length (segment_bytes t) = omega (arith, read, most, ap length spelled) in
    ap tcp_of spelled
    ∙ passed _ _ _ _ _ (segment_at 16 (segment_bytes t)) (le-leb _ _ whole) (le-leb _ _ least) (le-leb _ _ within)
    ∙ ap Ok (fields_read s.src s.dst n m s.rest h.src h.dst fits ∙ sym same)

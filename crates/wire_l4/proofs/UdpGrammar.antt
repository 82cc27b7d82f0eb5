-- What is read as a UDP datagram is spelled so, and what is spelled so is read.
use Rattle.std.proofs.Common.{◌≡◌, ℕ, ◌≤◌, ◌<◌, ◌^◌, Bool, true, List, length, Ok, Some, refl, sym, ap, ◌∙◌, arith}
use Rattle.std.proofs.lemmas.Bool.{le-leb}
use Rattle.std.specs.Prelude.{◌&&◌}
use Rattle.aftr_base.specs.Attempt.{◌>>◌, require}
use Rattle.aftr_base.specs.Bytes.{u16_at, be16, IsBytes}
use Rattle.wire_l4.specs.Grammar.{Segment, SpellsUdp, segment_at, segment_bytes, udp_of}
use Rattle.wire_l4.proofs.Words.{word_again, word_back, word_fits}
use Rattle.wire_l4.proofs.Segments.{segment_again}

-- ---- what was read

pub udp_spelled : (bytes : List ℕ) → IsBytes bytes → 8 ≤ length bytes → 8 ≤ u16_at 4 bytes → u16_at 4 bytes ≤ length bytes
    → SpellsUdp bytes (segment_at 6 bytes)
udp_spelled bytes fits whole least most = record {
  spelled = segment_again {at = 6} (record { fits = fits; low = omega arith; room = whole });
  src = word_fits 0 bytes fits;
  dst = word_fits 2 bytes fits;
  len = (
    u16_at 4 bytes,
    record { field = sym (word_again 4 bytes fits (omega arith)); fits = word_fits 4 bytes fits; least = least },
    most,
  );
  sum = (u16_at 6 bytes, refl, word_fits 6 bytes fits);
}

-- ---- what is spelled

datagram : ℕ → ℕ → ℕ → ℕ → List ℕ → Segment
datagram src dst len sum rest = record { src = src; dst = dst; fixed = be16 len; sum = Some sum; rest = rest }

module _ (src dst len sum : ℕ) (rest : List ℕ) where
  fields_read : src < 2 ^ 16 → dst < 2 ^ 16 → sum < 2 ^ 16
      → segment_at 6 (segment_bytes (datagram src dst len sum rest)) ≡ datagram src dst len sum rest
  unfolding be16 datagram
  fields_read p q r =
      λ i. record { src = word_back src p i; dst = word_back dst q i; fixed = be16 len; sum = Some (word_back sum r i); rest = rest }

  len_read : len < 2 ^ 16 → u16_at 4 (segment_bytes (datagram src dst len sum rest)) ≡ len
  unfolding be16 datagram
  len_read p = word_back len p

  long_enough : 8 ≤ length (segment_bytes (datagram src dst len sum rest))
  unfolding be16 datagram
  long_enough = omega arith

-- each of three tests has passed
pub passed : {A E : Type 0} (a b c : Bool) (x y : E) (v : A) → a ≡ true → b ≡ true → c ≡ true
    → (require a x >> (require (b && c) y >> Ok v)) ≡ Ok v
passed a b c x y v p q r = rw (p, q, r) refl

pub udp_accepted : (bytes : List ℕ) (s : Segment) → SpellsUdp bytes s → udp_of bytes ≡ Ok s
unfolding datagram
udp_accepted bytes s h =
    let (n, len, most) = h.len in
    let (m, there, fits) = h.sum in
    let t : Segment = datagram s.src s.dst n m s.rest in
    let same : s ≡ t = λ i. record s { fixed = len.field i; sum = there i } in
    let spelled : bytes ≡ segment_bytes t = h.spelled ∙ ap segment_bytes same in
    let read : u16_at 4 (segment_bytes t) ≡ n = len_read s.src s.dst n m s.rest len.fits in
    let whole : 8 ≤ length (segment_bytes t) = long_enough s.src s.dst n m s.rest in
    let least : 8 ≤ u16_at 4 (segment_bytes t) = omega (arith, read, len.least) in
    let within : u16_at 4 (segment_bytes t) ≤ length (segment_bytes t) = omega (arith, read, most, ap length spelled) in
    ap udp_of spelled
    ∙ passed _ _ _ _ _ (segment_at 6 (segment_bytes t)) (le-leb _ _ whole) (le-leb _ _ least) (le-leb _ _ within)
    ∙ ap Ok (fields_read s.src s.dst n m s.rest h.src h.dst fits ∙ sym same)

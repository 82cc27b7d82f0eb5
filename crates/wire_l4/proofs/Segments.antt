-- A segment's fields and its bytes.
use Rattle.std.proofs.Common.{◌≡◌, ℕ, ◌+◌, ◌≤◌, Bool, true, false, List, ◌++◌, length, take, drop, Some, sym, ap, ◌∙◌, arith, append_assoc}
use Rattle.std.specs.Prelude.{slice_range, if◌then◌else◌}
use Rattle.std.proofs.lemmas.List.{length-append, take_at, drop_at}
use Rattle.std.proofs.lemmas.List.Folds.{drop_split}
use Rattle.aftr_base.specs.Bytes.{u16_at, be16, IsBytes}
use Rattle.wire_l4.specs.Grammar.{Segment, segment_at, segment_bytes}
use Rattle.wire_l4.proofs.Words.{word_again, length-be16, length-part}

-- bytes in which a checksum at this offset stands behind the ports
pub record HasSumAt (at : ℕ) (bytes : List ℕ) : Type 0 where
  pub fits : IsBytes bytes
  pub low : 4 ≤ at
  pub room : at + 2 ≤ length bytes

pub in_row : (a b c d e : List ℕ) → a ++ (b ++ (c ++ (d ++ e))) ≡ a ++ b ++ c ++ d ++ e
in_row a b c d e = simp append_assoc

behind_two : (a b c d e : List ℕ) → a ++ b ++ (c ++ (d ++ e)) ≡ a ++ b ++ c ++ d ++ e
behind_two a b c d e = simp append_assoc

-- the segment with another port on one side
abbrev pub with_port : Bool → ℕ → Segment → Segment
with_port source port s = record s { src = if source then port else s.src; dst = if source then s.dst else port }

module _ {at : ℕ} {bytes : List ℕ} (h : HasSumAt at bytes) where
  -- what follows the ports
  tail_again : drop 4 bytes ≡ slice_range bytes 4 at ++ (be16 (u16_at at bytes) ++ drop (at + 2) bytes)
  tail_again =
      drop_split bytes 4 at h.low
      ∙ ap (λ (t : List ℕ). slice_range bytes 4 at ++ t) (drop_split bytes at (at + 2) (omega arith)
      ∙ ap (λ (t : List ℕ). t ++ drop (at + 2) bytes) (sym (word_again at bytes h.fits h.room)))

  -- ---- a port is written between the bytes before it and those after it

  source_set : (port : ℕ) → take 0 bytes ++ be16 port ++ drop (0 + 2) bytes ≡ segment_bytes (record (segment_at at bytes) { src = port })
  source_set port =
      ap (λ (t : List ℕ). be16 port ++ t) (drop_split bytes 2 4 (omega arith)
      ∙ ap (λ (t : List ℕ). t ++ drop 4 bytes) (sym (word_again 2 bytes h.fits (omega arith)))
      ∙ ap (λ (t : List ℕ). be16 (u16_at 2 bytes) ++ t) tail_again)
      ∙ in_row (be16 port) (be16 (u16_at 2 bytes)) (slice_range bytes 4 at) (be16 (u16_at at bytes)) (drop (at + 2) bytes)

  target_set : (port : ℕ) → take 2 bytes ++ be16 port ++ drop (2 + 2) bytes ≡ segment_bytes (record (segment_at at bytes) { dst = port })
  target_set port =
      ap (λ (t : List ℕ). t ++ be16 port ++ drop 4 bytes) (sym (word_again 0 bytes h.fits (omega arith)))
      ∙ ap (λ (t : List ℕ). be16 (u16_at 0 bytes) ++ be16 port ++ t) tail_again
      ∙ behind_two (be16 (u16_at 0 bytes)) (be16 port) (slice_range bytes 4 at) (be16 (u16_at at bytes)) (drop (at + 2) bytes)

  port_set : (source : Bool) (i port : ℕ) → i ≡ (if source then 0 else 2)
      → take i bytes ++ be16 port ++ drop (i + 2) bytes ≡ segment_bytes (with_port source port (segment_at at bytes))
  port_set true i port e = rw e (source_set port)
  port_set false i port e = rw e (target_set port)

  -- bytes are spelled by the fields that are read in them
  pub segment_again : bytes ≡ segment_bytes (segment_at at bytes)
  segment_again =
      drop_split bytes 0 2 (omega arith)
      ∙ ap (λ (t : List ℕ). t ++ drop 2 bytes) (sym (word_again 0 bytes h.fits (omega arith)))
      ∙ source_set (u16_at 0 bytes)

-- ---- the checksum is written between the bytes before it and those after it

middle_set : (at : ℕ) (front old new rest : List ℕ) → length front ≡ at → length old ≡ 2
    → take at (front ++ old ++ rest) ++ new ++ drop (at + 2) (front ++ old ++ rest) ≡ front ++ new ++ rest
middle_set at front old new rest len two =
    let before : take at (front ++ old ++ rest) ≡ front =
    ap (λ (t : List ℕ). take at t) (append_assoc front old rest) ∙ take_at front (old ++ rest) at len in
    let after : drop (at + 2) (front ++ old ++ rest) ≡ rest =
    drop_at (front ++ old) rest (at + 2) (omega (arith, length-append front old)) in
    λ i. before i ++ new ++ after i

sum_set : (at old sum : ℕ) (s : Segment) → 4 + length s.fixed ≡ at → let bytes : List ℕ = segment_bytes (record s { sum = Some old }) in
    take at bytes ++ be16 sum ++ drop (at + 2) bytes ≡ segment_bytes (record s { sum = Some sum })
sum_set at old sum s len =
    let front : List ℕ = be16 s.src ++ be16 s.dst ++ s.fixed in
    middle_set at front (be16 old) (be16 sum) s.rest (simp (length-append, length-be16) len) (length-be16 old)

-- a port and then the checksum
pub place_set : {at i : ℕ} {bytes mid : List ℕ} (h : HasSumAt at bytes) (source : Bool) (port sum : ℕ) → i ≡ (if source then 0 else 2)
    → mid ≡ take i bytes ++ be16 port ++ drop (i + 2) bytes
    → take at mid ++ be16 sum ++ drop (at + 2) mid ≡ segment_bytes (record (with_port source port (segment_at at bytes)) { sum = Some sum })
place_set {at = at} {i = i} {bytes = bytes} h source port sum e made =
    let len : 4 + length (slice_range bytes 4 at) ≡ at = omega (arith, length-part 4 at bytes h.low (omega arith)) in
    ap (λ (t : List ℕ). take at t ++ be16 sum ++ drop (at + 2) t) (made ∙ port_set h source i port e)
    ∙ sum_set at (u16_at at bytes) sum (with_port source port (segment_at at bytes)) len

-- Numbers of eight bytes: what bytes spell is read back, and what is read is spelled so.
use Rattle.std.proofs.Common.{◌≡◌, ℕ, ◌+◌, ◌-◌, ◌^◌, ◌≤◌, ◌<◌, List, ◌++◌, length, take, drop, slice_range, refl, sym, ap, ◌∙◌, arith}
use Rattle.std.specs.Int.{w64, from_be_bytes, to_be_bytes}
use Rattle.std.proofs.lemmas.Nat.{be_bytes_8, from_be_bytes-to_be_bytes_8}
use Rattle.std.proofs.lemmas.List.{take_at, take-append-drop, drop-drop, length-take-le, length-drop}
use Rattle.aftr_base.specs.Bytes.{u64_at, be64, IsBytes}
use Rattle.aftr_base.proofs.OctetLaws.{fits_drop, fits_take}

eight_at : (i : ℕ) (bytes : List ℕ) → slice_range bytes i (i + 8) ≡ take 8 (drop i bytes)
eight_at i bytes = let e : i + 8 - i ≡ 8 = omega arith in ap (λ k. take k (drop i bytes)) e

pub u64_spelled : (i n : ℕ) (bytes rest : List ℕ) → n < 2 ^ 64 → drop i bytes ≡ be64 n ++ rest → u64_at i bytes ≡ n
unfolding be64
u64_spelled i n bytes rest fits there =
    ap (from_be_bytes w64) (eight_at i bytes ∙ ap (take 8) there ∙ take_at (to_be_bytes w64 n) rest 8 refl)
    ∙ from_be_bytes-to_be_bytes_8 n fits

pub u64_read : (i : ℕ) (bytes : List ℕ) → IsBytes bytes → i + 8 ≤ length bytes → drop i bytes ≡ be64 (u64_at i bytes) ++ drop (i + 8) bytes
unfolding be64
u64_read i bytes fits room =
    let eight : List ℕ = take 8 (drop i bytes) in
    let after : 8 ≤ length (drop i bytes) = omega (arith, length-drop i bytes) in
    let same : to_be_bytes w64 (u64_at i bytes) ≡ eight =
    be_bytes_8 eight (u64_at i bytes) (length-take-le 8 (drop i bytes) after) (fits_take 8 (drop i bytes) (fits_drop i bytes fits))
    (ap (from_be_bytes w64) (eight_at i bytes)) in
    sym (take-append-drop 8 (drop i bytes)) ∙ ap (λ rest. eight ++ rest) (drop-drop 8 i bytes)
    ∙ ap (λ first. first ++ drop (i + 8) bytes) (sym same)

below_64 : (bs : List ℕ) → IsBytes bs → from_be_bytes w64 bs < 2 ^ 64
below_64 bs fits = omega (arith, fits 0, fits 1, fits 2, fits 3, fits 4, fits 5, fits 6, fits 7)

pub u64_below : (i : ℕ) (bytes : List ℕ) → IsBytes bytes → u64_at i bytes < 2 ^ 64
u64_below i bytes fits =
    below_64 (slice_range bytes i (i + 8)) (fits_take (i + 8 - i) (drop i bytes) (fits_drop i bytes fits))

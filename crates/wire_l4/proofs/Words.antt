-- 16-bit words in bytes.
use Rattle.std.proofs.Common.{◌≡◌, ℕ, zero, suc, ◌+◌, ◌-◌, ◌^◌, ◌<◌, ◌≤◌, List, [], ◌∷◌, ◌++◌, length, take, drop, refl, ap, ◌∙◌, arith}
use Rattle.std.specs.Prelude.{slice_range}
use Rattle.std.specs.Int.{w16, w32, from_be_bytes}
use Rattle.std.proofs.lemmas.List.{length-take, length-drop, drop-drop, get_or-drop, nil_from_length, append_assoc}
use Rattle.std.proofs.Common.{sym}
use Rattle.std.proofs.lemmas.List.Edits.{split_between}
use Rattle.std.proofs.lemmas.Nat.{be_bytes_2, be_bytes_4, from_be_bytes-to_be_bytes_2}
use Rattle.aftr_base.specs.Bytes.{u16_at, u32_at, be16, be32, IsBytes}
use Rattle.std.proofs.Math.Seq.{take-add}
use borrow.Rule.Slice.PartMut.{put_mid}

-- ---- bytes of bytes

take_bytes : (n : ℕ) (xs : List ℕ) → IsBytes xs → IsBytes (take n xs)
take_bytes zero xs h i = omega arith
take_bytes (suc n) [] h i = omega arith
take_bytes (suc n) (x ∷ xs) h zero = h 0
take_bytes (suc n) (x ∷ xs) h (suc i) = take_bytes n xs (λ k. h (suc k)) i

drop_bytes : (n : ℕ) (xs : List ℕ) → IsBytes xs → IsBytes (drop n xs)
drop_bytes n xs h i = rw get_or-drop (h (n + i))

part_bytes : (i j : ℕ) (xs : List ℕ) → IsBytes xs → IsBytes (slice_range xs i j)
part_bytes i j xs h = take_bytes (j - i) (drop i xs) (drop_bytes i xs h)

pub length-part : (i j : ℕ) (bytes : List ℕ) → i ≤ j → j ≤ length bytes → length (slice_range bytes i j) + i ≡ j
length-part i j bytes le fits = omega (arith, length-take (j - i) (drop i bytes), length-drop i bytes)

-- ---- a word

-- the word at an offset is spelled by the two bytes there
pub word_again : (i : ℕ) (bytes : List ℕ) → IsBytes bytes → i + 2 ≤ length bytes → be16 (u16_at i bytes) ≡ slice_range bytes i (i + 2)
unfolding be16
word_again i bytes fits room =
    let two : length (slice_range bytes i (i + 2)) ≡ 2 = omega (arith, length-part i (i + 2) bytes (omega arith) room) in
    be_bytes_2 (slice_range bytes i (i + 2)) (u16_at i bytes) two (part_bytes i (i + 2) bytes fits) refl

-- so the bytes round it and it make up the whole
pub word_kept : (i : ℕ) (bytes : List ℕ) → IsBytes bytes → i + 2 ≤ length bytes
    → bytes ≡ take i bytes ++ be16 (u16_at i bytes) ++ drop (i + 2) bytes
word_kept i bytes fits room =
    split_between bytes i (i + 2) (omega arith)
    ∙ ap (λ (t : List ℕ). take i bytes ++ (t ++ drop (i + 2) bytes)) (sym (word_again i bytes fits room))
    ∙ sym (append_assoc (take i bytes) (be16 (u16_at i bytes)) (drop (i + 2) bytes))

pub word_back : (n : ℕ) → n < 2 ^ 16 → from_be_bytes w16 (be16 n) ≡ n
unfolding be16
word_back n fits = from_be_bytes-to_be_bytes_2 n fits

pub length-be16 : (n : ℕ) → length (be16 n) ≡ 2
unfolding be16
length-be16 n = refl

two_fit : (xs : List ℕ) → IsBytes xs → from_be_bytes w16 xs < 2 ^ 16
two_fit xs h = omega (arith, h 0, h 1)

pub word_fits : (i : ℕ) (bytes : List ℕ) → IsBytes bytes → u16_at i bytes < 2 ^ 16
word_fits i bytes fits = two_fit (slice_range bytes i (i + 2)) (part_bytes i (i + 2) bytes fits)

-- a write of two bytes into the part at an offset
pub word_put : (at size a b : ℕ) (xs more : List ℕ) → size ≡ 2 → length more ≡ 0
    → put_mid at size xs (a ∷ b ∷ more) ≡ take at xs ++ (a ∷ b ∷ []) ++ drop (at + 2) xs
word_put at size a b xs more two none =
    rw (two, nil_from_length more none, drop-drop 2 at xs) (simp append_assoc)

-- ---- a number of four bytes

pub quad_again : (i : ℕ) (bytes : List ℕ) → IsBytes bytes → i + 4 ≤ length bytes → be32 (u32_at i bytes) ≡ slice_range bytes i (i + 4)
unfolding be32
quad_again i bytes fits room =
    let four : length (slice_range bytes i (i + 4)) ≡ 4 = omega (arith, length-part i (i + 4) bytes (omega arith) room) in
    be_bytes_4 (slice_range bytes i (i + 4)) (u32_at i bytes) four (part_bytes i (i + 4) bytes fits) refl

four_fit : (xs : List ℕ) → IsBytes xs → from_be_bytes w32 xs < 2 ^ 32
four_fit xs h = omega (arith, h 0, h 1, h 2, h 3)

pub quad_fits : (i : ℕ) (bytes : List ℕ) → IsBytes bytes → u32_at i bytes < 2 ^ 32
quad_fits i bytes fits = four_fit (slice_range bytes i (i + 4)) (part_bytes i (i + 4) bytes fits)

-- a part is its first bytes and those after them
pub part_split : (i m n : ℕ) (xs : List ℕ)
    → slice_range xs i (i + (m + n)) ≡ slice_range xs i (i + m) ++ slice_range xs (i + m) (i + (m + n))
part_split i m n xs =
    let whole : i + (m + n) - i ≡ m + n = omega arith in
    let first : i + m - i ≡ m = omega arith in
    let last : i + (m + n) - (i + m) ≡ n = omega arith in
    rw (whole, first, last) (take-add m n (drop i xs) ∙ ap (λ (t : List ℕ). take m (drop i xs) ++ take n t) (drop-drop m i xs))

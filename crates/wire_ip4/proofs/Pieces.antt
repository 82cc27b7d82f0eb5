-- A list of bytes is its first bytes, as the numbers that they are, and what follows them.
use Rattle.std.proofs.Common.{◌≡◌, ℕ, ◌+◌, ◌-◌, ◌*◌, ◌^◌, ◌<◌, ◌≤◌, List, [], ◌∷◌, ◌++◌, length, get_or, take, drop, zero, suc, refl, sym}
use Rattle.std.proofs.Common.{ap, ◌∙◌, arith, add-one}
use Rattle.std.specs.Prelude.{slice_range}
use Rattle.std.specs.Int.{w16, w32, from_be_bytes}
use Rattle.std.proofs.Math.Seq.{drop-cons}
use Rattle.std.proofs.lemmas.List.{get_or-drop}
use Rattle.std.proofs.lemmas.Nat.{be_bytes_2, be_bytes_4}
use Rattle.aftr_base.specs.Bytes.{u8_at, u16_at, u32_at, be16, be32, IsBytes}

pub one_more : (bytes : List ℕ) (i j : ℕ) → j ≡ i + 1 → i < length bytes → u8_at i bytes ∷ drop j bytes ≡ drop i bytes
one_more bytes i j e lt = rw (e, add-one) (sym (drop-cons bytes i 0 lt))

pub two_ones : (bytes : List ℕ) (i j : ℕ) → j ≡ i + 2 → j ≤ length bytes → u8_at i bytes ∷ u8_at (i + 1) bytes ∷ drop j bytes ≡ drop i bytes
two_ones bytes i j e le =
    ap (λ (l : List ℕ). u8_at i bytes ∷ l) (one_more bytes (i + 1) j (omega arith) (omega arith))
    ∙ one_more bytes i (i + 1) refl (omega arith)

pub four_ones : (bytes : List ℕ) (i : ℕ) → i + 4 ≤ length bytes
    → u8_at i bytes ∷ u8_at (i + 1) bytes ∷ u8_at (i + 2) bytes ∷ u8_at (i + 3) bytes ∷ drop (i + 4) bytes ≡ drop i bytes
four_ones bytes i le =
    ap (λ (l : List ℕ). u8_at i bytes ∷ u8_at (i + 1) bytes ∷ u8_at (i + 2) bytes ∷ l)
    (one_more bytes (i + 3) (i + 4) (omega arith) (omega arith))
    ∙ ap (λ (l : List ℕ). u8_at i bytes ∷ u8_at (i + 1) bytes ∷ l) (one_more bytes (i + 2) (i + 3) (omega arith) (omega arith))
    ∙ two_ones bytes i (i + 2) refl (omega arith)

-- the bytes at an offset, one by one
pub two_at : (bytes : List ℕ) (i : ℕ) → i + 2 ≤ length bytes → slice_range bytes i (i + 2) ≡ u8_at i bytes ∷ u8_at (i + 1) bytes ∷ []
two_at bytes i le =
    let two : i + 2 - i ≡ 2 = omega arith in
    rw (two, ← (two_ones bytes i (i + 2) refl le)) refl

pub four_at : (bytes : List ℕ) (i : ℕ) → i + 4 ≤ length bytes
    → slice_range bytes i (i + 4) ≡ u8_at i bytes ∷ u8_at (i + 1) bytes ∷ u8_at (i + 2) bytes ∷ u8_at (i + 3) bytes ∷ []
four_at bytes i le =
    let four : i + 4 - i ≡ 4 = omega arith in
    rw (four, ← (four_ones bytes i le)) refl

-- a number of two bytes, and of four
pub word_at : (bytes : List ℕ) (i : ℕ) → i + 2 ≤ length bytes → u16_at i bytes ≡ 256 * u8_at i bytes + u8_at (i + 1) bytes
word_at bytes i le = ap (from_be_bytes w16) (two_at bytes i le) ∙ omega arith

pub fits_16 : (bytes : List ℕ) (i : ℕ) → IsBytes bytes → i + 2 ≤ length bytes → u16_at i bytes < 65536
fits_16 bytes i fits le = omega (arith, word_at bytes i le, fits i, fits (i + 1))

pub fits_32 : (bytes : List ℕ) (i : ℕ) → IsBytes bytes → i + 4 ≤ length bytes → u32_at i bytes < 2 ^ 32
fits_32 bytes i fits le =
    let whole : u32_at i bytes ≡ 16777216 * u8_at i bytes + 65536 * u8_at (i + 1) bytes + 256 * u8_at (i + 2) bytes + u8_at (i + 3) bytes =
    ap (from_be_bytes w32) (four_at bytes i le) ∙ omega arith in
    omega (arith, whole, fits i, fits (i + 1), fits (i + 2), fits (i + 3))

-- they are spelled as they stand
two_fit : {a b : ℕ} → a < 256 → b < 256 → (k : ℕ) → get_or (a ∷ b ∷ []) k 0 < 256
two_fit p q zero = p
two_fit p q (suc zero) = q
two_fit p q (suc (suc k)) = omega arith

four_fit : {a b c d : ℕ} → a < 256 → b < 256 → c < 256 → d < 256 → (k : ℕ) → get_or (a ∷ b ∷ c ∷ d ∷ []) k 0 < 256
four_fit p q r s zero = p
four_fit p q r s (suc zero) = q
four_fit p q r s (suc (suc zero)) = r
four_fit p q r s (suc (suc (suc zero))) = s
four_fit p q r s (suc (suc (suc (suc k)))) = omega arith

pub two_more : (bytes : List ℕ) (i : ℕ) → IsBytes bytes → i + 2 ≤ length bytes → be16 (u16_at i bytes) ++ drop (i + 2) bytes ≡ drop i bytes
unfolding be16
two_more bytes i fits le =
    let two = two_fit (fits i) (fits (i + 1)) in
    let same =
    be_bytes_2 (u8_at i bytes ∷ u8_at (i + 1) bytes ∷ []) (u16_at i bytes) refl two (ap (from_be_bytes w16) (two_at bytes i le)) in
    ap (λ (l : List ℕ). l ++ drop (i + 2) bytes) same ∙ two_ones bytes i (i + 2) refl le

pub four_more : (bytes : List ℕ) (i : ℕ) → IsBytes bytes → i + 4 ≤ length bytes → be32 (u32_at i bytes) ++ drop (i + 4) bytes ≡ drop i bytes
unfolding be32
four_more bytes i fits le =
    let four = four_fit (fits i) (fits (i + 1)) (fits (i + 2)) (fits (i + 3)) in
    let same = be_bytes_4 (u8_at i bytes ∷ u8_at (i + 1) bytes ∷ u8_at (i + 2) bytes ∷ u8_at (i + 3) bytes ∷ []) (u32_at i bytes) refl four
    (ap (from_be_bytes w32) (four_at bytes i le)) in
    ap (λ (l : List ℕ). l ++ drop (i + 4) bytes) same ∙ four_ones bytes i le

-- the bytes of a part are bytes
pub nothing_fits : IsBytes []
nothing_fits zero = omega arith
nothing_fits (suc k) = omega arith

pub bytes_of_front : (bytes : List ℕ) (n : ℕ) → IsBytes bytes → IsBytes (take n bytes)
bytes_of_front [] zero fits k = fits k
bytes_of_front [] (suc n) fits k = fits k
bytes_of_front (b ∷ bytes) zero fits k = nothing_fits k
bytes_of_front (b ∷ bytes) (suc n) fits zero = fits zero
bytes_of_front (b ∷ bytes) (suc n) fits (suc k) = bytes_of_front bytes n (λ j. fits (suc j)) k

pub bytes_of_rest : (bytes : List ℕ) (i : ℕ) → IsBytes bytes → IsBytes (drop i bytes)
bytes_of_rest bytes i fits k = omega (arith, get_or-drop i bytes k 0, fits (i + k))

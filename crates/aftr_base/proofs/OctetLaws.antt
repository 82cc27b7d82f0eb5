-- A number that bytes spell is read back, and a number that is read is spelled by its bytes.
use Rattle.std.proofs.Common.{◌≡◌, ℕ, zero, suc, ◌+◌, ◌-◌, ◌*◌, ◌/◌, ◌%◌, ◌^◌, ◌≤◌, ◌<◌, List, [], ◌∷◌, ◌++◌, length, take, drop}
use Rattle.std.proofs.Common.{slice_range, lit<, refl, sym, ap, ◌∙◌, arith}
use Rattle.std.specs.Int.{Width, w16, w32, w64, w128, from_be_bytes, to_be_bytes}
use Rattle.std.proofs.Math.Nat.{div-div-eq-div-mul}
use Rattle.std.proofs.lemmas.Nat.{be_bytes_2, be_bytes_4, be_bytes_8, from_be_bytes-to_be_bytes_2, from_be_bytes-to_be_bytes_4}
use Rattle.std.proofs.lemmas.Nat.{from_be_bytes-to_be_bytes_8}
use Rattle.std.proofs.lemmas.List.{take_at, take-append-drop, drop-drop, length-take-le, length-drop, get_or-take, get_or-drop}
use Rattle.aftr_base.specs.Bytes.{u16_at, u32_at, u128_at, be16, be32, be128, IsBytes}

-- ---- parts of bytes

pub fits_drop : (i : ℕ) (bytes : List ℕ) → IsBytes bytes → IsBytes (drop i bytes)
fits_drop i bytes fits k = rw get_or-drop (fits (i + k))

pub fits_take : (n : ℕ) (bytes : List ℕ) → IsBytes bytes → IsBytes (take n bytes)
fits_take zero bytes fits k = omega arith
fits_take (suc n) [] fits k = omega arith
fits_take (suc n) (b ∷ bytes) fits zero = fits 0
fits_take (suc n) (b ∷ bytes) fits (suc k) = fits_take n bytes (λ j. fits (suc j)) k

part_is : (i len : ℕ) (bytes : List ℕ) → slice_range bytes i (i + len) ≡ take len (drop i bytes)
part_is i len bytes = let e : i + len - i ≡ len = omega arith in ap (λ k. take k (drop i bytes)) e

length_part : (i len : ℕ) (bytes : List ℕ) → i + len ≤ length bytes → length (take len (drop i bytes)) ≡ len
length_part i len bytes room =
    let after : len ≤ length (drop i bytes) = omega (arith, length-drop i bytes) in
    length-take-le len (drop i bytes) after

-- ---- 128 bits as two halves

high_byte : (n p q : ℕ) → p ≡ 2 ^ 64 * q → n / p % 256 ≡ n / 2 ^ 64 / q % 256
high_byte n p q e = ap (λ m. n / m % 256) e ∙ ap (λ m. m % 256) (sym (div-div-eq-div-mul n (2 ^ 64) q))

to_128 : (n : ℕ) → to_be_bytes w128 n ≡ to_be_bytes w64 (n / 2 ^ 64) ++ to_be_bytes w64 (n % 2 ^ 64)
to_128 n =
    let high_7 : n / 1329227995784915872903807060280344576 % 256 ≡ n / 2 ^ 64 / 72057594037927936 % 256 =
    high_byte n 1329227995784915872903807060280344576 72057594037927936 refl in
    let high_6 : n / 5192296858534827628530496329220096 % 256 ≡ n / 2 ^ 64 / 281474976710656 % 256 =
    high_byte n 5192296858534827628530496329220096 281474976710656 refl in
    let high_5 : n / 20282409603651670423947251286016 % 256 ≡ n / 2 ^ 64 / 1099511627776 % 256 =
    high_byte n 20282409603651670423947251286016 1099511627776 refl in
    let high_4 : n / 79228162514264337593543950336 % 256 ≡ n / 2 ^ 64 / 4294967296 % 256 =
    high_byte n 79228162514264337593543950336 4294967296 refl in
    let high_3 : n / 309485009821345068724781056 % 256 ≡ n / 2 ^ 64 / 16777216 % 256 =
    high_byte n 309485009821345068724781056 16777216 refl in
    let high_2 : n / 1208925819614629174706176 % 256 ≡ n / 2 ^ 64 / 65536 % 256 = high_byte n 1208925819614629174706176 65536 refl in
    let high_1 : n / 4722366482869645213696 % 256 ≡ n / 2 ^ 64 / 256 % 256 = high_byte n 4722366482869645213696 256 refl in
    let low_7 : n / 72057594037927936 % 256 ≡ n % 2 ^ 64 / 72057594037927936 % 256 = omega arith in
    let low_6 : n / 281474976710656 % 256 ≡ n % 2 ^ 64 / 281474976710656 % 256 = omega arith in
    let low_5 : n / 1099511627776 % 256 ≡ n % 2 ^ 64 / 1099511627776 % 256 = omega arith in
    let low_4 : n / 4294967296 % 256 ≡ n % 2 ^ 64 / 4294967296 % 256 = omega arith in
    let low_3 : n / 16777216 % 256 ≡ n % 2 ^ 64 / 16777216 % 256 = omega arith in
    let low_2 : n / 65536 % 256 ≡ n % 2 ^ 64 / 65536 % 256 = omega arith in
    let low_1 : n / 256 % 256 ≡ n % 2 ^ 64 / 256 % 256 = omega arith in
    let low_0 : n % 256 ≡ n % 2 ^ 64 % 256 = omega arith in
    λ i. high_7 i ∷ high_6 i ∷ high_5 i ∷ high_4 i ∷ high_3 i ∷ high_2 i ∷ high_1 i
    ∷ n / 2 ^ 64 % 256 ∷ low_7 i ∷ low_6 i ∷ low_5 i ∷ low_4 i ∷ low_3 i ∷ low_2 i ∷ low_1 i ∷ low_0 i ∷ []

from_128 : (bs : List ℕ) → from_be_bytes w128 bs ≡ from_be_bytes w64 (take 8 bs) * 2 ^ 64 + from_be_bytes w64 (drop 8 bs)
from_128 bs =
    omega (
      arith,
      get_or-take 8 bs 0 0 (lit< tt),
      get_or-take 8 bs 1 0 (lit< tt),
      get_or-take 8 bs 2 0 (lit< tt),
      get_or-take 8 bs 3 0 (lit< tt),
      get_or-take 8 bs 4 0 (lit< tt),
      get_or-take 8 bs 5 0 (lit< tt),
      get_or-take 8 bs 6 0 (lit< tt),
      get_or-take 8 bs 7 0 (lit< tt),
      get_or-drop 8 bs 0 0,
      get_or-drop 8 bs 1 0,
      get_or-drop 8 bs 2 0,
      get_or-drop 8 bs 3 0,
      get_or-drop 8 bs 4 0,
      get_or-drop 8 bs 5 0,
      get_or-drop 8 bs 6 0,
      get_or-drop 8 bs 7 0,
    )

below_64 : (bs : List ℕ) → IsBytes bs → from_be_bytes w64 bs < 2 ^ 64
below_64 bs fits = omega (arith, fits 0, fits 1, fits 2, fits 3, fits 4, fits 5, fits 6, fits 7)

joined_64 : (x y a b n : ℕ) → x ≡ a → y ≡ b → a * 2 ^ 64 + b ≡ n → x * 2 ^ 64 + y ≡ n
joined_64 x y a b n e f g = omega arith

pub from_be_bytes-to_be_bytes_16 : (n : ℕ) → n < 2 ^ 128 → from_be_bytes w128 (to_be_bytes w128 n) ≡ n
from_be_bytes-to_be_bytes_16 n fits =
    let high : List ℕ = to_be_bytes w64 (n / 2 ^ 64) in
    let low : List ℕ = to_be_bytes w64 (n % 2 ^ 64) in
    ap (from_be_bytes w128) (to_128 n) ∙ from_128 (high ++ low)
    ∙ joined_64 (from_be_bytes w64 high) (from_be_bytes w64 low) (n / 2 ^ 64) (n % 2 ^ 64) n
    (from_be_bytes-to_be_bytes_8 (n / 2 ^ 64) (omega arith)) (from_be_bytes-to_be_bytes_8 (n % 2 ^ 64) (omega arith)) (omega arith)

pub be_bytes_16 : (bs : List ℕ) → length bs ≡ 16 → IsBytes bs → to_be_bytes w128 (from_be_bytes w128 bs) ≡ bs
be_bytes_16 bs len fits =
    let high : ℕ = from_be_bytes w64 (take 8 bs) in
    let low : ℕ = from_be_bytes w64 (drop 8 bs) in
    ap (to_be_bytes w128) (from_128 bs) ∙ halves high low bs (below_64 (drop 8 bs) (fits_drop 8 bs fits))
    (be_bytes_8 (take 8 bs) high (length-take-le 8 bs (omega arith)) (fits_take 8 bs fits) refl)
    (be_bytes_8 (drop 8 bs) low (omega (arith, length-drop 8 bs)) (fits_drop 8 bs fits) refl)
  where
    halves : (high low : ℕ) (bs : List ℕ) → low < 2 ^ 64 → to_be_bytes w64 high ≡ take 8 bs → to_be_bytes w64 low ≡ drop 8 bs
        → to_be_bytes w128 (high * 2 ^ 64 + low) ≡ bs
    halves high low bs fits first second =
        let n : ℕ = high * 2 ^ 64 + low in
        let over : n / 2 ^ 64 ≡ high = omega arith in
        let under : n % 2 ^ 64 ≡ low = omega arith in
        to_128 n ∙ ap (λ m. to_be_bytes w64 m ++ to_be_bytes w64 (n % 2 ^ 64)) over
        ∙ ap (λ m. to_be_bytes w64 high ++ to_be_bytes w64 m) under
        ∙ ap (λ bytes. bytes ++ to_be_bytes w64 low) first ∙ ap (λ bytes. take 8 bs ++ bytes) second ∙ take-append-drop 8 bs

-- ---- what is spelled is read back

read_there : (w : Width) (len i : ℕ) (bytes part rest : List ℕ) → length part ≡ len → drop i bytes ≡ part ++ rest
    → from_be_bytes w (slice_range bytes i (i + len)) ≡ from_be_bytes w part
read_there w len i bytes part rest size there =
    ap (from_be_bytes w) (part_is i len bytes ∙ ap (take len) there ∙ take_at part rest len size)

pub u16_spelled : (i n : ℕ) (bytes rest : List ℕ) → n < 2 ^ 16 → drop i bytes ≡ be16 n ++ rest → u16_at i bytes ≡ n
unfolding be16
u16_spelled i n bytes rest fits there =
    read_there w16 2 i bytes (to_be_bytes w16 n) rest refl there ∙ from_be_bytes-to_be_bytes_2 n fits

pub u32_spelled : (i n : ℕ) (bytes rest : List ℕ) → n < 2 ^ 32 → drop i bytes ≡ be32 n ++ rest → u32_at i bytes ≡ n
unfolding be32
u32_spelled i n bytes rest fits there =
    read_there w32 4 i bytes (to_be_bytes w32 n) rest refl there ∙ from_be_bytes-to_be_bytes_4 n fits

pub u128_spelled : (i n : ℕ) (bytes rest : List ℕ) → n < 2 ^ 128 → drop i bytes ≡ be128 n ++ rest → u128_at i bytes ≡ n
unfolding be128
u128_spelled i n bytes rest fits there =
    read_there w128 16 i bytes (to_be_bytes w128 n) rest refl there ∙ from_be_bytes-to_be_bytes_16 n fits

-- ---- what is read is spelled so

spelled_there : (len i : ℕ) (bytes part : List ℕ) → part ≡ take len (drop i bytes) → drop i bytes ≡ part ++ drop (i + len) bytes
spelled_there len i bytes part e =
    sym (take-append-drop len (drop i bytes)) ∙ ap (λ rest. take len (drop i bytes) ++ rest) (drop-drop len i bytes)
    ∙ ap (λ first. first ++ drop (i + len) bytes) (sym e)

pub u16_read : (i : ℕ) (bytes : List ℕ) → IsBytes bytes → i + 2 ≤ length bytes → drop i bytes ≡ be16 (u16_at i bytes) ++ drop (i + 2) bytes
unfolding be16
u16_read i bytes fits room =
    let part : List ℕ = take 2 (drop i bytes) in
    spelled_there 2 i bytes (to_be_bytes w16 (u16_at i bytes))
    (be_bytes_2 part (u16_at i bytes) (length_part i 2 bytes room) (fits_take 2 (drop i bytes) (fits_drop i bytes fits))
    (ap (from_be_bytes w16) (part_is i 2 bytes)))

pub u32_read : (i : ℕ) (bytes : List ℕ) → IsBytes bytes → i + 4 ≤ length bytes → drop i bytes ≡ be32 (u32_at i bytes) ++ drop (i + 4) bytes
unfolding be32
u32_read i bytes fits room =
    let part : List ℕ = take 4 (drop i bytes) in
    spelled_there 4 i bytes (to_be_bytes w32 (u32_at i bytes))
    (be_bytes_4 part (u32_at i bytes) (length_part i 4 bytes room) (fits_take 4 (drop i bytes) (fits_drop i bytes fits))
    (ap (from_be_bytes w32) (part_is i 4 bytes)))

pub u128_read : (i : ℕ) (bytes : List ℕ) → IsBytes bytes → i + 16 ≤ length bytes
    → drop i bytes ≡ be128 (u128_at i bytes) ++ drop (i + 16) bytes
unfolding be128
u128_read i bytes fits room =
    let part : List ℕ = take 16 (drop i bytes) in
    spelled_there 16 i bytes (to_be_bytes w128 (u128_at i bytes))
    (ap (λ p. to_be_bytes w128 (from_be_bytes w128 p)) (part_is i 16 bytes)
    ∙ be_bytes_16 part (length_part i 16 bytes room) (fits_take 16 (drop i bytes) (fits_drop i bytes fits)))

-- ---- what is read has its width

below_16 : (bs : List ℕ) → IsBytes bs → from_be_bytes w16 bs < 2 ^ 16
below_16 bs fits = omega (arith, fits 0, fits 1)

below_32 : (bs : List ℕ) → IsBytes bs → from_be_bytes w32 bs < 2 ^ 32
below_32 bs fits = omega (arith, fits 0, fits 1, fits 2, fits 3)

below_128 : (bs : List ℕ) → IsBytes bs → from_be_bytes w128 bs < 2 ^ 128
below_128 bs fits =
    let high = below_64 (take 8 bs) (fits_take 8 bs fits) in
    let low = below_64 (drop 8 bs) (fits_drop 8 bs fits) in
    both_below (from_be_bytes w128 bs) (from_be_bytes w64 (take 8 bs)) (from_be_bytes w64 (drop 8 bs)) (from_128 bs) high low
  where
    both_below : (n a b : ℕ) → n ≡ a * 2 ^ 64 + b → a < 2 ^ 64 → b < 2 ^ 64 → n < 2 ^ 128
    both_below n a b e f g = omega arith

fits_range : (i j : ℕ) (bytes : List ℕ) → IsBytes bytes → IsBytes (slice_range bytes i j)
fits_range i j bytes fits = fits_take (j - i) (drop i bytes) (fits_drop i bytes fits)

pub u16_below : (i : ℕ) (bytes : List ℕ) → IsBytes bytes → u16_at i bytes < 2 ^ 16
u16_below i bytes fits = below_16 (slice_range bytes i (i + 2)) (fits_range i (i + 2) bytes fits)

pub u32_below : (i : ℕ) (bytes : List ℕ) → IsBytes bytes → u32_at i bytes < 2 ^ 32
u32_below i bytes fits = below_32 (slice_range bytes i (i + 4)) (fits_range i (i + 4) bytes fits)

pub u128_below : (i : ℕ) (bytes : List ℕ) → IsBytes bytes → u128_at i bytes < 2 ^ 128
u128_below i bytes fits = below_128 (slice_range bytes i (i + 16)) (fits_range i (i + 16) bytes fits)

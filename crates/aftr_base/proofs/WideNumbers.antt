-- Numbers of 16 bytes read back from the bytes that they were written as.
use Rattle.std.proofs.Common.{◌≡◌, ℕ, ◌+◌, ◌*◌, ◌/◌, ◌%◌, ◌^◌, ◌<◌, arith}
use Rattle.std.specs.Int.{w128, from_be_bytes, to_be_bytes}
use native.Mathlib.Nat.{div-div-eq-div-mul}

byte_and_rest : (n p : ℕ) → n / p ≡ n / p % 256 + n / (p * 256) * 256
byte_and_rest n p = omega (arith, div-div-eq-div-mul n p 256)

-- eight bytes, lowest first, and what stands above them
abbrev eight : (a₀ a₁ a₂ a₃ a₄ a₅ a₆ a₇ above : ℕ) → ℕ
eight a₀ a₁ a₂ a₃ a₄ a₅ a₆ a₇ above =
    a₀ + a₁ * 256 + a₂ * 256 ^ 2 + a₃ * 256 ^ 3 + a₄ * 256 ^ 4 + a₅ * 256 ^ 5 + a₆ * 256 ^ 6 + a₇ * 256 ^ 7 + above * 256 ^ 8

joined : (a₀ a₁ a₂ a₃ a₄ a₅ a₆ a₇ n p₁ p₂ p₃ p₄ p₅ p₆ p₇ p₈ : ℕ)
    → n ≡ a₀ + p₁ * 256 → p₁ ≡ a₁ + p₂ * 256 → p₂ ≡ a₂ + p₃ * 256 → p₃ ≡ a₃ + p₄ * 256
    → p₄ ≡ a₄ + p₅ * 256 → p₅ ≡ a₅ + p₆ * 256 → p₆ ≡ a₆ + p₇ * 256 → p₇ ≡ a₇ + p₈ * 256
    → eight a₀ a₁ a₂ a₃ a₄ a₅ a₆ a₇ p₈ ≡ n
joined a₀ a₁ a₂ a₃ a₄ a₅ a₆ a₇ n p₁ p₂ p₃ p₄ p₅ p₆ p₇ p₈ e₀ e₁ e₂ e₃ e₄ e₅ e₆ e₇ = omega arith

-- the byte of n at a place
abbrev at_place : ℕ → ℕ → ℕ
at_place n k = n / 256 ^ k % 256

lower : (n : ℕ)
    → eight (n % 256) (n / 256 % 256) (at_place n 2) (at_place n 3) (at_place n 4) (at_place n 5) (at_place n 6) (at_place n 7)
    (n / 256 ^ 8) ≡ n
lower n =
    let low : n ≡ n % 256 + n / 256 * 256 = omega arith in
    joined _ _ _ _ _ _ _ _ n _ _ _ _ _ _ _ _ low (byte_and_rest n 256) (byte_and_rest n (256 ^ 2)) (byte_and_rest n (256 ^ 3))
    (byte_and_rest n (256 ^ 4)) (byte_and_rest n (256 ^ 5)) (byte_and_rest n (256 ^ 6)) (byte_and_rest n (256 ^ 7))

upper : (n : ℕ) → n < 2 ^ 128
    → eight (at_place n 8) (at_place n 9) (at_place n 10) (at_place n 11) (at_place n 12) (at_place n 13) (at_place n 14) (at_place n 15)
    0 ≡ n / 256 ^ 8
upper n fits =
    let high : n / 256 ^ 15 ≡ n / 256 ^ 15 % 256 + 0 * 256 = omega arith in
    joined _ _ _ _ _ _ _ _ (n / 256 ^ 8) _ _ _ _ _ _ _ 0 (byte_and_rest n (256 ^ 8)) (byte_and_rest n (256 ^ 9))
    (byte_and_rest n (256 ^ 10)) (byte_and_rest n (256 ^ 11)) (byte_and_rest n (256 ^ 12)) (byte_and_rest n (256 ^ 13))
    (byte_and_rest n (256 ^ 14)) high

turned : (a₀ a₁ a₂ a₃ a₄ a₅ a₆ a₇ b₀ b₁ b₂ b₃ b₄ b₅ b₆ b₇ h n : ℕ)
    → eight a₀ a₁ a₂ a₃ a₄ a₅ a₆ a₇ h ≡ n → eight b₀ b₁ b₂ b₃ b₄ b₅ b₆ b₇ 0 ≡ h
    → b₇ * 256 ^ 15 + b₆ * 256 ^ 14 + b₅ * 256 ^ 13 + b₄ * 256 ^ 12 + b₃ * 256 ^ 11 + b₂ * 256 ^ 10 + b₁ * 256 ^ 9 + b₀ * 256 ^ 8
    + a₇ * 256 ^ 7 + a₆ * 256 ^ 6 + a₅ * 256 ^ 5 + a₄ * 256 ^ 4 + a₃ * 256 ^ 3 + a₂ * 256 ^ 2 + a₁ * 256 + a₀ ≡ n
turned a₀ a₁ a₂ a₃ a₄ a₅ a₆ a₇ b₀ b₁ b₂ b₃ b₄ b₅ b₆ b₇ h n low high = omega arith

pub be128_back : (n : ℕ) → n < 2 ^ 128 → from_be_bytes w128 (to_be_bytes w128 n) ≡ n
be128_back n fits = turned _ _ _ _ _ _ _ _ _ _ _ _ _ _ _ _ (n / 256 ^ 8) n (lower n) (upper n fits)

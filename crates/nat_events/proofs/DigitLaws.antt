-- Digits spell their number back.
use Rattle.std.proofs.Common.{◌≡◌, ℕ, zero, suc, ◌+◌, ◌-◌, ◌*◌, ◌/◌, ◌%◌, ◌^◌, ◌≤◌, ◌<◌, true, false, List, [], ◌∷◌, ◌++◌, length, refl, ap, ◌∙◌, sym, subst, arith, append_assoc, inl, inr, All}
use Rattle.std.specs.Prelude.{◌==◌, nat_lt, decimal, fold}
use Rattle.std.proofs.lemmas.Bool.{cases_lt, lt-ltb, le-ltb, ne_eqb}
use Rattle.std.proofs.lemmas.List.{append-nil}
use Rattle.std.proofs.lemmas.List.Elements.{All-cons, All-nil, All-from_get_or}
use Rattle.std.proofs.lemmas.Fmt.{decimal_by_steps, decimal_is_IsNumeral}
use Rattle.std.proofs.lemmas.Str.Parse.{digit_at}
use Rattle.std.proofs.lemmas.Nat.{pow-add, pow_pos, mod-pow-add}
use Rattle.std.proofs.Math.Nat.{mul-le-mul_right, mul-le-mul_left}
use Rattle.nat_events.specs.PlanText.{hex_digit, hex_digits}
use Rattle.nat_events.specs.Reading.{value10, hex_value, value16}

-- ---- decimal digits

fold_push : (f : ℕ → ℕ → ℕ) (a : ℕ) (xs : List ℕ) (x : ℕ) → fold f a (xs ++ x ∷ []) ≡ f (fold f a xs) x
fold_push f a [] x = refl
fold_push f a (y ∷ ys) x = fold_push f (f a y) ys x

one_digit : (n : ℕ) → n < 10 → value10 ((48 + n) ∷ []) ≡ n % 2 ^ 16
one_digit n small = let e : 10 * 0 + (48 + n - 48) ≡ n = omega arith in ap (λ (k : ℕ). k % 2 ^ 16) e

one_more : (n : ℕ) (ds : List ℕ) → 10 ≤ n → value10 ds ≡ n / 10 % 2 ^ 16 → value10 (ds ++ ((48 + n % 10) ∷ [])) ≡ n % 2 ^ 16
one_more n ds big e =
    fold_push (λ n d. (10 * n + (d - 48)) % 2 ^ 16) 0 ds (48 + n % 10)
    ∙ ap (λ (k : ℕ). (10 * k + (48 + n % 10 - 48)) % 2 ^ 16) e ∙ omega arith

pub value-decimal : (n : ℕ) → n < 2 ^ 16 → value10 (decimal n) ≡ n
value-decimal n small =
    let same : value10 (decimal n) ≡ n % 2 ^ 16 =
    decimal_by_steps (λ (n : ℕ) (ds : List ℕ). value10 ds ≡ n % 2 ^ 16) one_digit one_more n (omega arith) in
    omega arith

-- ---- hexadecimal digits

digit_back : (d : ℕ) → d < 16 → hex_value (hex_digit d) ≡ d
digit_back d small = elim (cases_lt d 10) [
  | inl low ↦
      let is : hex_digit d ≡ 48 + d = rw (lt-ltb d 10 low) refl in
      let test : nat_lt (48 + d) 97 ≡ true = lt-ltb (48 + d) 97 (omega arith) in
      let value : hex_value (48 + d) ≡ (48 + d - 48) % 16 = rw test refl in
      ap hex_value is ∙ value ∙ omega arith
  | inr high ↦
      let is : hex_digit d ≡ 87 + d = rw (le-ltb d 10 high) refl in
      let test : nat_lt (87 + d) 97 ≡ false = le-ltb (87 + d) 97 (omega arith) in
      let value : hex_value (87 + d) ≡ (87 + d - 87) % 16 = rw test refl in
      ap hex_value is ∙ value ∙ omega arith
]

pub length-hex_digits : (k n : ℕ) → length (hex_digits k n) ≡ k
unfolding hex_digits
length-hex_digits zero n = refl
length-hex_digits (suc k) n = ap suc (length-hex_digits k n)

next_room : (a d q : ℕ) → d < 16 → (a + 1) * (16 * q) ≤ 2 ^ 128 → (16 * a + d + 1) * q ≤ 2 ^ 128
next_room a d q small room =
    let more : (16 * a + d + 1) * q ≤ (16 * (a + 1)) * q = mul-le-mul_right q (omega arith) in
    let same : (16 * (a + 1)) * q ≡ (a + 1) * (16 * q) = omega arith in
    omega arith

few : (a q : ℕ) → 0 < q → (a + 1) * (16 * q) ≤ 2 ^ 128 → a < 2 ^ 124
few a q some room =
    let least : (a + 1) * 16 ≤ (a + 1) * (16 * q) = mul-le-mul_left (a + 1) (omega arith) in
    omega arith

hex_from : (k n a : ℕ) → (a + 1) * 2 ^ (4 * k) ≤ 2 ^ 128
    → fold (λ n d. 16 * (n % 2 ^ 124) + hex_value d) a (hex_digits k n) ≡ a * 2 ^ (4 * k) + n % 2 ^ (4 * k)
unfolding hex_digits
hex_from zero n a room = omega arith
hex_from (suc k) n a room =
    let q : ℕ = 2 ^ (4 * k) in
    let d : ℕ = n / 2 ^ (4 * k) % 16 in
    let exponent : 4 * suc k ≡ 4 + 4 * k = omega arith in
    let power : 2 ^ (4 * suc k) ≡ 16 * 2 ^ (4 * k) = ap (λ (e : ℕ). 2 ^ e) exponent ∙ pow-add 2 4 (4 * k) in
    let room' : (a + 1) * (16 * q) ≤ 2 ^ 128 = subst (λ (w : ℕ). (a + 1) * w ≤ 2 ^ 128) power room in
    let low : a % 2 ^ 124 ≡ a = let small = few a q (pow_pos (4 * k)) room' in omega arith in
    let digit : hex_value (hex_digit d) ≡ d = digit_back d (omega arith) in
    let next : 16 * (a % 2 ^ 124) + hex_value (hex_digit d) ≡ 16 * a + d = omega arith in
    let split : n % 2 ^ (4 * suc k) ≡ d * q + n % q = ap (λ (e : ℕ). n % 2 ^ e) exponent ∙ mod-pow-add n 4 (4 * k) in
    let sum : (16 * a + d) * q + n % q ≡ a * (16 * q) + (d * q + n % q) = omega arith in
    ap (λ (b : ℕ). fold (λ n d. 16 * (n % 2 ^ 124) + hex_value d) b (hex_digits k n)) next
    ∙ hex_from k n (16 * a + d) (next_room a d q (omega arith) room')
    ∙ sum ∙ ap (λ (w : ℕ). a * w + (d * q + n % q)) (sym power) ∙ ap (λ (r : ℕ). a * 2 ^ (4 * suc k) + r) (sym split)

pub value-hex : (n : ℕ) → n < 2 ^ 128 → value16 (hex_digits 32 n) ≡ n
value-hex n small = hex_from 32 n 0 (omega arith) ∙ omega arith

pub value-hex8 : (n : ℕ) → n < 2 ^ 32 → value16 (hex_digits 8 n) ≡ n
value-hex8 n small = hex_from 8 n 0 (omega arith) ∙ omega arith

-- ---- no digit is a space

abbrev pub HasNoSpace : List ℕ → Type 0
HasNoSpace text = All (λ c. (c == 32) ≡ false) text

pub no_space_decimal : (n : ℕ) → n < 2 ^ 64 → HasNoSpace (decimal n)
no_space_decimal n small =
    let numeral = (decimal_is_IsNumeral n small).0 in
    All-from_get_or (λ c. (c == 32) ≡ false) (decimal n) 0 (λ i within.
    let range = digit_at (decimal n) i numeral.1 within in
    ne_eqb _ 32 (λ e. absurd (omega arith)))

hex_digit_least : (d : ℕ) → d < 16 → 48 ≤ hex_digit d
hex_digit_least d small = elim (cases_lt d 10) [
  | inl low ↦ rw (lt-ltb d 10 low) (omega arith)
  | inr high ↦ rw (le-ltb d 10 high) (omega arith)
]

pub no_space_hex : (k n : ℕ) → HasNoSpace (hex_digits k n)
unfolding hex_digits
no_space_hex zero n = All-nil (λ c. (c == 32) ≡ false)
no_space_hex (suc k) n =
    let d : ℕ = n / 2 ^ (4 * k) % 16 in
    let least = hex_digit_least d (omega arith) in
    All-cons (λ c. (c == 32) ≡ false) (hex_digit d) (hex_digits k n) (ne_eqb (hex_digit d) 32 (λ e. absurd (omega arith))) (no_space_hex k n)

-- ---- writing digits one by one

-- one more digit is written, and one less is to come
pub hex_step : (out all : List ℕ) (digits k n d : ℕ) → k < digits → d ≡ hex_digit (n / 2 ^ (4 * (digits - 1 - k)) % 16)
    → out ++ hex_digits (digits - k) n ≡ all → (out ++ d ∷ []) ++ hex_digits (digits - (k + 1)) n ≡ all
unfolding hex_digits
hex_step out all digits k n d within is so_far =
    let left : ℕ = digits - 1 - k in
    let here : digits - k ≡ suc left = omega arith in
    let after : digits - (k + 1) ≡ left = omega arith in
    ap (λ (m : ℕ). (out ++ d ∷ []) ++ hex_digits m n) after ∙ append_assoc out (d ∷ []) (hex_digits left n)
    ∙ ap (λ (e : ℕ). out ++ (e ∷ hex_digits left n)) is ∙ ap (λ (m : ℕ). out ++ hex_digits m n) (sym here) ∙ so_far

pub hex_end : (out all : List ℕ) (digits k n : ℕ) → digits ≤ k → out ++ hex_digits (digits - k) n ≡ all → out ≡ all
unfolding hex_digits
hex_end out all digits k n past so_far =
    let none : digits - k ≡ 0 = omega arith in
    sym (append-nil out) ∙ ap (λ (m : ℕ). out ++ hex_digits m n) (sym none) ∙ so_far

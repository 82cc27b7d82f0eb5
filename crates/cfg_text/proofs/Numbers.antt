-- Powers of two, quotients by them, and tests on numbers.
use Rattle.std.proofs.Common.{◌≡◌, ℕ, ◌+◌, ◌-◌, ◌*◌, ◌/◌, ◌%◌, ◌^◌, ◌<◌, ◌≤◌, Bool, true, nat_le, nat_lt, ◌&&◌, sym, ap, ◌∙◌, subst, arith}
use Rattle.std.proofs.Common.{inl, inr}
use Rattle.std.proofs.lemmas.Bool.{and_parts, leb-true, le-leb, lt-leb, lt-ltb, le-ltb, cases_lt}
use Rattle.std.proofs.lemmas.Nat.{pow_pos, pow-add, shr_below, shr_split}
use Rattle.std.proofs.Math.Nat.{div-lt_iff_lt-mul, le-div_iff_mul-le, mul-le-mul_right}
use Rattle.aftr_base.specs.Value.{is_within}

-- ---- all of these tests pass

pub all3 : (a b c : Bool) → (a && b && c) ≡ true → (a ≡ true) × (b ≡ true) × (c ≡ true)
all3 a b c h = let rest = and_parts (a && b) c h in let first = and_parts a b rest.0 in (first.0, first.1, rest.1)

pub all4 : (a b c d : Bool) → (a && b && c && d) ≡ true → (a ≡ true) × (b ≡ true) × (c ≡ true) × (d ≡ true)
all4 a b c d h = let rest = and_parts (a && b && c) d h in let first = all3 a b c rest.0 in (first.0, first.1, first.2, rest.1)

pub all5 : (a b c d e : Bool) → (a && b && c && d && e) ≡ true
    → (a ≡ true) × (b ≡ true) × (c ≡ true) × (d ≡ true) × (e ≡ true)
all5 a b c d e h =
    let rest = and_parts (a && b && c && d) e h in
    let first = all4 a b c d rest.0 in
    (first.0, first.1, first.2, first.3, rest.1)

pub all6 : (a b c d e f : Bool) → (a && b && c && d && e && f) ≡ true
    → (a ≡ true) × (b ≡ true) × (c ≡ true) × (d ≡ true) × (e ≡ true) × (f ≡ true)
all6 a b c d e f h =
    let rest = and_parts (a && b && c && d && e) f h in
    let first = all5 a b c d e rest.0 in
    (first.0, first.1, first.2, first.3, first.4, rest.1)

-- ---- numbers

pub within : (first last n : ℕ) → is_within first last n ≡ true → (first ≤ n) × (n ≤ last)
within first last n h =
    let parts = and_parts (nat_le first n) (nat_le n last) h in
    (leb-true first n parts.0, leb-true n last parts.1)

-- the bits of a number, in front and past
whole : (width len : ℕ) → len ≤ width → 2 ^ width ≡ 2 ^ len * 2 ^ (width - len)
whole width len le =
    let split : width ≡ len + (width - len) = omega arith in
    ap (λ (n : ℕ). 2 ^ n) split ∙ pow-add 2 len (width - len)

front_below : (width len n : ℕ) → len ≤ width → n < 2 ^ width → n / 2 ^ (width - len) < 2 ^ len
front_below width len n le lt =
    let split : width ≡ len + (width - len) = omega arith in
    shr_below n len (width - len) (subst (λ (k : ℕ). n < 2 ^ k) split lt)

-- a number is as short as one with the same front
pub below_like : (width len n like : ℕ) → len ≤ width → like < 2 ^ width
    → n / 2 ^ (width - len) ≡ like / 2 ^ (width - len) → n < 2 ^ width
below_like width len n like le lt same =
    let front : n / 2 ^ (width - len) < 2 ^ len = subst (λ (q : ℕ). q < 2 ^ len) (sym same) (front_below width len like le lt) in
    let below : n < 2 ^ len * 2 ^ (width - len) =
    (div-lt_iff_lt-mul {k = 2 ^ (width - len)} {x = n} {y = 2 ^ len} (pow_pos (width - len))).0 front in
    subst (λ (m : ℕ). n < m) (sym (whole width len le)) below

-- all that begins with the bits of a prefix fits too
pub last_fits : (width len n : ℕ) → len ≤ width → n < 2 ^ width → n % 2 ^ (width - len) ≡ 0
    → n + 2 ^ (width - len) ≤ 2 ^ width
last_fits width len n le lt even =
    let d = 2 ^ (width - len) in
    let more : (n / d + 1) * d ≤ 2 ^ len * d = mul-le-mul_right d (omega (arith, front_below width len n le lt)) in
    let split : n / d * d + n % d ≡ n = shr_split n (width - len) in
    let sum : (n / d + 1) * d ≡ n / d * d + d = omega arith in
    omega (arith, more, split, sum, even, whole width len le)

-- a gap has room for a power of two where its quotient is above 0
pub room_test : (k b n : ℕ) → b ≤ n → nat_lt 0 ((n - b) / 2 ^ k) ≡ nat_le (b + 2 ^ k) n
room_test k b n le = elim (cases_lt ((n - b) / 2 ^ k) 1) [
  | inl none ↦
      let short : n - b < 1 * 2 ^ k = (div-lt_iff_lt-mul {k = 2 ^ k} {x = n - b} {y = 1} (pow_pos k)).0 none in
      le-ltb 0 ((n - b) / 2 ^ k) (omega arith) ∙ sym (lt-leb (b + 2 ^ k) n (omega arith))
  | inr some ↦
      let long : 1 * 2 ^ k ≤ n - b = (le-div_iff_mul-le {k = 2 ^ k} {x = 1} {y = n - b} (pow_pos k)).0 some in
      lt-ltb 0 ((n - b) / 2 ^ k) (omega arith) ∙ sym (le-leb (b + 2 ^ k) n (omega arith))
]

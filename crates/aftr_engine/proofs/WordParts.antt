-- Numbers of decimal digits, addresses, and the parts of a text between dots.
use Rattle.std.proofs.Common.{◌≡◌, ℕ, ◌+◌, ◌-◌, ◌*◌, ◌<◌, ◌≤◌, Bool, true, false, ◌&&◌, ◌==◌, not, List, [], ◌∷◌, ◌++◌, length, drop}
use Rattle.std.proofs.Common.{get_or, Option, Some, None, fold, nat_le, refl, sym, ap, ◌∙◌, arith}
use Rattle.std.specs.Prelude.{if◌then◌else◌, unwrap_or, slice_get}
use Rattle.std.specs.List.{list_all}
use Rattle.std.proofs.lemmas.Bool.{lt-leb, ne_eqb}
use Rattle.std.proofs.lemmas.List.{drop_more}
use Rattle.aftr_base.specs.Value.{ip4, is_within}
use Rattle.aftr_base.specs.declared.value.Ip4.{Ip4}
use Rattle.aftr_base.specs.Bytes.{split_on}
use Rattle.aftr_engine.specs.words.Words.{value_of, is_octet, address_in}

-- ---- numbers

-- the number of digits that stand behind those of a number
abbrev pub spelled_from : ℕ → List ℕ → ℕ
spelled_from n digits = fold (λ (m d : ℕ). 10 * m + (d - 48)) n digits

-- and that number up to a limit
abbrev pub number_from : ℕ → ℕ → List ℕ → Option ℕ
number_from limit n rest =
    if list_all (is_within 48 57) rest && nat_le (spelled_from n rest) limit then Some (spelled_from n rest) else None

-- whether the next byte is a digit decides
abbrev pub digit_from : Bool → ℕ → ℕ → ℕ → List ℕ → Option ℕ
digit_from digit limit n d rest =
    if (digit && list_all (is_within 48 57) rest) && nat_le (spelled_from (10 * n + (d - 48)) rest) limit
    then Some (spelled_from (10 * n + (d - 48)) rest) else None

pub number_next : (limit n : ℕ) (text : List ℕ) (i : ℕ) (digit : Bool) → i < length text → is_within 48 57 (get_or text i 0) ≡ digit
    → number_from limit n (drop i text) ≡ digit_from digit limit n (get_or text i 0) (drop (i + 1) text)
number_next limit n text i digit inside is =
    ap (λ (xs : List ℕ). number_from limit n xs) (drop_more text i 0 inside)
    ∙ ap (λ (b : Bool). digit_from b limit n (get_or text i 0) (drop (i + 1) text)) is

-- more digits make no smaller number
spelled_grows : (n : ℕ) (rest : List ℕ) → n ≤ spelled_from n rest
spelled_grows n [] = omega arith
spelled_grows n (d ∷ rest) = omega (arith, spelled_grows (10 * n + (d - 48)) rest)

none_past : (digits : Bool) (limit m : ℕ) → limit < m → (if digits && nat_le m limit then Some m else None) ≡ None
none_past true limit m past = ap (λ (b : Bool). if b then Some m else None) (lt-leb m limit past)
none_past false limit m past = refl

pub number_passes : (limit n : ℕ) (rest : List ℕ) → limit < n → number_from limit n rest ≡ None
number_passes limit n rest past =
    none_past (list_all (is_within 48 57) rest) limit (spelled_from n rest) (omega (arith, spelled_grows n rest))

-- ---- addresses

-- an octet was read or not
pub octet_refused : (ok : Bool) (n : ℕ) → None ≡ (if ok then Some n else None) → ok ≡ false
octet_refused true n e = cc
octet_refused false n e = refl

pub octet_taken : (ok : Bool) (n m : ℕ) → Some m ≡ (if ok then Some n else None) → ok ≡ true
octet_taken true n m e = refl
octet_taken false n m e = cc

pub octet_value : (ok : Bool) (n m : ℕ) → Some m ≡ (if ok then Some n else None) → n ≡ m
octet_value true n m e = cc
octet_value false n m e = cc

-- four octets by their tests
abbrev pub address_by : Bool → Bool → Bool → Bool → ℕ → Option Ip4
address_by a b c d n = if a && (b && (c && (d && true))) then Some (ip4 n) else None

pub third_refused : (a b c d : Bool) (n : ℕ) → c ≡ false → address_by a b c d n ≡ None
third_refused true true true d n e = cc
third_refused true true false d n e = refl
third_refused true false c d n e = refl
third_refused false b c d n e = refl

pub fourth_refused : (a b c d : Bool) (n : ℕ) → d ≡ false → address_by a b c d n ≡ None
fourth_refused true true true true n e = cc
fourth_refused true true true false n e = refl
fourth_refused true true false d n e = refl
fourth_refused true false c d n e = refl
fourth_refused false b c d n e = refl

pub all_taken : (a b c d : Bool) (n : ℕ) → a ≡ true → b ≡ true → c ≡ true → d ≡ true → address_by a b c d n ≡ Some (ip4 n)
all_taken true true true true n e f g h = refl
all_taken true true true false n e f g h = cc
all_taken true true false d n e f g h = cc
all_taken true false c d n e f g h = cc
all_taken false b c d n e f g h = cc

-- more parts than four are none
pub too_many : (parts : List (List ℕ)) → 4 < length parts → address_in parts ≡ None
too_many parts more =
    let n : ℕ = fold (λ (m : ℕ) (octet : List ℕ). 256 * m + value_of octet) 0 parts in
    ap (λ (b : Bool). if b && list_all is_octet parts then Some (ip4 n) else None)
    (ne_eqb (length parts) 4 (λ (e : length parts ≡ 4). omega arith))

-- ---- parts between bytes c

abbrev pub is_other : ℕ → ℕ → Bool
is_other c b = not (b == c)

abbrev opened : Bool → ℕ → List (List ℕ) → List (List ℕ)
opened same b parts = if same then [] ∷ parts else (b ∷ unwrap_or (slice_get parts 0) []) ∷ drop 1 parts

not_true : (b : Bool) → not b ≡ true → b ≡ false
not_true true e = sym e
not_true false e = refl

first_of : (a b : Bool) → (a && b) ≡ true → a ≡ true
first_of true b e = refl
first_of false b e = e

second_of : (a b : Bool) → (a && b) ≡ true → b ≡ true
second_of true b e = e
second_of false b e = cc

pub split_none : (c : ℕ) (text : List ℕ) → list_all (is_other c) text ≡ true → split_on c text ≡ text ∷ []
split_none c [] others = refl
split_none c (b ∷ text) others =
    let other : (b == c) ≡ false = not_true (b == c) (first_of (is_other c b) (list_all (is_other c) text) others) in
    ap (λ (same : Bool). opened same b (split_on c text)) other
    ∙ ap (λ (parts : List (List ℕ)). opened false b parts)
    (split_none c text (second_of (is_other c b) (list_all (is_other c) text) others))

-- the part before the first such byte
pub split_found : (c : ℕ) (front rest : List ℕ) → (c == c) ≡ true → list_all (is_other c) front ≡ true
    → split_on c (front ++ c ∷ rest) ≡ front ∷ split_on c rest
split_found c [] rest itself others = ap (λ (same : Bool). opened same c (split_on c rest)) itself
split_found c (b ∷ front) rest itself others =
    let other : (b == c) ≡ false = not_true (b == c) (first_of (is_other c b) (list_all (is_other c) front) others) in
    ap (λ (same : Bool). opened same b (split_on c (front ++ c ∷ rest))) other
    ∙ ap (λ (parts : List (List ℕ)). opened false b parts)
    (split_found c front rest itself (second_of (is_other c b) (list_all (is_other c) front) others))

opened_some : (same : Bool) (b : ℕ) (parts : List (List ℕ)) → 0 < length (opened same b parts)
opened_some true b parts = omega arith
opened_some false b parts = omega arith

-- there is always a part
pub split_some : (c : ℕ) (text : List ℕ) → 0 < length (split_on c text)
split_some c [] = omega arith
split_some c (b ∷ text) = opened_some (b == c) b (split_on c text)

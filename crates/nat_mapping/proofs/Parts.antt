-- A search over numbers in parts.
use Rattle.std.proofs.Common.{◌≡◌, ℕ, zero, suc, ◌+◌, ◌-◌, ◌<◌, ◌≤◌, Bool, true, false, List, [], ◌∷◌, ◌++◌, Option, Some, None}
use Rattle.std.proofs.Common.{refl, ap, ◌∙◌, arith}
use Rattle.std.specs.Prelude.{find, is_some, if◌then◌else◌}
use Rattle.std.specs.List.{range_with_len}
use Rattle.aftr_base.proofs.Searches.{numbers, numbers_next}
use Rattle.aftr_base.specs.Attempt.{or_else}

find_by : {X : Type 0} (b : Bool) (x : X) (o o' rest : Option X) → o ≡ or_else o' rest → (if b then Some x else o) ≡ or_else (if b then Some x else o') rest
find_by true x o o' rest e = refl
find_by false x o o' rest e = e

find_append : (p : ℕ → Bool) (xs ys : List ℕ) → find p (xs ++ ys) ≡ or_else (find p xs) (find p ys)
find_append p [] ys = refl
find_append p (x ∷ xs) ys = find_by (p x) x (find p (xs ++ ys)) (find p xs) (find p ys) (find_append p xs ys)

range_append : (at n m : ℕ) → range_with_len at (n + m) ≡ range_with_len at n ++ range_with_len (at + n) m
range_append at zero m =
    let e : zero + m ≡ m = omega arith in
    let f : at ≡ at + zero = omega arith in
    ap (range_with_len at) e ∙ ap (λ k. range_with_len k m) f
range_append at (suc n) m =
    let e : suc n + m ≡ suc (n + m) = omega arith in
    let f : at + 1 + n ≡ at + suc n = omega arith in
    ap (range_with_len at) e
    ∙ ap (λ ns. at ∷ ns) (range_append (at + 1) n m ∙ ap (λ k. range_with_len (at + 1) n ++ range_with_len k m) f)

pub find_parts : (p : ℕ → Bool) (a b c : ℕ) → a ≤ b → b ≤ c → find p (numbers a c) ≡ or_else (find p (numbers a b)) (find p (numbers b c))
find_parts p a b c le le' =
    let e : c - a ≡ (b - a) + (c - b) = omega arith in
    let f : a + (b - a) ≡ b = omega arith in
    ap (λ n. find p (range_with_len a n)) e ∙ ap (find p) (range_append a (b - a) (c - b))
    ∙ find_append p (numbers a b) (range_with_len (a + (b - a)) (c - b))
    ∙ ap (λ k. or_else (find p (numbers a b)) (find p (range_with_len k (c - b)))) f

pub find_first : (p : ℕ → Bool) (at end : ℕ) → at < end → p at ≡ true → find p (numbers at end) ≡ Some at
find_first p at end lt hit =
    ap (find p) (numbers_next at end lt) ∙ ap (λ (b : Bool). if b then Some at else find p (numbers (at + 1) end)) hit

pub find_later : (p : ℕ → Bool) (a b c : ℕ) → a ≤ b → b ≤ c → find p (numbers a b) ≡ None → find p (numbers a c) ≡ find p (numbers b c)
find_later p a b c le le' none = find_parts p a b c le le' ∙ ap (λ o. or_else o (find p (numbers b c))) none

pub not_some : (o : Option ℕ) → is_some o ≡ false → o ≡ None
not_some None h = refl
not_some (Some x) h = cc

first_of : (o rest : Option ℕ) → is_some o ≡ true → or_else o rest ≡ o
first_of None rest h = cc
first_of (Some x) rest h = refl

pub find_here : (p : ℕ → Bool) (a b c : ℕ) (o : Option ℕ) → a ≤ b → b ≤ c → find p (numbers a b) ≡ o → is_some o ≡ true → find p (numbers a c) ≡ o
find_here p a b c o le le' here some =
    find_parts p a b c le le' ∙ ap (λ q. or_else q (find p (numbers b c))) here ∙ first_of o (find p (numbers b c)) some

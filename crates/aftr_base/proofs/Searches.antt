-- What a search over a list or over rising numbers answers, step by step as a loop goes.
use Rattle.std.proofs.Common.{◌≡◌, ℕ, suc, ◌+◌, ◌-◌, ◌<◌, Bool, true, false, not, cond, List, [], ◌∷◌, ◌++◌, length, get_or, drop, Option}
use Rattle.std.proofs.Common.{Some, None, refl, sym, ap, ◌∙◌, add-one, drop-cons, arith}
use Rattle.std.specs.Prelude.{find, filter, map, flat_map, ◌==◌, ◌||◌}
use Rattle.std.specs.List.{list_any, range_with_len}
use Rattle.std.proofs.lemmas.Bool.Decides.{nat_tests}
use Rattle.aftr_base.specs.Attempt.{or_else, first_some}

-- the numbers from this one up to the end, which is left out
abbrev pub numbers : ℕ → ℕ → List ℕ
numbers at end = range_with_len at (end - at)

pub numbers_next : (at end : ℕ) → at < end → numbers at end ≡ at ∷ numbers (at + 1) end
numbers_next at end lt =
    let more : end - at ≡ suc (end - (at + 1)) = omega arith in
    ap (range_with_len at) more

-- the items from an index on begin with the item there
pub items_next : {X : Type 0} (xs : List X) (i : ℕ) (d : X) → i < length xs → drop i xs ≡ get_or xs i d ∷ drop (i + 1) xs
items_next xs i d lt = rw (add-one, drop-cons xs i d) refl

-- ---- find: the first item at which a test passes
pub find_missed : {X : Type 0} (p : X → Bool) (x : X) (xs : List X) → p x ≡ false → find p (x ∷ xs) ≡ find p xs
find_missed p x xs missed = ap (λ (b : Bool). cond b (Some x) (find p xs)) missed

pub find_passed : (p : ℕ → Bool) (at end : ℕ) → at < end → p at ≡ false → find p (numbers at end) ≡ find p (numbers (at + 1) end)
find_passed p at end lt missed = ap (find p) (numbers_next at end lt) ∙ find_missed p at (numbers (at + 1) end) missed

-- the same over what f makes of the numbers
pub mapped_passed : {X : Type 0} (p : X → Bool) (f : ℕ → X) (at end : ℕ) → at < end → p (f at) ≡ false
    → find p (map f (numbers at end)) ≡ find p (map f (numbers (at + 1) end))
mapped_passed p f at end lt missed = ap (λ ns. find p (map f ns)) (numbers_next at end lt) ∙ find_missed p (f at) (map f (numbers (at + 1) end)) missed

-- ---- first_some: what h gives of the first item at which it gives anything
pub first_missed : {A B : Type 0} (h : A → Option B) (x : A) (xs : List A) → h x ≡ None → first_some h (x ∷ xs) ≡ first_some h xs
first_missed h x xs missed = ap (λ o. or_else o (first_some h xs)) missed

pub first_hit : {A B : Type 0} (h : A → Option B) (x : A) (xs : List A) (y : B) → h x ≡ Some y → first_some h (x ∷ xs) ≡ Some y
first_hit h x xs y hit = ap (λ o. or_else o (first_some h xs)) hit

pub first_of_mapped_passed : {A B : Type 0} (h : A → Option B) (f : ℕ → A) (at end : ℕ) → at < end → h (f at) ≡ None
    → first_some h (map f (numbers at end)) ≡ first_some h (map f (numbers (at + 1) end))
first_of_mapped_passed h f at end lt missed = ap (λ ns. first_some h (map f ns)) (numbers_next at end lt) ∙ first_missed h (f at) (map f (numbers (at + 1) end)) missed

pub first_of_mapped_stops : {A B : Type 0} (h : A → Option B) (f : ℕ → A) (at end : ℕ) (y : B) → at < end → h (f at) ≡ Some y
    → first_some h (map f (numbers at end)) ≡ Some y
first_of_mapped_stops h f at end y lt hit = ap (λ ns. first_some h (map f ns)) (numbers_next at end lt) ∙ first_hit h (f at) (map f (numbers (at + 1) end)) y hit

or_else_assoc : {B : Type 0} (a b c : Option B) → or_else a (or_else b c) ≡ or_else (or_else a b) c
or_else_assoc None b c = refl
or_else_assoc (Some x) b c = refl

-- over lists in a row: the first list that has one
pub first_of_append : {A B : Type 0} (h : A → Option B) (xs ys : List A)
    → first_some h (xs ++ ys) ≡ or_else (first_some h xs) (first_some h ys)
first_of_append h [] ys = refl
first_of_append h (x ∷ xs) ys = ap (or_else (h x)) (first_of_append h xs ys) ∙ or_else_assoc (h x) (first_some h xs) (first_some h ys)

pub first_of_flat_passed : {A B C : Type 0} (h : A → Option B) (g : C → List A) (xs : List C) (i : ℕ) (d : C) → i < length xs
    → first_some h (g (get_or xs i d)) ≡ None → first_some h (flat_map g (drop i xs)) ≡ first_some h (flat_map g (drop (i + 1) xs))
first_of_flat_passed h g xs i d lt missed =
    ap (λ ys. first_some h (flat_map g ys)) (items_next xs i d lt)
    ∙ first_of_append h (g (get_or xs i d)) (flat_map g (drop (i + 1) xs))
    ∙ ap (λ o. or_else o (first_some h (flat_map g (drop (i + 1) xs)))) missed

pub first_of_flat_stops : {A B C : Type 0} (h : A → Option B) (g : C → List A) (xs : List C) (i : ℕ) (d : C) (y : B) → i < length xs
    → first_some h (g (get_or xs i d)) ≡ Some y → first_some h (flat_map g (drop i xs)) ≡ Some y
first_of_flat_stops h g xs i d y lt hit =
    ap (λ ys. first_some h (flat_map g ys)) (items_next xs i d lt)
    ∙ first_of_append h (g (get_or xs i d)) (flat_map g (drop (i + 1) xs))
    ∙ ap (λ o. or_else o (first_some h (flat_map g (drop (i + 1) xs)))) hit

-- ---- whether any item passes
not_not : (b : Bool) → not (not b) ≡ b
not_not true = refl
not_not false = refl

-- no item passes a test exactly where the items that pass it are none
some_not_none : (n : ℕ) → (suc n == 0) ≡ false
some_not_none n = grind (arith, nat_tests)

passes_or_not : {A : Type 0} (b : Bool) (x : A) (ys : List A) (rest : Bool) → (length ys == 0) ≡ not rest
    → (length (cond b (x ∷ ys) ys) == 0) ≡ not (b || rest)
passes_or_not true x ys rest e = some_not_none (length ys)
passes_or_not false x ys rest e = e

pub none_passes : {A : Type 0} (p : A → Bool) (xs : List A) → (length (filter p xs) == 0) ≡ not (list_any p xs)
none_passes p [] = refl
none_passes p (x ∷ xs) = passes_or_not (p x) x (filter p xs) (list_any p xs) (none_passes p xs)

-- an item passes a test exactly where the items that pass it are some
pub some_passes : {A : Type 0} (p : A → Bool) (xs : List A) → list_any p xs ≡ not (length (filter p xs) == 0)
some_passes p xs = sym (ap not (none_passes p xs) ∙ not_not (list_any p xs))

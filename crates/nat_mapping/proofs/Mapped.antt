-- Searches over what a function makes of the items.
use Rattle.std.proofs.Common.{◌≡◌, ℕ, suc, ◌+◌, Bool, true, false, not, cond, ◌||◌, List, [], ◌∷◌, length, map, Option, Some, None}
use Rattle.std.proofs.Common.{refl, sym, ap, ◌∙◌, subst, arith, ◌<◌, IfNone, IfSome}
use Rattle.std.specs.Prelude.{nat_lt, option_map}
use Rattle.std.specs.List.{list_any, position, position_or_len, prefix_len, sum_by}
use Rattle.std.proofs.lemmas.Bool.Decides.{nat_tests}
use Rattle.std.proofs.lemmas.List.{length-map}
use Rattle.std.proofs.lemmas.List.Sums.{sum_by-cons}

-- where the first item that passes stands, by how many stand before it
abbrev found : ℕ → ℕ → Option ℕ
found at len = cond (nat_lt at len) (Some at) None

module _ {X Y : Type 0} (m : X → Y) where
  prefix_len-map : (p : Y → Bool) (xs : List X) → prefix_len p (map m xs) ≡ prefix_len (λ x. p (m x)) xs
  prefix_len-map p [] = refl
  prefix_len-map p (x ∷ xs) = ap (λ n. cond (p (m x)) (1 + n) 0) (prefix_len-map p xs)

  pub position-map : (p : Y → Bool) (xs : List X) → position p (map m xs) ≡ position (λ x. p (m x)) xs
  position-map p xs =
      ap (λ n. found n (length (map m xs))) (prefix_len-map (λ y. not (p y)) xs)
      ∙ ap (found (position_or_len (λ x. p (m x)) xs)) (length-map xs m)

  pub list_any-map : (p : Y → Bool) (xs : List X) → list_any p (map m xs) ≡ list_any (λ x. p (m x)) xs
  list_any-map p [] = refl
  list_any-map p (x ∷ xs) = ap (λ b. p (m x) || b) (list_any-map p xs)

  pub sum_by-map : (f : Y → ℕ) (xs : List X) → sum_by f (map m xs) ≡ sum_by (λ x. f (m x)) xs
  sum_by-map f [] = refl
  sum_by-map f (x ∷ xs) =
      sum_by-cons f (m x) (map m xs) ∙ ap (λ n. f (m x) + n) (sum_by-map f xs) ∙ sym (sum_by-cons (λ y. f (m y)) x xs)

-- ---- an item passes where the search ends before the end

passes_step : (b rest : Bool) (n len : ℕ) → rest ≡ nat_lt n len → (b || rest) ≡ nat_lt (cond (not b) (1 + n) 0) (suc len)
passes_step true rest n len e = grind (arith, nat_tests)
passes_step false rest n len e = grind (arith, nat_tests)

passes_where : {X : Type 0} (p : X → Bool) (xs : List X) → list_any p xs ≡ nat_lt (position_or_len p xs) (length xs)
passes_where p [] = refl
passes_where p (x ∷ xs) = passes_step (p x) (list_any p xs) (position_or_len p xs) (length xs) (passes_where p xs)

found_none : (b : Bool) (n : ℕ) → cond b (Some n) None ≡ None → b ≡ false
found_none true n h = cc
found_none false n h = refl

pub none_passes : {X : Type 0} (p : X → Bool) (xs : List X) → position p xs ≡ None → list_any p xs ≡ false
none_passes p xs h =
    passes_where p xs ∙ found_none (nat_lt (position_or_len p xs) (length xs)) (position_or_len p xs) h

some_not_none : {B : Type 0} (y : B) → None ≡ Some y → ⊥
some_not_none y h = cc

some_same : {B : Type 0} (x y : B) → Some x ≡ Some y → x ≡ y
some_same x y h = cc

below : (n len : ℕ) → nat_lt n len ≡ true → n < len
below n len h = grind (arith, nat_tests)

-- what follows where a mapped search found none
pub none_of : {A B P : Type 0} (f : A → B) (o : Option A) (r : Option B) → r ≡ option_map f o → (o ≡ None → P) → IfNone r P
none_of f None None e gives = gives refl
none_of f None (Some y) e gives = tt
none_of f (Some x) None e gives = absurd (some_not_none (f x) e)
none_of f (Some x) (Some y) e gives = tt

-- what holds of each place that a mapped search can find
pub some_of : {A B : Type 0} (f : A → B) (P : B → Type 0) (o : Option A) (r : Option B) → r ≡ option_map f o
    → ((x : A) → o ≡ Some x → P (f x)) → IfSome r P
some_of f P None None e gives = tt
some_of f P None (Some y) e gives = absurd (some_not_none y (sym e))
some_of f P (Some x) None e gives = tt
some_of f P (Some x) (Some y) e gives = subst P (some_same (f x) y (sym e)) (gives x refl)

found_within : (b : Bool) (n len i : ℕ) → b ≡ nat_lt n len → cond b (Some n) None ≡ Some i → i < len
found_within true n len i e h = subst (λ k. k < len) (some_same n i h) (below n len (sym e))
found_within false n len i e h = absurd (some_not_none i h)

pub place_within : {X : Type 0} (p : X → Bool) (xs : List X) (i : ℕ) → position p xs ≡ Some i → i < length xs
place_within p xs i h = found_within (nat_lt (position_or_len p xs) (length xs)) (position_or_len p xs) (length xs) i refl h

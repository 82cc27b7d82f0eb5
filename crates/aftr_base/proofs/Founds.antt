-- What is known of an item that a search found, and of a list in which it found none.
use Rattle.std.proofs.Common.{◌≡◌, ◌⊎◌, inl, inr, ℕ, zero, suc, ◌+◌, ◌<◌, ◌≤◌, Bool, true, false, cond, ◌||◌, List, [], ◌∷◌, filter}
use Rattle.std.proofs.Common.{option_map, Option, Some, None, All, find, refl, ◌∙◌, subst, arith}
use Rattle.std.specs.List.{list_any, list_all, range_with_len}
use Rattle.std.proofs.lemmas.Bool.{and_parts, or_cases, or_parts, or_left, or_right}
use Rattle.std.proofs.lemmas.List.Elements.{All-weaker, All-head, All-tail, All-nil, All-cons}
use Rattle.aftr_base.specs.Attempt.{first_some, or_else}

-- ---- one item

pub some_inj : {X : Type 0} (x y : X) → Some x ≡ Some y → x ≡ y
some_inj x y h = cc

found_by : {X : Type 0} (p : X → Bool) (x y : X) (o : Option X) (b : Bool) → p x ≡ b → cond b (Some x) o ≡ Some y
    → (o ≡ Some y → p y ≡ true) → p y ≡ true
found_by p x y o true e h next = subst (λ z. p z ≡ true) (some_inj x y h) e
found_by p x y o false e h next = next h

-- it passes the test
pub found_passes : {X : Type 0} (p : X → Bool) (xs : List X) (y : X) → find p xs ≡ Some y → p y ≡ true
found_passes p [] y h = cc
found_passes p (x ∷ xs) y h = found_by p x y (find p xs) (p x) refl h (λ e. found_passes p xs y e)

in_by : {X : Type 0} (P : X → Type 0) (x y : X) (o : Option X) (b : Bool) → P x → cond b (Some x) o ≡ Some y → (o ≡ Some y → P y) → P y
in_by P x y o true here h next = subst P (some_inj x y h) here
in_by P x y o false here h next = next h

-- what holds of each item holds of it
pub found_in : {X : Type 0} (P : X → Type 0) (p : X → Bool) (xs : List X) (y : X) → All P xs → find p xs ≡ Some y → P y
found_in P p [] y all h = cc
found_in P p (x ∷ xs) y all h = in_by P x y (find p xs) (p x) (All-head P x xs all) h (λ e. found_in P p xs y (All-tail P x xs all) e)

none_by : {X : Type 0} (x : X) (o : Option X) (b : Bool) → cond b (Some x) o ≡ None → (b ≡ false) × (o ≡ None)
none_by x o true h = cc
none_by x o false h = (refl, h)

-- where none was found, none passes
pub found_none : {X : Type 0} (p : X → Bool) (xs : List X) → find p xs ≡ None → All (λ x. p x ≡ false) xs
found_none p [] h = All-nil (λ x. p x ≡ false)
found_none p (x ∷ xs) h =
    let parts = none_by x (find p xs) (p x) h in
    All-cons (λ x. p x ≡ false) x xs parts.0 (found_none p xs parts.1)

-- ---- what h gives of the first item at which it gives anything

first_by : {A B : Type 0} (h : A → Option B) (x : A) (o rest : Option B) (y : B) → h x ≡ o → or_else o rest ≡ Some y
    → (h x ≡ Some y) ⊎ (rest ≡ Some y)
first_by h x None rest y e f = inr f
first_by h x (Some z) rest y e f = inl (e ∙ f)

-- it gives that of an item that has what all items have
pub first_in : {A B : Type 0} (h : A → Option B) (P : A → Type 0) (xs : List A) (y : B) → All P xs → first_some h xs ≡ Some y
    → (x : A) × P x × (h x ≡ Some y)
first_in h P [] y all e = cc
first_in h P (x ∷ xs) y all e = elim (first_by h x (h x) (first_some h xs) y refl e) [
  | inl here ↦ (x, All-head P x xs all, here)
  | inr later ↦ first_in h P xs y (All-tail P x xs all) later
]

-- and of one that passes a test, if all at which it gives that do
pub first_any : {A B : Type 0} (h : A → Option B) (P : A → Type 0) (p : A → Bool) (xs : List A) (y : B)
    → ((x : A) → P x → h x ≡ Some y → p x ≡ true) → All P xs → first_some h xs ≡ Some y → list_any p xs ≡ true
first_any h P p [] y each all e = cc
first_any h P p (x ∷ xs) y each all e = elim (first_by h x (h x) (first_some h xs) y refl e) [
  | inl here ↦ or_left (p x) (list_any p xs) (each x (All-head P x xs all) here)
  | inr later ↦ or_right (p x) (list_any p xs) (first_any h P p xs y each (All-tail P x xs all) later)
]

-- ---- values that are mapped

pub mapped_some : {A B : Type 0} (f : A → B) (o : Option A) (y : B) → option_map f o ≡ Some y → (x : A) × (o ≡ Some x) × (f x ≡ y)
mapped_some f None y h = cc
mapped_some f (Some x) y h = (x, refl, some_inj (f x) y h)

-- ---- tests over a list

pub none_any : {X : Type 0} (p : X → Bool) (xs : List X) → list_any p xs ≡ false → All (λ x. p x ≡ false) xs
none_any p [] h = All-nil (λ x. p x ≡ false)
none_any p (x ∷ xs) h =
    let parts = or_parts (p x) (list_any p xs) h in
    All-cons (λ x. p x ≡ false) x xs parts.0 (none_any p xs parts.1)

pub all_pass : {X : Type 0} (p : X → Bool) (xs : List X) → list_all p xs ≡ true → All (λ x. p x ≡ true) xs
all_pass p [] h = All-nil (λ x. p x ≡ true)
all_pass p (x ∷ xs) h =
    let parts = and_parts (p x) (list_all p xs) h in
    All-cons (λ x. p x ≡ true) x xs parts.0 (all_pass p xs parts.1)

-- what each item that passes leads to, where one passes
pub any_gives : {X Q : Type 0} (P : X → Type 0) (p : X → Bool) (xs : List X) → ((x : X) → P x → p x ≡ true → Q) → All P xs
    → list_any p xs ≡ true → Q
any_gives P p [] gives all h = cc
any_gives P p (x ∷ xs) gives all h = elim (or_cases (p x) (list_any p xs) h) [
  | inl here ↦ gives x (All-head P x xs all) here
  | inr later ↦ any_gives P p xs gives (All-tail P x xs all) later
]

-- and one passes another test, if all that pass do
pub any_where : {X : Type 0} (P : X → Type 0) (p q : X → Bool) → ((x : X) → P x → p x ≡ true → q x ≡ true) → (xs : List X) → All P xs
    → list_any p xs ≡ true → list_any q xs ≡ true
any_where P p q each [] all h = h
any_where P p q each (x ∷ xs) all h = elim (or_cases (p x) (list_any p xs) h) [
  | inl here ↦ or_left (q x) (list_any q xs) (each x (All-head P x xs all) here)
  | inr later ↦ or_right (q x) (list_any q xs) (any_where P p q each xs (All-tail P x xs all) later)
]

any_kept : {X : Type 0} (p : X → Bool) (b : Bool) (x : X) (some : Bool) (kept : List X) → (list_any p kept ≡ true → some ≡ true)
    → list_any p (cond b (x ∷ kept) kept) ≡ true → (p x || some) ≡ true
any_kept p true x some kept next h = elim (or_cases (p x) (list_any p kept) h) [
  | inl here ↦ or_left (p x) some here
  | inr later ↦ or_right (p x) some (next later)
]
any_kept p false x some kept next h = or_right (p x) some (next h)

-- one of those that were kept
pub any_filter : {X : Type 0} (p q : X → Bool) (xs : List X) → list_any p (filter q xs) ≡ true → list_any p xs ≡ true
any_filter p q [] h = h
any_filter p q (x ∷ xs) h = any_kept p (q x) x (list_any p xs) (filter q xs) (λ e. any_filter p q xs e) h

-- ---- numbers in a row

pub in_row : (at len : ℕ) → All (λ n. (at ≤ n) × (n < at + len)) (range_with_len at len)
in_row at zero = All-nil (λ n. (at ≤ n) × (n < at + zero))
in_row at (suc len) =
    All-cons (λ n. (at ≤ n) × (n < at + suc len)) at (range_with_len (at + 1) len) (omega arith, omega arith)
    (All-weaker (λ n. (at + 1 ≤ n) × (n < at + 1 + len)) (λ n. (at ≤ n) × (n < at + suc len)) (λ n h. (omega (arith, h.0), omega (arith, h.1))) (range_with_len (at + 1) len) (in_row (at + 1) len))

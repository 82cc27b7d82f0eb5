-- Lists whose items, and whose pairs of items, pass a test, as the lists change.
use Rattle.std.proofs.Common.{◌≡◌, zero, suc, Bool, true, false, cond, List, [], ◌∷◌, ◌++◌, map, filter, All, AllPairs, arith, inl, inr}
use Rattle.std.specs.List.{AllByRecursion, AllZip, list_any}
use Rattle.std.proofs.lemmas.Bool.{or_cases, or_left, or_right}
use Rattle.std.proofs.lemmas.List.Elements.{All-head, All-tail, All-cons, All-nil, All-filter, All-map, All-weaker, All-from_recursion}
use Rattle.std.proofs.lemmas.List.Elements.{recursion_from_All}

-- each item with each later one
abbrev pub Pairwise : {X : Type 0} → (X → X → Type 0) → List X → Type 0
Pairwise R [] = Unit {0}
Pairwise R (x ∷ xs) = AllByRecursion (R x) xs × Pairwise R xs

pub pairwise_from : {X : Type 0} (R : X → X → Type 0) (xs : List X) → AllPairs R xs → Pairwise R xs
pairwise_from R [] h = tt
pairwise_from R (x ∷ xs) h = (
  recursion_from_All (R x) xs (λ k d lt. h zero (suc k) d (omega arith) (omega arith)),
  pairwise_from R xs (λ i j d lt within. h (suc i) (suc j) d (omega arith) (omega arith)),
)

pub pairs_from : {X : Type 0} (R : X → X → Type 0) (xs : List X) → Pairwise R xs → AllPairs R xs
pairs_from R [] h i j d lt within = absurd (omega arith)
pairs_from R (x ∷ xs) h zero zero d lt within = absurd (omega arith)
pairs_from R (x ∷ xs) h zero (suc j) d lt within = All-from_recursion (R x) xs h.0 j d (omega arith)
pairs_from R (x ∷ xs) h (suc i) zero d lt within = absurd (omega arith)
pairs_from R (x ∷ xs) h (suc i) (suc j) d lt within = pairs_from R xs h.1 i j d (omega arith) (omega arith)

-- the last item has what each has
pub last_of : {X : Type 0} (P : X → Type 0) (xs : List X) (x : X) → AllByRecursion P (xs ++ x ∷ []) → P x
last_of P [] x h = h.0
last_of P (y ∷ xs) x h = last_of P xs x h.1

-- ---- some are left out

pairs_kept : {X : Type 0} (R : X → X → Type 0) (p : X → Bool) (b : Bool) (x : X) (xs : List X) → AllByRecursion (R x) xs
    → Pairwise R (filter p xs)
    → Pairwise R (cond b (x ∷ filter p xs) (filter p xs))
pairs_kept R p true x xs here rest = (recursion_from_All (R x) (filter p xs) (All-filter p (R x) xs (All-from_recursion (R x) xs here)), rest)
pairs_kept R p false x xs here rest = rest

pairwise_filter : {X : Type 0} (R : X → X → Type 0) (p : X → Bool) (xs : List X) → Pairwise R xs → Pairwise R (filter p xs)
pairwise_filter R p [] h = tt
pairwise_filter R p (x ∷ xs) h = pairs_kept R p (p x) x xs h.0 (pairwise_filter R p xs h.1)

pub pairs_filter : {X : Type 0} (R : X → X → Type 0) (p : X → Bool) (xs : List X) → AllPairs R xs → AllPairs R (filter p xs)
pairs_filter R p xs h = pairs_from R (filter p xs) (pairwise_filter R p xs (pairwise_from R xs h))

-- what f makes of each
pairwise_map : {X : Type 0} (R S : X → X → Type 0) (f : X → X) → ((x y : X) → R x y → S (f x) (f y)) → (xs : List X) → Pairwise R xs
    → Pairwise S (map f xs)
pairwise_map R S f keeps [] h = tt
pairwise_map R S f keeps (x ∷ xs) h = (
  recursion_from_All (S (f x)) (map f xs) (All-map (S (f x)) f xs (All-weaker (R x) (λ y. S (f x) (f y)) (keeps x) xs (All-from_recursion (R x) xs h.0))),
  pairwise_map R S f keeps xs h.1,
)

pub pairs_map : {X : Type 0} (R S : X → X → Type 0) (f : X → X) → ((x y : X) → R x y → S (f x) (f y)) → (xs : List X) → AllPairs R xs
    → AllPairs S (map f xs)
pairs_map R S f keeps xs h = pairs_from S (map f xs) (pairwise_map R S f keeps xs (pairwise_from R xs h))

-- ---- each changes, or stays

-- what f makes of each item
pub zip_map : {X : Type 0} (Z : X → X → Type 0) (f : X → X) → ((x : X) → Z x (f x)) → (xs : List X) → AllZip Z xs (map f xs)
zip_map Z f each [] = tt
zip_map Z f each (x ∷ xs) = (each x, zip_map Z f each xs)

pub zip_same : {X : Type 0} (Z : X → X → Type 0) → ((x : X) → Z x x) → (xs : List X) → AllZip Z xs xs
zip_same Z each [] = tt
zip_same Z each (x ∷ xs) = (each x, zip_same Z each xs)

-- what held of an item holds of what it became
pub all_zip : {X : Type 0} (Z : X → X → Type 0) (P Q : X → Type 0) → ((x y : X) → Z x y → P x → Q y) → (xs ys : List X) → AllZip Z xs ys
    → All P xs → All Q ys
all_zip Z P Q keeps [] [] z h = All-nil Q
all_zip Z P Q keeps [] (y ∷ ys) z h = absurd z
all_zip Z P Q keeps (x ∷ xs) [] z h = absurd z
all_zip Z P Q keeps (x ∷ xs) (y ∷ ys) z h = All-cons Q y ys (keeps x y z.0 (All-head P x xs h)) (all_zip Z P Q keeps xs ys z.1 (All-tail P x xs h))

recursion_zip : {X : Type 0} (Z : X → X → Type 0) (P Q : X → Type 0) → ((x y : X) → Z x y → P x → Q y) → (xs ys : List X) → AllZip Z xs ys
    → AllByRecursion P xs → AllByRecursion Q ys
recursion_zip Z P Q keeps [] [] z h = tt
recursion_zip Z P Q keeps [] (y ∷ ys) z h = absurd z
recursion_zip Z P Q keeps (x ∷ xs) [] z h = absurd z
recursion_zip Z P Q keeps (x ∷ xs) (y ∷ ys) z h = (keeps x y z.0 h.0, recursion_zip Z P Q keeps xs ys z.1 h.1)

pairwise_zip : {X : Type 0} (Z R S : X → X → Type 0) → ((x y u v : X) → Z x u → Z y v → R x y → S u v) → (xs ys : List X) → AllZip Z xs ys
    → Pairwise R xs → Pairwise S ys
pairwise_zip Z R S keeps [] [] z h = tt
pairwise_zip Z R S keeps [] (u ∷ ys) z h = absurd z
pairwise_zip Z R S keeps (x ∷ xs) [] z h = absurd z
pairwise_zip Z R S keeps (x ∷ xs) (u ∷ ys) z h = (recursion_zip Z (R x) (S u) (λ y v became. keeps x y u v z.0 became) xs ys z.1 h.0, pairwise_zip Z R S keeps xs ys z.1 h.1)

pub pairs_zip : {X : Type 0} (Z R S : X → X → Type 0) → ((x y u v : X) → Z x u → Z y v → R x y → S u v) → (xs ys : List X) → AllZip Z xs ys
    → AllPairs R xs → AllPairs S ys
pairs_zip Z R S keeps xs ys z h = pairs_from S ys (pairwise_zip Z R S keeps xs ys z (pairwise_from R xs h))

-- and where one passed, one passes
pub any_zip : {X : Type 0} (Z : X → X → Type 0) (p q : X → Bool) → ((x y : X) → Z x y → p x ≡ true → q y ≡ true) → (xs ys : List X)
    → AllZip Z xs ys → list_any p xs ≡ true → list_any q ys ≡ true
any_zip Z p q keeps [] [] z h = h
any_zip Z p q keeps [] (y ∷ ys) z h = absurd z
any_zip Z p q keeps (x ∷ xs) [] z h = absurd z
any_zip Z p q keeps (x ∷ xs) (y ∷ ys) z h = elim (or_cases (p x) (list_any p xs) h) [
  | inl here ↦ or_left (q y) (list_any q ys) (keeps x y z.0 here)
  | inr later ↦ or_right (q y) (list_any q ys) (any_zip Z p q keeps xs ys z.1 later)
]

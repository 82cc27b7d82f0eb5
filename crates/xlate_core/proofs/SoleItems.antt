-- Items of a list of which no two pass a test together.
use Rattle.std.proofs.Common.{◌≡◌, inl, inr, ◌≤◌, Bool, true, false, List, [], ◌∷◌, length, filter, All, refl, ap, ◌∙◌, arith}
use Rattle.std.specs.List.{list_any}
use Rattle.std.proofs.lemmas.Bool.{both_ways, or_cases, false_from_ne_true, cond-true, cond-false}
use Rattle.std.proofs.lemmas.List.Elements.{All-weaker, All-head, All-tail, All-from_recursion}
use Rattle.aftr_base.proofs.Founds.{any_gives}
use Rattle.aftr_base.proofs.Pairwise.{Pairwise}

none_kept : {X : Type 0} (p : X → Bool) (xs : List X) → All (λ x. p x ≡ false) xs → filter p xs ≡ []
none_kept p [] none = refl
none_kept p (x ∷ xs) none =
    let later = All-tail (λ y. p y ≡ false) x xs none in
    cond-false (p x) (x ∷ filter p xs) (filter p xs) (All-head (λ y. p y ≡ false) x xs none) ∙ none_kept p xs later

-- no two items of which this is known pass the test together
pub record AreExclusive (X : Type 0) (R : X → X → Type 0) (p : X → Bool) : Type 0 where
  pub never : (x y : X) → R x y → p x ≡ true → p y ≡ true → ⊥

-- so an item that passes before others passes alone
alone : {X : Type 0} {R : X → X → Type 0} {p : X → Bool} (x : X) (xs : List X) → AreExclusive X R p → Pairwise R (x ∷ xs)
    → p x ≡ true → filter p (x ∷ xs) ≡ x ∷ []
alone {R = R} {p = p} x xs each apart e =
    let others = All-from_recursion (R x) xs apart.0 in
    let none = All-weaker (R x) (λ y. p y ≡ false) (λ y r. false_from_ne_true (p y) (λ k. each.never x y r e k)) xs others in
    cond-true (p x) (x ∷ filter p xs) (filter p xs) e ∙ ap (λ ys. x ∷ ys) (none_kept p xs none)

-- the one item that the first test keeps passes the second
pub record KeepsOne (X : Type 0) (p q : X → Bool) (xs : List X) : Type 0 where
  pub one : X
  pub passes : q one ≡ true
  pub kept : filter p xs ≡ one ∷ []

-- what passes the one test passes the other
abbrev pub Implies : {X : Type 0} → (X → Bool) → (X → Bool) → Type 0
Implies {X = X} q p = (x : X) → q x ≡ true → p x ≡ true

one_by : {X : Type 0} {R : X → X → Type 0} {p : X → Bool} (q : X → Bool) (x : X) (xs : List X) (b : Bool) → Implies q p
    → AreExclusive X R p × Pairwise R (x ∷ xs) × (p x ≡ b) → list_any q (x ∷ xs) ≡ true → (list_any q xs ≡ true → KeepsOne X p q xs)
    → KeepsOne X p q (x ∷ xs)
one_by {R = R} {p = p} q x xs true weaker (each, apart, e) h next =
    let others = All-from_recursion (R x) xs apart.0 in
    let here : q x ≡ true = elim (or_cases (q x) (list_any q xs) h) [
      | inl is ↦ is
      | inr later ↦ any_gives (R x) q xs (λ y r k. absurd (each.never x y r e (weaker y k))) others later
    ] in
    record { one = x; passes = here; kept = alone x xs each apart e }
one_by {p = p} q x xs false weaker (each, apart, e) h next =
    let later : list_any q xs ≡ true = elim (or_cases (q x) (list_any q xs) h) [
      | inl is ↦ absurd (both_ways (p x) e (weaker x is))
      | inr l ↦ l
    ] in
    let rest = next later in
    record { one = rest.one; passes = rest.passes; kept = cond-false (p x) (x ∷ filter p xs) (filter p xs) e ∙ rest.kept }

pub one_kept : {X : Type 0} {R : X → X → Type 0} {p : X → Bool} (q : X → Bool) (xs : List X) → Implies q p
    → AreExclusive X R p → Pairwise R xs → list_any q xs ≡ true → KeepsOne X p q xs
one_kept q [] weaker each apart h = cc
one_kept {p = p} q (x ∷ xs) weaker each apart h =
    one_by q x xs (p x) weaker (each, apart, refl) h (λ later. one_kept q xs weaker each apart.1 later)

few_by : {X : Type 0} {R : X → X → Type 0} {p : X → Bool} (x : X) (xs : List X) (b : Bool) → AreExclusive X R p → Pairwise R (x ∷ xs)
    → p x ≡ b → length (filter p xs) ≤ 1 → length (filter p (x ∷ xs)) ≤ 1
few_by x xs true each apart e rest = omega (arith, ap length (alone x xs each apart e))
few_by {p = p} x xs false each apart e rest = omega (arith, ap length (cond-false (p x) (x ∷ filter p xs) (filter p xs) e), rest)

-- a test keeps one at most
pub few_kept : {X : Type 0} {R : X → X → Type 0} {p : X → Bool} (xs : List X) → AreExclusive X R p → Pairwise R xs
    → length (filter p xs) ≤ 1
few_kept [] each apart = omega arith
few_kept {p = p} (x ∷ xs) each apart = few_by x xs (p x) each apart refl (few_kept xs each apart.1)

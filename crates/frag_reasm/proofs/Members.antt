-- Pieces of a list, and how many of them cover a byte.
use Rattle.std.proofs.Common.{◌≡◌, ◌⊎◌, inl, inr, ℕ, ◌+◌, ◌<◌, ◌≤◌, Bool, true, false, cond, List, [], ◌∷◌, ◌++◌, find, Option, Some, None}
use Rattle.std.proofs.Common.{refl, sym, ap, ◌∙◌, subst, arith}
use Rattle.std.specs.Prelude.{count_by}
use Rattle.std.specs.List.{AllByRecursion}
use Rattle.std.proofs.lemmas.List.Sums.{sum_by-cons}
use Rattle.std.proofs.lemmas.Bool.{cases_Bool, leb-true, ltb-true, le-leb, lt-ltb, and_parts, and_from}
use Rattle.aftr_base.proofs.Founds.{some_inj}
use Rattle.frag_reasm.specs.declared.piece.HeldPiece.{HeldPiece}
use Rattle.frag_reasm.specs.Whole.{IsOneOf, covers, end_of}

-- ---- general: cases on an answer

pub cases_Option : {X : Type 0} (o : Option X) → (o ≡ None) ⊎ ((x : X) × (o ≡ Some x))
cases_Option None = inl refl
cases_Option (Some x) = inr (x, refl)

-- ---- a piece of the list

one_by : (x y : HeldPiece) (o : Option HeldPiece) (ps : List HeldPiece) (b : Bool) → cond b (Some x) o ≡ Some y
    → (o ≡ Some y → IsOneOf y ps) → (y ≡ x) ⊎ IsOneOf y ps
one_by x y o ps true h next = inl (sym (some_inj x y h))
one_by x y o ps false h next = inr (next h)

pub one_found : (p : HeldPiece → Bool) (ps : List HeldPiece) (y : HeldPiece) → find p ps ≡ Some y → IsOneOf y ps
one_found p [] y h = cc
one_found p (x ∷ ps) y h = one_by x y (find p ps) ps (p x) h (one_found p ps y)

none_by : (x y : HeldPiece) (o : Option HeldPiece) (p : HeldPiece → Bool) (b : Bool) → p x ≡ b → cond b (Some x) o ≡ None → y ≡ x
    → p y ≡ true → ⊥
none_by x y o p true e h same passes = cc
none_by x y o p false e h same passes = let f : p y ≡ false = ap p same ∙ e in cc

none_next : (x : HeldPiece) (o : Option HeldPiece) (b : Bool) → cond b (Some x) o ≡ None → o ≡ None
none_next x o true h = cc
none_next x o false h = h

-- where a search finds none, none passes
pub none_found : (p : HeldPiece → Bool) (ps : List HeldPiece) (y : HeldPiece) → IsOneOf y ps → p y ≡ true → find p ps ≡ None → ⊥
none_found p [] y h passes e = absurd h
none_found p (x ∷ ps) y (inl same) passes e = none_by x y (find p ps) p (p x) refl e same passes
none_found p (x ∷ ps) y (inr later) passes e = none_found p ps y later passes (none_next x (find p ps) (p x) e)

pub at_one : (P : HeldPiece → Type 0) (ps : List HeldPiece) (q : HeldPiece) → AllByRecursion P ps → IsOneOf q ps → P q
at_one P [] q all h = absurd h
at_one P (p ∷ ps) q all (inl same) = subst P (sym same) all.0
at_one P (p ∷ ps) q all (inr later) = at_one P ps q all.1 later

pub each_one : (P : HeldPiece → Type 0) (ps : List HeldPiece) → ((q : HeldPiece) → IsOneOf q ps → P q) → AllByRecursion P ps
each_one P [] h = tt
each_one P (p ∷ ps) h = (h p (inl refl), each_one P ps (λ q later. h q (inr later)))

pub one_front : (ps qs : List HeldPiece) (p : HeldPiece) → IsOneOf p ps → IsOneOf p (ps ++ qs)
one_front [] qs p h = absurd h
one_front (x ∷ ps) qs p (inl same) = inl same
one_front (x ∷ ps) qs p (inr later) = inr (one_front ps qs p later)

pub one_behind : (ps qs : List HeldPiece) (p : HeldPiece) → IsOneOf p qs → IsOneOf p (ps ++ qs)
one_behind [] qs p h = h
one_behind (x ∷ ps) qs p h = inr (one_behind ps qs p h)

pub one_cases : (ps qs : List HeldPiece) (p : HeldPiece) → IsOneOf p (ps ++ qs) → IsOneOf p ps ⊎ IsOneOf p qs
one_cases [] qs p h = inr h
one_cases (x ∷ ps) qs p (inl same) = inl (inl same)
one_cases (x ∷ ps) qs p (inr later) = elim (one_cases ps qs p later) [ inl front ↦ inl (inr front) | inr behind ↦ inr behind ]

-- ---- what covers a byte

pub covers_from : (i : ℕ) (p : HeldPiece) → p.offset ≤ i → i < end_of p → covers i p ≡ true
covers_from i p low high = and_from _ _ (le-leb p.offset i low) (lt-ltb i (end_of p) high)

pub covers_gives : (i : ℕ) (p : HeldPiece) → covers i p ≡ true → (p.offset ≤ i) × (i < end_of p)
covers_gives i p h = let parts = and_parts _ _ h in (leb-true p.offset i parts.0, ltb-true i (end_of p) parts.1)

module _ (test : HeldPiece → Bool) where
  pub count_yes : (p : HeldPiece) (ps : List HeldPiece) → test p ≡ true → count_by test (p ∷ ps) ≡ 1 + count_by test ps
  count_yes p ps h = sum_by-cons (λ x. cond (test x) 1 0) p ps ∙ ap (λ (b : Bool). cond b 1 0 + count_by test ps) h

  pub count_no : (p : HeldPiece) (ps : List HeldPiece) → test p ≡ false → count_by test (p ∷ ps) ≡ count_by test ps
  count_no p ps h =
      let zero_more : 0 + count_by test ps ≡ count_by test ps = omega arith in
      sum_by-cons (λ x. cond (test x) 1 0) p ps ∙ ap (λ (b : Bool). cond b 1 0 + count_by test ps) h ∙ zero_more

  count_more : (p : HeldPiece) (ps : List HeldPiece) → count_by test ps ≤ count_by test (p ∷ ps)
  count_more p ps = elim (cases_Bool (test p)) [
    | inl passes ↦ omega (arith, count_yes p ps passes)
    | inr fails ↦ omega (arith, count_no p ps fails)
  ]

  -- one that passes is counted
  pub count_some : (ps : List HeldPiece) (p : HeldPiece) → IsOneOf p ps → test p ≡ true → 0 < count_by test ps
  count_some [] p h passes = absurd h
  count_some (x ∷ ps) p (inl same) passes = omega (arith, count_yes x ps (ap test (sym same) ∙ passes))
  count_some (x ∷ ps) p (inr later) passes = omega (arith, count_some ps p later passes, count_more x ps)

  -- and what is counted is one that passes
  pub some_counted : (ps : List HeldPiece) → 0 < count_by test ps → (p : HeldPiece) × IsOneOf p ps × (test p ≡ true)
  some_counted [] h = absurd (omega arith)
  some_counted (x ∷ ps) h = elim (cases_Bool (test x)) [
    | inl passes ↦ (x, inl refl, passes)
    | inr fails ↦ let rest = some_counted ps (omega (arith, count_no x ps fails)) in (rest.0, inr rest.1, rest.2)
  ]

  pub count_none : (ps : List HeldPiece) → ((q : HeldPiece) → IsOneOf q ps → test q ≡ false) → count_by test ps ≡ 0
  count_none [] h = refl
  count_none (x ∷ ps) h = count_no x ps (h x (inl refl)) ∙ count_none ps (λ q later. h q (inr later))

  -- where at most one is counted, two that pass are one
  pub one_counted : (ps : List HeldPiece) (p q : HeldPiece) → count_by test ps ≤ 1 → IsOneOf p ps → IsOneOf q ps → test p ≡ true
      → test q ≡ true → p ≡ q
  one_counted [] p q few hp hq tp tq = absurd hp
  one_counted (x ∷ ps) p q few (inl same) (inl same') tp tq = same ∙ sym same'
  one_counted (x ∷ ps) p q few (inl same) (inr later) tp tq =
      absurd (omega (arith, count_some ps q later tq, count_yes x ps (ap test (sym same) ∙ tp)))
  one_counted (x ∷ ps) p q few (inr later) (inl same) tp tq =
      absurd (omega (arith, count_some ps p later tp, count_yes x ps (ap test (sym same) ∙ tq)))
  one_counted (x ∷ ps) p q few (inr hp) (inr hq) tp tq = one_counted ps p q (omega (arith, count_more x ps)) hp hq tp tq

-- a test that passes less often
count_least : (f g : HeldPiece → Bool) (ps : List HeldPiece) → ((q : HeldPiece) → f q ≡ true → g q ≡ true) → count_by f ps ≤ count_by g ps
count_least f g [] less = omega arith
count_least f g (x ∷ ps) less = elim (cases_Bool (f x)) [
  | inl here ↦ omega (arith, count_yes f x ps here, count_yes g x ps (less x here), count_least f g ps less)
  | inr not_here ↦ omega (arith, count_no f x ps not_here, count_more g x ps, count_least f g ps less)
]

-- and at one piece not
pub count_fewer : (f g : HeldPiece → Bool) (ps : List HeldPiece) (p : HeldPiece) → ((q : HeldPiece) → f q ≡ true → g q ≡ true)
    → IsOneOf p ps → f p ≡ false → g p ≡ true → count_by f ps < count_by g ps
count_fewer f g [] p less h fails passes = absurd h
count_fewer f g (x ∷ ps) p less (inl same) fails passes =
    omega (arith, count_no f x ps (ap f (sym same) ∙ fails), count_yes g x ps (ap g (sym same) ∙ passes), count_least f g ps less)
count_fewer f g (x ∷ ps) p less (inr later) fails passes = elim (cases_Bool (f x)) [
  | inl here ↦ omega (arith, count_yes f x ps here, count_yes g x ps (less x here), count_fewer f g ps p less later fails passes)
  | inr not_here ↦ omega (arith, count_no f x ps not_here, count_more g x ps, count_fewer f g ps p less later fails passes)
]

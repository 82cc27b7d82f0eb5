-- Each subscriber's identifications count the packets to it.
use Rattle.std.proofs.Common.{◌≡◌, ℕ, ◌+◌, ◌%◌, ◌^◌, ◌<◌, Bool, true, false, cond, ◌&&◌, List, [], ◌∷◌, refl, sym, ap, ◌∙◌, zero-add, arith}
use Rattle.std.specs.Prelude.{◌==◌, count_by}
use Rattle.std.proofs.lemmas.Bool.{and_parts, eqb-true}
use Rattle.std.proofs.lemmas.List.Sums.{sum_by-cons}
use Rattle.aftr_base.specs.Value.{subscriber_eq}
use Rattle.aftr_base.specs.declared.value.Subscriber.{Subscriber}
use Rattle.fragment_ids.specs.declared.Count.{Count}
use Rattle.fragment_ids.specs.Ids.{is_for, next_id, counted, counted_all, CountsEach}
use Rattle.fragment_ids.proofs.Places.{raised}

-- ---- the same subscriber is the same to any other

record Same (s t : Subscriber) : Type 0 where
  bits : s.0.bits.0 ≡ t.0.bits.0
  len : s.0.len ≡ t.0.len

same : (s t : Subscriber) → subscriber_eq s t ≡ true → Same s t
same s t e =
    let parts = and_parts (s.0.bits.0 == t.0.bits.0) (s.0.len == t.0.len) e in
    record { bits = eqb-true s.0.bits.0 t.0.bits.0 parts.0; len = eqb-true s.0.len t.0.len parts.1 }

same_to : (s t u : Subscriber) → Same t u → subscriber_eq s t ≡ subscriber_eq s u
same_to s t u e = λ i. (s.0.bits.0 == e.bits i) && (s.0.len == e.len i)

same_from : (s t u : Subscriber) → Same s t → subscriber_eq s u ≡ subscriber_eq t u
same_from s t u e = λ i. (e.bits i == u.0.bits.0) && (e.len i == u.0.len)

-- ---- one more packet

abbrev one_if : Bool → ℕ → ℕ
one_if b n = cond b ((n + 1) % 2 ^ 32) n

here : (a b : Bool) (x y : ℕ) → b ≡ a → cond a ((x + 1) % 2 ^ 32) y ≡ one_if b (cond a x y)
here true true x y e = refl
here true false x y e = absurd cc
here false true x y e = absurd cc
here false false x y e = refl

later : (a b : Bool) (x y : ℕ) → (a ≡ true → b ≡ true → false ≡ true) → cond a x (one_if b y) ≡ one_if b (cond a x y)
later true true x y apart = absurd (let no = apart refl refl in cc)
later true false x y apart = refl
later false b x y apart = refl

after_first : (s to : Subscriber) (c : Count) (counts : List Count) (b : Bool) → is_for to c ≡ b
    → next_id s (counted to counts) ≡ one_if (subscriber_eq s to) (next_id s counts)
    → next_id s (cond b (raised c ∷ counts) (c ∷ counted to counts)) ≡ one_if (subscriber_eq s to) (next_id s (c ∷ counts))
after_first s to c counts true is rest =
    here (is_for s c) (subscriber_eq s to) c.cuts (next_id s counts) (same_to s to c.to (same to c.to is))
after_first s to c counts false is rest =
    ap (λ (n : ℕ). cond (is_for s c) c.cuts n) rest
    ∙ later (is_for s c) (subscriber_eq s to) c.cuts (next_id s counts) (λ first second.
    sym is ∙ sym (same_from s to c.to (same s to second)) ∙ first)

pub next_after : (s to : Subscriber) (counts : List Count) → next_id s (counted to counts) ≡ one_if (subscriber_eq s to) (next_id s counts)
next_after s to [] = refl
next_after s to (c ∷ counts) = after_first s to c counts (is_for to c) refl (next_after s to counts)

-- ---- any number of them

as_sum : (b : Bool) (n : ℕ) → n < 2 ^ 32 → one_if b n ≡ (n + cond b 1 0) % 2 ^ 32
as_sum true n fits = refl
as_sum false n fits = omega arith

more : (x a n b k : ℕ) → x ≡ (a + k) % 2 ^ 32 → a ≡ (n + b) % 2 ^ 32 → x ≡ (n + (b + k)) % 2 ^ 32
more x a n b k rest step = omega arith

after_all : (s : Subscriber) (tos : List Subscriber) (counts : List Count) → next_id s counts < 2 ^ 32
    → next_id s (counted_all tos counts) ≡ (next_id s counts + count_by (subscriber_eq s) tos) % 2 ^ 32
after_all s [] counts fits = omega arith
after_all s (to ∷ tos) counts fits =
    let step : next_id s (counted to counts) ≡ (next_id s counts + cond (subscriber_eq s to) 1 0) % 2 ^ 32 =
    next_after s to counts ∙ as_sum (subscriber_eq s to) (next_id s counts) fits in
    more (next_id s (counted_all tos (counted to counts))) (next_id s (counted to counts)) (next_id s counts)
    (cond (subscriber_eq s to) 1 0) (count_by (subscriber_eq s) tos)
    (after_all s tos (counted to counts) (omega (arith, step))) step
    ∙ ap (λ (k : ℕ). (next_id s counts + k) % 2 ^ 32) (sym (sum_by-cons (λ t. cond (subscriber_eq s t) 1 0) to tos))

pub counts_each : (counts : List Count) → counts ≡ [] → CountsEach counts
counts_each counts none s tos =
    ap (λ (cs : List Count). next_id s (counted_all tos cs)) none ∙ after_all s tos [] (omega arith)
    ∙ ap (λ (n : ℕ). n % 2 ^ 32) (zero-add (count_by (subscriber_eq s) tos))

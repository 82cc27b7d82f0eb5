-- The order of places.
use Rattle.std.proofs.Common.{◌≡◌, ◌⊎◌, inl, inr, ℕ, true, false, refl, sym, ap, ◌∙◌, arith, true≢false}
use Rattle.std.specs.Ordering.{nat_cmp, ordering_then, is_gt, is_lt, is_eq}
use Rattle.std.specs.declared.cmp.Ordering.{Ordering}
use Rattle.std.specs.declared.cmp.Ordering.TheVariants.{Less, Equal, Greater}
use Rattle.std.proofs.lemmas.Bool.{cases_Bool}
use Rattle.std.proofs.lemmas.Cmp.{ranked, nat_cmp_total, tied_itself}
use Rattle.lease_log.specs.Index.{place_cmp, IsUpTo}
use Rattle.lease_log.specs.declared.place.Place.{Place}

-- ---- what the order says

not_past_by : (p q : Place) (a b : Ordering) → a ≡ nat_cmp p.addr q.addr → b ≡ nat_cmp p.port q.port → is_gt (ordering_then a b) ≡ false
    → IsUpTo p q
not_past_by p q Less b x y h = inl (ranked p.addr q.addr Less x)
not_past_by p q Equal Less x y h = inr (ranked p.addr q.addr Equal x, omega (arith, ranked p.port q.port Less y))
not_past_by p q Equal Equal x y h = inr (ranked p.addr q.addr Equal x, omega (arith, ranked p.port q.port Equal y))
not_past_by p q Equal Greater x y h = absurd (true≢false h)
not_past_by p q Greater b x y h = absurd (true≢false h)

pub up_to : {p q : Place} → is_gt (place_cmp p q) ≡ false → IsUpTo p q
up_to {p} {q} h = not_past_by p q (nat_cmp p.addr q.addr) (nat_cmp p.port q.port) refl refl h

not_before_by : (p q : Place) (a b : Ordering) → a ≡ nat_cmp p.addr q.addr → b ≡ nat_cmp p.port q.port → is_lt (ordering_then a b) ≡ false
    → IsUpTo q p
not_before_by p q Less b x y h = absurd (true≢false h)
not_before_by p q Equal Less x y h = absurd (true≢false h)
not_before_by p q Equal Equal x y h = inr (sym (ranked p.addr q.addr Equal x), omega (arith, ranked p.port q.port Equal y))
not_before_by p q Equal Greater x y h = inr (sym (ranked p.addr q.addr Equal x), omega (arith, ranked p.port q.port Greater y))
not_before_by p q Greater b x y h = inl (ranked p.addr q.addr Greater x)

pub up_to_later : {p q : Place} → is_lt (place_cmp p q) ≡ false → IsUpTo q p
up_to_later {p} {q} h = not_before_by p q (nat_cmp p.addr q.addr) (nat_cmp p.port q.port) refl refl h

up_to_by : (p q : Place) (a b : Ordering) → a ≡ nat_cmp p.addr q.addr → b ≡ nat_cmp p.port q.port → IsUpTo p q
    → is_gt (ordering_then a b) ≡ false
up_to_by p q Less b x y h = refl
up_to_by p q Equal Less x y h = refl
up_to_by p q Equal Equal x y h = refl
up_to_by p q Equal Greater x y (inl lower) = absurd (omega (arith, lower, ranked p.addr q.addr Equal x))
up_to_by p q Equal Greater x y (inr same) = absurd (omega (arith, same.1, ranked p.port q.port Greater y))
up_to_by p q Greater b x y (inl lower) = absurd (omega (arith, lower, ranked p.addr q.addr Greater x))
up_to_by p q Greater b x y (inr same) = absurd (omega (arith, same.0, ranked p.addr q.addr Greater x))

pub not_past : (p q : Place) → IsUpTo p q → is_gt (place_cmp p q) ≡ false
not_past p q h = up_to_by p q (nat_cmp p.addr q.addr) (nat_cmp p.port q.port) refl refl h

-- ---- equal places

pub same_place : (p q : Place) → p.addr ≡ q.addr → p.port ≡ q.port → p ≡ q
same_place p q addr port =
    ap (λ (n : ℕ). let r : Place = record { addr = n; port = p.port } in r) addr
    ∙ ap (λ (n : ℕ). let r : Place = record { addr = q.addr; port = n } in r) port

equal_by : (p q : Place) (a b : Ordering) → a ≡ nat_cmp p.addr q.addr → b ≡ nat_cmp p.port q.port → is_eq (ordering_then a b) ≡ true → p ≡ q
equal_by p q Less b x y h = absurd (true≢false (sym h))
equal_by p q Equal Less x y h = absurd (true≢false (sym h))
equal_by p q Equal Equal x y h = same_place p q (ranked p.addr q.addr Equal x) (ranked p.port q.port Equal y)
equal_by p q Equal Greater x y h = absurd (true≢false (sym h))
equal_by p q Greater b x y h = absurd (true≢false (sym h))

pub equal : {p q : Place} → is_eq (place_cmp p q) ≡ true → p ≡ q
equal {p} {q} h = equal_by p q (nat_cmp p.addr q.addr) (nat_cmp p.port q.port) refl refl h

pub equal_itself : (p q : Place) → p ≡ q → is_eq (place_cmp p q) ≡ true
equal_itself p q same =
    ap (λ (r : Place). is_eq (place_cmp p r)) (sym same)
    ∙ ap (λ (o : Ordering). is_eq (ordering_then o (nat_cmp p.port p.port))) (tied_itself nat_cmp_total p.addr)
    ∙ ap is_eq (tied_itself nat_cmp_total p.port)

-- places are the same or not
pub same_or_other : (p q : Place) → (p ≡ q) ⊎ (is_eq (place_cmp p q) ≡ false)
same_or_other p q = elim (cases_Bool (is_eq (place_cmp p q))) [
  | inl same ↦ inl (equal_by p q (nat_cmp p.addr q.addr) (nat_cmp p.port q.port) refl refl same)
  | inr other ↦ inr other
]

-- What is known of a subscriber's count where its place was found, and where it has none.
use Rattle.std.proofs.Common.{◌≡◌, ℕ, zero, suc, ◌+◌, ◌%◌, ◌^◌, ◌<◌, Bool, true, false, cond, ◌||◌, List, [], ◌∷◌, ◌++◌, length}
use Rattle.std.proofs.Common.{get_or, set, Option, Some, None, refl, sym, ap, ◌∙◌, arith}
use Rattle.std.specs.Prelude.{is_some}
use Rattle.std.specs.List.{list_any, position, position_from}
use Rattle.std.proofs.lemmas.Iterator.Adapters.{position_from-zero}
use Rattle.std.proofs.lemmas.List.Quantifiers.{position-Some}
use Rattle.aftr_base.specs.declared.value.Subscriber.{Subscriber}
use Rattle.fragment_ids.specs.declared.Count.{Count}
use Rattle.fragment_ids.specs.Ids.{is_for, next_id, counted}

abbrev pub raised : Count → Count
raised c = record c { cuts = (c.cuts + 1) % 2 ^ 32 }

-- ---- its place was found

next_there : (to : Subscriber) (counts : List Count) (i : ℕ) (d : Count) → i < length counts → is_for to (get_or counts i d) ≡ true
    → ((k : ℕ) → k < i → is_for to (get_or counts k d) ≡ false) → next_id to counts ≡ (get_or counts i d).cuts
next_there to [] i d lt here before = absurd (omega arith)
next_there to (c ∷ counts) zero d lt here before = ap (λ (b : Bool). cond b c.cuts (next_id to counts)) here
next_there to (c ∷ counts) (suc i) d lt here before =
    ap (λ (b : Bool). cond b c.cuts (next_id to counts)) (before 0 (omega arith))
    ∙ next_there to counts i d (omega arith) here (λ k below. before (suc k) (omega arith))

counted_there : (to : Subscriber) (counts : List Count) (i : ℕ) (d : Count) → i < length counts → is_for to (get_or counts i d) ≡ true
    → ((k : ℕ) → k < i → is_for to (get_or counts k d) ≡ false) → counted to counts ≡ set counts i (raised (get_or counts i d))
counted_there to [] i d lt here before = absurd (omega arith)
counted_there to (c ∷ counts) zero d lt here before =
    ap (λ (b : Bool). cond b (raised c ∷ counts) (c ∷ counted to counts)) here
counted_there to (c ∷ counts) (suc i) d lt here before =
    ap (λ (b : Bool). cond b (raised c ∷ counts) (c ∷ counted to counts)) (before 0 (omega arith))
    ∙ ap (λ (cs : List Count). c ∷ cs) (counted_there to counts i d (omega arith) here (λ k below. before (suc k) (omega arith)))

pub next_found : (to : Subscriber) (counts : List Count) (i : ℕ) (d : Count) → position (is_for to) counts ≡ Some i
    → next_id to counts ≡ (get_or counts i d).cuts
next_found to counts i d found =
    let there = position-Some (is_for to) counts i d found in
    next_there to counts i d there.0 there.1 there.2

pub counted_found : (to : Subscriber) (counts : List Count) (i : ℕ) (d : Count) → position (is_for to) counts ≡ Some i
    → counted to counts ≡ set counts i (raised (get_or counts i d))
counted_found to counts i d found =
    let there = position-Some (is_for to) counts i d found in
    counted_there to counts i d there.0 there.1 there.2

-- ---- it has none

none_by : (b : Bool) (i : ℕ) (o : Option ℕ) → cond b (Some i) o ≡ None → (b ≡ false) × (o ≡ None)
none_by true i o e = cc
none_by false i o e = (refl, e)

pub record HasNone (to : Subscriber) (counts : List Count) : Type 0 where
  pub next : next_id to counts ≡ 0
  pub counted : counted to counts ≡ counts ++ record { to = to; cuts = 1 } ∷ []
  pub unknown : list_any (is_for to) counts ≡ false

none_from : (to : Subscriber) (counts : List Count) (i : ℕ) → position_from (is_for to) i counts ≡ None → HasNone to counts
none_from to [] i missed = record { next = refl; counted = refl; unknown = refl }
none_from to (c ∷ counts) i missed =
    let parts = none_by (is_for to c) i (position_from (is_for to) (i + 1) counts) missed in
    let rest = none_from to counts (i + 1) parts.1 in
    record {
      next = ap (λ (b : Bool). cond b c.cuts (next_id to counts)) parts.0 ∙ rest.next;
      counted = ap (λ (b : Bool). cond b (raised c ∷ counts) (c ∷ counted to counts)) parts.0
          ∙ ap (λ (cs : List Count). c ∷ cs) rest.counted;
      unknown = ap (λ (b : Bool). b || list_any (is_for to) counts) parts.0 ∙ rest.unknown;
    }

pub missed : (to : Subscriber) (counts : List Count) → position (is_for to) counts ≡ None → HasNone to counts
missed to counts none = none_from to counts 0 (sym (position_from-zero (is_for to) counts) ∙ none)

any_there : (to : Subscriber) (counts : List Count) (i : ℕ) (d : Count) → i < length counts → is_for to (get_or counts i d) ≡ true
    → list_any (is_for to) counts ≡ true
any_there to [] i d lt here = absurd (omega arith)
any_there to (c ∷ counts) zero d lt here = ap (λ (b : Bool). b || list_any (is_for to) counts) here
any_there to (c ∷ counts) (suc i) d lt here = later (is_for to c) (list_any (is_for to) counts) (any_there to counts i d (omega arith) here)
  where
    later : (a b : Bool) → b ≡ true → (a || b) ≡ true
    later true b e = refl
    later false b e = e

known_by : (to : Subscriber) (counts : List Count) (o : Option ℕ) → position (is_for to) counts ≡ o → is_some o ≡ true
    → list_any (is_for to) counts ≡ true
known_by to counts None found some = absurd cc
known_by to counts (Some i) found some =
    let d : Count = record { to = to; cuts = 0 } in
    let there = position-Some (is_for to) counts i d found in
    any_there to counts i d there.0 there.1

pub known : (to : Subscriber) (counts : List Count) → is_some (position (is_for to) counts) ≡ true → list_any (is_for to) counts ≡ true
known to counts some = known_by to counts (position (is_for to) counts) refl some

-- What is told after the closing of each open row: the same rows, with the open ones ended.
use Rattle.std.proofs.Common.{◌≡◌, ℕ, suc, ◌+◌, ◌≤◌, Bool, true, false, cond, List, [], ◌∷◌, ◌++◌, length, map, filter, All}
use Rattle.std.proofs.Common.{refl, sym, ap, ap₂, ◌∙◌, arith, append_assoc, length-append, nat_le, Result, Ok, Option, Some, None}
use Rattle.std.specs.Prelude.{◌&&◌, ◌==◌, is_none, if◌then◌else◌}
use Rattle.std.specs.List.{AllByRecursion, list_any}
use Rattle.std.proofs.lemmas.Bool.{and_from, and_parts, both_ways, eq-eqb, eqb-true, false_from_ne_true, le-leb, or_left}
use Rattle.std.proofs.lemmas.Bool.{or_right}
use Rattle.std.proofs.lemmas.List.{map-append}
use Rattle.std.proofs.lemmas.List.Elements.{All-weaker, recursion_from_All}
use Rattle.std.proofs.lemmas.List.Folds.{list_any-append}
use Rattle.aftr_base.specs.Attempt.{◌>>=◌, ◌>>◌, require}
use Rattle.aftr_base.specs.Limits.{log_moment_limit}
use Rattle.aftr_base.specs.Row.{is_open, is_in_use, overlaps, ended, plan_ended}
use Rattle.aftr_base.specs.Telling.{told_after, is_lease_of, lease_ended, may_close}
use Rattle.aftr_base.specs.Told.{lease_closed, plan_closed, until_of}
use Rattle.aftr_base.specs.Value.{ip4_eq, moment, subscriber_eq}
use Rattle.aftr_base.specs.declared.value.Moment.{Moment}
use Rattle.aftr_base.specs.declared.row.LeaseRow.{LeaseRow}
use Rattle.aftr_base.specs.declared.row.PlanRow.{PlanRow}
use Rattle.aftr_base.specs.declared.told.Told.{Told}
use Rattle.aftr_base.specs.declared.event.LogEvent.{LogEvent}
use Rattle.aftr_base.specs.declared.event.LogEvent.TheVariants.{Plan}
use Rattle.aftr_base.proofs.Founds.{any_where, none_any}
use Rattle.aftr_base.proofs.Pairwise.{Pairwise, pairwise_from}
use Rattle.lease_log.specs.Sound.{IsSound, IsSoundLease, IsSoundPlan, clash}
use Rattle.recovery.specs.Closings.{closings_of, lease_closing, lease_closings, plan_closings, recovered}
use Rattle.recovery.proofs.ToldParts.{told_then}

-- ---- which lease a closing is about

-- the closing of l is about m
abbrev is_about : LeaseRow → LeaseRow → Bool
is_about l m = is_lease_of l.owner l.addr l.first l.last m

record IsAbout (l m : LeaseRow) : Type 0 where
  lasts : is_open m ≡ true
  addr : l.addr.0 ≡ m.addr.0
  first : l.first ≡ m.first
  last : l.last ≡ m.last

about_parts : (l m : LeaseRow) → is_about l m ≡ true → IsAbout l m
about_parts l m h =
    let a = and_parts (is_open m && subscriber_eq l.owner m.owner && ip4_eq l.addr m.addr && l.first == m.first) (l.last == m.last) h in
    let b = and_parts (is_open m && subscriber_eq l.owner m.owner && ip4_eq l.addr m.addr) (l.first == m.first) a.0 in
    let d = and_parts (is_open m && subscriber_eq l.owner m.owner) (ip4_eq l.addr m.addr) b.0 in
    record {
      lasts = (and_parts (is_open m) (subscriber_eq l.owner m.owner) d.0).0;
      addr = eqb-true l.addr.0 m.addr.0 d.1;
      first = eqb-true l.first m.first b.1;
      last = eqb-true l.last m.last a.1;
    }

own_subscriber : (l : LeaseRow) → subscriber_eq l.owner l.owner ≡ true
own_subscriber l =
    and_from (l.owner.0.bits.0 == l.owner.0.bits.0) (l.owner.0.len == l.owner.0.len) (eq-eqb l.owner.0.bits.0 l.owner.0.bits.0 refl)
    (eq-eqb l.owner.0.len l.owner.0.len refl)

about_own : (l : LeaseRow) → is_open l ≡ true → is_about l l ≡ true
about_own l lasts =
    and_from (is_open l && subscriber_eq l.owner l.owner && ip4_eq l.addr l.addr && l.first == l.first) (l.last == l.last)
    (and_from (is_open l && subscriber_eq l.owner l.owner && ip4_eq l.addr l.addr) (l.first == l.first)
    (and_from (is_open l && subscriber_eq l.owner l.owner) (ip4_eq l.addr l.addr)
    (and_from (is_open l) (subscriber_eq l.owner l.owner) lasts (own_subscriber l))
    (eq-eqb l.addr.0 l.addr.0 refl)) (eq-eqb l.first l.first refl)) (eq-eqb l.last l.last refl)

-- not about one that ended, nor about another that is open, as they share no port
not_shut : (l m : LeaseRow) → is_open m ≡ false → is_about l m ≡ false
not_shut l m shut = false_from_ne_true (is_about l m) (λ h. both_ways (is_open m) shut (about_parts l m h).lasts)

not_other : (l m : LeaseRow) → l.first ≤ l.last → is_open l ≡ true → clash l m ≡ false → is_about l m ≡ false
not_other l m range lasts apart = false_from_ne_true (is_about l m) (λ h.
    let x = about_parts l m h in
    let low = le-leb l.first m.last (omega (arith, range, x.last)) in
    let high = le-leb m.first l.last (omega (arith, range, x.first)) in
    let over : overlaps l m.addr m.first m.last ≡ true =
    and_from (ip4_eq l.addr m.addr && nat_le l.first m.last) (nat_le m.first l.last)
    (and_from (ip4_eq l.addr m.addr) (nat_le l.first m.last) (eq-eqb l.addr.0 m.addr.0 x.addr) low) high in
    both_ways (clash l m) apart
    (and_from (is_open l && is_open m) (overlaps l m.addr m.first m.last) (and_from (is_open l) (is_open m) lasts x.lasts) over))

shut_others : (l : LeaseRow) (ms : List LeaseRow) → AllByRecursion (λ m. is_open m ≡ false) ms
    → AllByRecursion (λ m. is_about l m ≡ false) ms
shut_others l [] h = tt
shut_others l (m ∷ ms) h = (not_shut l m h.0, shut_others l ms h.1)

open_others : (l : LeaseRow) (ms : List LeaseRow) → l.first ≤ l.last → is_open l ≡ true → AllByRecursion (λ m. clash l m ≡ false) ms
    → AllByRecursion (λ m. is_about l m ≡ false) ms
open_others l [] range lasts h = tt
open_others l (m ∷ ms) range lasts h = (not_other l m range lasts h.0, open_others l ms range lasts h.1)

-- what the closing makes of a lease, and of those that it isn't about
abbrev after_closing : Moment → LeaseRow → LeaseRow → LeaseRow
after_closing at l m = lease_ended l.owner l.addr l.first l.last at m

others_stay : (at : Moment) (l : LeaseRow) (ms : List LeaseRow) → AllByRecursion (λ m. is_about l m ≡ false) ms
    → map (after_closing at l) ms ≡ ms
others_stay at l [] h = refl
others_stay at l (m ∷ ms) h =
    ap₂ (λ (x : LeaseRow) (xs : List LeaseRow). x ∷ xs) (ap (λ (b : Bool). if b then ended at.0 m else m) h.0) (others_stay at l ms h.1)

-- ---- one row that ends

end_row : (at : ℕ) (l : LeaseRow) (o : Option Moment)
    → cond (is_none o) (ended at l) (record l { until = o }) ≡ record l { until = Some (until_of at o) }
end_row at l None = refl
end_row at l (Some m) = refl

pub closed_open : (at : ℕ) (l : LeaseRow) → is_open l ≡ true → ended at l ≡ lease_closed at l
closed_open at l lasts = sym (ap (λ (b : Bool). cond b (ended at l) l) lasts) ∙ end_row at l l.until

pub closed_shut : (at : ℕ) (l : LeaseRow) → is_open l ≡ false → l ≡ lease_closed at l
closed_shut at l shut = sym (ap (λ (b : Bool). cond b (ended at l) l) shut) ∙ end_row at l l.until

-- ---- a closing

-- what a log tells with other leases, in so many records
abbrev told_with : Told → List LeaseRow → ℕ → Told
told_with t leases count = record t { leases = leases; count = count }

record MayClose (now : ℕ) (l : LeaseRow) : Type 0 where
  range : l.first ≤ l.last
  begun : l.since.0 ≤ now

-- the first leases ended, and the others may
record IsClosable (at : Moment) (pre ls : List LeaseRow) (t : Told) : Type 0 where
  limit : at.0 ≤ log_moment_limit
  shut : AllByRecursion (λ m. is_open m ≡ false) pre
  apart : Pairwise (λ l m. clash l m ≡ false) ls
  each : AllByRecursion (MayClose at.0) ls
  same : t.leases ≡ pre ++ ls

ends_alone : (at : Moment) (pre rest : List LeaseRow) (l : LeaseRow) (t : Told) → is_open l ≡ true → IsClosable at pre (l ∷ rest) t
    → map (after_closing at l) t.leases ≡ pre ++ ended at.0 l ∷ rest
ends_alone at pre rest l t lasts h =
    let before = others_stay at l pre (shut_others l pre h.shut) in
    let behind = others_stay at l rest (open_others l rest h.each.0.range lasts h.apart.0) in
    let own : after_closing at l l ≡ ended at.0 l = ap (λ (b : Bool). if b then ended at.0 l else l) (about_own l lasts) in
    ap (map (after_closing at l)) h.same
    ∙ map-append (after_closing at l) pre (l ∷ rest)
    ∙ ap₂ (λ (xs ys : List LeaseRow). xs ++ ys) before (ap₂ (λ (x : LeaseRow) (xs : List LeaseRow). x ∷ xs) own behind)

closes_there : (at : Moment) (pre rest : List LeaseRow) (l : LeaseRow) (t : Told) → is_open l ≡ true → IsClosable at pre (l ∷ rest) t
    → may_close t l.owner l.addr l.first l.last at.0 ≡ true
closes_there at pre rest l t lasts h =
    let test = λ (m : LeaseRow). is_about l m && nat_le m.since.0 at.0 in
    let here : test l ≡ true =
    and_from (is_about l l) (nat_le l.since.0 at.0) (about_own l lasts) (le-leb l.since.0 at.0 h.each.0.begun) in
    ap (list_any test) h.same ∙ list_any-append test pre (l ∷ rest)
    ∙ or_right (list_any test pre) (list_any test (l ∷ rest)) (or_left (test l) (list_any test rest) here)

tell_closed : (at : Moment) (l : LeaseRow) (es : List LogEvent) (t : Told) (after : List LeaseRow) → at.0 ≤ log_moment_limit
    → may_close t l.owner l.addr l.first l.last at.0 ≡ true → map (after_closing at l) t.leases ≡ after
    → told_after (lease_closing at l ∷ es) t ≡ told_after es (told_with t after (suc t.count))
tell_closed at l es t after le may same =
    let next = λ (x : Told). told_after es (record x { count = suc t.count }) in
    let done : Told = record t { leases = map (after_closing at l) t.leases } in
    let may_be = may_close t l.owner l.addr l.first l.last at.0 in
    ap (λ (b : Bool). require b tt >> ((require may_be tt >> Ok done) >>= next)) (le-leb at.0 log_moment_limit le)
    ∙ ap (λ (b : Bool). (require b tt >> Ok done) >>= next) may
    ∙ ap (λ (ls : List LeaseRow). next (record t { leases = ls })) same

-- ---- the leases

abbrev Tells : Moment → List LeaseRow → List LeaseRow → Told → Type 0
Tells at pre ls t =
    told_after (lease_closings at ls) t
    ≡ Ok (told_with t (pre ++ map (lease_closed at.0) ls) (t.count + length (lease_closings at ls)))

tells_as : (t : Told) (ls ls' : List LeaseRow) (k k' : ℕ) → ls ≡ ls' → k ≡ k'
    → (let r : Result Told (Unit {0}) = Ok (told_with t ls k) in r) ≡ Ok (told_with t ls' k')
tells_as t ls ls' k k' same count =
    ap₂ (λ (xs : List LeaseRow) (n : ℕ). let r : Result Told (Unit {0}) = Ok (told_with t xs n) in r) same count

closings_by : (at : Moment) (l : LeaseRow) (ls : List LeaseRow) (b : Bool) → is_open l ≡ b
    → lease_closings at (l ∷ ls) ≡ cond b (lease_closing at l ∷ lease_closings at ls) (lease_closings at ls)
closings_by at l ls true is = ap (λ (b : Bool). map (lease_closing at) (cond b (l ∷ filter is_open ls) (filter is_open ls))) is
closings_by at l ls false is = ap (λ (b : Bool). map (lease_closing at) (cond b (l ∷ filter is_open ls) (filter is_open ls))) is

push_shut : (ms : List LeaseRow) (m : LeaseRow) → AllByRecursion (λ x. is_open x ≡ false) ms → is_open m ≡ false
    → AllByRecursion (λ x. is_open x ≡ false) (ms ++ m ∷ [])
push_shut [] m h shut = (shut, tt)
push_shut (x ∷ ms) m h shut = (h.0, push_shut ms m h.1 shut)

tells_open : (at : Moment) (pre : List LeaseRow) (l : LeaseRow) (ls : List LeaseRow) (t : Told)
    → IsClosable at pre (l ∷ ls) t → is_open l ≡ true
    → ((t' : Told) → IsClosable at (pre ++ ended at.0 l ∷ []) ls t' → Tells at (pre ++ ended at.0 l ∷ []) ls t')
    → Tells at pre (l ∷ ls) t
tells_open at pre l ls t h lasts later =
    let e = ended at.0 l in
    let to = told_with t (pre ++ e ∷ ls) (suc t.count) in
    let rest = later to (record {
      limit = h.limit;
      shut = push_shut pre e h.shut refl;
      apart = h.apart.1;
      each = h.each.1;
      same = sym (append_assoc pre (e ∷ []) ls);
    }) in
    let all = closings_by at l ls true lasts in
    ap (λ (es : List LogEvent). told_after es t) all
    ∙ tell_closed at l (lease_closings at ls) t (pre ++ e ∷ ls) h.limit (closes_there at pre ls l t lasts h)
    (ends_alone at pre ls l t lasts h)
    ∙ rest
    ∙ tells_as t _ _ _ _
    (append_assoc pre (e ∷ []) (map (lease_closed at.0) ls)
    ∙ ap (λ (x : LeaseRow). pre ++ x ∷ map (lease_closed at.0) ls) (closed_open at.0 l lasts))
    (omega (arith, ap (λ (es : List LogEvent). length es) all))

tells_shut : (at : Moment) (pre : List LeaseRow) (l : LeaseRow) (ls : List LeaseRow) (t : Told)
    → IsClosable at pre (l ∷ ls) t → is_open l ≡ false
    → ((t' : Told) → IsClosable at (pre ++ l ∷ []) ls t' → Tells at (pre ++ l ∷ []) ls t')
    → Tells at pre (l ∷ ls) t
tells_shut at pre l ls t h shut later =
    let rest = later t (record {
      limit = h.limit;
      shut = push_shut pre l h.shut shut;
      apart = h.apart.1;
      each = h.each.1;
      same = h.same ∙ sym (append_assoc pre (l ∷ []) ls);
    }) in
    let all = closings_by at l ls false shut in
    ap (λ (es : List LogEvent). told_after es t) all
    ∙ rest
    ∙ tells_as t _ _ _ _
    (append_assoc pre (l ∷ []) (map (lease_closed at.0) ls)
    ∙ ap (λ (x : LeaseRow). pre ++ x ∷ map (lease_closed at.0) ls) (closed_shut at.0 l shut))
    (ap (λ (es : List LogEvent). t.count + length es) (sym all))

tells_by : (b : Bool) (at : Moment) (pre : List LeaseRow) (l : LeaseRow) (ls : List LeaseRow) (t : Told)
    → is_open l ≡ b → IsClosable at pre (l ∷ ls) t
    → ((front : List LeaseRow) (t' : Told) → IsClosable at front ls t' → Tells at front ls t')
    → Tells at pre (l ∷ ls) t
tells_by true at pre l ls t lasts h later = tells_open at pre l ls t h lasts (later (pre ++ ended at.0 l ∷ []))
tells_by false at pre l ls t shut h later = tells_shut at pre l ls t h shut (later (pre ++ l ∷ []))

tells_leases : (at : Moment) (pre ls : List LeaseRow) (t : Told) → IsClosable at pre ls t → Tells at pre ls t
tells_leases at pre [] t h =
    let none : t.count ≡ t.count + 0 = omega arith in
    tells_as t t.leases (pre ++ []) t.count (t.count + 0) h.same none
tells_leases at pre (l ∷ ls) t h = tells_by (is_open l) at pre l ls t refl h (λ front t' h'. tells_leases at front ls t' h')

-- ---- the plan

end_plan : (at : ℕ) (p : PlanRow) (o : Option Moment)
    → cond (is_none o) (record p { until = Some (moment at) }) (record p { until = o }) ≡ record p { until = Some (until_of at o) }
end_plan at p None = refl
end_plan at p (Some m) = refl

plans_end : (at : ℕ) (plans : List PlanRow) → map (plan_ended at) plans ≡ map (plan_closed at) plans
plans_end at [] = refl
plans_end at (p ∷ plans) = ap₂ (λ (x : PlanRow) (xs : List PlanRow). x ∷ xs) (end_plan at p p.until) (plans_end at plans)

plans_stay : (at : ℕ) (plans : List PlanRow) → AllByRecursion (λ (p : PlanRow). is_in_use p ≡ false) plans
    → map (plan_closed at) plans ≡ plans
plans_stay at [] h = refl
plans_stay at (p ∷ plans) h =
    let stays : plan_closed at p ≡ p =
    sym (end_plan at p p.until) ∙ ap (λ (b : Bool). cond b (record p { until = Some (moment at) }) p) h.0 in
    ap₂ (λ (x : PlanRow) (xs : List PlanRow). x ∷ xs) stays (plans_stay at plans h.1)

-- the closing, where a plan is in use
abbrev plan_closing : Told → Bool → List LogEvent
plan_closing t b = cond b (Plan t.horizon None ∷ []) []

abbrev plans_with : Told → List PlanRow → ℕ → Told
plans_with t plans count = record t { plans = plans; count = count }

tells_plan : (t : Told) → IsSound t → (b : Bool) → list_any is_in_use t.plans ≡ b
    → told_after (plan_closing t b) t ≡ Ok (plans_with t (map (plan_closed t.horizon.0) t.plans) (t.count + length (plan_closing t b)))
tells_plan t s true is =
    let at = t.horizon in
    let next = λ (x : Told). told_after [] (record x { count = suc t.count }) in
    let may = λ (p : PlanRow). is_in_use p && nat_le p.since.0 at.0 in
    let done : Told = record t { plans = map (plan_ended at.0) t.plans } in
    let any : list_any may t.plans ≡ true =
    any_where (IsSoundPlan at.0) is_in_use may
    (λ p sound used. and_from (is_in_use p) (nat_le p.since.0 at.0) used (le-leb p.since.0 at.0 sound.begun)) t.plans s.plans is in
    ap (λ (b : Bool). require b tt >> ((require (list_any may t.plans) tt >> Ok done) >>= next)) (le-leb at.0 log_moment_limit s.horizon)
    ∙ ap (λ (b : Bool). (require b tt >> Ok done) >>= next) any
    ∙ ap₂ (λ (ps : List PlanRow) (n : ℕ). let r : Result Told (Unit {0}) = Ok (plans_with t ps n) in r) (plans_end at.0 t.plans)
    (let more : suc t.count ≡ t.count + 1 = omega arith in more)
tells_plan t s false is =
    let unused = recursion_from_All (λ (p : PlanRow). is_in_use p ≡ false) t.plans (none_any is_in_use t.plans is) in
    let same = sym (plans_stay t.horizon.0 t.plans unused) in
    let none : t.count ≡ t.count + 0 = omega arith in
    ap₂ (λ (ps : List PlanRow) (n : ℕ). let r : Result Told (Unit {0}) = Ok (plans_with t ps n) in r) same none

-- ---- all of them

may_close_each : (at : ℕ) (leases : List LeaseRow) → All (IsSoundLease at) leases → AllByRecursion (MayClose at) leases
may_close_each at leases all =
    recursion_from_All (MayClose at) leases
    (All-weaker (IsSoundLease at) (MayClose at) (λ l s. record { range = s.ports; begun = s.begun }) leases all)

-- after the closings each row has ended, at the horizon if it was open
pub all_told : (t : Told) → IsSound t → told_after (closings_of t) t ≡ Ok (recovered t)
all_told t s =
    let at = t.horizon in
    let after = plans_with t (map (plan_closed at.0) t.plans) (t.count + length (plan_closings t)) in
    let leases = tells_leases at [] t.leases after (record {
      limit = s.horizon;
      shut = tt;
      apart = pairwise_from (λ l m. clash l m ≡ false) t.leases s.apart;
      each = may_close_each at.0 t.leases s.leases;
      same = refl;
    }) in
    told_then (plan_closings t) (lease_closings at t.leases) t after (tells_plan t s (list_any is_in_use t.plans) refl)
    ∙ leases
    ∙ tells_as after _ _ _ _ refl (omega (arith, length-append (plan_closings t) (lease_closings at t.leases)))

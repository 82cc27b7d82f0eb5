-- How a batch takes closings, one lease after another.
use Rattle.std.proofs.Common.{◌≡◌, inl, inr, ℕ, ◌+◌, ◌≤◌, Bool, true, false, cond, List, [], ◌∷◌, ◌++◌, length, map, filter, drop}
use Rattle.std.proofs.Common.{refl, sym, ap, ap₂, ◌∙◌, subst, arith, append_assoc, length-append}
use Rattle.std.specs.Prelude.{None}
use Rattle.std.specs.List.{list_any}
use Rattle.std.proofs.lemmas.List.{append-nil}
use Rattle.std.proofs.lemmas.List.Elements.{filter-append}
use Rattle.aftr_base.specs.Row.{is_open, is_in_use}
use Rattle.aftr_base.specs.Telling.{in_message_order, is_block, is_horizon, is_plan_event}
use Rattle.aftr_base.specs.declared.value.Moment.{Moment}
use Rattle.aftr_base.specs.declared.row.LeaseRow.{LeaseRow}
use Rattle.aftr_base.specs.declared.told.Told.{Told}
use Rattle.aftr_base.specs.declared.event.LogEvent.{LogEvent}
use Rattle.aftr_base.specs.declared.event.LogEvent.TheVariants.{Plan}
use Rattle.lease_log.specs.Batch.{Batch, empty_batch, CanAdd, IsWithinLimits}
use Rattle.recovery.specs.Closings.{lease_closing, lease_closings, plan_closings}
use Rattle.recovery.specs.Frames.{HasGathered}
use Rattle.recovery.proofs.FrameSteps.{IsGathering}

-- ---- the first event

plan_limits : (at : Moment) (b : Bool) → IsWithinLimits (cond b (Plan at None ∷ []) [])
plan_limits at true = record { horizons = omega arith; plans = omega arith; blocks = omega arith }
plan_limits at false = record { horizons = omega arith; plans = omega arith; blocks = omega arith }

plan_few : (at : Moment) (b : Bool) → length (cond b (Plan at None ∷ []) []) ≤ 1
plan_few at true = omega arith
plan_few at false = omega arith

plan_ordered : (at : Moment) (b : Bool) → in_message_order (cond b (Plan at None ∷ []) []) ≡ cond b (Plan at None ∷ []) []
plan_ordered at true = refl
plan_ordered at false = refl

pub can_add_plan : (batch : Batch) (at : Moment) → batch.events ≡ [] → CanAdd batch (Plan at None)
can_add_plan batch at none =
    subst (λ (es : List LogEvent). CanAdd record batch { events = es } (Plan at None)) (sym none)
    (record { limits = plan_limits at true; plan = tt })

pub gathering_at_first : (was : Told) (empty first : Batch) → empty ≡ empty_batch was.horizon.0 was.count
    → first ≡ record empty { events = plan_closings was } → IsGathering was first was.leases 0
gathering_at_first was empty first is_empty is =
    let b = list_any is_in_use was.plans in
    subst (λ (x : Batch). IsGathering was x was.leases 0)
    (sym (is ∙ ap (λ (x : Batch). let y : Batch = record x { events = plan_closings was } in y) is_empty))
    (record {
      at = refl;
      left = refl;
      few = plan_few was.horizon b;
      limits = plan_limits was.horizon b;
      ordered = plan_ordered was.horizon b;
    })

-- ---- one lease more

fewer_by : (b : Bool) (e : LogEvent) (kept es : List LogEvent) → length kept ≤ length es → length (cond b (e ∷ kept) kept) ≤ length (e ∷ es)
fewer_by true e kept es h = omega (arith, h)
fewer_by false e kept es h = omega (arith, h)

fewer : (p : LogEvent → Bool) (es : List LogEvent) → length (filter p es) ≤ length es
fewer p [] = omega arith
fewer p (e ∷ es) = fewer_by (p e) e (filter p es) es (fewer p es)

size_with : (p : LogEvent → Bool) (es more : List LogEvent) → length (filter p (es ++ more)) ≡ length (filter p es) + length (filter p more)
size_with p es more = ap (λ (l : List LogEvent). length l) (filter-append p es more) ∙ length-append (filter p es) (filter p more)

limits_with : (at : Moment) (l : LeaseRow) (es : List LogEvent) → length es + 1 ≤ 1024 → IsWithinLimits es
    → IsWithinLimits (es ++ lease_closing at l ∷ [])
limits_with at l es few h =
    let e : List LogEvent = lease_closing at l ∷ [] in
    record {
      horizons = omega (arith, h.horizons, size_with is_horizon es e);
      plans = omega (arith, h.plans, size_with is_plan_event es e);
      blocks = omega (arith, few, size_with is_block es e, fewer is_block es);
    }

pub can_add_lease : (batch : Batch) (at : Moment) (l : LeaseRow) → length batch.events + 1 ≤ 1024 → IsWithinLimits batch.events
    → CanAdd batch (lease_closing at l)
can_add_lease batch at l few h = record { limits = limits_with at l batch.events few h; plan = tt }

ordered_with : (at : Moment) (l : LeaseRow) (es : List LogEvent) → in_message_order es ≡ es
    → in_message_order (es ++ lease_closing at l ∷ []) ≡ es ++ lease_closing at l ∷ []
ordered_with at l es h =
    let e : List LogEvent = lease_closing at l ∷ [] in
    let horizons = filter-append is_horizon es e ∙ append-nil (filter is_horizon es) in
    let plans = filter-append is_plan_event es e ∙ append-nil (filter is_plan_event es) in
    ap₂ (λ (xs ys : List LogEvent). xs ++ ys) (ap₂ (λ (xs ys : List LogEvent). xs ++ ys) horizons plans) (filter-append is_block es e)
    ∙ sym (append_assoc (filter is_horizon es ++ filter is_plan_event es) (filter is_block es) e)
    ∙ ap (λ (xs : List LogEvent). xs ++ e) h

-- the closings of the first leases, so many of them, are in the batch
pub record IsTaking (horizon : Moment) (leases : List LeaseRow) (was now : Batch) (passed : ℕ) : Type 0 where
  pub same : now ≡ record was { events = now.events }
  pub moved : now.events ++ lease_closings horizon (drop passed leases) ≡ was.events ++ lease_closings horizon leases
  pub few : length now.events ≤ 1024
  pub limits : IsWithinLimits now.events
  pub ordered : in_message_order was.events ≡ was.events → in_message_order now.events ≡ now.events

pub taken_whole : (horizon : Moment) (leases : List LeaseRow) (was now : Batch) (passed : ℕ) → IsTaking horizon leases was now passed
    → passed ≤ length leases → length now.events ≡ 1024 → HasGathered horizon leases was now passed
taken_whole horizon leases was now passed h within whole = record {
  same = h.same;
  moved = h.moved;
  within = within;
  few = h.few;
  ends = inl whole;
  limits = h.limits;
  ordered = h.ordered;
}

pub taken_all : (horizon : Moment) (leases : List LeaseRow) (was now : Batch) (passed : ℕ) → IsTaking horizon leases was now passed
    → passed ≡ length leases → HasGathered horizon leases was now passed
taken_all horizon leases was now passed h all = record {
  same = h.same;
  moved = h.moved;
  within = omega (arith, all);
  few = h.few;
  ends = inr all;
  limits = h.limits;
  ordered = h.ordered;
}

pub taking_none : (horizon : Moment) (leases : List LeaseRow) (was : Batch) → length was.events ≤ 1024 → IsWithinLimits was.events
    → IsTaking horizon leases was was 0
taking_none horizon leases was few limits = record { same = refl; moved = refl; few = few; limits = limits; ordered = λ h. h }

closings_by : (at : Moment) (l : LeaseRow) (ls : List LeaseRow) (b : Bool)
    → map (lease_closing at) (cond b (l ∷ ls) ls) ≡ map (lease_closing at) (cond b (l ∷ []) []) ++ map (lease_closing at) ls
closings_by at l ls true = refl
closings_by at l ls false = refl

closings_cons : (at : Moment) (l : LeaseRow) (ls : List LeaseRow)
    → lease_closings at (l ∷ ls) ≡ lease_closings at (l ∷ []) ++ lease_closings at ls
closings_cons at l ls = closings_by at l (filter is_open ls) (is_open l)

-- with these events more, the batch is still one of a frame
record HasMore (es more : List LogEvent) : Type 0 where
  limits : IsWithinLimits (es ++ more)
  few : length (es ++ more) ≤ 1024
  ordered : in_message_order es ≡ es → in_message_order (es ++ more) ≡ es ++ more

more_by : (at : Moment) (l : LeaseRow) (es : List LogEvent) (b : Bool) → length es + 1 ≤ 1024 → IsWithinLimits es
    → HasMore es (map (lease_closing at) (cond b (l ∷ []) []))
more_by at l es true few h = record {
  limits = limits_with at l es few h;
  few = omega (arith, few, length-append es (lease_closing at l ∷ []));
  ordered = ordered_with at l es;
}
more_by at l es false few h =
    let same = sym (append-nil es) in
    record {
      limits = subst IsWithinLimits same h;
      few = omega (arith, few, ap (λ (x : List LogEvent). length x) same);
      ordered = λ o. subst (λ (x : List LogEvent). in_message_order x ≡ x) same o;
    }

pub taken_more : {horizon : Moment} {leases : List LeaseRow} {was before now : Batch} {passed : ℕ} (l : LeaseRow)
    → IsTaking horizon leases was before passed
    → length before.events + 1 ≤ 1024
    → drop passed leases ≡ l ∷ drop (passed + 1) leases
    → now ≡ record before { events = before.events ++ lease_closings horizon (l ∷ []) }
    → IsTaking horizon leases was now (passed + 1)
taken_more {horizon} {leases} {was} {before} {now} {passed} l h few here is =
    let more = more_by horizon l before.events (is_open l) few h.limits in
    let events = before.events ++ lease_closings horizon (l ∷ []) in
    let rest = drop (passed + 1) leases in
    let start : Batch = record before { events = events } in
    subst (λ (b : Batch). IsTaking horizon leases was b (passed + 1)) (sym is) (record {
      same = ap (λ (b : Batch). let c : Batch = record b { events = events } in c) h.same;
      moved = append_assoc before.events (lease_closings horizon (l ∷ [])) (lease_closings horizon rest)
          ∙ ap (λ (es : List LogEvent). before.events ++ es) (sym (closings_cons horizon l rest) ∙ ap (lease_closings horizon) (sym here))
          ∙ h.moved;
      few = more.few;
      limits = more.limits;
      ordered = λ o. more.ordered (h.ordered o);
    })

-- What the log is told of one record: blocks, and at most one horizon.
use Rattle.std.proofs.Common.{◌≡◌, ℕ, suc, ◌+◌, ◌≤◌, Bool, true, false, cond, List, [], ◌∷◌, ◌++◌, length, map, filter, take, drop, All}
use Rattle.std.proofs.Common.{sym, ap, subst, arith}
use Rattle.std.proofs.Common.{length-append}
use Rattle.std.specs.Prelude.{option_to_list}
use Rattle.std.proofs.lemmas.List.{take-append-drop}
use Rattle.std.proofs.lemmas.List.Elements.{All-append, All-cons, All-nil, filter-append}
use Rattle.aftr_base.specs.Row.{block_event}
use Rattle.aftr_base.specs.Telling.{is_horizon, is_plan_event, is_block}
use Rattle.aftr_base.specs.declared.event.Event.{Event}
use Rattle.aftr_base.specs.declared.event.LogEvent.{LogEvent}
use Rattle.aftr_base.specs.declared.row.LeaseRow.{LeaseRow}
use Rattle.lease_log.specs.Batch.{Batch, CanAdd, IsWithinLimits}
use Rattle.lease_log.specs.Sound.{HasSoundPlan}
use Rattle.xlate_core.specs.Expiry.{Closed, at_moment}
use Rattle.xlate_core.specs.State.{State, Step}
use Rattle.xlate_core.specs.Step.{log_of, needs_horizon, promise_by, step, treatment}
use Rattle.xlate_core.proofs.Clock.{by_moment}
use Rattle.xlate_core.proofs.Runs.{short_log, step_closings}
use Rattle.xlate_core.proofs.Treatments.{by_way}

-- at most so many horizons, and no plan
record HasFew (most : ℕ) (events : List LogEvent) : Type 0 where
  horizons : length (filter is_horizon events) ≤ most
  plans : length (filter is_plan_event events) ≤ 0
  sound : All HasSoundPlan events

few_none : HasFew 0 []
few_none = record { horizons = omega arith; plans = omega arith; sound = All-nil HasSoundPlan }

few_blocks : (opens : Bool) (now : ℕ) (ls : List LeaseRow) → HasFew 0 (map (block_event opens now) ls)
few_blocks opens now [] = few_none
few_blocks opens now (l ∷ ls) =
    let more = few_blocks opens now ls in
    record {
      horizons = more.horizons;
      plans = more.plans;
      sound = All-cons HasSoundPlan (block_event opens now l) (map (block_event opens now) ls) tt more.sound;
    }

few_promised : (raised : Bool) (s : State) → HasFew 1 (promise_by raised s)
few_promised true s = record { horizons = omega arith; plans = omega arith; sound = All-cons HasSoundPlan _ [] tt (All-nil HasSoundPlan) }
few_promised false s = record { horizons = omega arith; plans = omega arith; sound = All-nil HasSoundPlan }

few_both : {n m : ℕ} (xs ys : List LogEvent) → HasFew n xs → HasFew m ys → HasFew (n + m) (xs ++ ys)
few_both xs ys a b = record {
  horizons = omega (
    arith,
    a.horizons,
    b.horizons,
    ap length (filter-append is_horizon xs ys),
    length-append (filter is_horizon xs)
        (filter is_horizon ys),
  );
  plans = omega (
    arith,
    a.plans,
    b.plans,
    ap length (filter-append is_plan_event xs ys),
    length-append (filter is_plan_event xs)
        (filter is_plan_event ys),
  );
  sound = All-append HasSoundPlan xs ys a.sound b.sound;
}

few_closed : (at : ℕ) (s : State) → HasFew 0 (at_moment at s).closings
few_closed at s = by_moment (λ (c : Closed). HasFew 0 c.closings) at s (λ le. few_none) (λ lt. few_blocks false at _)

few_opened : (s : State) (e : Event) → HasFew 0 (treatment s e.kind e.bytes).openings
few_opened s e = by_way (λ (t : Step). HasFew 0 t.openings) s e.bytes e.kind (λ kept. record {
  rests = few_none;
  drops = λ cause. few_none;
  answers = λ got cause e is. few_none;
  relays = λ i is. few_none;
  delivers = λ d row by. few_none;
  forwards = λ got g by abroad. few_blocks true s.clock (option_to_list g.lease);
  turns = λ got g row by back. few_blocks true s.clock (option_to_list g.lease);
  holds = λ got g cause by refuses. few_blocks true s.clock (option_to_list g.lease);
})

few_logged : (s : State) (e : Event) → HasFew 1 (log_of (step s e))
few_logged s e =
    let before = (at_moment e.at.0 s).state in
    let own = treatment before e.kind e.bytes in
    few_both (step s e).closings (step s e).openings
    (subst (HasFew 0) (sym (step_closings s e)) (few_closed e.at.0 s))
    (few_both (promise_by (needs_horizon own) own.state) own.openings (few_promised (needs_horizon own) own.state) (few_opened before e))

-- no more than there are
few_cons : (b : Bool) (x : LogEvent) (rest : List LogEvent) (n : ℕ) → length rest ≤ n → length (cond b (x ∷ rest) rest) ≤ suc n
few_cons true x rest n le = omega arith
few_cons false x rest n le = omega arith

few_of : (p : LogEvent → Bool) (xs : List LogEvent) → length (filter p xs) ≤ length xs
few_of p [] = omega arith
few_of p (x ∷ xs) = few_cons (p x) x (filter p xs) (length xs) (few_of p xs)

pub logged_limits : (s : State) (e : Event) → IsWithinLimits (log_of (step s e))
logged_limits s e =
    let few = few_logged s e in
    record {
      horizons = few.horizons;
      plans = omega (arith, few.plans);
      blocks = omega (arith, few_of is_block (log_of (step s e)), short_log s e);
    }

pub logged_sound : (s : State) (e : Event) → All HasSoundPlan (log_of (step s e))
logged_sound s e = (few_logged s e).sound

-- ---- one event after another

few_front : (p : LogEvent → Bool) (k : ℕ) (xs : List LogEvent) → length (filter p (take k xs)) ≤ length (filter p xs)
few_front p k xs =
    let whole : length (filter p (take k xs ++ drop k xs)) ≡ length (filter p xs) =
    ap (λ (l : List LogEvent). length (filter p l)) (take-append-drop k xs) in
    omega (arith, whole, ap length (filter-append p (take k xs) (drop k xs)), length-append (filter p (take k xs)) (filter p (drop k xs)))

pub can_add : (batch : Batch) (events : List LogEvent) (k : ℕ) (e : LogEvent) → batch.events ++ e ∷ [] ≡ take (k + 1) events
    → IsWithinLimits events → HasSoundPlan e → CanAdd batch e
can_add batch events k e is within sound = record {
  limits = subst IsWithinLimits (sym is) (record {
    horizons = omega (arith, within.horizons, few_front is_horizon (k + 1) events);
    plans = omega (arith, within.plans, few_front is_plan_event (k + 1) events);
    blocks = omega (arith, within.blocks, few_front is_block (k + 1) events);
  });
  plan = sound;
}

-- What a record logs can be told, and a log then tells what the state has; and so for each run.
use Rattle.std.proofs.Common.{◌≡◌, ℕ, suc, ◌+◌, ◌<◌, ◌≤◌, Bool, true, false, ◌&&◌, ◌||◌, List, [], ◌∷◌, ◌++◌, length, map, filter}
use Rattle.std.proofs.Common.{Result, Ok, Option, Some, None, IfSome, is_some, All, nat_lt, refl, sym, ap, ap₂, ◌∙◌, subst}
use Rattle.std.proofs.Common.{AllPairs, get_or, append-nil, length-append, arith}
use Rattle.std.specs.Prelude.{option_to_list}
use Rattle.std.specs.List.{AllByRecursion, list_any}
use Rattle.std.proofs.lemmas.Bool.{and_parts, ltb-true, ltb-false, or_left, or_right}
use Rattle.std.proofs.lemmas.List.Folds.{list_any_at}
use Rattle.std.proofs.lemmas.List.Elements.{All-append, All-head, All-nil, All-tail, All-weaker, filter-append, recursion_from_All}
use Rattle.aftr_base.specs.Limits.{log_moment_limit, moment_limit}
use Rattle.aftr_base.specs.Value.{moment}
use Rattle.aftr_base.specs.Row.{block_event}
use Rattle.aftr_base.specs.Telling.{in_message_order, is_block, is_horizon, is_plan_event, told_after}
use Rattle.aftr_base.specs.declared.value.Moment.{Moment}
use Rattle.aftr_base.specs.declared.value.Subscriber.{Subscriber}
use Rattle.aftr_base.specs.declared.row.LeaseRow.{LeaseRow}
use Rattle.aftr_base.specs.declared.row.PlanRow.{PlanRow}
use Rattle.aftr_base.specs.declared.event.Event.{Event}
use Rattle.aftr_base.specs.declared.event.LogEvent.{LogEvent}
use Rattle.aftr_base.specs.declared.told.Told.{Told}
use Rattle.aftr_base.proofs.Pairwise.{Pairwise, pairwise_from}
use Rattle.cfg_text.specs.declared.config.Config.{Config}
use Rattle.cfg_text.specs.Accepted.{is_accepted}
use Rattle.cfg_text.proofs.Facts.{facts}
use Rattle.xlate_core.specs.declared.step_out.Item.{Item}
use Rattle.nat_mapping.specs.Rows.{expired}
use Rattle.xlate_core.specs.State.{State, Step, is_past_horizon, latest, reach_of}
use Rattle.xlate_core.specs.Expiry.{Closed, at_moment, closing_limit}
use Rattle.xlate_core.specs.Step.{horizon_by, log_of, needs_horizon, promise_by, step}
use Rattle.xlate_core.specs.Run.{run, start, told_of}
use Rattle.xlate_core.specs.Valid.{IsConsistent, IsReached, IsStart, clash_open}
use Rattle.xlate_core.specs.Laws.{IsAhead, KeepLimit, messages}
use Rattle.xlate_core.proofs.Clock.{by_moment, horizon_stays, moment_clock, plans_stay}
use Rattle.xlate_core.proofs.Middles.{before_mid}
use Rattle.xlate_core.proofs.Openings.{IsNew, Opens, before_of, opens_step, own_of}
use Rattle.xlate_core.proofs.Reached.{reached_start, reached_step}
use Rattle.xlate_core.proofs.PacketSources.{now_step}
use Rattle.xlate_core.proofs.Runs.{promises_of, step_closings}
use Rattle.xlate_core.proofs.Tellings.{Apart, apart, IsOpenable, MayClose, tell_closings, tell_horizon, tell_opened}
use Rattle.xlate_core.proofs.Tellings.{told_then, told_with, tells_as, tells_same}
use Rattle.xlate_core.proofs.ValidExpiry.{lease_parts, open_begun, consistent_moment}
use Rattle.xlate_core.proofs.ValidStates.{moment_accepted, step_clock_most, treated_beside, consistent_treated}

-- ---- the order of a message

pub record AreBlocks (es : List LogEvent) : Type 0 where
  pub horizon : filter is_horizon es ≡ []
  pub plan : filter is_plan_event es ≡ []
  pub block : filter is_block es ≡ es

block_events : (opens : Bool) (now : ℕ) (ls : List LeaseRow) → AreBlocks (map (block_event opens now) ls)
block_events opens now [] = record { horizon = refl; plan = refl; block = refl }
block_events opens now (l ∷ ls) =
    let more = block_events opens now ls in
    record {
      horizon = more.horizon;
      plan = more.plan;
      block = ap (λ (es : List LogEvent). block_event opens now l ∷ es) more.block;
    }

closed_blocks : (at : ℕ) (s : State) → AreBlocks (at_moment at s).closings
closed_blocks at s =
    by_moment (λ (c : Closed). AreBlocks c.closings) at s (λ le. block_events false at [])
    (λ lt. block_events false at _)

record IsPromise (es : List LogEvent) : Type 0 where
  horizon : filter is_horizon es ≡ es
  plan : filter is_plan_event es ≡ []
  block : filter is_block es ≡ []

promise_events : (raise : Bool) (s : State) → IsPromise (promise_by raise s)
promise_events true s = record { horizon = refl; plan = refl; block = refl }
promise_events false s = record { horizon = refl; plan = refl; block = refl }

abbrev joined : List LogEvent → List LogEvent → List LogEvent
joined xs ys = xs ++ ys

in_order : (c p o : List LogEvent) → AreBlocks c → IsPromise p → AreBlocks o → in_message_order (c ++ (p ++ o)) ≡ p ++ (c ++ o)
in_order c p o bc ip bo =
    let parts = λ (test : LogEvent → Bool). filter-append test c (p ++ o) ∙ ap (joined (filter test c)) (filter-append test p o) in
    let first : filter is_horizon (c ++ (p ++ o)) ≡ p =
    parts is_horizon ∙ ap₂ joined bc.horizon (ap₂ joined ip.horizon bo.horizon ∙ append-nil p) in
    let second : filter is_plan_event (c ++ (p ++ o)) ≡ [] = parts is_plan_event ∙ ap₂ joined bc.plan (ap₂ joined ip.plan bo.plan) in
    let third : filter is_block (c ++ (p ++ o)) ≡ c ++ o = parts is_block ∙ ap₂ joined bc.block (ap₂ joined ip.block bo.block) in
    ap₂ joined (ap₂ joined first second ∙ append-nil p) third

-- ---- the parts of a record's log

logged_in_order : (s : State) (e : Event) → is_accepted s.config ≡ true
    → in_message_order (log_of (step s e)) ≡ promises_of s e ++ ((at_moment e.at.0 s).closings ++ (own_of s e).openings)
logged_in_order s e ok =
    let opens = opens_step s e ok in
    let closings = (at_moment e.at.0 s).closings in
    let promises = promises_of s e in
    let openings = (own_of s e).openings in
    let blocks = subst AreBlocks (sym opens.openings) (block_events true (before_of s e).clock (option_to_list opens.lease)) in
    ap (λ (es : List LogEvent). in_message_order (es ++ (promises ++ openings))) (step_closings s e)
    ∙ in_order closings promises openings (closed_blocks e.at.0 s) (promise_events (needs_horizon (own_of s e)) (own_of s e).state) blocks

logged_count : (s : State) (e : Event)
    → length (log_of (step s e)) ≡ length (promises_of s e) + length (at_moment e.at.0 s).closings + length (own_of s e).openings
logged_count s e =
    let t = step s e in
    let closed : length t.closings ≡ length (at_moment e.at.0 s).closings = ap (λ (es : List LogEvent). length es) (step_closings s e) in
    omega (arith, length-append t.closings t.openings, length-append (promises_of s e) (own_of s e).openings, closed)

-- ---- the horizon

-- where it is asked for, it reaches the clock
ahead_by : (asks past : Bool) (s : State) → asks ≡ true → past ≡ is_past_horizon s → s.clock ≤ (horizon_by (asks && past) s).horizon
ahead_by true true s a is = omega arith
ahead_by true false s a is = ltb-false s.horizon s.clock (sym is)
ahead_by false past s a is = cc

abbrev asks_for : Step → Bool
asks_for t = list_any (λ (i : Item). is_some i.owner) t.items || nat_lt 0 (length t.openings)

ahead : (t : Step) → asks_for t ≡ true → t.state.clock ≤ (horizon_by (needs_horizon t) t.state).horizon
ahead t asks = ahead_by (asks_for t) (is_past_horizon t.state) t.state asks refl

-- where it is raised, it was past
was_past : (t : Step) → needs_horizon t ≡ true → t.state.horizon < t.state.clock
was_past t h = ltb-true t.state.horizon t.state.clock (and_parts (asks_for t) (is_past_horizon t.state) h).1

rises_by : (raise : Bool) (s : State) → (raise ≡ true → s.horizon < s.clock) → s.horizon ≤ (horizon_by raise s).horizon
rises_by true s past = omega (arith, past refl)
rises_by false s past = omega arith

own_horizon : (s : State) (e : Event) → (own_of s e).state.horizon ≡ s.horizon
own_horizon s e = (treated_beside (before_of s e) e.bytes e.kind).horizon ∙ horizon_stays e.at.0 s

-- it never falls
pub step_horizon : (s : State) (e : Event) → s.horizon ≤ (step s e).state.horizon
step_horizon s e =
    let own = own_of s e in
    omega (arith, own_horizon s e, rises_by (needs_horizon own) own.state (was_past own))

pub run_horizon : (s : State) (events : List Event) → s.horizon ≤ (run s events).state.horizon
run_horizon s [] = omega arith
run_horizon s (e ∷ es) = omega (arith, step_horizon s e, run_horizon (step s e).state es)

-- ---- what is told

-- of the horizon
tell_promise : (raise : Bool) (s : State) (t : Told) → is_accepted s.config ≡ true → s.clock ≤ moment_limit
    → (raise ≡ true → s.horizon < s.clock) → t.horizon ≡ moment s.horizon
    → told_after (promise_by raise s) t
    ≡ Ok (record t { horizon = moment (horizon_by raise s).horizon; count = t.count + length (promise_by raise s) })
tell_promise true s t ok le past was =
    let rises : t.horizon.0 ≤ reach_of s = omega (arith, past refl, ap (λ (m : Moment). m.0) was) in
    let fits : reach_of s ≤ log_moment_limit = omega (arith, le, (facts s.config ok).horizon_most) in
    let one : suc t.count ≡ t.count + 1 = omega arith in
    tell_horizon s.clock (reach_of s) t (omega (arith, le)) rises fits
    ∙ ap (λ (n : ℕ). let r : Result Told (Unit {0}) = Ok (record t { horizon = moment (reach_of s); count = n }) in r) one
tell_promise false s t ok le past was =
    let none : t.count ≡ t.count + 0 = omega arith in
    ap₂ (λ (m : Moment) (n : ℕ). let r : Result Told (Unit {0}) = Ok (record t { horizon = m; count = n }) in r) was none

-- of the closings
open_pairs : (ls : List LeaseRow) → AllPairs (λ l m. clash_open l m ≡ false) ls → Pairwise Apart ls
open_pairs ls h = pairwise_from Apart ls (λ i j d lt within. apart (get_or ls i d) (get_or ls j d) (h i j d lt within))

may_close : (now : ℕ) (s : State) → IsConsistent s → s.clock ≤ now → AllByRecursion (MayClose now) s.leases
may_close now s v le = recursion_from_All (MayClose now) s.leases (λ k d lt. λ lasts.
    let x = lease_parts s.clock (latest s) (get_or s.leases k d) (v.leases k d lt) in
    (x.range, omega (arith, open_begun lasts x, le)))

abbrev AreTold : Told → Closed → Type 0
AreTold t c = told_after c.closings t ≡ Ok (told_with t c.state.leases (t.count + length c.closings))

tell_moment : (at : ℕ) (s : State) (t : Told) → IsConsistent s → at ≤ log_moment_limit → t.leases ≡ s.leases → AreTold t (at_moment at s)
tell_moment at s t v le same = by_moment (AreTold t) at s (λ early. tells_same t s.leases same)
    (λ late. tell_closings closing_limit at (expired at s.rows) [] s.leases t
    (record { limit = le; pairs = open_pairs s.leases v.open_apart; each = may_close at s v (omega (arith, late)); same = same }))

-- of the opening
openable_by : {s : State} {t : Step} (opens : Opens s t) (told : Told) → s.clock ≤ log_moment_limit → IsConsistent t.state
    → told.leases ≡ s.leases
    → told.horizon ≡ moment (horizon_by (needs_horizon t) t.state).horizon
    → (o : Option LeaseRow) → opens.lease ≡ o → IfSome o (λ l. IsOpenable s.clock l told)
openable_by opens told le v same far None e = tt
openable_by {s = s} {t = t} opens told le v same far (Some l) e =
    let new : IsNew s.clock l = subst (λ (x : Option LeaseRow). IfSome x (IsNew s.clock)) e opens.new in
    let pairs = subst (AllPairs (λ l m. clash_open l m ≡ false)) (opens.leases
    ∙ ap (λ (x : Option LeaseRow). s.leases ++ option_to_list x) e) v.open_apart in
    let one : nat_lt 0 (length t.openings) ≡ true = ap (λ (es : List LogEvent). nat_lt 0 (length es)) (opens.openings
    ∙ ap (λ (x : Option LeaseRow). map (block_event true s.clock) (option_to_list x)) e) in
    let asks = or_right (list_any (λ (i : Item). is_some i.owner) t.items) (nat_lt 0 (length t.openings)) one in
    record {
      limit = le;
      owner = new.owner;
      range = new.range;
      since = new.since;
      until = new.until;
      ahead = omega (arith, ahead t asks, opens.clock, ap (λ (m : Moment). m.0) far);
      apart = subst (AllByRecursion (λ m. Apart m l)) (sym same)
          (before_mid Apart s.leases [] l (open_pairs (s.leases ++ l ∷ []) pairs));
    }

tell_lease : (now : ℕ) (o : Option LeaseRow) (t : Told) → IfSome o (λ l. IsOpenable now l t)
    → (let es = map (block_event true now) (option_to_list o) in told_after es t
    ≡ Ok (told_with t (t.leases ++ option_to_list o) (t.count + length es)))
tell_lease now None t h = tells_same t (t.leases ++ []) (sym (append-nil t.leases))
tell_lease now (Some l) t h =
    let one : suc t.count ≡ t.count + 1 = omega arith in
    tell_opened now l t h ∙ tells_as t (t.leases ++ l ∷ []) (t.leases ++ l ∷ []) (suc t.count) (t.count + 1) refl one

tell_openings : {s : State} {t : Step} (opens : Opens s t) (told : Told) → s.clock ≤ log_moment_limit → IsConsistent t.state
    → told.leases ≡ s.leases
    → told.horizon ≡ moment (horizon_by (needs_horizon t) t.state).horizon
    → told_after t.openings told ≡ Ok (told_with told t.state.leases (told.count + length t.openings))
tell_openings {s = s} {t = t} opens told le v same far =
    let es = map (block_event true s.clock) (option_to_list opens.lease) in
    let after : told.leases ++ option_to_list opens.lease ≡ t.state.leases =
    ap (λ (ls : List LeaseRow). ls ++ option_to_list opens.lease) same ∙ sym opens.leases in
    ap (λ (xs : List LogEvent). told_after xs told) opens.openings
    ∙ tell_lease s.clock opens.lease told (openable_by opens told le v same far opens.lease refl)
    ∙ tells_as told _ t.state.leases (told.count + length es) (told.count + length t.openings) after
    (ap (λ (xs : List LogEvent). told.count + length xs) (sym opens.openings))

-- ---- a record

abbrev told_parts : List LeaseRow → List PlanRow → ℕ → ℕ → Result Told (Unit {0})
told_parts leases plans horizon count = Ok record { leases = leases; plans = plans; horizon = moment horizon; count = count }

pub step_told : (s : State) (e : Event) (count : ℕ) → IsReached s → s.clock ≤ moment_limit → e.at.0 ≤ moment_limit
    → told_after (in_message_order (log_of (step s e))) (told_of s count)
    ≡ Ok (told_of (step s e).state (count + length (log_of (step s e))))
step_told s e count h le at =
    let before = before_of s e in
    let own = own_of s e in
    let t = step s e in
    let opens = opens_step s e h.accepted in
    let closings = (at_moment e.at.0 s).closings in
    let promises = promises_of s e in
    let by : before.clock ≤ moment_limit = omega (arith, moment_clock e.at.0 s, le, at) in
    let ok : is_accepted own.state.config ≡ true =
    subst (λ (c : Config). is_accepted c ≡ true) (sym opens.config) (moment_accepted e.at.0 s h.accepted) in
    let raised = consistent_moment e.at.0 s h.consistent in
    let consistent = consistent_treated before e.bytes e.kind (moment_accepted e.at.0 s h.accepted) raised in
    let t₁ : Told = record (told_of s count) { horizon = moment t.state.horizon; count = count + length promises } in
    let t₂ = told_with t₁ before.leases (t₁.count + length closings) in
    let first = tell_promise (needs_horizon own) own.state (told_of s count) ok (omega (arith, opens.clock, by)) (was_past own)
    (ap moment (sym (own_horizon s e))) in
    let second = tell_moment e.at.0 s t₁ h.consistent (omega (arith, at)) refl in
    let third = tell_openings opens t₂ (omega (arith, by)) consistent refl refl in
    let all : count + length promises + length closings + length own.openings ≡ count + length (log_of t) =
    omega (arith, logged_count s e) in
    let plans : s.plans ≡ t.state.plans = sym ((treated_beside before e.bytes e.kind).plans ∙ plans_stay e.at.0 s) in
    ap (λ (es : List LogEvent). told_after es (told_of s count)) (logged_in_order s e h.accepted)
    ∙ told_then promises (closings ++ own.openings) (told_of s count) t₁ first
    ∙ told_then closings own.openings t₁ t₂ second
    ∙ third
    ∙ ap₂ (λ (ps : List PlanRow) (n : ℕ). told_parts t.state.leases ps t.state.horizon n) plans all

-- ---- a run

run_told : (s : State) (events : List Event) (count : ℕ) → IsReached s → s.clock ≤ moment_limit → KeepLimit events
    → told_after (messages s events) (told_of s count) ≡ Ok (told_of (run s events).state (count + length (run s events).log))
run_told s [] count h le by =
    let none : count ≡ count + 0 = omega arith in
    ap (λ (n : ℕ). let r : Result Told (Unit {0}) = Ok (told_of s n) in r) none
run_told s (e ∷ es) count h le by =
    let t = step s e in
    let next = run t.state es in
    let test = λ (x : Event). x.at.0 ≤ moment_limit in
    let now = All-head test e es by in
    let more = count + length (log_of t) in
    let later = run_told t.state es more (reached_step s e h) (step_clock_most moment_limit s e le now) (All-tail test e es by) in
    let all : more + length next.log ≡ count + length (log_of t ++ next.log) = omega (arith, length-append (log_of t) next.log) in
    told_then (in_message_order (log_of t)) (messages t.state es) (told_of s count) (told_of t.state more) (step_told s e count h le now)
    ∙ later ∙ ap (λ (n : ℕ). let r : Result Told (Unit {0}) = Ok (told_of next.state n) in r) all

pub told_from : (c : Config) (t : Told) (events : List Event) → IsStart c t → KeepLimit events
    → (let r = run (start c t) events in told_after (messages (start c t) events) t ≡ Ok (told_of r.state (t.count + length r.log)))
told_from c t events h by = run_told (start c t) events t.count (reached_start h) (omega arith) by

-- ---- packets within the horizon

ahead_of : (o : Option Subscriber) (at now far : ℕ) → at ≡ now → (is_some o ≡ true → now ≤ far) → IfSome o (λ owner. at ≤ far)
ahead_of None at now far same by = tt
ahead_of (Some owner) at now far same by = omega (arith, same, by refl)

pub step_ahead : (s : State) (e : Event) → All (IsAhead (step s e).state.horizon) (step s e).items
step_ahead s e = λ k d lt.
    let t = step s e in
    let own = own_of s e in
    let i = get_or t.items k d in
    let has_owner = λ (x : Item). is_some x.owner in
    ahead_of i.owner i.at.0 t.state.clock t.state.horizon (now_step s e k d lt) (λ owned.
    ahead own (or_left (list_any has_owner own.items) (nat_lt 0 (length own.openings)) (list_any_at has_owner own.items k d lt owned)))

further : (o : Option Subscriber) (at near far : ℕ) → near ≤ far → IfSome o (λ owner. at ≤ near) → IfSome o (λ owner. at ≤ far)
further None at near far le h = tt
further (Some owner) at near far le h = omega (arith, h, le)

pub run_ahead : (s : State) (events : List Event) → All (IsAhead (run s events).state.horizon) (run s events).items
run_ahead s [] = All-nil (IsAhead s.horizon)
run_ahead s (e ∷ es) =
    let t = step s e in
    let next = run t.state es in
    let near = IsAhead t.state.horizon in
    let far = IsAhead next.state.horizon in
    let weaker = λ (i : Item) (h : near i). further i.owner i.at.0 t.state.horizon next.state.horizon (run_horizon t.state es) h in
    All-append far t.items next.items (All-weaker near far weaker t.items (step_ahead s e)) (run_ahead t.state es)

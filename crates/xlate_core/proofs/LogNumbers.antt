-- The numbers of leases and of log events fit the fields of the log.
use Rattle.std.proofs.Common.{◌≡◌, ℕ, ◌+◌, ◌^◌, ◌<◌, ◌≤◌, Bool, true, false, List, [], ◌∷◌, ◌++◌, map, take, filter, Option, Some, None, IfSome}
use Rattle.std.proofs.Common.{All}
use Rattle.std.proofs.Common.{nat_le, sym, subst, arith}
use Rattle.std.specs.Prelude.{option_to_list}
use Rattle.std.proofs.lemmas.Bool.{and_parts, leb-true}
use Rattle.std.proofs.lemmas.List.Elements.{All-map, All-weaker, All-nil, All-cons, All-append, All-filter, All-take, All-head, All-tail}
use Rattle.aftr_base.specs.Plan.{is_prefix6}
use Rattle.aftr_base.specs.declared.event.Event.{Event}
use Rattle.aftr_base.specs.declared.event.LogEvent.{LogEvent}
use Rattle.aftr_base.specs.declared.event.LogEvent.TheVariants.{Block, Horizon, Plan}
use Rattle.aftr_base.specs.declared.row.LeaseRow.{LeaseRow}
use Rattle.aftr_base.specs.declared.value.Ip4.{Ip4}
use Rattle.aftr_base.specs.declared.value.Moment.{Moment}
use Rattle.aftr_base.specs.declared.value.Subscriber.{Subscriber}
use Rattle.aftr_base.specs.Told.{end_of}
use Rattle.aftr_base.specs.Value.{moment}
use Rattle.aftr_base.specs.declared.told.Told.{Told}
use Rattle.cfg_text.proofs.Facts.{facts}
use Rattle.cfg_text.specs.declared.config.Config.{Config}
use Rattle.cfg_text.specs.Accepted.{is_accepted}
use Rattle.nat_mapping.specs.Rows.{Mapping}
use Rattle.nat_mapping.specs.Rows.{expired}
use Rattle.xlate_core.specs.Expiry.{Closed, is_idle, closings_of, closing_limit, at_moment}
use Rattle.aftr_base.specs.Row.{block_event}
use Rattle.xlate_core.specs.State.{State, Step, latest, reach_of}
use Rattle.xlate_core.specs.Step.{step, log_of, needs_horizon, promise_by}
use Rattle.xlate_core.specs.Valid.{IsStart, is_lease_by}
use Rattle.xlate_core.specs.Run.{run, start}
use Rattle.xlate_core.proofs.Openings.{Opens, before_of, opens_step, own_of}
use Rattle.xlate_core.proofs.Runs.{step_closings}
use Rattle.xlate_core.proofs.ValidExpiry.{lease_parts, lease_since, ends_by}
use Rattle.xlate_core.proofs.ValidStates.{AreBy, moment_accepted, run_clock_most, run_floor, step_clock_most}
use Rattle.xlate_core.proofs.Clock.{by_moment, moment_clock}
use Rattle.xlate_core.proofs.WirePlaces.{IsOnWire, wire_moment, wire_treated}
use Rattle.xlate_core.proofs.Reached.{IsReached, reached_from, reached_start, reached_step}

-- ---- leases

-- a subscriber's block of ports at an address, and moments up to this one
pub record FitsLease (limit : ℕ) (l : LeaseRow) : Type 0 where
  pub owner : is_prefix6 l.owner.0 ≡ true
  pub addr : l.addr.0 < 2 ^ 32
  pub first : l.first < 2 ^ 16
  pub last : l.last < 2 ^ 16
  pub range : l.first ≤ l.last
  pub since : l.since.0 ≤ limit
  pub until : IfSome l.until (λ (u : Moment). (l.since.0 ≤ u.0) × (u.0 ≤ limit))

ends_fit : (since now latest limit : ℕ) (u : Option Moment) → latest ≤ limit → ends_by since now latest u ≡ true
    → IfSome u (λ (m : Moment). (since ≤ m.0) × (m.0 ≤ limit))
ends_fit since now latest limit None le h = tt
ends_fit since now latest limit (Some m) le h =
    let both = and_parts (nat_le since m.0) (nat_le m.0 latest) h in
    (leb-true since m.0 both.0, omega (arith, leb-true m.0 latest both.1, le))

lease_fits : (limit now latest : ℕ) (l : LeaseRow) → now ≤ latest → latest ≤ limit → is_lease_by now latest l ≡ true → IsOnWire l
    → FitsLease limit l
lease_fits limit now latest l by le h wire =
    let x = lease_parts now latest l h in
    record {
      owner = wire.owner;
      addr = wire.addr;
      first = omega (arith, wire.range, wire.last);
      last = wire.last;
      range = wire.range;
      since = omega (arith, lease_since by x, le);
      until = ends_fit l.since.0 now latest limit l.until le x.over;
    }

pub leases_fit : (limit : ℕ) (s : State) → IsReached s → latest s ≤ limit → All (FitsLease limit) s.leases
leases_fit limit s h le = λ k d lt. lease_fits limit s.clock (latest s) _ (omega arith) le (h.consistent.leases k d lt) (h.wire k d lt)

-- those of each state of a run
pub fit_from : {c : Config} {t : Told} (limit : ℕ) (events : List Event) → IsStart c t → end_of t ≤ limit → AreBy limit events
    → All (FitsLease limit) (run (start c t) events).state.leases
fit_from {c = c} {t = t} limit events h told by =
    let s = start c t in
    let end = (run s events).state in
    let late : latest end ≤ limit = omega (arith, run_clock_most limit s events (omega arith) by, run_floor s events, told) in
    leases_fit limit end (reached_from events h) late

-- ---- log events

-- a subscriber's block of ports at an address, and a moment up to this one
pub record FitsBlockEvent (limit : ℕ) (o : Subscriber) (a : Ip4) (from to : ℕ) (m : Moment) : Type 0 where
  pub owner : is_prefix6 o.0 ≡ true
  pub addr : a.0 < 2 ^ 32
  pub first : from < 2 ^ 16
  pub last : to < 2 ^ 16
  pub range : from ≤ to
  pub at : m.0 ≤ limit

-- a moment up to this one, and one that lies ahead of it by at most the greatest time that a configuration has for that
pub record FitsHorizon (limit : ℕ) (m to : Moment) : Type 0 where
  pub at : m.0 ≤ limit
  pub reach : to.0 ≤ limit + 3600000

-- nothing but blocks and horizons is logged
abbrev pub FitsEvent : ℕ → LogEvent → Type 0
FitsEvent limit (Block opens owner addr first last at) = FitsBlockEvent limit owner addr first last at
FitsEvent limit (Horizon at reach) = FitsHorizon limit at reach
FitsEvent limit (Plan at spec) = ⊥

pub event_fits : (limit : ℕ) (opens : Bool) (now : ℕ) (l : LeaseRow) → now ≤ limit → IsOnWire l → FitsEvent limit (block_event opens now l)
event_fits limit opens now l le wire = record {
  owner = wire.owner;
  addr = wire.addr;
  first = omega (arith, wire.range, wire.last);
  last = wire.last;
  range = wire.range;
  at = le;
}

events_fit : (limit : ℕ) (opens : Bool) (now : ℕ) (ls : List LeaseRow) → now ≤ limit → All IsOnWire ls
    → All (FitsEvent limit) (map (block_event opens now) ls)
events_fit limit opens now ls le wire =
    All-map (FitsEvent limit) (block_event opens now) ls
    (All-weaker IsOnWire (λ l. FitsEvent limit (block_event opens now l)) (λ l h. event_fits limit opens now l le h) ls wire)

closings_fit : (limit n now : ℕ) (rows : List Mapping) (ls : List LeaseRow) → now ≤ limit → All IsOnWire ls
    → All (FitsEvent limit) (closings_of n now rows ls)
closings_fit limit n now rows ls le wire =
    let idle = filter (is_idle rows) ls in
    events_fit limit false now (take n idle) le (All-take IsOnWire n idle (All-filter (is_idle rows) IsOnWire ls wire))

pub closed_fit : (limit at : ℕ) (s : State) → at ≤ limit → All IsOnWire s.leases → All (FitsEvent limit) (at_moment at s).closings
closed_fit limit at s le wire =
    by_moment (λ (c : Closed). All (FitsEvent limit) c.closings) at s (λ early. All-nil (FitsEvent limit))
    (λ late. closings_fit limit closing_limit at (expired at s.rows) s.leases le wire)

-- those behind others
behind : (xs ys : List LeaseRow) → All IsOnWire (xs ++ ys) → All IsOnWire ys
behind [] ys h = h
behind (x ∷ xs) ys h = behind xs ys (All-tail IsOnWire x (xs ++ ys) h)

-- the lease that a record opens fits, since those after it do
opening_fits : (limit : ℕ) (s : State) (t : Step) → s.clock ≤ limit → (opens : Opens s t) → All IsOnWire t.state.leases
    → All (FitsEvent limit) t.openings
opening_fits limit s t le opens wire =
    let more = option_to_list opens.lease in
    subst (All (FitsEvent limit)) (sym opens.openings)
    (events_fit limit true s.clock more le (behind s.leases more (subst (All IsOnWire) opens.leases wire)))

promise_fits : (limit : ℕ) (raised : Bool) (s : State) → is_accepted s.config ≡ true → s.clock ≤ limit
    → All (FitsEvent limit) (promise_by raised s)
promise_fits limit false s ok le = All-nil (FitsEvent limit)
promise_fits limit true s ok le =
    let fits : FitsHorizon limit (moment s.clock) (moment (reach_of s)) =
    record { at = le; reach = omega (arith, le, (facts s.config ok).horizon_most) } in
    All-cons (FitsEvent limit) (Horizon (moment s.clock) (moment (reach_of s))) [] fits (All-nil (FitsEvent limit))

-- so are the numbers of what a step logs
pub log_step : (limit : ℕ) (s : State) (e : Event) → IsReached s → s.clock ≤ limit → e.at.0 ≤ limit
    → All (FitsEvent limit) (log_of (step s e))
log_step limit s e h le at =
    let t = step s e in
    let now = (before_of s e).clock in
    let by : now ≤ limit = omega (arith, moment_clock e.at.0 s, le, at) in
    let opens = opens_step s e h.accepted in
    let closed = subst (All (FitsEvent limit)) (sym (step_closings s e)) (closed_fit limit e.at.0 s at h.wire) in
    let own = own_of s e in
    let wire = wire_treated (before_of s e) e.bytes e.kind (moment_accepted e.at.0 s h.accepted) (wire_moment e.at.0 s h.wire) in
    let opened = opening_fits limit (before_of s e) own by opens wire in
    let ok = subst (λ (c : Config). is_accepted c ≡ true) (sym opens.config) (moment_accepted e.at.0 s h.accepted) in
    let promised = promise_fits limit (needs_horizon own) own.state ok (omega (arith, opens.clock, by)) in
    All-append (FitsEvent limit) t.closings t.openings closed
    (All-append (FitsEvent limit) (promise_by (needs_horizon own) own.state) own.openings promised opened)

pub log_run : (limit : ℕ) (s : State) (events : List Event) → IsReached s → s.clock ≤ limit → AreBy limit events
    → All (FitsEvent limit) (run s events).log
log_run limit s [] h le by = All-nil (FitsEvent limit)
log_run limit s (e ∷ es) h le by =
    let t = step s e in
    let test = λ (x : Event). x.at.0 ≤ limit in
    let now = All-head test e es by in
    let later = log_run limit t.state es (reached_step s e h) (step_clock_most limit s e le now) (All-tail test e es by) in
    All-append (FitsEvent limit) (log_of t) (run t.state es).log (log_step limit s e h le now) later

-- and of what a run does
pub log_from : {c : Config} {t : Told} (limit : ℕ) (events : List Event) → IsStart c t → AreBy limit events
    → All (FitsEvent limit) (run (start c t) events).log
log_from {c = c} {t = t} limit events h by = log_run limit (start c t) events (reached_start h) (omega arith) by

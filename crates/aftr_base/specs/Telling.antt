-- What a log tells after further events, or that it can't tell them (RFC 8158 4.3: a block opens and closes).
use Rattle.std.specs.Prelude.{ℕ, suc, Bool, true, false, not, ◌&&◌, ◌==◌, nat_le, List, [], ◌∷◌, ◌++◌, map, filter, Option, Some, None}
use Rattle.std.specs.Prelude.{Result, Ok, Err, if◌then◌else◌}
use Rattle.std.specs.List.{list_all, list_any}
use Rattle.aftr_base.specs.Attempt.{◌>>=◌, ◌>>◌, require}
use Rattle.aftr_base.specs.Limits.{log_moment_limit}
use Rattle.aftr_base.specs.Plan.{is_prefix6}
use Rattle.aftr_base.specs.Value.{ip4_eq, subscriber_eq}
use Rattle.aftr_base.specs.Row.{is_open, is_in_use, overlaps, ended, plan_ended}
use Rattle.aftr_base.specs.declared.value.Moment.{Moment}
use Rattle.aftr_base.specs.declared.value.Ip4.{Ip4}
use Rattle.aftr_base.specs.declared.value.Subscriber.{Subscriber}
use Rattle.aftr_base.specs.declared.row.LeaseRow.{LeaseRow}
use Rattle.aftr_base.specs.declared.row.PlanRow.{PlanRow}
use Rattle.aftr_base.specs.declared.row.PlanSpec.{PlanSpec}
use Rattle.aftr_base.specs.declared.event.LogEvent.{LogEvent}
use Rattle.aftr_base.specs.declared.event.LogEvent.TheVariants.{Block, Horizon, Plan}
use Rattle.aftr_base.specs.declared.told.Told.{Told}

-- ---- one event

-- the open lease of this owner, address and range
abbrev pub is_lease_of : Subscriber → Ip4 → ℕ → ℕ → LeaseRow → Bool
is_lease_of owner addr first last l = is_open l && subscriber_eq owner l.owner && ip4_eq addr l.addr && first == l.first && last == l.last

-- a block opens where no open lease overlaps it, at a moment that the horizon reaches
abbrev pub may_open : Told → Subscriber → Ip4 → ℕ → ℕ → ℕ → Bool
may_open t owner addr first last at =
    is_prefix6 owner.0 && nat_le first last && nat_le at t.horizon.0 && list_all (λ l. not (is_open l && overlaps l addr first last)) t.leases

-- a block closes where it is open, not before it opened
abbrev pub may_close : Told → Subscriber → Ip4 → ℕ → ℕ → ℕ → Bool
may_close t owner addr first last at = list_any (λ (l : LeaseRow). is_lease_of owner addr first last l && nat_le l.since.0 at) t.leases

abbrev pub lease_told : Subscriber → Ip4 → ℕ → ℕ → Moment → LeaseRow
lease_told owner addr first last at = record { owner = owner; addr = addr; first = first; last = last; since = at; until = None }

abbrev pub lease_ended : Subscriber → Ip4 → ℕ → ℕ → Moment → LeaseRow → LeaseRow
lease_ended owner addr first last at l = if is_lease_of owner addr first last l then ended at.0 l else l

abbrev pub after_block : Told → Bool → Subscriber → Ip4 → ℕ → ℕ → Moment → Result Told (Unit {0})
after_block t true owner addr first last at =
    require (may_open t owner addr first last at.0) tt >> Ok record t { leases = t.leases ++ lease_told owner addr first last at ∷ [] }
after_block t false owner addr first last at =
    require (may_close t owner addr first last at.0) tt >> Ok record t { leases = map (lease_ended owner addr first last at) t.leases }

-- one plan is in use at a time
abbrev pub after_plan : Told → Moment → Option PlanSpec → Result Told (Unit {0})
after_plan t at (Some spec) =
    require (not (list_any is_in_use t.plans) && nat_le at.0 t.horizon.0) tt
    >> Ok record t { plans = t.plans ++ record { spec = spec; since = at; until = None } ∷ [] }
after_plan t at None =
    require (list_any (λ (p : PlanRow). is_in_use p && nat_le p.since.0 at.0) t.plans) tt
    >> Ok record t { plans = map (plan_ended at.0) t.plans }

-- a horizon never falls
abbrev pub after_horizon : Told → Moment → Result Told (Unit {0})
after_horizon t reach = require (nat_le t.horizon.0 reach.0 && nat_le reach.0 log_moment_limit) tt >> Ok record t { horizon = reach }

abbrev pub moment_of : LogEvent → ℕ
moment_of (Block opens owner addr first last at) = at.0
moment_of (Horizon at reach) = at.0
moment_of (Plan at spec) = at.0

abbrev pub after_event : Told → LogEvent → Result Told (Unit {0})
after_event t (Block opens owner addr first last at) = after_block t opens owner addr first last at
after_event t (Horizon at reach) = after_horizon t reach
after_event t (Plan at spec) = after_plan t at spec

-- ---- events in order

abbrev pub told_after : List LogEvent → Told → Result Told (Unit {0})
told_after [] t = Ok t
told_after (e ∷ events) t = do
  require (nat_le (moment_of e) log_moment_limit) tt
  next ← after_event t e
  told_after events (record next { count = suc t.count })

-- The order of a message: the horizon, the plan, and then the blocks in their own order.
abbrev pub is_horizon : LogEvent → Bool
is_horizon (Block opens owner addr first last at) = false
is_horizon (Horizon at reach) = true
is_horizon (Plan at spec) = false

abbrev pub is_plan_event : LogEvent → Bool
is_plan_event (Block opens owner addr first last at) = false
is_plan_event (Horizon at reach) = false
is_plan_event (Plan at spec) = true

abbrev pub is_block : LogEvent → Bool
is_block (Block opens owner addr first last at) = true
is_block (Horizon at reach) = false
is_block (Plan at spec) = false

abbrev pub in_message_order : List LogEvent → List LogEvent
in_message_order events = filter is_horizon events ++ filter is_plan_event events ++ filter is_block events

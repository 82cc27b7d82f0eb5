-- What holds of all that a log tells, whatever file it was read from.
use Rattle.std.specs.Prelude.{◌≡◌, ◌≤◌, ◌<◌, ◌^◌, ⊤, ℕ, Bool, true, false, ◌&&◌, All, AllPairs, Option, Some, None, IfSome}
use Rattle.aftr_base.specs.Limits.{log_moment_limit}
use Rattle.aftr_base.specs.Plan.{is_plan, is_prefix6}
use Rattle.aftr_base.specs.Row.{is_open, is_in_use, overlaps}
use Rattle.aftr_base.specs.declared.value.Moment.{Moment}
use Rattle.aftr_base.specs.declared.row.LeaseRow.{LeaseRow}
use Rattle.aftr_base.specs.declared.row.PlanRow.{PlanRow}
use Rattle.aftr_base.specs.declared.told.Told.{Told}
use Rattle.aftr_base.specs.declared.event.LogEvent.{LogEvent}
use Rattle.aftr_base.specs.declared.event.LogEvent.TheVariants.{Block, Horizon, Plan}

-- an end, where there is one, is a moment of a 32-bit clock
abbrev pub EndsInTime : Option Moment → Type 0
EndsInTime until = IfSome until (λ m. m.0 ≤ log_moment_limit)

-- the end, where there is one, isn't before this moment
abbrev pub EndsSince : ℕ → Option Moment → Type 0
EndsSince since until = IfSome until (λ m. since ≤ m.0)

-- a subscriber's prefix, an address and a range of ports, a beginning that the horizon reaches, and an end that isn't before it
pub record IsSoundLease (horizon : ℕ) (l : LeaseRow) : Type 0 where
  pub owner : is_prefix6 l.owner.0 ≡ true
  pub addr : l.addr.0 < 2 ^ 32
  pub ports : l.first ≤ l.last
  pub last : l.last < 2 ^ 16
  pub begun : l.since.0 ≤ horizon
  pub end : EndsInTime l.until
  pub order : EndsSince l.since.0 l.until

-- values that a plan may have, and a beginning that the horizon reaches
pub record IsSoundPlan (horizon : ℕ) (p : PlanRow) : Type 0 where
  pub spec : is_plan p.spec ≡ true
  pub begun : p.since.0 ≤ horizon
  pub end : EndsInTime p.until

-- both are open and share a port
abbrev pub clash : LeaseRow → LeaseRow → Bool
clash l m = is_open l && is_open m && overlaps l m.addr m.first m.last

-- no two open leases share a port, and one plan at most is in use
pub record IsSound (t : Told) : Type 0 where
  pub horizon : t.horizon.0 ≤ log_moment_limit
  pub leases : All (IsSoundLease t.horizon.0) t.leases
  pub apart : AllPairs (λ l m. clash l m ≡ false) t.leases
  pub plans : All (IsSoundPlan t.horizon.0) t.plans
  pub one_plan : AllPairs (λ (p q : PlanRow). (is_in_use p && is_in_use q) ≡ false) t.plans

-- a plan that opens has values that a plan may have
abbrev pub HasSoundPlan : LogEvent → Type 0
HasSoundPlan (Block opens owner addr first last at) = ⊤
HasSoundPlan (Horizon at reach) = ⊤
HasSoundPlan (Plan at None) = ⊤
HasSoundPlan (Plan at (Some spec)) = is_plan spec ≡ true

-- What a restart logs before anything else: the end of the plan in use and of every open lease, at the told horizon.
use Rattle.std.specs.Prelude.{◌≡◌, ℕ, ◌+◌, ◌*◌, false, None, List, [], ◌∷◌, ◌++◌, length, map, filter, take, drop, Ok, All, if◌then◌else◌}
use Rattle.std.specs.List.{list_any}
use Rattle.aftr_base.specs.Row.{is_open, is_in_use}
use Rattle.aftr_base.specs.Told.{closed}
use Rattle.aftr_base.specs.Telling.{told_after}
use Rattle.aftr_base.specs.declared.value.Moment.{Moment}
use Rattle.aftr_base.specs.declared.row.LeaseRow.{LeaseRow}
use Rattle.aftr_base.specs.declared.row.PlanRow.{PlanRow}
use Rattle.aftr_base.specs.declared.event.LogEvent.{LogEvent}
use Rattle.aftr_base.specs.declared.event.LogEvent.TheVariants.{Block, Plan}
use Rattle.aftr_base.specs.declared.told.Told.{Told}
use Rattle.disk_journal.specs.Frames.{body_of}
use Rattle.nat_events.specs.Spelling.{message}

abbrev pub lease_closing : Moment → LeaseRow → LogEvent
lease_closing at l = Block false l.owner l.addr l.first l.last at

abbrev pub lease_closings : Moment → List LeaseRow → List LogEvent
lease_closings at leases = map (lease_closing at) (filter is_open leases)

abbrev pub plan_closings : Told → List LogEvent
plan_closings t = if list_any is_in_use t.plans then Plan t.horizon None ∷ [] else []

-- the plan first, then the leases in order of opening
abbrev pub closings_of : Told → List LogEvent
closings_of t = plan_closings t ++ lease_closings t.horizon t.leases

-- what is told once all of them are
abbrev pub recovered : Told → Told
recovered t = record (closed t) { count = t.count + length (closings_of t) }

-- no row is open
pub record AreEnded (t : Told) : Type 0 where
  pub leases : All (λ l. is_open l ≡ false) t.leases
  pub plans : All (λ (p : PlanRow). is_in_use p ≡ false) t.plans

-- ---- on the way

-- some of them, from the first on, are told
pub record IsPartlyClosed (was now : Told) : Type 0 where
  pub number : ℕ
  pub follows : told_after (take number (closings_of was)) was ≡ Ok now

-- each frame but the last has 1,024
abbrev pub frame_closings : Told → ℕ → List LogEvent
frame_closings t k = take 1024 (drop (1024 * k) (closings_of t))

-- what a commit of the k-th frame's closings writes, from 0
abbrev pub frame_body : Told → ℕ → List ℕ
frame_body t k = body_of (message t.horizon.0 (t.count + 1024 * k) (frame_closings t k))

-- How many closings there are: no more than rows, and each frame takes its part of them.
use Rattle.std.proofs.Common.{◌≡◌, ℕ, ◌+◌, ◌≤◌, Bool, true, false, cond, List, [], ◌∷◌, length, filter, drop, ap, arith, length-append}
use Rattle.std.specs.Prelude.{None}
use Rattle.std.specs.List.{list_any}
use Rattle.std.proofs.lemmas.List.{length-map}
use Rattle.aftr_base.specs.Row.{is_in_use, is_open}
use Rattle.aftr_base.specs.declared.row.LeaseRow.{LeaseRow}
use Rattle.aftr_base.specs.declared.row.PlanRow.{PlanRow}
use Rattle.aftr_base.specs.declared.event.LogEvent.{LogEvent}
use Rattle.aftr_base.specs.declared.event.LogEvent.TheVariants.{Plan}
use Rattle.aftr_base.specs.declared.told.Told.{Told}
use Rattle.aftr_base.specs.declared.value.Moment.{Moment}
use Rattle.lease_log.specs.Answers.{number_of_rows}
use Rattle.lease_log.specs.Batch.{Batch}
use Rattle.recovery.specs.Closings.{closings_of, lease_closing, lease_closings, plan_closings}
use Rattle.recovery.specs.Answers.{IsLack}
use Rattle.recovery.specs.Frames.{HasGathered, IsRefusal}
use Rattle.recovery.specs.declared.RecoverBad.{RecoverBad}
use Rattle.recovery.specs.declared.RecoverBad.TheVariants.{Damaged, Full, Failed, NoMemory}

kept_fewer : (leases : List LeaseRow) → length (filter is_open leases) ≤ length leases
kept_fewer [] = omega arith
kept_fewer (l ∷ leases) = by (is_open l) (filter is_open leases) (kept_fewer leases)
  where
    by : (b : Bool) (ls : List LeaseRow) → length ls ≤ length leases → length (cond b (l ∷ ls) ls) ≤ length (l ∷ leases)
    by true ls le = omega (arith, le)
    by false ls le = omega (arith, le)

one_plan : (horizon : LogEvent) (plans : List PlanRow) → length (cond (list_any is_in_use plans) (horizon ∷ []) []) ≤ length plans
one_plan e [] = omega arith
one_plan e (p ∷ plans) = by (list_any is_in_use (p ∷ plans))
  where
    by : (b : Bool) → length (cond b (e ∷ []) []) ≤ length (p ∷ plans)
    by true = omega arith
    by false = omega arith

-- each closes a row
pub few_closings : (t : Told) → length (closings_of t) ≤ number_of_rows t
few_closings t =
    omega (
      arith,
      length-append (plan_closings t) (lease_closings t.horizon t.leases),
      length-map (filter is_open t.leases) (lease_closing t.horizon),
      kept_fewer t.leases,
      one_plan (Plan t.horizon None) t.plans,
    )

-- what a batch took is gone from what is left
pub gathered : {horizon : Moment} {leases : List LeaseRow} {was now : Batch} {passed : ℕ} → HasGathered horizon leases was now passed
    → length now.events + length (lease_closings horizon (drop passed leases))
    ≡ length was.events + length (lease_closings horizon leases)
gathered {horizon} {leases} {was} {now} {passed} h =
    omega (
      arith,
      ap length h.moved,
      length-append now.events (lease_closings horizon (drop passed leases)),
      length-append was.events (lease_closings horizon leases),
    )

-- at first all of them are left
pub first_left : (t : Told) (was : Batch) {now : Batch} {leases : List LeaseRow}
    → now ≡ record was { events = plan_closings t } → leases ≡ t.leases
    → t.count + (length now.events + length (lease_closings t.horizon leases)) ≡ t.count + length (closings_of t)
first_left t was {now} {leases} took all =
    omega (
      arith,
      ap (λ (b : Batch). length b.events) took,
      ap (λ (ls : List LeaseRow). length (lease_closings t.horizon ls)) all,
      length-append (plan_closings t) (lease_closings t.horizon t.leases),
    )

-- a commit that wasn't done lacks room, or failed
pub lack_of : (tail size limit : ℕ) (bad : RecoverBad) → IsRefusal tail size limit bad → IsLack limit bad
lack_of tail size limit (Damaged offset) is = tt
lack_of tail size limit (Full at need most) is = (is.2, omega (arith, is.0, is.1, is.2, is.3))
lack_of tail size limit Failed is = tt
lack_of tail size limit NoMemory is = tt

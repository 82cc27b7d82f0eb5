-- What is told after events, one at a time.
use Rattle.std.proofs.Common.{◌≡◌, suc, ◌+◌, Bool, true, false, List, [], ◌∷◌, length, refl, ap, arith, length-append, ◌++◌}
use Rattle.std.proofs.lemmas.List.{length-map}
use Rattle.std.specs.Prelude.{nat_le, not, ◌&&◌, ◌≤◌, map, Some, None, Result, Ok, Err}
use Rattle.std.specs.List.{list_any}
use Rattle.aftr_base.specs.Attempt.{◌>>=◌, ◌>>◌, require}
use Rattle.aftr_base.specs.Limits.{log_moment_limit}
use Rattle.aftr_base.specs.Row.{is_in_use, plan_ended}
use Rattle.aftr_base.specs.Telling.{after_event, lease_ended, lease_told, may_close, may_open, moment_of, told_after}
use Rattle.aftr_base.specs.declared.told.Told.{Told}
use Rattle.aftr_base.specs.declared.row.PlanRow.{PlanRow}
use Rattle.aftr_base.specs.declared.event.LogEvent.{LogEvent}
use Rattle.aftr_base.specs.declared.event.LogEvent.TheVariants.{Block, Horizon, Plan}
use Rattle.lease_log.specs.Answers.{number_of_rows}
use Rattle.lease_log.proofs.Requiring.{required, taken, ok_inj}

step_ok : {A B : Type 0} (b : Bool) (r : Result A (Unit {0})) (f : A → B) (g : B → Result B (Unit {0})) (now : B)
    → (require b tt >> (r >>= λ n. Ok (f n))) ≡ Ok now → (require b tt >> (r >>= λ n. g (f n))) ≡ g now
step_ok true (Ok x) f g now h = ap g (ok_inj (f x) now h)
step_ok true (Err e) f g now h = cc
step_ok false r f g now h = cc

step_err : {A B : Type 0} (b : Bool) (r : Result A (Unit {0})) (f : A → B) (g : B → Result B (Unit {0}))
    → (require b tt >> (r >>= λ n. Ok (f n))) ≡ Err tt → (require b tt >> (r >>= λ n. g (f n))) ≡ Err tt
step_err true (Ok x) f g h = cc
step_err true (Err e) f g h = cc
step_err false r f g h = refl

counted : Told → Told → Told
counted t next = record next { count = suc t.count }

-- an event that was told, and those behind it
pub told_next : (e : LogEvent) (events : List LogEvent) (t now : Told) → told_after (e ∷ []) t ≡ Ok now
    → told_after (e ∷ events) t ≡ told_after events now
unfolding counted
told_next e events t now h = step_ok (nat_le (moment_of e) log_moment_limit) (after_event t e) (counted t) (told_after events) now h

-- one that was refused ends all
pub told_refused : (e : LogEvent) (events : List LogEvent) (t : Told) → told_after (e ∷ []) t ≡ Err tt → told_after (e ∷ events) t ≡ Err tt
unfolding counted
told_refused e events t h = step_err (nat_le (moment_of e) log_moment_limit) (after_event t e) (counted t) (told_after events) h

-- each event is a record
pub told_count : (events : List LogEvent) (t now : Told) → told_after events t ≡ Ok now → now.count ≡ t.count + length events
told_count [] t now is = omega (arith, ap (λ (s : Told). s.count) (ok_inj t now is))
told_count (e ∷ events) t now is =
    let rest = λ (next : Told). told_after events (record next { count = suc t.count }) in
    let parts = required tt (nat_le (moment_of e) log_moment_limit) (after_event t e >>= rest) now is in
    let step = taken (after_event t e) rest now parts.1 in
    omega (arith, told_count events (record step.0 { count = suc t.count }) now step.2)

-- ---- each row has a record that opened it

event_rows : (e : LogEvent) (t next : Told) → after_event t e ≡ Ok next → number_of_rows next ≤ number_of_rows t + 1
event_rows (Block true owner addr first last at) t next is =
    let leases = t.leases ++ lease_told owner addr first last at ∷ [] in
    let made = required tt (may_open t owner addr first last at.0) (Ok (record t { leases = leases })) next is in
    omega (
      arith,
      ap number_of_rows (ok_inj (record t { leases = leases }) next made.1),
      length-append t.leases (lease_told owner addr first last at ∷ []),
    )
event_rows (Block false owner addr first last at) t next is =
    let leases = map (lease_ended owner addr first last at) t.leases in
    let made = required tt (may_close t owner addr first last at.0) (Ok (record t { leases = leases })) next is in
    omega (
      arith,
      ap number_of_rows (ok_inj (record t { leases = leases }) next made.1),
      length-map t.leases (lease_ended owner addr first last at),
    )
event_rows (Horizon at reach) t next is =
    let made = required tt (nat_le t.horizon.0 reach.0 && nat_le reach.0 log_moment_limit) (Ok (record t { horizon = reach })) next is in
    omega (arith, ap number_of_rows (ok_inj (record t { horizon = reach }) next made.1))
event_rows (Plan at (Some spec)) t next is =
    let row : PlanRow = record { spec = spec; since = at; until = None } in
    let plans = t.plans ++ row ∷ [] in
    let made = required tt (not (list_any is_in_use t.plans) && nat_le at.0 t.horizon.0) (Ok (record t { plans = plans })) next is in
    omega (arith, ap number_of_rows (ok_inj (record t { plans = plans }) next made.1), length-append t.plans (row ∷ []))
event_rows (Plan at None) t next is =
    let plans = map (plan_ended at.0) t.plans in
    let test = list_any (λ (p : PlanRow). is_in_use p && nat_le p.since.0 at.0) t.plans in
    let made = required tt test (Ok (record t { plans = plans })) next is in
    omega (arith, ap number_of_rows (ok_inj (record t { plans = plans }) next made.1), length-map t.plans (plan_ended at.0))

pub told_rows : (events : List LogEvent) (t now : Told) → told_after events t ≡ Ok now
    → number_of_rows now + t.count ≤ number_of_rows t + now.count
told_rows [] t now is =
    let same = ok_inj t now is in
    omega (arith, ap number_of_rows same, ap (λ (s : Told). s.count) same)
told_rows (e ∷ events) t now is =
    let rest = λ (next : Told). told_after events (record next { count = suc t.count }) in
    let parts = required tt (nat_le (moment_of e) log_moment_limit) (after_event t e >>= rest) now is in
    let step = taken (after_event t e) rest now parts.1 in
    omega (arith, told_rows events (record step.0 { count = suc t.count }) now step.2, event_rows e t step.0 step.1)

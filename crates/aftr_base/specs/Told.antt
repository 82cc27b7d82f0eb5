-- What a log tells, and the same with its open rows ended at its horizon.
use Rattle.std.specs.Prelude.{ℕ, List, [], ◌∷◌, map, max, Option, Some}
use Rattle.std.specs.Option.{option_map_or}
use Rattle.aftr_base.specs.Value.{moment}
use Rattle.aftr_base.specs.declared.value.Moment.{Moment}
use Rattle.aftr_base.specs.declared.row.LeaseRow.{LeaseRow}
use Rattle.aftr_base.specs.declared.row.PlanRow.{PlanRow}
use Rattle.aftr_base.specs.declared.told.Told.{Told}

-- an open row ends at the horizon
abbrev pub until_of : ℕ → Option Moment → Moment
until_of horizon until = option_map_or (λ (m : Moment). m) until (moment horizon)

abbrev pub lease_closed : ℕ → LeaseRow → LeaseRow
lease_closed horizon l = record l { until = Some (until_of horizon l.until) }

abbrev pub plan_closed : ℕ → PlanRow → PlanRow
plan_closed horizon p = record p { until = Some (until_of horizon p.until) }

abbrev pub closed : Told → Told
closed t = record t { leases = map (lease_closed t.horizon.0) t.leases; plans = map (plan_closed t.horizon.0) t.plans }

-- the moment of an end, and 0 of a row that is open
abbrev pub end_or_none : Option Moment → ℕ
end_or_none until = option_map_or (λ (m : Moment). m.0) until 0

-- the greatest end of leases and of plans that ended
abbrev pub last_lease_end : List LeaseRow → ℕ
last_lease_end [] = 0
last_lease_end (l ∷ leases) = max (end_or_none l.until) (last_lease_end leases)

abbrev pub last_plan_end : List PlanRow → ℕ
last_plan_end [] = 0
last_plan_end (p ∷ plans) = max (end_or_none p.until) (last_plan_end plans)

-- the greatest moment that was told: the horizon and every end
abbrev pub end_of : Told → ℕ
end_of t = max t.horizon.0 (max (last_lease_end t.leases) (last_plan_end t.plans))

abbrev pub nothing_told : Told
nothing_told = record { leases = []; plans = []; horizon = moment 0; count = 0 }

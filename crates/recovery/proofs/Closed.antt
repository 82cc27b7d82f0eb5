-- What a restart tells once all rows have ended: it is sound, and no row is open.
use Rattle.std.proofs.Common.{◌≡◌, ℕ, ◌≤◌, false, List, [], ◌∷◌, map, All, Option, Some, None, refl}
use Rattle.std.specs.Prelude.{◌&&◌}
use Rattle.std.proofs.lemmas.List.Elements.{All-cons, All-map, All-nil, All-weaker}
use Rattle.aftr_base.specs.Limits.{log_moment_limit}
use Rattle.aftr_base.specs.Row.{is_open, is_in_use}
use Rattle.aftr_base.specs.Told.{closed, lease_closed, plan_closed, until_of}
use Rattle.aftr_base.specs.declared.value.Moment.{Moment}
use Rattle.aftr_base.specs.declared.row.LeaseRow.{LeaseRow}
use Rattle.aftr_base.specs.declared.row.PlanRow.{PlanRow}
use Rattle.aftr_base.specs.declared.told.Told.{Told}
use Rattle.aftr_base.proofs.Pairwise.{pairs_map}
use Rattle.lease_log.specs.Sound.{clash, EndsInTime, EndsSince, IsSound, IsSoundLease, IsSoundPlan}
use Rattle.recovery.specs.Closings.{AreEnded}

-- ---- no row is open

shut_leases : (at : ℕ) (ls : List LeaseRow) → All (λ l. is_open l ≡ false) (map (lease_closed at) ls)
shut_leases at [] = All-nil (λ l. is_open l ≡ false)
shut_leases at (l ∷ ls) = All-cons (λ l. is_open l ≡ false) (lease_closed at l) (map (lease_closed at) ls) refl (shut_leases at ls)

shut_plans : (at : ℕ) (ps : List PlanRow) → All (λ (p : PlanRow). is_in_use p ≡ false) (map (plan_closed at) ps)
shut_plans at [] = All-nil (λ (p : PlanRow). is_in_use p ≡ false)
shut_plans at (p ∷ ps) =
    All-cons (λ (p : PlanRow). is_in_use p ≡ false) (plan_closed at p) (map (plan_closed at) ps) refl (shut_plans at ps)

pub are_ended : (t : Told) (count : ℕ) → AreEnded (record (closed t) { count = count })
are_ended t count = record { leases = shut_leases t.horizon.0 t.leases; plans = shut_plans t.horizon.0 t.plans }

-- ---- the rows are sound

end_in_time : (at : ℕ) (until : Option Moment) → at ≤ log_moment_limit → EndsInTime until → EndsInTime (Some (until_of at until))
end_in_time at None in_time h = in_time
end_in_time at (Some m) in_time h = h

end_in_order : (at since : ℕ) (until : Option Moment) → since ≤ at → EndsSince since until → EndsSince since (Some (until_of at until))
end_in_order at since None begun h = begun
end_in_order at since (Some m) begun h = h

sound_lease : (at : ℕ) (l : LeaseRow) → at ≤ log_moment_limit → IsSoundLease at l → IsSoundLease at (lease_closed at l)
sound_lease at l in_time s = record {
  owner = s.owner;
  addr = s.addr;
  ports = s.ports;
  last = s.last;
  begun = s.begun;
  end = end_in_time at l.until in_time s.end;
  order = end_in_order at l.since.0 l.until s.begun s.order;
}

sound_plan : (at : ℕ) (p : PlanRow) → at ≤ log_moment_limit → IsSoundPlan at p → IsSoundPlan at (plan_closed at p)
sound_plan at p in_time s = record { spec = s.spec; begun = s.begun; end = end_in_time at p.until in_time s.end }

-- two rows that aren't both open
abbrev Apart : LeaseRow → LeaseRow → Type 0
Apart l m = clash l m ≡ false

abbrev NotBoth : PlanRow → PlanRow → Type 0
NotBoth p q = (is_in_use p && is_in_use q) ≡ false

pub sound_closed : (t : Told) (count : ℕ) → IsSound t → IsSound (record (closed t) { count = count })
sound_closed t count s =
    let at = t.horizon.0 in
    let lease = λ (l : LeaseRow) (h : IsSoundLease at l). sound_lease at l s.horizon h in
    let plan = λ (p : PlanRow) (h : IsSoundPlan at p). sound_plan at p s.horizon h in
    record {
      horizon = s.horizon;
      leases = All-map (IsSoundLease at) (lease_closed at) t.leases
          (All-weaker (IsSoundLease at) (λ l. IsSoundLease at (lease_closed at l)) lease t.leases s.leases);
      apart = pairs_map Apart Apart (lease_closed at) (λ l m h. refl) t.leases s.apart;
      plans = All-map (IsSoundPlan at) (plan_closed at) t.plans
          (All-weaker (IsSoundPlan at) (λ p. IsSoundPlan at (plan_closed at p)) plan t.plans s.plans);
      one_plan = pairs_map NotBoth NotBoth (plan_closed at) (λ p q h. refl) t.plans s.one_plan;
    }

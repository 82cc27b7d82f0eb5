-- What is told stays sound as further events are told.
use Rattle.std.proofs.Common.{◌≡◌, ℕ, ◌≤◌, suc, Bool, true, false, not, List, [], ◌∷◌, ◌++◌, map, All, refl, sym, subst, arith}
use Rattle.std.specs.Prelude.{◌&&◌, nat_le, Ok, Some, None}
use Rattle.std.specs.List.{list_all, list_any}
use Rattle.std.proofs.lemmas.Bool.{and_parts, leb-true}
use Rattle.std.proofs.lemmas.List.Elements.{All-push, All-weaker, All-nil, All-head, All-tail}
use Rattle.aftr_base.specs.Attempt.{◌>>=◌}
use Rattle.aftr_base.specs.Limits.{log_moment_limit}
use Rattle.aftr_base.specs.Plan.{is_plan, is_prefix6}
use Rattle.aftr_base.specs.Row.{is_open, is_in_use, overlaps, plan_ended}
use Rattle.aftr_base.specs.Telling.{after_event, is_lease_of, lease_told, lease_ended, moment_of, told_after}
use Rattle.aftr_base.specs.Telling.{may_open, may_close}
use Rattle.aftr_base.specs.Told.{nothing_told}
use Rattle.aftr_base.specs.declared.value.Ip4.{Ip4}
use Rattle.aftr_base.specs.declared.value.Moment.{Moment}
use Rattle.aftr_base.specs.declared.value.Subscriber.{Subscriber}
use Rattle.aftr_base.specs.declared.row.PlanRow.{PlanRow}
use Rattle.aftr_base.specs.declared.row.PlanSpec.{PlanSpec}
use Rattle.aftr_base.specs.declared.told.Told.{Told}
use Rattle.aftr_base.specs.declared.event.LogEvent.{LogEvent}
use Rattle.aftr_base.specs.declared.event.LogEvent.TheVariants.{Block, Horizon, Plan}
use Rattle.nat_events.specs.Grammar.{FitsBlock, FitsRecord}
use Rattle.lease_log.specs.Sound.{IsSound, IsSoundLease, IsSoundPlan}
use Rattle.lease_log.proofs.Requiring.{required, taken, ok_inj}
use Rattle.lease_log.proofs.SoundRows.{lease_under, plan_under, leases_ended, begun_before, apart_ended, apart_told}
use Rattle.lease_log.proofs.SoundRows.{plans_ended, one_plan_ended, one_plan_told}

pub sound_nothing : IsSound nothing_told
sound_nothing = record {
  horizon = omega arith;
  leases = All-nil (IsSoundLease 0);
  apart = λ i j d before within. absurd (omega arith);
  plans = All-nil (IsSoundPlan 0);
  one_plan = λ i j d before within. absurd (omega arith);
}

sound_opened : {t : Told} {owner : Subscriber} {addr : Ip4} {first last : ℕ} {at : Moment} → IsSound t
    → FitsBlock owner addr first last at
    → may_open t owner addr first last at.0 ≡ true
    → IsSound record t { leases = t.leases ++ lease_told owner addr first last at ∷ [] }
sound_opened {t} {owner} {addr} {first} {last} {at} s fits may =
    let free = list_all (λ l. not (is_open l && overlaps l addr first last)) t.leases in
    let p₁ = and_parts (is_prefix6 owner.0 && nat_le first last && nat_le at.0 t.horizon.0) free may in
    let p₂ = and_parts (is_prefix6 owner.0 && nat_le first last) (nat_le at.0 t.horizon.0) p₁.0 in
    let p₃ = and_parts (is_prefix6 owner.0) (nat_le first last) p₂.0 in
    record {
      horizon = s.horizon;
      leases = All-push (IsSoundLease t.horizon.0) t.leases (lease_told owner addr first last at) s.leases record {
        owner = p₃.0;
        addr = fits.address;
        ports = leb-true first last p₃.1;
        last = fits.last_port;
        begun = leb-true at.0 t.horizon.0 p₂.1;
        end = tt;
        order = tt;
      };
      apart = apart_told owner addr first last at t.leases p₁.1 s.apart;
      plans = s.plans;
      one_plan = s.one_plan;
    }

sound_closed : {t : Told} (owner : Subscriber) (addr : Ip4) (first last : ℕ) {at : Moment} → IsSound t → at.0 ≤ log_moment_limit
    → may_close t owner addr first last at.0 ≡ true
    → IsSound record t { leases = map (lease_ended owner addr first last at) t.leases }
sound_closed {t} owner addr first last {at} s in_time may = record {
  horizon = s.horizon;
  leases = leases_ended (is_lease_of owner addr first last) at.0 t.horizon.0 t.leases in_time
      (begun_before owner addr first last at t.leases s.leases s.apart may) s.leases;
  apart = apart_ended owner addr first last at t.leases s.apart;
  plans = s.plans;
  one_plan = s.one_plan;
}

sound_reach : (t : Told) (reach : Moment) → IsSound t → t.horizon.0 ≤ reach.0 → reach.0 ≤ log_moment_limit
    → IsSound record t { horizon = reach }
sound_reach t reach s rises in_time = record {
  horizon = in_time;
  leases = All-weaker (IsSoundLease t.horizon.0) (IsSoundLease reach.0) (lease_under t.horizon.0 reach.0 rises) t.leases s.leases;
  apart = s.apart;
  plans = All-weaker (IsSoundPlan t.horizon.0) (IsSoundPlan reach.0) (plan_under t.horizon.0 reach.0 rises) t.plans s.plans;
  one_plan = s.one_plan;
}

not_true : (b : Bool) → not b ≡ true → b ≡ false
not_true true h = sym h
not_true false h = refl

sound_planned : (t : Told) (spec : PlanSpec) (at : Moment) → IsSound t → is_plan spec ≡ true
    → (not (list_any is_in_use t.plans) && nat_le at.0 t.horizon.0) ≡ true
    → IsSound record t { plans = t.plans ++ record { spec = spec; since = at; until = None } ∷ [] }
sound_planned t spec at s ok may =
    let parts = and_parts (not (list_any is_in_use t.plans)) (nat_le at.0 t.horizon.0) may in
    let row : PlanRow = record { spec = spec; since = at; until = None } in
    record {
      horizon = s.horizon;
      leases = s.leases;
      apart = s.apart;
      plans = All-push (IsSoundPlan t.horizon.0) t.plans row s.plans record {
        spec = ok;
        begun = leb-true at.0 t.horizon.0 parts.1;
        end = tt;
      };
      one_plan = one_plan_told row t.plans (not_true (list_any is_in_use t.plans) parts.0);
    }

sound_unplanned : (t : Told) (at : Moment) → IsSound t → at.0 ≤ log_moment_limit
    → IsSound record t { plans = map (plan_ended at.0) t.plans }
sound_unplanned t at s in_time = record {
  horizon = s.horizon;
  leases = s.leases;
  apart = s.apart;
  plans = plans_ended at.0 t.horizon.0 t.plans in_time s.plans;
  one_plan = one_plan_ended at.0 t.plans s.one_plan;
}

sound_event : (t next : Told) (e : LogEvent) → IsSound t → FitsRecord e → moment_of e ≤ log_moment_limit → after_event t e ≡ Ok next
    → IsSound next
sound_event t next (Block true owner addr first last at) s h in_time is =
    let parts = required tt (may_open t owner addr first last at.0) _ next is in
    subst IsSound (ok_inj _ next parts.1) (sound_opened s h parts.0)
sound_event t next (Block false owner addr first last at) s h in_time is =
    let parts = required tt (may_close t owner addr first last at.0) _ next is in
    subst IsSound (ok_inj _ next parts.1) (sound_closed owner addr first last s in_time parts.0)
sound_event t next (Horizon at reach) s h in_time is =
    let parts = required tt (nat_le t.horizon.0 reach.0 && nat_le reach.0 log_moment_limit) _ next is in
    let within = and_parts (nat_le t.horizon.0 reach.0) (nat_le reach.0 log_moment_limit) parts.0 in
    subst IsSound (ok_inj _ next parts.1)
    (sound_reach t reach s (leb-true t.horizon.0 reach.0 within.0) (leb-true reach.0 log_moment_limit within.1))
sound_event t next (Plan at (Some spec)) s h in_time is =
    let parts = required tt (not (list_any is_in_use t.plans) && nat_le at.0 t.horizon.0) _ next is in
    subst IsSound (ok_inj _ next parts.1) (sound_planned t spec at s h.1.0 parts.0)
sound_event t next (Plan at None) s h in_time is =
    let parts = required tt (list_any (λ (p : PlanRow). is_in_use p && nat_le p.since.0 at.0) t.plans) _ next is in
    subst IsSound (ok_inj _ next parts.1) (sound_unplanned t at s in_time)

-- the count says nothing of the rows
sound_counted : (t : Told) (count : ℕ) → IsSound t → IsSound record t { count = count }
sound_counted t count s = record { horizon = s.horizon; leases = s.leases; apart = s.apart; plans = s.plans; one_plan = s.one_plan }

-- events that are told leave what is told sound
pub sound_told : (events : List LogEvent) (t now : Told) → IsSound t → All FitsRecord events → told_after events t ≡ Ok now → IsSound now
sound_told [] t now s all is = subst IsSound (ok_inj t now is) s
sound_told (e ∷ events) t now s all is =
    let rest = λ (next : Told). told_after events (record next { count = suc t.count }) in
    let parts = required tt (nat_le (moment_of e) log_moment_limit) (after_event t e >>= rest) now is in
    let step = taken (after_event t e) rest now parts.1 in
    let in_time = leb-true (moment_of e) log_moment_limit parts.0 in
    let next = sound_event t step.0 e s (All-head FitsRecord e events all) in_time step.1 in
    sound_told events (record step.0 { count = suc t.count }) now (sound_counted step.0 (suc t.count) next)
    (All-tail FitsRecord e events all) step.2

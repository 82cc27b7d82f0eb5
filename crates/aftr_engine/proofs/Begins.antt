-- What a restart hands on is what a run may start from.
use Rattle.std.proofs.Common.{◌≡◌, inr, ℕ, ◌+◌, ◌≤◌, Bool, true, false, not, ◌&&◌, List, [], ◌∷◌, nat_le, is_none, Option, Some}
use Rattle.std.proofs.Common.{None, Result, Ok, refl, sym, ap, ◌∙◌, subst, arith}
use Rattle.std.specs.List.{AllByRecursion, list_all}
use Rattle.std.proofs.lemmas.Bool.{and_from, le-leb}
use Rattle.std.proofs.lemmas.List.Elements.{All-from_recursion, All-weaker, recursion_from_All}
use Rattle.aftr_base.specs.Limits.{log_moment_limit}
use Rattle.aftr_base.specs.Plan.{is_prefix6}
use Rattle.aftr_base.specs.Row.{is_in_use, is_open}
use Rattle.aftr_base.specs.Told.{end_of, end_or_none, last_lease_end, last_plan_end}
use Rattle.aftr_base.specs.declared.row.LeaseRow.{LeaseRow}
use Rattle.aftr_base.specs.declared.row.PlanRow.{PlanRow}
use Rattle.aftr_base.specs.declared.told.Told.{Told}
use Rattle.aftr_base.specs.declared.value.Moment.{Moment}
use Rattle.cfg_text.specs.Accepted.{is_accepted}
use Rattle.cfg_text.specs.declared.config.Config.{Config}
use Rattle.lease_log.specs.Sound.{EndsInTime, EndsSince, IsSound, IsSoundLease, IsSoundPlan}
use Rattle.recovery.specs.Closings.{AreEnded, IsPartlyClosed}
use Rattle.lease_log.specs.Log.{Log}
use Rattle.plant_io.specs.Story.{Story, content, sent}
use Rattle.recovery.specs.Answers.{HasRecovered}
use Rattle.recovery.specs.declared.Ready.{Ready}
use Rattle.xlate_core.specs.State.{State}
use Rattle.xlate_core.specs.Run.{start, told_of}
use Rattle.aftr_engine.specs.declared.session.Session.{Session}
use Rattle.aftr_engine.specs.session.Begun.{HasBegun, config_of, told_at}
use Rattle.egress_gate.specs.declared.tally.Tally.{Tally}
use Rattle.aftr_engine.specs.engine.Running.{KeepsRoom, KeepsRows}
use Rattle.aftr_engine.specs.session.Stops.{AccountsFor}
use Rattle.aftr_engine.proofs.Endings.{HasEnded, HasOpened}
use Rattle.aftr_base.specs.declared.outcome.Status.{Status}
use Rattle.disk_journal.specs.Standing.{Standing}
use Rattle.plant_io.specs.Stops.{StopsLeave}
use Rattle.plant_io.specs.Uses.{PlantUse, SourceUse}
use Rattle.xlate_core.specs.Valid.{IsOnWire, IsStart, is_closed, is_lease_by, is_told_by}

-- ---- a test that each item passes

passes : {X : Type 0} (p : X → Bool) (xs : List X) → AllByRecursion (λ x. p x ≡ true) xs → list_all p xs ≡ true
passes p [] all = refl
passes p (x ∷ xs) all = and_from (p x) (list_all p xs) all.0 (passes p xs all.1)

not_false : (b : Bool) → b ≡ false → not b ≡ true
not_false b is = ap not is

-- ---- ends

-- the greatest end is no less than each, and keeps to the limit
each_end : (leases : List LeaseRow) → AllByRecursion (λ (l : LeaseRow). end_or_none l.until ≤ last_lease_end leases) leases
each_end [] = tt
each_end (l ∷ leases) = (omega arith, later leases (each_end leases))
  where
    later : (ls : List LeaseRow) → AllByRecursion (λ (m : LeaseRow). end_or_none m.until ≤ last_lease_end leases) ls
        → AllByRecursion (λ (m : LeaseRow). end_or_none m.until ≤ last_lease_end (l ∷ leases)) ls
    later [] all = tt
    later (m ∷ ls) all = (omega (arith, all.0), later ls all.1)

end_in_time : (u : Option Moment) → EndsInTime u → end_or_none u ≤ log_moment_limit
end_in_time None end = omega arith
end_in_time (Some m) end = end

last_in_time : (horizon : ℕ) (leases : List LeaseRow) → AllByRecursion (IsSoundLease horizon) leases
    → last_lease_end leases ≤ log_moment_limit
last_in_time horizon [] all = omega arith
last_in_time horizon (l ∷ leases) all = omega (arith, end_in_time l.until all.0.end, last_in_time horizon leases all.1)

plan_in_time : (horizon : ℕ) (plans : List PlanRow) → AllByRecursion (IsSoundPlan horizon) plans → last_plan_end plans ≤ log_moment_limit
plan_in_time horizon [] all = omega arith
plan_in_time horizon (p ∷ plans) all = omega (arith, end_in_time p.until all.0.end, plan_in_time horizon plans all.1)

-- ---- a lease that has ended

lasts_by : (since latest : ℕ) (u : Option Moment) → is_none u ≡ false → EndsSince since u → end_or_none u ≤ latest
    → (elim u [ None ↦ nat_le since 0 | Some until ↦ nat_le since until.0 && nat_le until.0 latest ]) ≡ true
lasts_by since latest None ended order end = absurd (cc ended)
lasts_by since latest (Some m) ended order end =
    and_from (nat_le since m.0) (nat_le m.0 latest) (le-leb since m.0 order) (le-leb m.0 latest end)

lease_by : (horizon latest : ℕ) (l : LeaseRow) → IsSoundLease horizon l → is_open l ≡ false → end_or_none l.until ≤ latest
    → is_lease_by 0 latest l ≡ true
lease_by horizon latest l sound ended end =
    and_from (is_prefix6 l.owner.0 && nat_le l.first l.last)
    (elim l.until [ None ↦ nat_le l.since.0 0 | Some until ↦ nat_le l.since.0 until.0 && nat_le until.0 latest ])
    (and_from (is_prefix6 l.owner.0) (nat_le l.first l.last) sound.owner (le-leb l.first l.last sound.ports))
    (lasts_by l.since.0 latest l.until ended sound.order end)

leases_by : (horizon latest last : ℕ) (leases : List LeaseRow) → last ≤ latest → AllByRecursion (IsSoundLease horizon) leases
    → AllByRecursion (λ (l : LeaseRow). is_open l ≡ false) leases → AllByRecursion (λ (l : LeaseRow). end_or_none l.until ≤ last) leases
    → AllByRecursion (λ (l : LeaseRow). is_lease_by 0 latest l ≡ true) leases
leases_by horizon latest last [] le sound ended ends = tt
leases_by horizon latest last (l ∷ leases) le sound ended ends = (
  lease_by horizon latest l sound.0 ended.0 (omega (arith, le, ends.0)),
  leases_by horizon latest last leases le sound.1 ended.1 ends.1,
)

on_wire : (horizon : ℕ) (l : LeaseRow) → IsSoundLease horizon l → IsOnWire l
on_wire horizon l sound = record { owner = sound.owner; addr = sound.addr; range = sound.ports; last = sound.last }

-- ---- so a run may start there

module _ (told : Told) (sound : IsSound told) (ended : AreEnded told) where
  sound_leases : AllByRecursion (IsSoundLease told.horizon.0) told.leases
  sound_leases = recursion_from_All (IsSoundLease told.horizon.0) told.leases sound.leases

  sound_plans : AllByRecursion (IsSoundPlan told.horizon.0) told.plans
  sound_plans = recursion_from_All (IsSoundPlan told.horizon.0) told.plans sound.plans

  all_closed : AllByRecursion (λ (l : LeaseRow). is_open l ≡ false) told.leases
  all_closed = recursion_from_All (λ (l : LeaseRow). is_open l ≡ false) told.leases ended.leases

  told_in_time : end_of told ≤ log_moment_limit
  told_in_time =
      omega (arith, sound.horizon, last_in_time told.horizon.0 told.leases sound_leases, plan_in_time told.horizon.0 told.plans sound_plans)

  pub begins : (c : Config) → is_accepted c ≡ true → IsStart c told
  begins c ok = record {
    accepted = ok;
    leases = All-from_recursion (λ (l : LeaseRow). is_lease_by 0 (end_of told) l ≡ true) told.leases
        (leases_by told.horizon.0 (end_of told) (last_lease_end told.leases) told.leases (omega arith) sound_leases all_closed
        (each_end told.leases));
    ended = ended.leases;
    wire = All-weaker (IsSoundLease told.horizon.0) IsOnWire (on_wire told.horizon.0) told.leases sound.leases;
    moments = told_in_time;
  }

  pub closed : is_closed told ≡ true
  closed =
      let none_open = λ (l : LeaseRow). not (is_open l) in
      let none_used = λ (p : PlanRow). not (is_in_use p) in
      and_from (list_all none_open told.leases) (list_all none_used told.plans)
      (passes none_open told.leases
      (recursion_from_All (λ (l : LeaseRow). none_open l ≡ true) told.leases
      (All-weaker (λ (l : LeaseRow). is_open l ≡ false) (λ (l : LeaseRow). none_open l ≡ true)
      (λ l is. not_false (is_open l) is) told.leases ended.leases)))
      (passes none_used told.plans
      (recursion_from_All (λ (p : PlanRow). none_used p ≡ true) told.plans
      (All-weaker (λ (p : PlanRow). is_in_use p ≡ false) (λ (p : PlanRow). none_used p ≡ true)
      (λ p is. not_false (is_in_use p) is) told.plans ended.plans)))

  pub timely : is_told_by log_moment_limit told ≡ true
  timely =
      let lease_early = λ (l : LeaseRow). nat_le l.since.0 log_moment_limit in
      let plan_early = λ (p : PlanRow). nat_le p.since.0 log_moment_limit in
      let lease_is = λ (l : LeaseRow) (s : IsSoundLease told.horizon.0 l).
      le-leb l.since.0 log_moment_limit (omega (arith, s.begun, sound.horizon)) in
      let plan_is = λ (p : PlanRow) (s : IsSoundPlan told.horizon.0 p).
      le-leb p.since.0 log_moment_limit (omega (arith, s.begun, sound.horizon)) in
      and_from (nat_le (end_of told) log_moment_limit && list_all lease_early told.leases) (list_all plan_early told.plans)
      (and_from (nat_le (end_of told) log_moment_limit) (list_all lease_early told.leases)
      (le-leb (end_of told) log_moment_limit told_in_time)
      (passes lease_early told.leases
      (recursion_from_All (λ (l : LeaseRow). lease_early l ≡ true) told.leases
      (All-weaker (IsSoundLease told.horizon.0) (λ (l : LeaseRow). lease_early l ≡ true) lease_is told.leases sound.leases))))
      (passes plan_early told.plans
      (recursion_from_All (λ (p : PlanRow). plan_early p ≡ true) told.plans
      (All-weaker (IsSoundPlan told.horizon.0) (λ (p : PlanRow). plan_early p ≡ true) plan_is told.plans sound.plans)))

-- ---- so a session begins from what was handed on

pub config_same : {c : Config} {told : Told} {s : Session} → HasBegun c told s → config_of s ≡ c
config_same begun = ap (λ (state : State). state.config) begun.state

pub told_same : {c : Config} {told : Told} {s : Session} → HasBegun c told s → told_at s ≡ told
told_same {c} {told} {s} begun =
    ap (λ (state : State). told_of state s.gate.count) begun.state ∙ ap (told_of (start c told)) begun.count

-- what it has done is what a run does from there
pub ended_from : {c : Config} {told : Told} {s : Session} {journal : Standing} {input : SourceUse} {plant : PlantUse} {t : Tally}
    {status : Status} → HasBegun c told s → s.journal ≡ journal
    → HasEnded (config_of s) (told_at s) (s.journal.at + 1) input plant t status → HasEnded c told (journal.at + 1) input plant t status
ended_from {c} {told} {s} {journal} {input} {plant} {t} {status} begun stands ended =
    subst (λ (j : Standing). HasEnded c told (j.at + 1) input plant t status) stands
    (subst (λ (from : Told). HasEnded c from (s.journal.at + 1) input plant t status) (told_same begun)
    (subst (λ (x : Config). HasEnded x (told_at s) (s.journal.at + 1) input plant t status) (config_same begun) ended))

pub accounts_from : {c : Config} {told : Told} {s : Session} (input : List ℕ) {past : List ℕ} {first last : Story} → HasBegun c told s
    → StopsLeave first last (AccountsFor (config_of s) (told_at s) input past) → StopsLeave first last (AccountsFor c told input past)
accounts_from {c} {told} {s} input {past} {first} {last} begun stops =
    subst (λ (from : Told). StopsLeave first last (AccountsFor c from input past)) (told_same begun)
    (subst (λ (x : Config). StopsLeave first last (AccountsFor x (told_at s) input past)) (config_same begun) stops)

-- closing all rows closes a part of them
pub rows_kept : {limit : ℕ} {before now : List ℕ} {ready : Ready} → HasRecovered limit before now ready → KeepsRows before now
rows_kept {ready = ready} has = inr (record {
  was = has.was;
  log = record { told = ready.told; tail = ready.journal.at + 1 };
  was_log = has.was_log;
  is_log = has.log;
  part = subst (IsPartlyClosed has.was.told) (sym has.told) has.closed;
})

same_log : {l m : Log} → (let r : Result Log ℕ = Ok l in r ≡ Ok m) → l ≡ m
same_log is = cc

-- nor has the log more bytes that count than before, or than the limit
pub room_recovered : {limit : ℕ} {before now : List ℕ} {ready : Ready} → HasRecovered limit before now ready → KeepsRoom limit before now
room_recovered has = λ was log was_is log_is.
    let before = ap (λ (l : Log). l.tail) (same_log (sym has.was_log ∙ was_is)) in
    let after = ap (λ (l : Log). l.tail) (same_log (sym has.log ∙ log_is)) in
    omega (arith, has.room, before, after)

pub room_same : (limit : ℕ) (file : List ℕ) → KeepsRoom limit file file
room_same limit file = λ was log was_is log_is.
    let same = ap (λ (l : Log). l.tail) (same_log (sym was_is ∙ log_is)) in
    omega (arith, same)

pub opened : {c : Config} {before now : Story} {ready : Ready} → HasRecovered c.log_limit (content before) (content now) ready
    → sent now ≡ sent before → HasOpened c before now ready.told (ready.journal.at + 1)
opened has unsent = record {
  onto = record { was = has.was.told; tells = (has.was.tail, has.was_log); closed = has.told };
  room = λ was is. room_recovered has was _ is has.log;
  unsent = unsent;
}

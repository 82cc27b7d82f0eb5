-- Rows that are sound stay so as rows are added and end, and as the horizon rises.
use Rattle.std.proofs.Common.{◌≡◌, ℕ, ◌≤◌, Bool, true, false, cond, not, List, [], ◌∷◌, ◌++◌, get_or, map, All, AllPairs, refl, sym}
use Rattle.std.proofs.Common.{ap, arith}
use Rattle.std.specs.Prelude.{◌&&◌, nat_le, Some}
use Rattle.std.specs.List.{list_all, list_any}
use Rattle.std.proofs.lemmas.Bool.{leb-true}
use Rattle.std.proofs.lemmas.List.Elements.{All-map, All-weaker}
use Rattle.std.proofs.lemmas.List.Quantifiers.{all_pairs_push}
use Rattle.aftr_base.specs.Limits.{log_moment_limit}
use Rattle.aftr_base.specs.Row.{is_open, is_in_use, overlaps, ended, plan_ended}
use Rattle.aftr_base.specs.Telling.{is_lease_of, lease_ended, lease_told}
use Rattle.aftr_base.specs.declared.value.Ip4.{Ip4}
use Rattle.aftr_base.specs.declared.value.Moment.{Moment}
use Rattle.aftr_base.specs.declared.value.Subscriber.{Subscriber}
use Rattle.aftr_base.specs.declared.row.LeaseRow.{LeaseRow}
use Rattle.aftr_base.specs.declared.row.PlanRow.{PlanRow}
use Rattle.aftr_base.proofs.Founds.{all_pass, none_any}
use Rattle.aftr_base.proofs.Pairwise.{pairs_map}
use Rattle.lease_log.specs.Sound.{IsSoundLease, IsSoundPlan, clash}
use Rattle.lease_log.proofs.OpenLeases.{one_any, one_lease}

-- ---- the horizon rises

pub lease_under : (low high : ℕ) → low ≤ high → (l : LeaseRow) → IsSoundLease low l → IsSoundLease high l
lease_under low high rises l s = record {
  owner = s.owner;
  addr = s.addr;
  ports = s.ports;
  last = s.last;
  begun = omega (arith, s.begun);
  end = s.end;
  order = s.order;
}

pub plan_under : (low high : ℕ) → low ≤ high → (p : PlanRow) → IsSoundPlan low p → IsSoundPlan high p
plan_under low high rises p s = record { spec = s.spec; begun = omega (arith, s.begun); end = s.end }

-- ---- leases

-- an end that a test chose
end_by : (horizon at : ℕ) (l : LeaseRow) (b : Bool) → at ≤ log_moment_limit → (b ≡ true → l.since.0 ≤ at) → IsSoundLease horizon l
    → IsSoundLease horizon (cond b (ended at l) l)
end_by horizon at l true in_time begun s = record {
  owner = s.owner;
  addr = s.addr;
  ports = s.ports;
  last = s.last;
  begun = s.begun;
  end = in_time;
  order = begun refl;
}
end_by horizon at l false in_time begun s = s

open_by : (at : ℕ) (l : LeaseRow) (b : Bool) → is_open l ≡ false → is_open (cond b (ended at l) l) ≡ false
open_by at l true shut = refl
open_by at l false shut = shut

clash_by : (at : ℕ) (l m : LeaseRow) (b c : Bool) → clash l m ≡ false → clash (cond b (ended at l) l) (cond c (ended at m) m) ≡ false
clash_by at l m true c h = refl
clash_by at l m false true h = and_false (is_open l)
  where
    and_false : (b : Bool) → (b && false && overlaps l m.addr m.first m.last) ≡ false
    and_false true = refl
    and_false false = refl
clash_by at l m false false h = h

pub leases_ended : (is : LeaseRow → Bool) (at horizon : ℕ) (leases : List LeaseRow) → at ≤ log_moment_limit
    → All (λ (l : LeaseRow). is l ≡ true → l.since.0 ≤ at) leases
    → All (IsSoundLease horizon) leases
    → All (IsSoundLease horizon) (map (λ l. cond (is l) (ended at l) l) leases)
leases_ended is at horizon leases in_time begun all =
    All-map (IsSoundLease horizon) (λ l. cond (is l) (ended at l) l) leases
    (λ i d within. let l = get_or leases i d in end_by horizon at l (is l) in_time (begun i d within) (all i d within))

-- the lease that may close began no later
pub begun_before : (owner : Subscriber) (addr : Ip4) (first last : ℕ) (at : Moment) {horizon : ℕ} (leases : List LeaseRow)
    → All (IsSoundLease horizon) leases
    → AllPairs (λ l m. clash l m ≡ false) leases
    → list_any (λ (l : LeaseRow). is_lease_of owner addr first last l && nat_le l.since.0 at.0) leases ≡ true
    → All (λ (l : LeaseRow). is_lease_of owner addr first last l ≡ true → l.since.0 ≤ at.0) leases
begun_before owner addr first last at {horizon} leases all apart may =
    let one = one_lease owner addr first last leases (λ i d within. (all i d within).ports) apart in
    let late = one_any (is_lease_of owner addr first last) (λ (l : LeaseRow). nat_le l.since.0 at.0) leases one may in
    λ i d within is. leb-true (get_or leases i d).since.0 at.0 (late i d within is)

pub apart_ended : (owner : Subscriber) (addr : Ip4) (first last : ℕ) (at : Moment) (leases : List LeaseRow)
    → AllPairs (λ l m. clash l m ≡ false) leases → AllPairs (λ l m. clash l m ≡ false) (map (lease_ended owner addr first last at) leases)
apart_ended owner addr first last at leases apart =
    let is = is_lease_of owner addr first last in
    pairs_map (λ l m. clash l m ≡ false) (λ l m. clash l m ≡ false) (lease_ended owner addr first last at)
    (λ l m h. clash_by at.0 l m (is l) (is m) h) leases apart

clash_free : (is shares : Bool) → not (is && shares) ≡ true → (is && true && shares) ≡ false
clash_free true true h = sym h
clash_free true false h = refl
clash_free false shares h = refl

pub apart_told : (owner : Subscriber) (addr : Ip4) (first last : ℕ) (at : Moment) (leases : List LeaseRow)
    → list_all (λ l. not (is_open l && overlaps l addr first last)) leases ≡ true → AllPairs (λ l m. clash l m ≡ false) leases
    → AllPairs (λ l m. clash l m ≡ false) (leases ++ lease_told owner addr first last at ∷ [])
apart_told owner addr first last at leases free apart =
    all_pairs_push (λ l m. clash l m ≡ false) leases (lease_told owner addr first last at) apart
    (All-weaker (λ l. not (is_open l && overlaps l addr first last) ≡ true) (λ l. clash l (lease_told owner addr first last at) ≡ false)
    (λ l h. clash_free (is_open l) (overlaps l addr first last) h) leases
    (all_pass (λ l. not (is_open l && overlaps l addr first last)) leases free))

-- ---- plans

plan_end_by : (horizon at : ℕ) (p : PlanRow) (b : Bool) → at ≤ log_moment_limit → IsSoundPlan horizon p
    → IsSoundPlan horizon (cond b (record p { until = Some record { 0 = at } }) p)
plan_end_by horizon at p true in_time s = record { spec = s.spec; begun = s.begun; end = in_time }
plan_end_by horizon at p false in_time s = s

pub plans_ended : (at horizon : ℕ) (plans : List PlanRow) → at ≤ log_moment_limit → All (IsSoundPlan horizon) plans
    → All (IsSoundPlan horizon) (map (plan_ended at) plans)
plans_ended at horizon plans in_time all =
    All-map (IsSoundPlan horizon) (plan_ended at) plans
    (All-weaker (IsSoundPlan horizon) (λ p. IsSoundPlan horizon (plan_ended at p)) (λ p s. plan_end_by horizon at p (is_in_use p) in_time s)
    plans all)

used_by : (at : ℕ) (p : PlanRow) (b : Bool) → is_in_use p ≡ b → is_in_use (cond b (record p { until = Some record { 0 = at } }) p) ≡ false
used_by at p true h = refl
used_by at p false h = h

pub one_plan_ended : (at : ℕ) (plans : List PlanRow) → AllPairs (λ (p q : PlanRow). (is_in_use p && is_in_use q) ≡ false) plans
    → AllPairs (λ (p q : PlanRow). (is_in_use p && is_in_use q) ≡ false) (map (plan_ended at) plans)
one_plan_ended at plans one =
    pairs_map (λ (p q : PlanRow). (is_in_use p && is_in_use q) ≡ false)
    (λ (p q : PlanRow). (is_in_use p && is_in_use q) ≡ false) (plan_ended at)
    (λ p q h. ap (λ (b : Bool). b && is_in_use (plan_ended at q)) (used_by at p (is_in_use p) refl)) plans one

and_first_false : (a b : Bool) → a ≡ false → (a && b) ≡ false
and_first_false a b h = ap (λ (v : Bool). v && b) h

pub one_plan_told : (p : PlanRow) (plans : List PlanRow) → list_any is_in_use plans ≡ false
    → AllPairs (λ (p q : PlanRow). (is_in_use p && is_in_use q) ≡ false) (plans ++ p ∷ [])
one_plan_told p plans none =
    let unused = none_any is_in_use plans none in
    all_pairs_push (λ (p q : PlanRow). (is_in_use p && is_in_use q) ≡ false) plans p
    (λ i j d before within. and_first_false (is_in_use (get_or plans i d)) (is_in_use (get_or plans j d)) (unused i d (omega arith)))
    (All-weaker (λ (q : PlanRow). is_in_use q ≡ false) (λ (q : PlanRow). (is_in_use q && is_in_use p) ≡ false)
    (λ q h. and_first_false (is_in_use q) (is_in_use p) h) plans unused)

-- Closing rows at the horizon changes no names.
use Rattle.std.proofs.Common.{◌≡◌, inl, inr, ℕ, suc, ◌≤◌, Bool, true, false, cond, List, [], ◌∷◌, length, map, filter, take, All}
use Rattle.std.proofs.Common.{refl, sym, ap, ap₂, ◌∙◌, subst}
use Rattle.std.specs.Prelude.{◌&&◌, ◌==◌, ⊤, nat_le, Ok, Some, None}
use Rattle.std.specs.List.{list_any}
use Rattle.std.proofs.lemmas.Bool.{and_parts}
use Rattle.std.proofs.lemmas.List.Elements.{All-append, All-cons, All-head, All-nil, All-tail, All-take}
use Rattle.aftr_base.specs.Attempt.{◌>>=◌}
use Rattle.aftr_base.specs.Limits.{log_moment_limit}
use Rattle.aftr_base.specs.Row.{is_open, is_in_use, ended}
use Rattle.aftr_base.specs.Telling.{after_event, is_lease_of, lease_ended, may_close, moment_of, told_after}
use Rattle.aftr_base.specs.Told.{lease_closed}
use Rattle.aftr_base.specs.Value.{ip4_eq, subscriber_eq}
use Rattle.aftr_base.specs.declared.value.Ip4.{Ip4}
use Rattle.aftr_base.specs.declared.value.Moment.{Moment}
use Rattle.aftr_base.specs.declared.value.Subscriber.{Subscriber}
use Rattle.aftr_base.specs.declared.row.LeaseRow.{LeaseRow}
use Rattle.aftr_base.specs.declared.row.PlanRow.{PlanRow}
use Rattle.aftr_base.specs.declared.told.Told.{Told}
use Rattle.aftr_base.specs.declared.event.LogEvent.{LogEvent}
use Rattle.aftr_base.specs.declared.event.LogEvent.TheVariants.{Block, Horizon, Plan}
use Rattle.plant_io.specs.Story.{Story, content, IsImage}
use Rattle.plant_io.specs.Stops.{StopsLeave}
use Rattle.plant_io.proofs.Images.{content_is_image}
use Rattle.lease_log.specs.Log.{Log, log_of}
use Rattle.lease_log.proofs.LogSteps.{log_inj}
use Rattle.lease_log.proofs.Requiring.{ok_inj, required, taken}
use Rattle.trace_query.specs.Logs.{AreBelieved, KeepsNames}
use Rattle.trace_query.specs.Names.{holds, names_of}
use Rattle.recovery.specs.Closings.{closings_of, lease_closing, lease_closings, plan_closings, IsPartlyClosed}
use Rattle.recovery.specs.Laws.{EachClosingIsBelieved, EachClosingKeepsNames, IsLeft, RecoveredKeepsNames}
use Rattle.recovery.specs.Leaves.{RecoverLeaves}
use Rattle.recovery.proofs.Ending.{closed_open}

-- ---- leases that change, but not in who they are and when they hold

names_step : (b : Bool) (x y : LeaseRow) (xs ys : List LeaseRow) → x.owner ≡ y.owner
    → map (λ (l : LeaseRow). l.owner) xs ≡ map (λ (l : LeaseRow). l.owner) ys
    → map (λ (l : LeaseRow). l.owner) (cond b (x ∷ xs) xs) ≡ map (λ (l : LeaseRow). l.owner) (cond b (y ∷ ys) ys)
names_step true x y xs ys own same = ap₂ (λ (s : Subscriber) (others : List Subscriber). s ∷ others) own same
names_step false x y xs ys own same = same

names_map : (p : LeaseRow → Bool) (f : LeaseRow → LeaseRow) → ((l : LeaseRow) → p (f l) ≡ p l)
    → ((l : LeaseRow) → (f l).owner ≡ l.owner) → (ls : List LeaseRow)
    → map (λ (l : LeaseRow). l.owner) (filter p (map f ls)) ≡ map (λ (l : LeaseRow). l.owner) (filter p ls)
names_map p f holds_too own [] = refl
names_map p f holds_too own (l ∷ ls) =
    let kept = filter p (map f ls) in
    ap (λ (b : Bool). map (λ (x : LeaseRow). x.owner) (cond b (f l ∷ kept) kept)) (holds_too l)
    ∙ names_step (p l) (f l) l kept (filter p ls) (own l) (names_map p f holds_too own ls)

-- an open lease that ends at the horizon holds what it held
holds_ended : {horizon at : ℕ} (l : LeaseRow) (b : Bool) → at ≡ horizon → (b ≡ true → is_open l ≡ true)
    → (addr : Ip4) (port moment : ℕ) → holds horizon addr port moment (cond b (ended at l) l) ≡ holds horizon addr port moment l
holds_ended {horizon} {at} l true same lasts addr port moment =
    ap (λ (n : ℕ). holds horizon addr port moment (ended n l)) same
    ∙ ap (holds horizon addr port moment) (closed_open horizon l (lasts refl))
holds_ended {horizon} {at} l false same lasts addr port moment = refl

own_ended : (at : ℕ) (l : LeaseRow) (b : Bool) → (cond b (ended at l) l).owner ≡ l.owner
own_ended at l true = refl
own_ended at l false = refl

closes_open : (owner : Subscriber) (addr : Ip4) (first last : ℕ) (l : LeaseRow) → is_lease_of owner addr first last l ≡ true
    → is_open l ≡ true
closes_open owner addr first last l h =
    let a = and_parts (is_open l && subscriber_eq owner l.owner && ip4_eq addr l.addr && first == l.first) (last == l.last) h in
    let b = and_parts (is_open l && subscriber_eq owner l.owner && ip4_eq addr l.addr) (first == l.first) a.0 in
    let d = and_parts (is_open l && subscriber_eq owner l.owner) (ip4_eq addr l.addr) b.0 in
    (and_parts (is_open l) (subscriber_eq owner l.owner) d.0).0

-- ---- closings

-- a closing at the horizon
abbrev IsClosingAt : ℕ → LogEvent → Type 0
IsClosingAt horizon (Block true owner addr first last at) = ⊥
IsClosingAt horizon (Block false owner addr first last at) = at.0 ≡ horizon
IsClosingAt horizon (Horizon at reach) = ⊥
IsClosingAt horizon (Plan at None) = ⊤
IsClosingAt horizon (Plan at (Some spec)) = ⊥

plan_closes : (at : Moment) (b : Bool) → All (IsClosingAt at.0) (cond b (Plan at None ∷ []) [])
plan_closes at true = All-cons (IsClosingAt at.0) (Plan at None) [] tt (All-nil (IsClosingAt at.0))
plan_closes at false = All-nil (IsClosingAt at.0)

leases_close : (at : Moment) (ls : List LeaseRow) → All (IsClosingAt at.0) (map (lease_closing at) ls)
leases_close at [] = All-nil (IsClosingAt at.0)
leases_close at (l ∷ ls) = All-cons (IsClosingAt at.0) (lease_closing at l) (map (lease_closing at) ls) refl (leases_close at ls)

each_closes : (t : Told) → All (IsClosingAt t.horizon.0) (closings_of t)
each_closes t =
    All-append (IsClosingAt t.horizon.0) (plan_closings t) (lease_closings t.horizon t.leases)
    (plan_closes t.horizon (list_any is_in_use t.plans)) (leases_close t.horizon (filter is_open t.leases))

-- both name the same, up to the same horizon
record NamesAlike (t now : Told) : Type 0 where
  horizon : now.horizon.0 ≡ t.horizon.0
  names : (addr : Ip4) (port at : ℕ) → names_of now addr port at ≡ names_of t addr port at

event_keeps : (t next : Told) (e : LogEvent) → IsClosingAt t.horizon.0 e → after_event t e ≡ Ok next → NamesAlike t next
event_keeps t next (Block true owner addr first last at) h is = absurd h
event_keeps t next (Block false owner addr first last at) h is =
    let parts = required tt (may_close t owner addr first last at.0) _ next is in
    subst (NamesAlike t) (ok_inj _ next parts.1) (record {
      horizon = refl;
      names = λ place port moment. names_map (holds t.horizon.0 place port moment) (lease_ended owner addr first last at)
          (λ l. holds_ended l (is_lease_of owner addr first last l) h (closes_open owner addr first last l) place port moment)
          (λ l. own_ended at.0 l (is_lease_of owner addr first last l)) t.leases;
    })
event_keeps t next (Horizon at reach) h is = absurd h
event_keeps t next (Plan at (Some spec)) h is = absurd h
event_keeps t next (Plan at None) h is =
    let parts = required tt (list_any (λ (p : PlanRow). is_in_use p && nat_le p.since.0 at.0) t.plans) _ next is in
    subst (NamesAlike t) (ok_inj _ next parts.1) (record { horizon = refl; names = λ place port moment. refl })

events_keep : (horizon : ℕ) (events : List LogEvent) (t now : Told) → All (IsClosingAt horizon) events → t.horizon.0 ≡ horizon
    → told_after events t ≡ Ok now → NamesAlike t now
events_keep horizon [] t now all same is =
    subst (NamesAlike t) (ok_inj t now is) (record { horizon = refl; names = λ place port moment. refl })
events_keep horizon (e ∷ events) t now all same is =
    let rest = λ (next : Told). told_after events (record next { count = suc t.count }) in
    let parts = required tt (nat_le (moment_of e) log_moment_limit) (after_event t e >>= rest) now is in
    let step = taken (after_event t e) rest now parts.1 in
    let closes = subst (λ (n : ℕ). IsClosingAt n e) (sym same) (All-head (IsClosingAt horizon) e events all) in
    let first = event_keeps t step.0 e closes step.1 in
    let later = events_keep horizon events (record step.0 { count = suc t.count }) now (All-tail (IsClosingAt horizon) e events all)
    (first.horizon ∙ same) step.2 in
    record {
      horizon = later.horizon ∙ first.horizon;
      names = λ place port moment. later.names place port moment ∙ first.names place port moment;
    }

part_keeps : (was now : Told) → IsPartlyClosed was now → NamesAlike was now
part_keeps was now part =
    events_keep was.horizon.0 (take part.number (closings_of was)) was now
    (All-take (IsClosingAt was.horizon.0) part.number (closings_of was) (each_closes was)) refl part.follows

-- ---- the laws

same_log : (file : List ℕ) (l m : Log) → log_of file ≡ Ok l → log_of file ≡ Ok m → l.told ≡ m.told
same_log file l m a b = ap (λ (x : Log). x.told) (log_inj l m (sym a ∙ b))

pub each_closing_is_believed : EachClosingIsBelieved
each_closing_is_believed before now c believed =
    let alike = part_keeps c.was.told c.log.told c.part in
    let same = same_log before believed.log c.was believed.is_log c.was_log in
    record {
      log = c.log;
      is_log = c.is_log;
      one = λ addr port at. subst (λ (names : List Subscriber). length names ≤ 1)
          (ap (λ (t : Told). names_of t addr port at) same ∙ sym (alike.names addr port at)) (believed.one addr port at);
    }

pub each_closing_keeps_names : EachClosingKeepsNames
each_closing_keeps_names before now c addr port at names h =
    let alike = part_keeps c.was.told c.log.told c.part in
    let same = same_log before h.log c.was h.is_log c.was_log in
    record {
      log = c.log;
      is_log = c.is_log;
      named = alike.names addr port at ∙ ap (λ (t : Told). names_of t addr port at) (sym same) ∙ h.named;
      reached = subst (λ (n : ℕ). at ≤ n) (ap (λ (t : Told). t.horizon.0) same ∙ sym alike.horizon) h.reached;
    }

pub recovered_keeps_names : RecoveredKeepsNames
recovered_keeps_names t addr port at =
    names_map (holds t.horizon.0 addr port at) (lease_closed t.horizon.0) (λ l. refl) (λ l. refl) t.leases

-- ---- what a restart leaves

pub left_believed : (before now : Story) → StopsLeave before now (RecoverLeaves before) → AreBelieved (IsImage before)
    → AreBelieved (IsLeft before now)
left_believed before now stops believed file left =
    elim (stops.each file left.0 left.1).file [
      | inl image ↦ believed file image
      | inr closing ↦ each_closing_is_believed (content before) file closing (believed (content before) (content_is_image before))
    ]

pub left_names : (before now : Story) → StopsLeave before now (RecoverLeaves before) → KeepsNames (IsImage before) (IsLeft before now)
left_names before now stops addr port at names held file left =
    elim (stops.each file left.0 left.1).file [
      | inl image ↦ held file image
      | inr closing ↦
          each_closing_keeps_names (content before) file closing addr port at names (held (content before) (content_is_image before))
    ]

-- What the log told at the start stays as a run goes on: its leases have ended, and so end no more, and a new one opens past them.
use Rattle.std.proofs.Common.{◌≡◌, ℕ, ◌<◌, true, false, List, [], ◌∷◌, ◌++◌, Option, Some, None, IfSome, All, refl, sym, ap, ap₂}
use Rattle.std.proofs.Common.{◌∙◌, subst, append_assoc, append-nil, arith}
use Rattle.std.specs.Prelude.{option_to_list}
use Rattle.std.specs.List.{AllZip}
use Rattle.std.proofs.lemmas.Bool.{true≢false}
use Rattle.std.proofs.lemmas.List.Elements.{All-append, All-cons, All-head, All-nil, All-tail}
use Rattle.aftr_base.specs.Row.{is_open}
use Rattle.aftr_base.specs.Told.{end_of}
use Rattle.aftr_base.specs.declared.event.Event.{Event}
use Rattle.aftr_base.specs.declared.event.EventKind.{EventKind}
use Rattle.aftr_base.specs.declared.row.LeaseRow.{LeaseRow}
use Rattle.aftr_base.specs.declared.told.Told.{Told}
use Rattle.aftr_base.specs.declared.value.Moment.{Moment}
use Rattle.aftr_base.proofs.Pairwise.{all_zip}
use Rattle.cfg_text.specs.Accepted.{is_accepted}
use Rattle.cfg_text.specs.declared.config.Config.{Config}
use Rattle.nat_mapping.specs.Rows.{Mapping}
use Rattle.nat_mapping.specs.Rows.{expired}
use Rattle.frag_reasm.specs.declared.pieces.PartialDatagram.{PartialDatagram}
use Rattle.xlate_core.specs.Expiry.{Closed, at_moment, closing_limit, with_idle_ended}
use Rattle.xlate_core.specs.State.{State, Step}
use Rattle.xlate_core.specs.Step.{step, treatment}
use Rattle.xlate_core.specs.Run.{run, start}
use Rattle.xlate_core.specs.declared.grant.Grant.{Grant}
use Rattle.xlate_core.specs.Outbound.{Outbound}
use Rattle.xlate_core.specs.Valid.{IsStart, KeepsTold}
use Rattle.xlate_core.proofs.Clock.{by_moment, floor_stays, plans_stay}
use Rattle.xlate_core.proofs.LogTells.{run_horizon}
use Rattle.xlate_core.proofs.Treatments.{IsOut, by_way, keeping}
use Rattle.xlate_core.proofs.ValidExpiry.{Idle, Lasts, MayEnd, idle_end, idle_open}
use Rattle.xlate_core.proofs.ValidStates.{grant_out, moment_accepted, run_floor, step_accepted, step_floor, treated_beside}
use Rattle.xlate_core.proofs.WirePlaces.{IsNew, grant_new}
use Rattle.xlate_core.proofs.Zips.{zip_parts}

-- ---- what has ended stays as it is

abbrev HasEnded : LeaseRow → Type 0
HasEnded l = is_open l ≡ false

ended_stays : {now : ℕ} {rows : List Mapping} {l m : LeaseRow} → MayEnd now rows l m → HasEnded l → m ≡ l
ended_stays (Lasts same) h = same
ended_stays {rows = rows} {l = l} (Idle idle e) h = absurd (true≢false (sym (idle_open rows l idle) ∙ h))

all_stay : (now : ℕ) (rows : List Mapping) (ls ms : List LeaseRow) → AllZip (MayEnd now rows) ls ms → All HasEnded ls → ms ≡ ls
all_stay now rows [] [] z h = refl
all_stay now rows [] (m ∷ ms) z h = absurd z
all_stay now rows (l ∷ ls) [] z h = absurd z
all_stay now rows (l ∷ ls) (m ∷ ms) z h =
    ap₂ (λ (x : LeaseRow) (xs : List LeaseRow). x ∷ xs) (ended_stays z.0 (All-head HasEnded l ls h))
    (all_stay now rows ls ms z.1 (All-tail HasEnded l ls h))

-- ---- leases of which these stand first, and the others began past a moment

abbrev BeganPast : ℕ → LeaseRow → Type 0
BeganPast end l = end < l.since.0

record StandFirst (told : List LeaseRow) (end : ℕ) (leases : List LeaseRow) : Type 0 where
  opened : List LeaseRow
  whole : leases ≡ told ++ opened
  later : All (BeganPast end) opened

same_begin : {now : ℕ} {rows : List Mapping} {l m : LeaseRow} (end : ℕ) → MayEnd now rows l m → BeganPast end l → BeganPast end m
same_begin end (Lasts same) h = subst (BeganPast end) (sym same) h
same_begin end (Idle idle e) h = subst (BeganPast end) (sym e) h

first_ended : {told leases : List LeaseRow} {end : ℕ} (now : ℕ) (rows : List Mapping) → All HasEnded told → StandFirst told end leases
    → StandFirst told end (with_idle_ended closing_limit now rows leases)
first_ended {told = told} {leases = leases} {end = end} now rows ended h =
    let Z = MayEnd now rows in
    let after = with_idle_ended closing_limit now rows leases in
    let z = subst (λ (ls : List LeaseRow). AllZip Z ls after) h.whole (idle_end closing_limit now rows leases) in
    let parts = zip_parts Z told h.opened after z in
    let began = BeganPast end in
    record {
      opened = parts.rest;
      whole = parts.whole ∙ ap (λ (ls : List LeaseRow). ls ++ parts.rest) (all_stay now rows told parts.front parts.fronts ended);
      later = all_zip Z began began (λ l m y b. same_begin end y b) h.opened parts.rest parts.rests h.later;
    }

first_moment : {told : List LeaseRow} {end : ℕ} (at : ℕ) (s : State) → All HasEnded told → StandFirst told end s.leases
    → StandFirst told end (at_moment at s).state.leases
first_moment {told = told} {end = end} at s ended h =
    by_moment (λ (c : Closed). StandFirst told end c.state.leases) at s (λ le. h) (λ lt. first_ended at (expired at s.rows) ended h)

-- ---- a new one opens at a clock past the floor

new_later : (end clock : ℕ) (o : Option LeaseRow) → end < clock → IfSome o (IsNew clock) → All (BeganPast end) (option_to_list o)
new_later end clock None lt new = All-nil (BeganPast end)
new_later end clock (Some l) lt new =
    All-cons (BeganPast end) l [] (omega (arith, lt, ap (λ (m : Moment). m.0) new.since)) (All-nil (BeganPast end))

first_opened : {told leases : List LeaseRow} {end : ℕ} (more : List LeaseRow) → All (BeganPast end) more → StandFirst told end leases
    → StandFirst told end (leases ++ more)
first_opened {told = told} {end = end} more later h = record {
  opened = h.opened ++ more;
  whole = ap (λ (ls : List LeaseRow). ls ++ more) h.whole ∙ append_assoc told h.opened more;
  later = All-append (BeganPast end) h.opened more h.later later;
}

first_treated : {told : List LeaseRow} (s : State) (bytes : List ℕ) (kind : EventKind) → is_accepted s.config ≡ true
    → StandFirst told s.floor s.leases → StandFirst told s.floor (treatment s kind bytes).state.leases
first_treated {told = told} s bytes kind ok h =
    let more : (kept : List PartialDatagram) (got : Outbound) (g : Grant) → IsOut (keeping s kept) got g → StandFirst told s.floor (s.leases ++ option_to_list g.lease) =
    λ kept got g by. first_opened (option_to_list g.lease) (new_later s.floor s.clock g.lease by.settled (grant_new (grant_out ok by))) h in
    by_way (λ (t : Step). StandFirst told s.floor t.state.leases) s bytes kind (λ kept. record {
      rests = h;
      drops = λ cause. h;
      answers = λ got cause e is. h;
      relays = λ i is. h;
      delivers = λ d r by. h;
      forwards = λ got g by abroad. more kept got g by;
      turns = λ got g row by turned. more kept got g by;
      holds = λ got g cause by refuses. more kept got g by;
    })

-- ---- a step and a run

first_step : {told : List LeaseRow} (s : State) (e : Event) → is_accepted s.config ≡ true → All HasEnded told
    → StandFirst told s.floor s.leases → StandFirst told (step s e).state.floor (step s e).state.leases
first_step {told = told} s e ok ended h =
    let before = (at_moment e.at.0 s).state in
    let after = (step s e).state in
    let raised = first_moment e.at.0 s ended h in
    let by = subst (λ (n : ℕ). StandFirst told n before.leases) (sym (floor_stays e.at.0 s)) raised in
    let treated = first_treated before e.bytes e.kind (moment_accepted e.at.0 s ok) by in
    subst (λ (n : ℕ). StandFirst told n after.leases) (floor_stays e.at.0 s ∙ sym (step_floor s e)) treated

first_run : {told : List LeaseRow} (s : State) (events : List Event) → is_accepted s.config ≡ true → All HasEnded told
    → StandFirst told s.floor s.leases → StandFirst told (run s events).state.floor (run s events).state.leases
first_run s [] ok ended h = h
first_run s (e ∷ es) ok ended h = first_run (step s e).state es (step_accepted s e ok) ended (first_step s e ok ended h)

step_plans : (s : State) (e : Event) → (step s e).state.plans ≡ s.plans
step_plans s e = (treated_beside (at_moment e.at.0 s).state e.bytes e.kind).plans ∙ plans_stay e.at.0 s

run_plans : (s : State) (events : List Event) → (run s events).state.plans ≡ s.plans
run_plans s [] = refl
run_plans s (e ∷ es) = run_plans (step s e).state es ∙ step_plans s e

first_start : (told : List LeaseRow) (end : ℕ) → StandFirst told end told
first_start told end = record { opened = []; whole = sym (append-nil told); later = All-nil (BeganPast end) }

pub told_kept : {c : Config} {t : Told} (events : List Event) → IsStart c t → KeepsTold t (run (start c t) events).state
told_kept {c = c} {t = t} events h =
    let s = start c t in
    let end = (run s events).state in
    let first = first_run s events h.accepted h.ended (first_start t.leases (end_of t)) in
    let there = subst (λ (n : ℕ). StandFirst t.leases n end.leases) (run_floor s events) first in
    record {
      opened = there.opened;
      leases = there.whole;
      later = there.later;
      plans = run_plans s events;
      horizon = run_horizon s events;
    }

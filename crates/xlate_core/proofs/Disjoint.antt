-- No two leases share a port at a moment, where none did at the start.
use Rattle.std.proofs.Common.{◌≡◌, ℕ, Bool, true, false, ◌&&◌, is_none, List, [], ◌∷◌, ◌++◌, Option, Some, None, refl, sym, subst}
use Rattle.std.proofs.Common.{append-nil, arith}
use Rattle.std.specs.Prelude.{option_to_list}
use Rattle.std.proofs.lemmas.List.Quantifiers.{all_pairs_push}
use Rattle.aftr_base.specs.Row.{ended, overlaps}
use Rattle.aftr_base.specs.declared.event.Event.{Event}
use Rattle.aftr_base.specs.declared.event.EventKind.{EventKind}
use Rattle.aftr_base.specs.declared.row.LeaseRow.{LeaseRow}
use Rattle.aftr_base.specs.declared.told.Told.{Told}
use Rattle.aftr_base.specs.declared.value.Moment.{Moment}
use Rattle.aftr_base.proofs.Pairwise.{pairs_zip}
use Rattle.cfg_text.specs.Accepted.{is_accepted}
use Rattle.cfg_text.specs.declared.config.Config.{Config}
use Rattle.cfg_text.proofs.Facts.{facts}
use Rattle.xlate_core.specs.declared.grant.Grant.{Grant}
use Rattle.xlate_core.specs.declared.grant.Flow.{Flow}
use Rattle.nat_mapping.specs.Rows.{Mapping}
use Rattle.nat_mapping.specs.Rows.{expired}
use Rattle.xlate_core.specs.Expiry.{Closed, at_moment, closing_limit, with_idle_ended}
use Rattle.xlate_core.specs.State.{State, Step}
use Rattle.xlate_core.specs.Step.{step, treatment}
use Rattle.xlate_core.specs.Run.{run, start}
use Rattle.xlate_core.specs.Valid.{AreDisjoint, IsStart, IsValid, clash, lasts_to}
use Rattle.xlate_core.proofs.Clock.{by_moment}
use Rattle.xlate_core.proofs.Reached.{reached_from}
use Rattle.xlate_core.proofs.Treatments.{by_way}
use Rattle.xlate_core.proofs.ValidExpiry.{Idle, Lasts, MayEnd, idle_end, idle_open, lasts_at}
use Rattle.xlate_core.proofs.ValidForwards.{chosen_for, lease_of}
use Rattle.xlate_core.proofs.ValidGrants.{GrantCase, IsGrant, Keeps, Opens, Takes, grant_case, no_clash}
use Rattle.xlate_core.proofs.ValidStates.{grant_out, moment_accepted, step_accepted}

-- ---- a lease that ends lasts to no moment that it did not last to while it was open

sooner : (over back lasts : Bool) (at : ℕ) (u : Option Moment) → is_none u ≡ true → (over && lasts_at at u && back) ≡ false
    → (over && lasts && back) ≡ false
sooner over back lasts at (Some m) none h = cc
sooner true back true at None none h = h
sooner true back false at None none h = refl
sooner false back lasts at None none h = refl

sooner_back : (shares lasts : Bool) (at : ℕ) (u : Option Moment) → is_none u ≡ true → (shares && lasts_at at u) ≡ false
    → (shares && lasts) ≡ false
sooner_back shares lasts at (Some m) none h = cc
sooner_back true lasts at None none h = cc
sooner_back false lasts at None none h = refl

clash_ended : {now : ℕ} {rows : List Mapping} {l u : LeaseRow} (m : LeaseRow) → MayEnd now rows l u → clash l m ≡ false → clash u m ≡ false
clash_ended m (Lasts same) h = subst (λ (x : LeaseRow). clash x m ≡ false) (sym same) h
clash_ended {now = now} {rows = rows} {l = l} m (Idle idle e) h =
    let over = overlaps l m.addr m.first m.last in
    let u = ended now l in
    subst (λ (x : LeaseRow). clash x m ≡ false) (sym e)
    (sooner over (lasts_to l.since.0 m) (lasts_to m.since.0 u) m.since.0 l.until (idle_open rows l idle) h)

clash_behind : {now : ℕ} {rows : List Mapping} {m v : LeaseRow} (l : LeaseRow) → MayEnd now rows m v → clash l m ≡ false → clash l v ≡ false
clash_behind l (Lasts same) h = subst (λ (x : LeaseRow). clash l x ≡ false) (sym same) h
clash_behind {now = now} {rows = rows} {m = m} l (Idle idle e) h =
    let shares = overlaps l m.addr m.first m.last && lasts_to m.since.0 l in
    let v = ended now m in
    subst (λ (x : LeaseRow). clash l x ≡ false) (sym e)
    (sooner_back shares (lasts_to l.since.0 v) l.since.0 m.until (idle_open rows m idle) h)

apart_later : (now : ℕ) (rows : List Mapping) (l m u v : LeaseRow) → MayEnd now rows l u → MayEnd now rows m v
    → clash l m ≡ false → clash u v ≡ false
apart_later now rows l m u v z w h = clash_behind u w (clash_ended m z h)

-- ---- as the clock is raised

disjoint_moment : (at : ℕ) (s : State) → AreDisjoint s.leases → AreDisjoint (at_moment at s).state.leases
disjoint_moment at s h =
    let rows = expired at s.rows in
    let after = with_idle_ended closing_limit at rows s.leases in
    let apart = λ (l m : LeaseRow). clash l m ≡ false in
    by_moment (λ (c : Closed). AreDisjoint c.state.leases) at s (λ le. h)
    (λ lt. pairs_zip (MayEnd at rows) apart apart (apart_later at rows) s.leases after (idle_end closing_limit at rows s.leases) h)

-- ---- as a packet's grant is carried out

-- the leases after it
abbrev leases_after : State → Grant → List LeaseRow
leases_after s g = s.leases ++ option_to_list g.lease

disjoint_case : (s : State) (f : Flow) (g : Grant) → is_accepted s.config ≡ true → AreDisjoint s.leases → GrantCase s f g
    → AreDisjoint (leases_after s g)
disjoint_case s f g ok h (Keeps r found same) =
    subst (λ (x : Grant). AreDisjoint (leases_after s x)) (sym same) (subst AreDisjoint (sym (append-nil s.leases)) h)
disjoint_case s f g ok h (Takes x none taken same) =
    subst (λ (y : Grant). AreDisjoint (leases_after s y)) (sym same) (subst AreDisjoint (sym (append-nil s.leases)) h)
disjoint_case s f g ok h (Opens b none free same) =
    let apart = no_clash s f.who.owner b (omega (arith, (facts s.config ok).hold_least)) (chosen_for s f b ok free) in
    subst (λ (x : Grant). AreDisjoint (leases_after s x)) (sym same)
    (all_pairs_push (λ l m. clash l m ≡ false) s.leases (lease_of s f.who.owner b) h apart)

disjoint_grant : {s : State} {f : Flow} {g : Grant} → IsGrant s f g → AreDisjoint s.leases → AreDisjoint (leases_after s g)
disjoint_grant {s = s} {f = f} {g = g} by h = disjoint_case s f g by.accepted h (grant_case by)

disjoint_treated : (s : State) (bytes : List ℕ) (kind : EventKind) → is_accepted s.config ≡ true → AreDisjoint s.leases
    → AreDisjoint (treatment s kind bytes).state.leases
disjoint_treated s bytes kind ok h = by_way (λ (t : Step). AreDisjoint t.state.leases) s bytes kind (λ kept. record {
  rests = h;
  drops = λ cause. h;
  answers = λ got cause e is. h;
  relays = λ i is. h;
  delivers = λ d r by. h;
  forwards = λ got g by abroad. disjoint_grant (grant_out ok by) h;
  turns = λ got g row by turned. disjoint_grant (grant_out ok by) h;
  holds = λ got g cause by refuses. disjoint_grant (grant_out ok by) h;
})

-- ---- a step and a run

disjoint_step : (s : State) (e : Event) → is_accepted s.config ≡ true → AreDisjoint s.leases → AreDisjoint (step s e).state.leases
disjoint_step s e ok h =
    disjoint_treated (at_moment e.at.0 s).state e.bytes e.kind (moment_accepted e.at.0 s ok) (disjoint_moment e.at.0 s h)

pub disjoint_run : (s : State) (events : List Event) → is_accepted s.config ≡ true → AreDisjoint s.leases
    → AreDisjoint (run s events).state.leases
disjoint_run s [] ok h = h
disjoint_run s (e ∷ es) ok h = disjoint_run (step s e).state es (step_accepted s e ok) (disjoint_step s e ok h)

-- from the start on each state is valid
pub valid_from : {c : Config} {t : Told} (events : List Event) → IsStart c t → AreDisjoint t.leases
    → IsValid (run (start c t) events).state
valid_from {c = c} {t = t} events h apart =
    record { consistent = (reached_from events h).consistent; disjoint = disjoint_run (start c t) events h.accepted apart }

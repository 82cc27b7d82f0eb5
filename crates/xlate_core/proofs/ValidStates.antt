-- Every state that a run comes to is consistent.
use Rattle.std.proofs.Common.{◌≡◌, ℕ, ◌≤◌, Bool, true, List, [], ◌∷◌, Option, Some, None, All, get_or, max, refl, sym, ◌∙◌, subst, arith}
use Rattle.std.proofs.lemmas.List.Elements.{All-nil, All-head, All-tail}
use Rattle.aftr_base.specs.declared.event.Event.{Event}
use Rattle.aftr_base.specs.declared.event.EventKind.{EventKind}
use Rattle.aftr_base.specs.Told.{end_of}
use Rattle.aftr_base.specs.declared.told.Told.{Told}
use Rattle.cfg_text.specs.declared.config.Config.{Config}
use Rattle.cfg_text.specs.Accepted.{is_accepted}
use Rattle.frag_reasm.specs.declared.pieces.PartialDatagram.{PartialDatagram}
use Rattle.xlate_core.specs.declared.grant.Grant.{Grant}
use Rattle.xlate_core.specs.Outbound.{Outbound}
use Rattle.xlate_core.specs.State.{State, Step, latest}
use Rattle.xlate_core.specs.Expiry.{at_moment}
use Rattle.xlate_core.specs.Valid.{IsConsistent, IsStart, is_granted, is_owned, is_lease_by}
use Rattle.nat_mapping.specs.Rows.{Mapping, is_at}
use Rattle.xlate_core.specs.declared.arrival.Arrival.{Arrival}
use Rattle.xlate_core.specs.declared.grant.Flow.{Flow}
use Rattle.xlate_core.specs.Arrivals.{arrival_of, moved_in, rows_inbound}
use Rattle.xlate_core.specs.Grant.{after_grant, granted_only}
use Rattle.fragment_ids.specs.declared.Count.{Count}
use Rattle.xlate_core.specs.Step.{delivery, flow_of, hairpin, step, treatment, turned}
use Rattle.xlate_core.specs.Rows.{find_out, touched}
use Rattle.nat_mapping.specs.declared.row.Peer.{Peer}
use Rattle.xlate_core.specs.Run.{run, start}
use Rattle.xlate_core.proofs.Clock.{config_stays, floor_stays, moment_clock}
use Rattle.xlate_core.proofs.ValidExpiry.{closed_first, consistent_moment}
use Rattle.xlate_core.proofs.ValidForwards.{consistent_grant, only_known, only_new}
use Rattle.xlate_core.proofs.ValidGrants.{IsGrant}
use Rattle.xlate_core.proofs.ValidRows.{consistent_horizon, consistent_touched}
use Rattle.xlate_core.proofs.Treatments.{EachWay, IsOut, by_way, keeping}

pub consistent_start : {c : Config} {t : Told} → IsStart c t → IsConsistent (start c t)
consistent_start {c = c} {t = t} h =
    let s = start c t in
    let end : end_of t ≡ latest s = omega arith in
    record {
      granted = All-nil (λ r. is_granted s r ≡ true);
      owned = All-nil (λ r. is_owned s r ≡ true);
      apart = λ i j d lt within. absurd (omega arith);
      leases = subst (λ (n : ℕ). All (λ l. is_lease_by 0 n l ≡ true) t.leases) end h.leases;
      open_apart = λ i j d lt within. closed_first (get_or t.leases i d) (get_or t.leases j d) (h.ended i d (omega (arith, lt, within)));
    }

-- ---- a record's own treatment

-- at the same moment, under the same configuration
pub record IsBeside (s : State) (t : Step) : Type 0 where
  pub clock : t.state.clock ≡ s.clock
  pub config : t.state.config ≡ s.config
  pub floor : t.state.floor ≡ s.floor
  pub horizon : t.state.horizon ≡ s.horizon
  pub plans : t.state.plans ≡ s.plans

pub treated_beside : (s : State) (bytes : List ℕ) (kind : EventKind) → IsBeside s (treatment s kind bytes)
treated_beside s bytes kind = by_way (IsBeside s) s bytes kind (λ kept. record {
  rests = record { clock = refl; config = refl; floor = refl; horizon = refl; plans = refl };
  drops = λ cause. record { clock = refl; config = refl; floor = refl; horizon = refl; plans = refl };
  answers = λ got cause e is. record { clock = refl; config = refl; floor = refl; horizon = refl; plans = refl };
  relays = λ i is. record { clock = refl; config = refl; floor = refl; horizon = refl; plans = refl };
  delivers = λ d r by. record { clock = refl; config = refl; floor = refl; horizon = refl; plans = refl };
  forwards = λ got g by abroad. record { clock = refl; config = refl; floor = refl; horizon = refl; plans = refl };
  turns = λ got g row by turned. record { clock = refl; config = refl; floor = refl; horizon = refl; plans = refl };
  holds = λ got g cause by refuses. record { clock = refl; config = refl; floor = refl; horizon = refl; plans = refl };
})

-- a packet that goes out was granted its place
pub grant_out : {s : State} {got : Outbound} {g : Grant} → is_accepted s.config ≡ true → IsOut s got g
    → IsGrant s (flow_of got) g
grant_out ok by = record { accepted = ok; owns = by.owns; grants = by.grants }

-- whether a connection's state moves or not
consistent_by : (s : State) (test : Mapping → Bool) (o : Option Peer) → IsConsistent s
    → IsConsistent (record s { rows = elim o [ None ↦ s.rows | Some p ↦ touched test p s.rows ] })
consistent_by s test None v = v
consistent_by s test (Some p) v = consistent_touched s test p v

-- a datagram came in
consistent_inbound : (s : State) (a : Arrival) → IsConsistent s → IsConsistent (record s { rows = rows_inbound s a })
consistent_inbound s a v = consistent_by s (is_at a.proto a.to) (moved_in s a) v

-- however many packets were cut
consistent_counting : {s : State} (cuts : List Count) → IsConsistent s → IsConsistent (record s { cuts = cuts })
consistent_counting cuts v =
    record { granted = v.granted; owned = v.owned; apart = v.apart; leases = v.leases; open_apart = v.open_apart }

-- a grant without the packet
only_by : (s : State) (f : Flow) (g : Grant) (o : Option Mapping) → find_out f.key s.rows ≡ o → IsGrant s f g → IsConsistent s
    → IsConsistent (granted_only f g s)
only_by s f g (Some r) there is v = subst IsConsistent (sym (only_known s f g r there is.grants)) v
only_by s f g None none is v = subst IsConsistent (sym (only_new s f g none)) (consistent_grant is v)

consistent_only : {s : State} {f : Flow} {g : Grant} → IsGrant s f g → IsConsistent s → IsConsistent (granted_only f g s)
consistent_only {s = s} {f = f} {g = g} is v = only_by s f g (find_out f.key s.rows) refl is v

consistent_ways : (s : State) → is_accepted s.config ≡ true → IsConsistent s → EachWay (λ (t : Step). IsConsistent t.state) s
consistent_ways s ok v = record {
  rests = v;
  drops = λ cause. v;
  answers = λ got cause e is. v;
  relays = λ sent is. consistent_counting sent.cuts v;
  delivers = λ d r by. consistent_counting (delivery s d r).cuts (consistent_inbound s (arrival_of d) v);
  forwards = λ got g by abroad. consistent_grant (grant_out ok by) v;
  turns = λ got g row by back.
      consistent_counting (hairpin s got g row).cuts
      (consistent_inbound (after_grant (flow_of got) g s) (arrival_of (turned got g)) (consistent_grant (grant_out ok by) v));
  holds = λ got g cause by refuses. consistent_only (grant_out ok by) v;
}

-- whatever pieces are held
pub consistent_keeping : {s : State} (kept : List PartialDatagram) → IsConsistent s → IsConsistent (keeping s kept)
consistent_keeping kept v =
    record { granted = v.granted; owned = v.owned; apart = v.apart; leases = v.leases; open_apart = v.open_apart }

pub consistent_treated : (s : State) (bytes : List ℕ) (kind : EventKind) → is_accepted s.config ≡ true → IsConsistent s
    → IsConsistent (treatment s kind bytes).state
consistent_treated s bytes kind ok v =
    by_way (λ (t : Step). IsConsistent t.state) s bytes kind (λ kept. consistent_ways (keeping s kept) ok (consistent_keeping kept v))

-- ---- a step

-- the record's own treatment in the state that it is treated in
abbrev own_of : State → Event → Step
own_of s e = treatment (at_moment e.at.0 s).state e.kind e.bytes

-- the configuration stays
pub step_config : (s : State) (e : Event) → (step s e).state.config ≡ s.config
step_config s e = (treated_beside (at_moment e.at.0 s).state e.bytes e.kind).config ∙ config_stays e.at.0 s

pub moment_accepted : (at : ℕ) (s : State) → is_accepted s.config ≡ true → is_accepted (at_moment at s).state.config ≡ true
moment_accepted at s ok = subst (λ (c : Config). is_accepted c ≡ true) (sym (config_stays at s)) ok

pub step_accepted : (s : State) (e : Event) → is_accepted s.config ≡ true → is_accepted (step s e).state.config ≡ true
step_accepted s e ok = subst (λ (c : Config). is_accepted c ≡ true) (sym (step_config s e)) ok

-- the clock is the greatest moment so far
pub step_clock_is : (s : State) (e : Event) → (step s e).state.clock ≡ max s.clock e.at.0
step_clock_is s e = (treated_beside (at_moment e.at.0 s).state e.bytes e.kind).clock ∙ moment_clock e.at.0 s

-- the floor stays
pub step_floor : (s : State) (e : Event) → (step s e).state.floor ≡ s.floor
step_floor s e = (treated_beside (at_moment e.at.0 s).state e.bytes e.kind).floor ∙ floor_stays e.at.0 s

-- it doesn't fall
pub step_clock : (s : State) (e : Event) → s.clock ≤ (step s e).state.clock
step_clock s e = omega (arith, step_clock_is s e)

-- nor does it pass a limit that the moments keep to
pub step_clock_most : (limit : ℕ) (s : State) (e : Event) → s.clock ≤ limit → e.at.0 ≤ limit → (step s e).state.clock ≤ limit
step_clock_most limit s e le at = omega (arith, step_clock_is s e, le, at)

pub consistent_step : (s : State) (e : Event) → is_accepted s.config ≡ true → IsConsistent s → IsConsistent (step s e).state
consistent_step s e ok v =
    consistent_horizon (own_of s e).state (step s e).state.horizon
    (consistent_treated (at_moment e.at.0 s).state e.bytes e.kind (moment_accepted e.at.0 s ok) (consistent_moment e.at.0 s v))

-- ---- a run

pub run_config : (s : State) (events : List Event) → (run s events).state.config ≡ s.config
run_config s [] = refl
run_config s (e ∷ es) = run_config (step s e).state es ∙ step_config s e

pub run_accepted : (s : State) (events : List Event) → is_accepted s.config ≡ true → is_accepted (run s events).state.config ≡ true
run_accepted s events ok = subst (λ (c : Config). is_accepted c ≡ true) (sym (run_config s events)) ok

pub run_floor : (s : State) (events : List Event) → (run s events).state.floor ≡ s.floor
run_floor s [] = refl
run_floor s (e ∷ es) = run_floor (step s e).state es ∙ step_floor s e

pub run_clock : (s : State) (events : List Event) → s.clock ≤ (run s events).state.clock
run_clock s [] = omega arith
run_clock s (e ∷ es) = omega (arith, step_clock s e, run_clock (step s e).state es)

-- each record's moment is one of these
abbrev pub AreBy : ℕ → List Event → Type 0
AreBy limit events = All (λ (e : Event). e.at.0 ≤ limit) events

pub run_clock_most : (limit : ℕ) (s : State) (events : List Event) → s.clock ≤ limit → AreBy limit events
    → (run s events).state.clock ≤ limit
run_clock_most limit s [] le all = le
run_clock_most limit s (e ∷ es) le all =
    run_clock_most limit (step s e).state es (step_clock_most limit s e le (All-head (λ (x : Event). x.at.0 ≤ limit) e es all))
    (All-tail (λ (x : Event). x.at.0 ≤ limit) e es all)

-- A mapping that is used for a remote endpoint lasts until its time has run out, and a refusal leaves all as it was.
use Rattle.std.proofs.Common.{◌≡◌, ◌⊎◌, inl, inr, ℕ, Bool, true, false, cond, ◌==◌, nat_lt, List, [], ◌∷◌, ◌++◌}
use Rattle.std.proofs.Common.{length, map, find, Option, Some, None, IfSome, Result, Ok, Err, ok_or, refl, sym, ap, ◌∙◌, subst, arith}
use Rattle.std.specs.List.{list_any}
use Rattle.std.specs.Prelude.{if◌then◌else◌, is_some}
use Rattle.std.proofs.lemmas.Bool.{eq-eqb, eqb-true, and_parts, and_from, or_cases, or_left, or_right, lt-ltb}
use Rattle.aftr_base.specs.Attempt.{◌>>=◌, ◌>>◌, require}
use Rattle.aftr_base.specs.Value.{ip4_eq}
use Rattle.aftr_base.specs.declared.event.Event.{Event}
use Rattle.aftr_base.specs.declared.event.EventKind.{EventKind}
use Rattle.aftr_base.specs.declared.event.DropCause.{DropCause}
use Rattle.aftr_base.specs.declared.event.DropCause.TheVariants.{NoMapping, Filtered}
use Rattle.aftr_base.specs.declared.value.Ext.{Ext}
use Rattle.aftr_base.specs.declared.value.InnerKey.{InnerKey}
use Rattle.nat_mapping.specs.declared.row.Peer.{Peer}
use Rattle.nat_mapping.specs.Rows.{Mapping, expired, has_peer, is_of, is_used, live_peers, same_peer, with_peer}
use Rattle.xlate_core.specs.declared.grant.Flow.{Flow}
use Rattle.xlate_core.specs.declared.grant.Grant.{Grant}
use Rattle.xlate_core.specs.declared.arrival.Arrival.{Arrival}
use Rattle.xlate_core.specs.Arrivals.{arrival_of, moved_in, receiver_of, rows_inbound}
use Rattle.xlate_core.specs.Expiry.{Closed, at_moment}
use Rattle.xlate_core.specs.Grant.{after_grant, granted_only, peer_of, row_for}
use Rattle.xlate_core.specs.Lasting.{EachRefusalLeavesAll, EachUseLasts, HasRunOut, IsOver, IsUsedFor, is_refusal}
use Rattle.xlate_core.specs.Rows.{find_in, find_out, touched}
use Rattle.xlate_core.specs.Run.{run}
use Rattle.xlate_core.specs.State.{State, Step}
use Rattle.xlate_core.specs.Step.{flow_of, horizon_by, needs_horizon, step, treatment, turned}
use Rattle.xlate_core.proofs.Clock.{by_moment}
use Rattle.xlate_core.proofs.Treatments.{by_way, keeping}

-- ---- a peer that is made or refreshed takes no other's place

same_number : (a b c : ℕ) → (a == b) ≡ true → (c == b) ≡ true → (a == c) ≡ true
same_number a b c h k = eq-eqb a c (eqb-true a b h ∙ sym (eqb-true c b k))

-- two that are at one endpoint with a third
same_third : (x p q : Peer) → same_peer x q ≡ true → same_peer p q ≡ true → same_peer x p ≡ true
same_third x p q h k =
    let a = and_parts (ip4_eq x.addr q.addr) (x.port == q.port) h in
    let b = and_parts (ip4_eq p.addr q.addr) (p.port == q.port) k in
    and_from (ip4_eq x.addr p.addr) (x.port == p.port) (same_number x.addr.0 q.addr.0 p.addr.0 a.0 b.0)
    (same_number x.port q.port p.port a.1 b.1)

put_by : (x p q : Peer) (b : Bool) → same_peer p q ≡ b → same_peer x q ≡ true → same_peer x (cond b p q) ≡ true
put_by x p q true e h = same_third x p q h e
put_by x p q false e h = h

abbrev put_in : Peer → Peer → Peer
put_in p q = if same_peer p q then p else q

put_stays : (x p : Peer) (qs : List Peer) → has_peer x qs ≡ true → list_any (same_peer x) (map (put_in p) qs) ≡ true
put_stays x p [] h = cc
put_stays x p (q ∷ qs) h = elim (or_cases (same_peer x q) (has_peer x qs) h) [
  | inl here ↦ or_left (same_peer x (put_in p q)) _ (put_by x p q (same_peer p q) refl here)
  | inr later ↦ or_right (same_peer x (put_in p q)) _ (put_stays x p qs later)
]

more_stays : (x : Peer) (qs more : List Peer) → has_peer x qs ≡ true → has_peer x (qs ++ more) ≡ true
more_stays x [] more h = cc
more_stays x (q ∷ qs) more h = elim (or_cases (same_peer x q) (has_peer x qs) h) [
  | inl here ↦ or_left (same_peer x q) _ here
  | inr later ↦ or_right (same_peer x q) _ (more_stays x qs more later)
]

with_by : (x p : Peer) (qs : List Peer) (b : Bool) → has_peer x qs ≡ true
    → has_peer x (if b then map (put_in p) qs else qs ++ p ∷ []) ≡ true
with_by x p qs true h = put_stays x p qs h
with_by x p qs false h = more_stays x qs (p ∷ []) h

peer_stays : (x p : Peer) (qs : List Peer) → has_peer x qs ≡ true → has_peer x (with_peer p qs) ≡ true
peer_stays x p qs h = with_by x p qs (has_peer p qs) h

nothing_found : (r : Mapping) → None ≡ Some r → ⊥
nothing_found r h = cc

-- ---- one mapping and one remote endpoint

module _ (key : InnerKey) (ext : Ext) (remote : Peer) where
  abbrev Used : List Mapping → Type 0
  Used rows = IsUsedFor key ext remote rows

  -- whether the first row is the key's, or the key's stands behind it
  head_by : (r : Mapping) (rows : List Mapping) (b : Bool) → is_of key r ≡ b → Used (r ∷ rows)
      → ((b ≡ true) × (r.ext ≡ ext) × (has_peer remote r.peers ≡ true)) ⊎ ((b ≡ false) × Used rows)
  head_by r rows true e u =
      let is : Some r ≡ Some u.row = sym (ap (λ (x : Bool). cond x (Some r) (find (is_of key) rows)) e) ∙ u.there in
      let same : r ≡ u.row = cc is in
      inl (refl, ap (λ (m : Mapping). m.ext) same ∙ u.place, ap (λ (m : Mapping). has_peer remote m.peers) same ∙ u.used)
  head_by r rows false e u =
      let is = sym (ap (λ (x : Bool). cond x (Some r) (find (is_of key) rows)) e) ∙ u.there in
      inr (refl, record { row = u.row; there = is; place = u.place; used = u.used })

  -- and back
  first : (r : Mapping) (rows : List Mapping) → is_of key r ≡ true → r.ext ≡ ext → has_peer remote r.peers ≡ true → Used (r ∷ rows)
  first r rows is place used = record {
    row = r;
    there = ap (λ (x : Bool). cond x (Some r) (find (is_of key) rows)) is;
    place = place;
    used = used;
  }

  behind : (r : Mapping) (rows : List Mapping) → is_of key r ≡ false → Used rows → Used (r ∷ rows)
  behind r rows other u = record {
    row = u.row;
    there = ap (λ (x : Bool). cond x (Some r) (find (is_of key) rows)) other ∙ u.there;
    place = u.place;
    used = u.used;
  }

  -- ---- a row is touched, or made

  touched_by : (test : Mapping → Bool) (p : Peer) (r : Mapping) (rows : List Mapping) (b : Bool) → Used (r ∷ rows)
      → (Used rows → Used (touched test p rows))
      → Used (if b then record r { peers = with_peer p r.peers } ∷ rows else r ∷ touched test p rows)
  touched_by test p r rows true u next = elim (head_by r rows (is_of key r) refl u) [
    | inl (is, place, used) ↦ first (record r { peers = with_peer p r.peers }) rows is place (peer_stays remote p r.peers used)
    | inr (other, later) ↦ behind (record r { peers = with_peer p r.peers }) rows other later
  ]
  touched_by test p r rows false u next = elim (head_by r rows (is_of key r) refl u) [
    | inl (is, place, used) ↦ first r (touched test p rows) is place used
    | inr (other, later) ↦ behind r (touched test p rows) other (next later)
  ]

  stays_touched : (test : Mapping → Bool) (p : Peer) (rows : List Mapping) → Used rows → Used (touched test p rows)
  stays_touched test p [] u = u
  stays_touched test p (r ∷ rows) u = touched_by test p r rows (test r) u (λ later. stays_touched test p rows later)

  stays_before : (rows more : List Mapping) → Used rows → Used (rows ++ more)
  stays_before [] more u = absurd (nothing_found u.row u.there)
  stays_before (r ∷ rows) more u = elim (head_by r rows (is_of key r) refl u) [
    | inl (is, place, used) ↦ first r (rows ++ more) is place used
    | inr (other, later) ↦ behind r (rows ++ more) other (stays_before rows more later)
  ]

  granted_by : (f : Flow) (p : Peer) (e : Ext) (rows : List Mapping) (b : Bool) → Used rows
      → Used (if b then touched (is_of f.key) p rows else rows ++ row_for f p e ∷ [])
  granted_by f p e rows true u = stays_touched (is_of f.key) p rows u
  granted_by f p e rows false u = stays_before rows (row_for f p e ∷ []) u

  stays_granted : (s : State) (f : Flow) (g : Grant) → Used s.rows → Used (after_grant f g s).rows
  stays_granted s f g u = granted_by f (peer_of s f) g.place s.rows (is_some (find_out f.key s.rows)) u

  only_by : (f : Flow) (p : Peer) (e : Ext) (rows : List Mapping) (b : Bool) → Used rows
      → Used (if b then rows else rows ++ row_for f p e ∷ [])
  only_by f p e rows true u = u
  only_by f p e rows false u = stays_before rows (row_for f p e ∷ []) u

  inbound_by : (test : Mapping → Bool) (rows : List Mapping) (o : Option Peer) → Used rows
      → Used (elim o [ None ↦ rows | Some p ↦ touched test p rows ])
  inbound_by test rows None u = u
  inbound_by test rows (Some p) u = stays_touched test p rows u

  stays_inbound : (s : State) (a : Arrival) → Used s.rows → Used (rows_inbound s a)
  stays_inbound s a u = inbound_by _ s.rows (moved_in s a) u

  stays_treated : (s : State) (bytes : List ℕ) (kind : EventKind) → Used s.rows → Used (treatment s kind bytes).state.rows
  stays_treated s bytes kind u = by_way (λ (t : Step). Used t.state.rows) s bytes kind (λ kept. record {
    rests = u;
    drops = λ cause. u;
    answers = λ got cause e is. u;
    relays = λ i is. u;
    delivers = λ d row by. stays_inbound s (arrival_of d) u;
    forwards = λ got g by abroad. stays_granted s (flow_of got) g u;
    turns = λ got g row by back.
        stays_inbound (after_grant (flow_of got) g s) (arrival_of (turned got g)) (stays_granted s (flow_of got) g u);
    holds = λ got g cause by refuses.
        only_by (flow_of got) (peer_of s (flow_of got)) g.place s.rows (is_some (find_out (flow_of got).key s.rows)) u;
  })

  -- ---- its time may run out as the clock is raised

  abbrev Lasts : ℕ → List Mapping → Type 0
  Lasts at rows = Used (expired at rows) ⊎ IsOver key remote at rows

  some_used : (qs : List Peer) → has_peer remote qs ≡ true → nat_lt 0 (length qs) ≡ true
  some_used [] h = cc
  some_used (q ∷ qs) h = lt-ltb 0 (length (q ∷ qs)) (omega arith)

  -- the first row is the key's
  here_by : (at : ℕ) (r : Mapping) (rows : List Mapping) (b : Bool) → has_peer remote (live_peers at r).peers ≡ b
      → is_of key r ≡ true → r.ext ≡ ext → Lasts at (r ∷ rows)
  here_by at r rows true e is place =
      let alive : is_used (live_peers at r) ≡ true = some_used (live_peers at r).peers e in
      inl (subst (λ (b : Bool). Used (cond b (live_peers at r ∷ expired at rows) (expired at rows))) (sym alive)
      (first (live_peers at r) (expired at rows) is place e))
  here_by at r rows false e is place =
      inr (record { row = r; there = ap (λ (x : Bool). cond x (Some r) (find (is_of key) rows)) is; over = e })

  -- it isn't
  behind_by : (at : ℕ) (r : Mapping) (rows : List Mapping) (b : Bool) → is_of key r ≡ false → Lasts at rows
      → Used (cond b (live_peers at r ∷ expired at rows) (expired at rows)) ⊎ IsOver key remote at (r ∷ rows)
  behind_by at r rows true other (inl u) = inl (behind (live_peers at r) (expired at rows) other u)
  behind_by at r rows false other (inl u) = inl u
  behind_by at r rows b other (inr over) = inr (record {
    row = over.row;
    there = ap (λ (x : Bool). cond x (Some r) (find (is_of key) rows)) other ∙ over.there;
    over = over.over;
  })

  lasts_expired : (at : ℕ) (rows : List Mapping) → Used rows → Lasts at rows
  lasts_expired at [] u = absurd (nothing_found u.row u.there)
  lasts_expired at (r ∷ rows) u = elim (head_by r rows (is_of key r) refl u) [
    | inl (is, place, used) ↦ here_by at r rows (has_peer remote (live_peers at r).peers) refl is place
    | inr (other, later) ↦ behind_by at r rows (is_used (live_peers at r)) other (lasts_expired at rows later)
  ]

  lasts_moment : (at : ℕ) (s : State) → Used s.rows → Used (at_moment at s).state.rows ⊎ IsOver key remote at s.rows
  lasts_moment at s u = by_moment (λ (c : Closed). Used c.state.rows ⊎ IsOver key remote at s.rows) at s
      (λ le. inl u) (λ lt. lasts_expired at s.rows u)

  -- ---- a step and a run

  lasts_step : (s : State) (e : Event) → Used s.rows → Used (step s e).state.rows ⊎ IsOver key remote e.at.0 s.rows
  lasts_step s e u = elim (lasts_moment e.at.0 s u) [
    | inl stays ↦ inl (stays_treated (at_moment e.at.0 s).state e.bytes e.kind stays)
    | inr over ↦ inr over
  ]

  later_out : (s : State) (e : Event) (es : List Event) → HasRunOut key remote (step s e).state es → HasRunOut key remote s (e ∷ es)
  later_out s e es h = record {
    seen = e ∷ h.seen;
    next = h.next;
    rest = h.rest;
    split = ap (λ (l : List Event). e ∷ l) h.split;
    is_over = h.is_over;
  }

  lasts_run : (s : State) (events : List Event) → Used s.rows → Used (run s events).state.rows ⊎ HasRunOut key remote s events
  lasts_run s [] u = inl u
  lasts_run s (e ∷ es) u = elim (lasts_step s e u) [
    | inr over ↦ inr (record { seen = []; next = e; rest = es; split = refl; is_over = over })
    | inl stays ↦ elim (lasts_run (step s e).state es stays) [
      | inl lasts ↦ inl lasts
      | inr out ↦ inr (later_out s e es out)
    ]
  ]

pub each_use_lasts : EachUseLasts
each_use_lasts s events key ext remote u = lasts_run key ext remote s events u

-- ---- a refusal

-- no receiver refuses for want of a place
err_inj : {A : Type 0} (x y : DropCause) (r : Result A DropCause) → r ≡ Err x → r ≡ Err y → x ≡ y
err_inj x y r h k = cc

test_by : (admits : Bool) (row : Mapping) (cause : DropCause) → (require admits Filtered >> Ok row) ≡ Err cause → is_refusal cause ≡ false
test_by false row cause h = subst (λ (x : DropCause). is_refusal x ≡ false) (err_inj Filtered cause _ refl h) refl
test_by true row cause h = cc

other_by : (o : Option Mapping) (admits : Mapping → Bool) (cause : DropCause)
    → (ok_or o NoMapping >>= (λ row. require (admits row) Filtered >> Ok row)) ≡ Err cause → is_refusal cause ≡ false
other_by None admits cause h = subst (λ (x : DropCause). is_refusal x ≡ false) (err_inj NoMapping cause _ refl h) refl
other_by (Some row) admits cause h = test_by (admits row) row cause h

other_cause : (s : State) (a : Arrival) (cause : DropCause) → receiver_of s a ≡ Err cause → is_refusal cause ≡ false
other_cause s a cause h = other_by (find_in a.proto a.to s.rows) _ cause h

abbrev LeavesAll : State → Step → Type 0
LeavesAll s t =
    IfSome t.drop (λ cause. is_refusal cause ≡ true → (let after = horizon_by (needs_horizon t) t.state in after ≡ keeping s after.kept))

never : {A : Type 0} (b : Bool) → b ≡ false → b ≡ true → A
never true f t = cc
never false f t = cc

leaves_treated : (s : State) (bytes : List ℕ) (kind : EventKind) → LeavesAll s (treatment s kind bytes)
leaves_treated s bytes kind = by_way (LeavesAll s) s bytes kind (λ kept. record {
  rests = tt;
  drops = λ cause refused. refl;
  answers = λ got cause e is refused. refl;
  relays = λ i is. tt;
  delivers = λ d row by. tt;
  forwards = λ got g by abroad. tt;
  turns = λ got g row by back. tt;
  holds = λ got g cause by refuses refused.
      never (is_refusal cause) (other_cause (granted_only (flow_of got) g s) (arrival_of (turned got g)) cause refuses) refused;
})

pub each_refusal_leaves : EachRefusalLeavesAll
each_refusal_leaves s e = leaves_treated (at_moment e.at.0 s).state e.bytes e.kind

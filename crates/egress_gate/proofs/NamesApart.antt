-- A log names one subscriber at most for each place and moment where no two leases share a port at a moment, and where all leases
-- have ended also the other way round.
use Rattle.std.proofs.Common.{◌≡◌, ℕ, ◌≤◌, max, Bool, true, false, cond, ◌&&◌, List, [], ◌∷◌, length, map, filter, nat_le, is_none}
use Rattle.std.proofs.Common.{Option, Some, None, refl, sym, ap, ◌∙◌, arith}
use Rattle.std.specs.List.{AllByRecursion}
use Rattle.std.proofs.lemmas.Bool.{and_from, and_parts, cond-true, eqb-true, false_from_ne_true, le-leb, leb-true}
use Rattle.std.proofs.lemmas.List.{length-map}
use Rattle.std.proofs.lemmas.List.Elements.{All-weaker, recursion_from_All}
use Rattle.aftr_base.specs.Row.{is_open, overlaps}
use Rattle.aftr_base.specs.Told.{end_of, lease_closed, until_of}
use Rattle.aftr_base.specs.Value.{ip4_eq}
use Rattle.aftr_base.specs.declared.row.LeaseRow.{LeaseRow}
use Rattle.aftr_base.specs.declared.told.Told.{Told}
use Rattle.aftr_base.specs.declared.value.Ip4.{Ip4}
use Rattle.aftr_base.specs.declared.value.Moment.{Moment}
use Rattle.aftr_base.specs.declared.value.Subscriber.{Subscriber}
use Rattle.aftr_base.proofs.Pairwise.{Pairwise, pairs_from, pairs_map}
use Rattle.cfg_text.specs.declared.config.Config.{Config}
use Rattle.xlate_core.specs.Valid.{AreDisjoint, IsStart, clash, is_lease_by, lasts_to}
use Rattle.xlate_core.proofs.Holders.{few_holders, holders, holds as holds_it, holds_from}
use Rattle.xlate_core.proofs.ValidExpiry.{ends_by, lease_parts}
use Rattle.trace_query.specs.Names.{holds, names_of}
use Rattle.trace_query.specs.Logs.{NamesOne}

-- ---- whom a log names are the holders of its leases with the open ones ended at the horizon

abbrev pub with_ends : ℕ → List LeaseRow → List LeaseRow
with_ends horizon leases = map (lease_closed horizon) leases

kept_owners : (horizon at port : ℕ) (addr : Ip4) (leases : List LeaseRow)
    → map (λ (l : LeaseRow). l.owner) (filter (holds horizon addr port at) leases) ≡ holders (with_ends horizon leases) addr port at
kept_owners horizon at port addr [] = refl
kept_owners horizon at port addr (l ∷ leases) =
    owners (holds horizon addr port at l) (filter (holds horizon addr port at) leases)
    (filter (holds_it addr port at) (with_ends horizon leases)) (kept_owners horizon at port addr leases)
  where
    owners : (b : Bool) (ls ms : List LeaseRow) → map (λ (k : LeaseRow). k.owner) ls ≡ map (λ (k : LeaseRow). k.owner) ms
        → map (λ (k : LeaseRow). k.owner) (cond b (l ∷ ls) ls) ≡ map (λ (k : LeaseRow). k.owner) (cond b (lease_closed horizon l ∷ ms) ms)
    owners true ls ms same = ap (λ (os : List Subscriber). l.owner ∷ os) same
    owners false ls ms same = same

pub names_are_holders : (t : Told) (addr : Ip4) (port at : ℕ)
    → names_of t addr port at ≡ holders (with_ends t.horizon.0 t.leases) addr port at
names_are_holders t addr port at = kept_owners t.horizon.0 at port addr t.leases

-- ---- so one at most, where they are disjoint

lasts_less : (horizon at : ℕ) (l : LeaseRow) → lasts_to at (lease_closed horizon l) ≡ true → lasts_to at l ≡ true
lasts_less horizon at l h = by l.until h
  where
    by : (u : Option Moment) → nat_le at (until_of horizon u).0 ≡ true
        → (elim u [ None ↦ true | Some m ↦ nat_le at m.0 ]) ≡ true
    by None h = refl
    by (Some m) h = h

apart_with_ends : (horizon : ℕ) (l m : LeaseRow) → clash l m ≡ false → clash (lease_closed horizon l) (lease_closed horizon m) ≡ false
apart_with_ends horizon l m apart =
    false_from_ne_true (clash (lease_closed horizon l) (lease_closed horizon m)) (λ h.
    let a = and_parts (overlaps l m.addr m.first m.last && lasts_to m.since.0 (lease_closed horizon l))
    (lasts_to l.since.0 (lease_closed horizon m)) h in
    let b = and_parts (overlaps l m.addr m.first m.last) (lasts_to m.since.0 (lease_closed horizon l)) a.0 in
    let both = and_from (overlaps l m.addr m.first m.last && lasts_to m.since.0 l) (lasts_to l.since.0 m)
    (and_from (overlaps l m.addr m.first m.last) (lasts_to m.since.0 l) b.0 (lasts_less horizon m.since.0 l b.1))
    (lasts_less horizon l.since.0 m a.1) in
    absurd (cc (sym apart ∙ both)))

pub disjoint_name_one : (t : Told) → AreDisjoint t.leases → NamesOne t
disjoint_name_one t apart = λ addr port at.
    let f = lease_closed t.horizon.0 in
    let A = λ (l m : LeaseRow). clash l m ≡ false in
    let ends = pairs_map A A f (apart_with_ends t.horizon.0) t.leases apart in
    omega (arith, few_holders (with_ends t.horizon.0 t.leases) addr port at ends, ap length (names_are_holders t addr port at))

-- ---- and where all have ended, one name at most means that they are disjoint

-- it begins before it ends, and has a port
record HasPlaces (l : LeaseRow) : Type 0 where
  ports : l.first ≤ l.last
  ends : lasts_to l.since.0 l ≡ true

abbrev NoneHolds : LeaseRow → List LeaseRow → Type 0
NoneHolds l leases = (addr : Ip4) (port at : ℕ) → holds_it addr port at l ≡ true → filter (holds_it addr port at) leases ≡ []

ends_since : (since now latest : ℕ) (u : Option Moment) → ends_by since now latest u ≡ true
    → (elim u [ None ↦ true | Some m ↦ nat_le since m.0 ]) ≡ true
ends_since since now latest None h = refl
ends_since since now latest (Some m) h = (and_parts (nat_le since m.0) (nat_le m.0 latest) h).0

has_places : (now latest : ℕ) (l : LeaseRow) → is_lease_by now latest l ≡ true → HasPlaces l
has_places now latest l by =
    let is = lease_parts now latest l by in
    record { ports = is.range; ends = ends_since l.since.0 now latest l.until is.over }

lasts_both : (at other : ℕ) (u : Option Moment) → (elim u [ None ↦ true | Some m ↦ nat_le at m.0 ]) ≡ true
    → (elim u [ None ↦ true | Some m ↦ nat_le other m.0 ]) ≡ true
    → (elim u [ None ↦ true | Some m ↦ nat_le (max at other) m.0 ]) ≡ true
lasts_both at other None h k = refl
lasts_both at other (Some m) h k = le-leb (max at other) m.0 (omega (arith, leb-true at m.0 h, leb-true other m.0 k))

-- two leases that clash hold a place together
together : (l m : LeaseRow) → HasPlaces l → HasPlaces m → clash l m ≡ true
    → (let port = max l.first m.first in let at = max l.since.0 m.since.0 in
    (holds_it l.addr port at l ≡ true) × (holds_it l.addr port at m ≡ true))
together l m one other h =
    let port = max l.first m.first in
    let at = max l.since.0 m.since.0 in
    let a = and_parts (overlaps l m.addr m.first m.last && lasts_to m.since.0 l) (lasts_to l.since.0 m) h in
    let b = and_parts (overlaps l m.addr m.first m.last) (lasts_to m.since.0 l) a.0 in
    let c = and_parts (ip4_eq l.addr m.addr && nat_le l.first m.last) (nat_le m.first l.last) b.0 in
    let d = and_parts (ip4_eq l.addr m.addr) (nat_le l.first m.last) c.0 in
    let low = leb-true l.first m.last d.1 in
    let high = leb-true m.first l.last c.1 in (
      holds_from {addr = l.addr} {port = port} {at = at} {l = l} (record {
        addr_is = refl;
        low = omega arith;
        high = omega (arith, high, one.ports);
        begun = omega arith;
        lasts = lasts_both l.since.0 m.since.0 l.until one.ends b.1;
      }),
      holds_from {addr = l.addr} {port = port} {at = at} {l = m} (record {
        addr_is = eqb-true l.addr.0 m.addr.0 d.0;
        low = omega arith;
        high = omega (arith, low, other.ports);
        begun = omega arith;
        lasts = lasts_both l.since.0 m.since.0 m.until a.1 other.ends;
      }),
    )

none_later : (b : Bool) (m : LeaseRow) (ms : List LeaseRow) → cond b (m ∷ ms) ms ≡ [] → ms ≡ []
none_later true m ms none = absurd (cc none)
none_later false m ms none = none

none_apart : (l : LeaseRow) (leases : List LeaseRow) → HasPlaces l → AllByRecursion HasPlaces leases → NoneHolds l leases
    → AllByRecursion (λ m. clash l m ≡ false) leases
none_apart l [] one others none = tt
none_apart l (m ∷ ms) one others none = (
  false_from_ne_true (clash l m) (λ h.
      let both = together l m one others.0 h in
      let p = holds_it l.addr (max l.first m.first) (max l.since.0 m.since.0) in
      absurd (cc (sym (cond-true (p m) (m ∷ filter p ms) (filter p ms) both.1)
      ∙ none l.addr (max l.first m.first) (max l.since.0 m.since.0) both.0))),
  none_apart l ms one others.1 (λ addr port at h.
      none_later (holds_it addr port at m) m (filter (holds_it addr port at) ms) (none addr port at h)),
)

nothing_more : (ls : List LeaseRow) → length ls ≤ 0 → ls ≡ []
nothing_more [] le = refl
nothing_more (l ∷ ls) le = absurd (omega (arith, le))

fewer : (b : Bool) (l : LeaseRow) (ls : List LeaseRow) → length (cond b (l ∷ ls) ls) ≤ 1 → length ls ≤ 1
fewer true l ls le = omega (arith, le)
fewer false l ls le = le

abbrev HoldsOne : List LeaseRow → Type 0
HoldsOne leases = (addr : Ip4) (port at : ℕ) → length (filter (holds_it addr port at) leases) ≤ 1

one_apart : (leases : List LeaseRow) → AllByRecursion HasPlaces leases → HoldsOne leases → Pairwise (λ l m. clash l m ≡ false) leases
one_apart [] places one = tt
one_apart (l ∷ ls) places one = (
  none_apart l ls places.0 places.1 (λ addr port at h.
      let p = holds_it addr port at in
      nothing_more (filter p ls)
      (omega (arith, one addr port at, ap length (cond-true (p l) (l ∷ filter p ls) (filter p ls) h)))),
  one_apart ls places.1 (λ addr port at.
      fewer (holds_it addr port at l) l (filter (holds_it addr port at) ls) (one addr port at)),
)

ended_same : (horizon : ℕ) (l : LeaseRow) → is_open l ≡ false → lease_closed horizon l ≡ l
ended_same horizon l ended = by l.until ended
  where
    by : (u : Option Moment) → is_none u ≡ false → record l { until = Some (until_of horizon u) } ≡ record l { until = u }
    by None ended = absurd (cc ended)
    by (Some m) ended = refl

pub all_ended : (horizon : ℕ) (leases : List LeaseRow) → AllByRecursion (λ l. is_open l ≡ false) leases → with_ends horizon leases ≡ leases
all_ended horizon [] ended = refl
all_ended horizon (l ∷ ls) ended =
    ap (λ (m : LeaseRow). m ∷ with_ends horizon ls) (ended_same horizon l ended.0)
    ∙ ap (λ (ms : List LeaseRow). l ∷ ms) (all_ended horizon ls ended.1)

pub one_name_disjoint : {c : Config} (t : Told) → IsStart c t → NamesOne t → AreDisjoint t.leases
one_name_disjoint t begins one =
    let by : LeaseRow → Type 0 = λ l. is_lease_by 0 (end_of t) l ≡ true in
    let places = recursion_from_All HasPlaces t.leases (All-weaker by HasPlaces (has_places 0 (end_of t)) t.leases begins.leases) in
    let same = all_ended t.horizon.0 t.leases (recursion_from_All (λ (l : LeaseRow). is_open l ≡ false) t.leases begins.ended) in
    pairs_from (λ l m. clash l m ≡ false) t.leases
    (one_apart t.leases places (λ addr port at.
    let holding = filter (holds_it addr port at) t.leases in
    omega (
      arith,
      one addr port at,
      ap length (names_are_holders t addr port at),
      ap (λ (ls : List LeaseRow). length (holders ls addr port at)) same,
      length-map holding (λ (l : LeaseRow). l.owner),
    )))

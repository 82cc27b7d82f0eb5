-- A consistent state stays so as the clock is raised.
use Rattle.std.proofs.Common.{◌≡◌, ℕ, zero, suc, ◌<◌, ◌≤◌, Bool, true, false, not, ◌&&◌, is_none, List, [], ◌∷◌, length, map, get_or}
use Rattle.std.proofs.Common.{max, Option, Some, None, nat_le, refl, sym, ap, ◌∙◌, subst, arith}
use Rattle.std.specs.Prelude.{if◌then◌else◌}
use Rattle.std.specs.List.{AllZip, list_any}
use Rattle.std.proofs.lemmas.Bool.{both_ways, and_parts, and_from, and_right, not_from_true, leb-true, le-leb, eqb-true, eq-eqb}
use Rattle.std.proofs.lemmas.List.Folds.{list_any_at}
use Rattle.std.proofs.lemmas.List.Elements.{All-map, All-filter}
use Rattle.aftr_base.specs.Value.{ip4_eq, subscriber_eq, is_within}
use Rattle.aftr_base.specs.Plan.{is_prefix6}
use Rattle.aftr_base.specs.Row.{is_open, overlaps, ended}
use Rattle.aftr_base.specs.declared.value.Ext.{Ext}
use Rattle.aftr_base.specs.declared.value.Moment.{Moment}
use Rattle.aftr_base.specs.declared.value.Subscriber.{Subscriber}
use Rattle.aftr_base.specs.declared.row.LeaseRow.{LeaseRow}
use Rattle.aftr_base.proofs.Pairwise.{pairs_filter, pairs_map, pairs_zip, all_zip, any_zip, zip_same}
use Rattle.frag_reasm.specs.Offers.{live}
use Rattle.nat_mapping.specs.Rows.{Mapping}
use Rattle.nat_mapping.specs.Rows.{in_use, is_used, live_peers, expired}
use Rattle.xlate_core.specs.State.{State, latest}
pub use Rattle.xlate_core.specs.Expiry.{MayEnd, Lasts, Idle}
use Rattle.xlate_core.specs.Expiry.{Closed, is_idle, with_idle_ended, closing_limit, at_moment}
use Rattle.xlate_core.specs.Valid.{AreGranted, IsConsistent, lies_in_lease, is_owned, are_alike, clash_open, is_lease_by}
use Rattle.xlate_core.proofs.Clock.{by_moment}

-- ---- a place in a lease

pub record LiesIn (owner : Subscriber) (e : Ext) (l : LeaseRow) : Type 0 where
  pub lasts : is_open l ≡ true
  pub owns : subscriber_eq owner l.owner ≡ true
  pub addr : e.addr.0 ≡ l.addr.0
  pub low : l.first ≤ e.port
  pub high : e.port ≤ l.last

abbrev pub lies_here : Subscriber → Ext → LeaseRow → Bool
lies_here owner e l = is_open l && subscriber_eq owner l.owner && ip4_eq e.addr l.addr && is_within l.first l.last e.port

pub here_parts : (owner : Subscriber) (e : Ext) (l : LeaseRow) → lies_here owner e l ≡ true → LiesIn owner e l
here_parts owner e l h =
    let a = and_parts (is_open l && subscriber_eq owner l.owner && ip4_eq e.addr l.addr) (is_within l.first l.last e.port) h in
    let b = and_parts (is_open l && subscriber_eq owner l.owner) (ip4_eq e.addr l.addr) a.0 in
    let c = and_parts (is_open l) (subscriber_eq owner l.owner) b.0 in
    let d = and_parts (nat_le l.first e.port) (nat_le e.port l.last) a.1 in
    record {
      lasts = c.0;
      owns = c.1;
      addr = eqb-true e.addr.0 l.addr.0 b.1;
      low = leb-true l.first e.port d.0;
      high = leb-true e.port l.last d.1;
    }

pub here_from : (owner : Subscriber) (e : Ext) (l : LeaseRow) → LiesIn owner e l → lies_here owner e l ≡ true
here_from owner e l h =
    and_from (is_open l && subscriber_eq owner l.owner && ip4_eq e.addr l.addr) (is_within l.first l.last e.port)
    (and_from (is_open l && subscriber_eq owner l.owner) (ip4_eq e.addr l.addr)
    (and_from (is_open l) (subscriber_eq owner l.owner) h.lasts h.owns) (eq-eqb e.addr.0 l.addr.0 h.addr))
    (and_from (nat_le l.first e.port) (nat_le e.port l.last) (le-leb l.first e.port h.low) (le-leb e.port l.last h.high))

-- that of a row
pub lies_parts : (r : Mapping) (l : LeaseRow) → lies_in_lease r l ≡ true → LiesIn r.owner r.ext l
lies_parts r l h = here_parts r.owner r.ext l h

pub lies_from : (r : Mapping) (l : LeaseRow) → LiesIn r.owner r.ext l → lies_in_lease r l ≡ true
lies_from r l h = here_from r.owner r.ext l h

-- ---- which leases end

may_end : (now : ℕ) (rows : List Mapping) (l : LeaseRow) (b : Bool) → is_idle rows l ≡ b → MayEnd now rows l (if b then ended now l else l)
may_end now rows l true e = Idle e refl
may_end now rows l false e = Lasts refl

pub idle_end : (n now : ℕ) (rows : List Mapping) (ls : List LeaseRow) → AllZip (MayEnd now rows) ls (with_idle_ended n now rows ls)
idle_end zero now rows ls = zip_same (MayEnd now rows) (λ l. Lasts refl) ls
idle_end (suc n) now rows [] = tt
idle_end (suc n) now rows (l ∷ ls) =
    (may_end now rows l (is_idle rows l) refl, idle_end (if is_idle rows l then n else suc n) now rows ls)

-- an idle lease is open
pub idle_open : (rows : List Mapping) (l : LeaseRow) → is_idle rows l ≡ true → is_open l ≡ true
idle_open rows l idle = (and_parts (is_open l) (not (in_use l.addr l.first l.last rows)) idle).0

-- a lease that has the place of a row isn't idle, and stays
used : (rows : List Mapping) (k : ℕ) (d : Mapping) (l : LeaseRow) → k < length rows → lies_in_lease (get_or rows k d) l ≡ true
    → in_use l.addr l.first l.last rows ≡ true
used rows k d l lt lies =
    let r = get_or rows k d in
    let h = lies_parts r l lies in
    let low = le-leb l.first r.ext.port h.low in
    let high = le-leb r.ext.port l.last h.high in
    let here : (ip4_eq l.addr r.ext.addr && is_within l.first l.last r.ext.port) ≡ true =
    and_from (ip4_eq l.addr r.ext.addr) (is_within l.first l.last r.ext.port) (eq-eqb l.addr.0 r.ext.addr.0 (sym h.addr))
    (and_from (nat_le l.first r.ext.port) (nat_le r.ext.port l.last) low high) in
    list_any_at (λ (q : Mapping). ip4_eq l.addr q.ext.addr && is_within l.first l.last q.ext.port) rows k d lt here

not_idle : (rows : List Mapping) (l : LeaseRow) → in_use l.addr l.first l.last rows ≡ true → is_idle rows l ≡ false
not_idle rows l u = and_right (is_open l) (not (in_use l.addr l.first l.last rows)) (not_from_true (in_use l.addr l.first l.last rows) u)

stays : {now : ℕ} {rows : List Mapping} {l m : LeaseRow} (k : ℕ) (d : Mapping) → k < length rows → MayEnd now rows l m
    → lies_in_lease (get_or rows k d) l ≡ true → lies_in_lease (get_or rows k d) m ≡ true
stays {rows = rows} k d lt (Lasts same) h = subst (λ (x : LeaseRow). lies_in_lease (get_or rows k d) x ≡ true) (sym same) h
stays {rows = rows} {l = l} k d lt (Idle idle e) h = absurd (both_ways (is_idle rows l) (not_idle rows l (used rows k d l lt h)) idle)

-- ---- what each lease keeps

-- an open lease began by now, and an end is past the begin and no later than the latest moment
abbrev pub ends_by : ℕ → ℕ → ℕ → Option Moment → Bool
ends_by since now latest u = elim u [ None ↦ nat_le since now | Some until ↦ nat_le since until.0 && nat_le until.0 latest ]

ends_later : (since before earlier now latest : ℕ) (u : Option Moment) → before ≤ now → earlier ≤ latest
    → ends_by since before earlier u ≡ true → ends_by since now latest u ≡ true
ends_later since before earlier now latest None le le' h = le-leb since now (omega (arith, leb-true since before h))
ends_later since before earlier now latest (Some m) le le' h =
    let a = and_parts (nat_le since m.0) (nat_le m.0 earlier) h in
    let b = leb-true m.0 earlier a.1 in
    and_from (nat_le since m.0) (nat_le m.0 latest) a.0 (le-leb m.0 latest (omega arith))

open_since : (since now latest : ℕ) (u : Option Moment) → is_none u ≡ true → ends_by since now latest u ≡ true → since ≤ now
open_since since now latest None lasts h = leb-true since now h
open_since since now latest (Some m) lasts h = cc

since_by : (since now latest : ℕ) (u : Option Moment) → now ≤ latest → ends_by since now latest u ≡ true → since ≤ latest
since_by since now latest None le h = omega (arith, leb-true since now h)
since_by since now latest (Some m) le h =
    let a = and_parts (nat_le since m.0) (nat_le m.0 latest) h in
    omega (arith, leb-true since m.0 a.0, leb-true m.0 latest a.1)

pub record IsLeaseBy (now latest : ℕ) (l : LeaseRow) : Type 0 where
  pub owner : is_prefix6 l.owner.0 ≡ true
  pub range : l.first ≤ l.last
  pub over : ends_by l.since.0 now latest l.until ≡ true

pub lease_parts : (now latest : ℕ) (l : LeaseRow) → is_lease_by now latest l ≡ true → IsLeaseBy now latest l
lease_parts now latest l h =
    let a = and_parts (is_prefix6 l.owner.0 && nat_le l.first l.last) (ends_by l.since.0 now latest l.until) h in
    let b = and_parts (is_prefix6 l.owner.0) (nat_le l.first l.last) a.0 in
    record { owner = b.0; range = leb-true l.first l.last b.1; over = a.1 }

pub lease_from : (now latest : ℕ) (l : LeaseRow) → IsLeaseBy now latest l → is_lease_by now latest l ≡ true
lease_from now latest l h =
    and_from (is_prefix6 l.owner.0 && nat_le l.first l.last) (ends_by l.since.0 now latest l.until)
    (and_from (is_prefix6 l.owner.0) (nat_le l.first l.last) h.owner (le-leb l.first l.last h.range)) h.over

-- when it began
pub lease_since : {now latest : ℕ} {l : LeaseRow} → now ≤ latest → IsLeaseBy now latest l → l.since.0 ≤ latest
lease_since {now = now} {latest = latest} {l = l} le h = since_by l.since.0 now latest l.until le h.over

pub open_begun : {now latest : ℕ} {l : LeaseRow} → is_open l ≡ true → IsLeaseBy now latest l → l.since.0 ≤ now
open_begun {now = now} {latest = latest} {l = l} lasts h = open_since l.since.0 now latest l.until lasts h.over

lease_on : {before earlier now latest : ℕ} {rows : List Mapping} {l m : LeaseRow} → before ≤ now → earlier ≤ latest → now ≤ latest
    → MayEnd now rows l m → IsLeaseBy before earlier l → IsLeaseBy now latest m
lease_on {before = before} {earlier = earlier} {now = now} {latest = latest} {l = l} le le' by (Lasts same) h =
    subst (IsLeaseBy now latest) (sym same) (record {
      owner = h.owner;
      range = h.range;
      over = ends_later l.since.0 before earlier now latest l.until le le' h.over;
    })
lease_on {now = now} {latest = latest} {rows = rows} {l = l} le le' by (Idle idle e) h =
    let begun = open_begun (idle_open rows l idle) h in
    subst (IsLeaseBy now latest) (sym e) (record {
      owner = h.owner;
      range = h.range;
      over = and_from (nat_le l.since.0 now) (nat_le now latest) (le-leb l.since.0 now (omega (arith, begun, le))) (le-leb now latest by);
    })

lease_later : (before earlier now latest : ℕ) (rows : List Mapping) (l m : LeaseRow) → before ≤ now → earlier ≤ latest → now ≤ latest
    → MayEnd now rows l m → is_lease_by before earlier l ≡ true → is_lease_by now latest m ≡ true
lease_later before earlier now latest rows l m le le' by z h =
    lease_from now latest m (lease_on le le' by z (lease_parts before earlier l h))

-- ---- what two leases keep

-- the end, where there is one, isn't before that moment
abbrev pub lasts_at : ℕ → Option Moment → Bool
lasts_at at u = elim u [ None ↦ true | Some until ↦ nat_le at until.0 ]

-- one that has ended shares its ports with no open one, from either side
pub closed_first : (l m : LeaseRow) → is_open l ≡ false → clash_open l m ≡ false
closed_first l m h = ap (λ (b : Bool). b && is_open m && overlaps l m.addr m.first m.last) h

and_closed : (b over : Bool) → (b && false && over) ≡ false
and_closed true over = refl
and_closed false over = refl

pub closed_second : (l m : LeaseRow) → is_open m ≡ false → clash_open l m ≡ false
closed_second l m h =
    let over = overlaps l m.addr m.first m.last in
    ap (λ (b : Bool). is_open l && b && over) h ∙ and_closed (is_open l) over

clash_ended : {now : ℕ} {rows : List Mapping} {l u : LeaseRow} (m : LeaseRow) → MayEnd now rows l u → clash_open l m ≡ false
    → clash_open u m ≡ false
clash_ended m (Lasts same) h = subst (λ (x : LeaseRow). clash_open x m ≡ false) (sym same) h
clash_ended {now = now} {l = l} m (Idle idle e) h =
    subst (λ (x : LeaseRow). clash_open x m ≡ false) (sym e) (closed_first (ended now l) m refl)

clash_later : {now : ℕ} {rows : List Mapping} {l m u v : LeaseRow} → MayEnd now rows l u → MayEnd now rows m v
    → clash_open l m ≡ false → clash_open u v ≡ false
clash_later {m = m} {u = u} z (Lasts same) h = subst (λ (x : LeaseRow). clash_open u x ≡ false) (sym same) (clash_ended m z h)
clash_later {now = now} {m = m} {u = u} z (Idle idle e) h =
    subst (λ (x : LeaseRow). clash_open u x ≡ false) (sym e) (closed_second u (ended now m) refl)

-- ---- the state

-- those that stay are granted
pub granted_left : (now : ℕ) (rows : List Mapping) (leases : List LeaseRow) → AreGranted rows leases → AreGranted (expired now rows) leases
granted_left now rows leases h =
    let granted = λ (r : Mapping). list_any (lies_in_lease r) leases ≡ true in
    All-filter is_used granted (map (live_peers now) rows) (All-map granted (live_peers now) rows h)

-- and stay so where idle leases end
pub granted_ended : (now : ℕ) (rows : List Mapping) (ls ms : List LeaseRow) → AllZip (MayEnd now rows) ls ms → AreGranted rows ls
    → AreGranted rows ms
granted_ended now rows ls ms z h = λ k d lt.
    let lies = lies_in_lease (get_or rows k d) in
    any_zip (MayEnd now rows) lies lies (λ l m y p. stays k d lt y p) ls ms z (h k d lt)

-- the rows that a later moment leaves
pub rows_left : (s : State) (at : ℕ) → IsConsistent s → IsConsistent (record s { rows = expired at s.rows; kept = live at s.kept })
rows_left s at v =
    let live = live_peers at in
    let all = map live s.rows in
    let owned = λ (r : Mapping). is_owned s r ≡ true in
    let apart = λ (r q : Mapping). are_alike r q ≡ false in
    record {
      granted = granted_left at s.rows s.leases v.granted;
      owned = All-filter is_used owned all (All-map owned live s.rows v.owned);
      apart = pairs_filter apart is_used all (pairs_map apart apart live (λ r q h. h) s.rows v.apart);
      leases = v.leases;
      open_apart = v.open_apart;
    }

-- the leases that it leaves, where the rows stay
pub leases_left : (s : State) (now : ℕ) → s.clock ≤ now → IsConsistent s
    → IsConsistent (record s { clock = now; leases = with_idle_ended closing_limit now s.rows s.leases })
leases_left s now le v =
    let Z = MayEnd now s.rows in
    let after = with_idle_ended closing_limit now s.rows s.leases in
    let z = idle_end closing_limit now s.rows s.leases in
    let end = max now s.floor in
    let before = λ (l : LeaseRow). is_lease_by s.clock (latest s) l ≡ true in
    let later = λ (l : LeaseRow). is_lease_by now end l ≡ true in
    let rises : latest s ≤ end = omega (arith, le) in
    let by : now ≤ end = omega arith in
    let apart = λ (l m : LeaseRow). clash_open l m ≡ false in
    record {
      granted = granted_ended now s.rows s.leases after z v.granted;
      owned = v.owned;
      apart = v.apart;
      leases = all_zip Z before later (λ l m y h. lease_later s.clock (latest s) now end s.rows l m le rises by y h) s.leases after z
          v.leases;
      open_apart = pairs_zip Z apart apart (λ l m u w y x h. clash_later y x h) s.leases after z v.open_apart;
    }

pub consistent_moment : (at : ℕ) (s : State) → IsConsistent s → IsConsistent (at_moment at s).state
consistent_moment at s v =
    by_moment (λ (c : Closed). IsConsistent c.state) at s (λ le. v)
    (λ lt. leases_left (record s { rows = expired at s.rows; kept = live at s.kept }) at (omega (arith, lt)) (rows_left s at v))

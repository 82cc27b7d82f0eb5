-- Who holds a place at a moment: where the leases are disjoint one subscriber at most, which then held it ever after.
use Rattle.std.proofs.Common.{◌≡◌, ℕ, ◌≤◌, Bool, true, false, ◌&&◌, is_none, List, [], ◌∷◌, ◌++◌, length, map, filter, Option, Some}
use Rattle.std.proofs.Common.{None, nat_le, refl, sym, ap, ◌∙◌, subst, arith}
use Rattle.std.specs.List.{list_any}
use Rattle.std.proofs.lemmas.Bool.{both_ways, and_parts, and_from, or_left, leb-true, le-leb, eqb-true, eq-eqb}
use Rattle.std.proofs.lemmas.List.{length-map}
use Rattle.std.proofs.lemmas.List.Folds.{list_any-append}
use Rattle.aftr_base.specs.Value.{ip4_eq, subscriber_eq, is_within}
use Rattle.aftr_base.specs.Row.{overlaps, ended}
use Rattle.aftr_base.specs.declared.value.Ext.{Ext}
use Rattle.aftr_base.specs.declared.value.Ip4.{Ip4}
use Rattle.aftr_base.specs.declared.value.Moment.{Moment}
use Rattle.aftr_base.specs.declared.value.Subscriber.{Subscriber}
use Rattle.aftr_base.specs.declared.row.LeaseRow.{LeaseRow}
use Rattle.aftr_base.proofs.Founds.{any_where}
use Rattle.aftr_base.proofs.Pairwise.{any_zip, pairwise_from}
use Rattle.xlate_core.specs.State.{State, latest}
use Rattle.xlate_core.specs.Valid.{AreDisjoint, IsConsistent, clash, is_lease_by, lasts_to}
use Rattle.xlate_core.proofs.SoleItems.{AreExclusive, few_kept, one_kept}
use Rattle.xlate_core.proofs.LeasesOver.{AreLater, Later, Stays, Ends}
use Rattle.xlate_core.proofs.ValidExpiry.{lease_parts, open_begun, lasts_at, here_parts, lies_here}
use Rattle.xlate_core.proofs.ValidRows.{same_subscriber, lies_at}

-- ---- who holds a place at a moment

-- both ends included; an open lease holds from its begin on
abbrev pub is_during : LeaseRow → ℕ → Bool
is_during l at = nat_le l.since.0 at && (elim l.until [ None ↦ true | Some until ↦ nat_le at until.0 ])

abbrev pub holds : Ip4 → ℕ → ℕ → LeaseRow → Bool
holds addr port at l = ip4_eq addr l.addr && is_within l.first l.last port && is_during l at

-- the owners of all leases that hold it
abbrev pub holders : List LeaseRow → Ip4 → ℕ → ℕ → List Subscriber
holders leases addr port at = map (λ (l : LeaseRow). l.owner) (filter (holds addr port at) leases)

-- ---- two leases that hold one place at one moment clash

open_lasts : (at : ℕ) (u : Option Moment) → is_none u ≡ true → lasts_at at u ≡ true
open_lasts at None h = refl
open_lasts at (Some m) h = cc

pub record HoldsPlace (addr : Ip4) (port at : ℕ) (l : LeaseRow) : Type 0 where
  pub addr_is : addr.0 ≡ l.addr.0
  pub low : l.first ≤ port
  pub high : port ≤ l.last
  pub begun : l.since.0 ≤ at
  pub lasts : lasts_at at l.until ≡ true

pub holds_parts : (addr : Ip4) (port at : ℕ) (l : LeaseRow) → holds addr port at l ≡ true → HoldsPlace addr port at l
holds_parts addr port at l h =
    let a = and_parts (ip4_eq addr l.addr && is_within l.first l.last port) (is_during l at) h in
    let b = and_parts (ip4_eq addr l.addr) (is_within l.first l.last port) a.0 in
    let c = and_parts (nat_le l.first port) (nat_le port l.last) b.1 in
    let d = and_parts (nat_le l.since.0 at) (lasts_at at l.until) a.1 in
    record {
      addr_is = eqb-true addr.0 l.addr.0 b.0;
      low = leb-true l.first port c.0;
      high = leb-true port l.last c.1;
      begun = leb-true l.since.0 at d.0;
      lasts = d.1;
    }

pub holds_from : {addr : Ip4} {port at : ℕ} {l : LeaseRow} → HoldsPlace addr port at l → holds addr port at l ≡ true
holds_from {addr = addr} {port = port} {at = at} {l = l} h =
    and_from (ip4_eq addr l.addr && is_within l.first l.last port) (is_during l at)
    (and_from (ip4_eq addr l.addr) (is_within l.first l.last port) (eq-eqb addr.0 l.addr.0 h.addr_is)
    (and_from (nat_le l.first port) (nat_le port l.last) (le-leb l.first port h.low) (le-leb port l.last h.high)))
    (and_from (nat_le l.since.0 at) (lasts_at at l.until) (le-leb l.since.0 at h.begun) h.lasts)

lasted : (since at : ℕ) (u : Option Moment) → since ≤ at → lasts_at at u ≡ true → lasts_at since u ≡ true
lasted since at None le h = refl
lasted since at (Some m) le h = le-leb since m.0 (omega (arith, le, leb-true at m.0 h))

never_both : (addr : Ip4) (port at : ℕ) (l m : LeaseRow) → clash l m ≡ false → holds addr port at l ≡ true → holds addr port at m ≡ true → ⊥
never_both addr port at l m apart h k =
    let x = holds_parts addr port at l h in
    let y = holds_parts addr port at m k in
    let low : nat_le l.first m.last ≡ true = le-leb l.first m.last (omega (arith, x.low, y.high)) in
    let high : nat_le m.first l.last ≡ true = le-leb m.first l.last (omega (arith, y.low, x.high)) in
    let one : ip4_eq l.addr m.addr ≡ true = eq-eqb l.addr.0 m.addr.0 (sym x.addr_is ∙ y.addr_is) in
    let over : overlaps l m.addr m.first m.last ≡ true =
    and_from (ip4_eq l.addr m.addr && nat_le l.first m.last) (nat_le m.first l.last)
    (and_from (ip4_eq l.addr m.addr) (nat_le l.first m.last) one low) high in
    let there = lasted m.since.0 at l.until y.begun x.lasts in
    let back = lasted l.since.0 at m.until x.begun y.lasts in
    both_ways (clash l m) apart
    (and_from (overlaps l m.addr m.first m.last && lasts_to m.since.0 l) (lasts_to l.since.0 m)
    (and_from (overlaps l m.addr m.first m.last) (lasts_to m.since.0 l) over there) back)

-- ---- so one name at most

abbrev Apart : LeaseRow → LeaseRow → Type 0
Apart l m = clash l m ≡ false

exclusive : (addr : Ip4) (port at : ℕ) → AreExclusive LeaseRow Apart (holds addr port at)
exclusive addr port at = record { never = never_both addr port at }

-- one at most holds a place at a moment
pub few_holders : (leases : List LeaseRow) (addr : Ip4) (port at : ℕ) → AreDisjoint leases
    → length (holders leases addr port at) ≤ 1
few_holders leases addr port at apart =
    let few = few_kept leases (exclusive addr port at) (pairwise_from Apart leases apart) in
    omega (arith, few, length-map (filter (holds addr port at) leases) (λ (l : LeaseRow). l.owner))

-- ---- a subscriber's lease holds the place at the moment

abbrev pub holds_for : Subscriber → Ip4 → ℕ → ℕ → LeaseRow → Bool
holds_for owner addr port at l = holds addr port at l && subscriber_eq owner l.owner

abbrev pub IsHeld : List LeaseRow → Subscriber → Ip4 → ℕ → ℕ → Type 0
IsHeld leases owner addr port at = list_any (holds_for owner addr port at) leases ≡ true

holder_parts : (owner : Subscriber) (addr : Ip4) (port at : ℕ) (l : LeaseRow) → holds_for owner addr port at l ≡ true
    → (holds addr port at l ≡ true) × (owner ≡ l.owner)
holder_parts owner addr port at l h =
    let parts = and_parts (holds addr port at l) (subscriber_eq owner l.owner) h in
    (parts.0, same_subscriber owner l.owner parts.1)

-- then that is the one holder
pub sole_holder : (leases : List LeaseRow) (owner : Subscriber) (addr : Ip4) (port at : ℕ) → AreDisjoint leases
    → IsHeld leases owner addr port at → holders leases addr port at ≡ owner ∷ []
sole_holder leases owner addr port at apart h =
    let weaker = λ (l : LeaseRow) (both : holds_for owner addr port at l ≡ true). (holder_parts owner addr port at l both).0 in
    let one = one_kept (holds_for owner addr port at) leases weaker (exclusive addr port at) (pairwise_from Apart leases apart) h in
    ap (λ (ls : List LeaseRow). map (λ (m : LeaseRow). m.owner) ls) one.kept
    ∙ ap (λ (o : Subscriber). o ∷ []) (sym (holder_parts owner addr port at one.one one.passes).1)

-- ---- it holds it ever after

holds_on : {from to : ℕ} {l m : LeaseRow} (owner : Subscriber) (addr : Ip4) (port at : ℕ) → at ≤ from → Later from to l m
    → holds_for owner addr port at l ≡ true → holds_for owner addr port at m ≡ true
holds_on owner addr port at le (Stays same) h = subst (λ (x : LeaseRow). holds_for owner addr port at x ≡ true) (sym same) h
holds_on {l = l} owner addr port at le (Ends end lasts after by same) h =
    let parts = and_parts (holds addr port at l) (subscriber_eq owner l.owner) h in
    let x = holds_parts addr port at l parts.0 in
    let late = le-leb at end (omega (arith, le, after)) in
    let there : HoldsPlace addr port at (ended end l) =
    record { addr_is = x.addr_is; low = x.low; high = x.high; begun = x.begun; lasts = late } in
    subst (λ (y : LeaseRow). holds_for owner addr port at y ≡ true) (sym same)
    (and_from (holds addr port at (ended end l)) (subscriber_eq owner l.owner) (holds_from there) parts.1)

pub held_more : (leases more : List LeaseRow) (owner : Subscriber) (addr : Ip4) (port at : ℕ) → IsHeld leases owner addr port at
    → IsHeld (leases ++ more) owner addr port at
held_more leases more owner addr port at h =
    let test = holds_for owner addr port at in
    list_any-append test leases more ∙ or_left (list_any test leases) (list_any test more) h

pub held_later : {s t : State} (owner : Subscriber) (addr : Ip4) (port at : ℕ) → AreLater s t → at ≤ s.clock
    → IsHeld s.leases owner addr port at → IsHeld t.leases owner addr port at
held_later {s = s} {t = t} owner addr port at later le h =
    let Z = Later s.clock t.clock in
    let test = holds_for owner addr port at in
    let each = λ (l m : LeaseRow) (z : Z l m) (k : test l ≡ true). holds_on owner addr port at le z k in
    let kept : IsHeld later.kept owner addr port at = any_zip Z test test each s.leases later.kept later.became h in
    subst (λ (ls : List LeaseRow). IsHeld ls owner addr port at) (sym later.leases)
    (held_more later.kept later.more owner addr port at kept)

-- a place in an open lease is held for its owner now
place_held : (now latest : ℕ) (owner : Subscriber) (e : Ext) (l : LeaseRow) → is_lease_by now latest l ≡ true → lies_here owner e l ≡ true
    → holds_for owner e.addr e.port now l ≡ true
place_held now latest owner e l by lies =
    let x = here_parts owner e l lies in
    let begun = open_begun x.lasts (lease_parts now latest l by) in
    let there : HoldsPlace e.addr e.port now l =
    record { addr_is = x.addr; low = x.low; high = x.high; begun = begun; lasts = open_lasts now l.until x.lasts } in
    and_from (holds e.addr e.port now l) (subscriber_eq owner l.owner) (holds_from there) x.owns

pub held_now : (s : State) (owner : Subscriber) (e : Ext) → IsConsistent s → lies_at s.leases owner e ≡ true
    → IsHeld s.leases owner e.addr e.port s.clock
held_now s owner e v h =
    any_where (λ l. is_lease_by s.clock (latest s) l ≡ true) (lies_here owner e) (holds_for owner e.addr e.port s.clock)
    (λ l by lies. place_held s.clock (latest s) owner e l by lies) s.leases v.leases h

-- Which place a grant gives, and that a block for it is free.
use Rattle.std.proofs.Common.{◌≡◌, inl, inr, ℕ, ◌+◌, ◌-◌, ◌<◌, ◌≤◌, Bool, true, false, cond, not, ◌&&◌, ◌||◌, List, get_or}
use Rattle.std.proofs.Common.{Option, Some, None, Result, Ok, Err, All, is_none, nat_le, nat_lt, refl, sym, ap, subst}
use Rattle.std.proofs.Common.{arith}
use Rattle.std.specs.List.{list_any, range_with_len}
use Rattle.std.proofs.lemmas.Bool.{and_parts, both_ways, or_cases, not-true, leb-true, lt-leb, ltb-true}
use Rattle.std.proofs.lemmas.List.Elements.{filter_passes}
use Rattle.aftr_base.specs.Value.{place, subscriber_eq}
use Rattle.aftr_base.specs.Row.{is_open, overlaps, ended}
use Rattle.aftr_base.specs.declared.value.Ext.{Ext}
use Rattle.aftr_base.specs.declared.value.Proto.{Proto}
use Rattle.aftr_base.specs.declared.value.Moment.{Moment}
use Rattle.aftr_base.specs.declared.value.Subscriber.{Subscriber}
use Rattle.aftr_base.specs.declared.row.LeaseRow.{LeaseRow}
use Rattle.aftr_base.specs.declared.event.DropCause.{DropCause}
use Rattle.aftr_base.specs.declared.event.DropCause.TheVariants.{NoMapping, QuotaMappings, QuotaPeers, QuotaBlocks}
use Rattle.cfg_text.specs.declared.config.Config.{Config}
use Rattle.nat_mapping.specs.Rows.{Mapping}
use Rattle.nat_mapping.specs.Rows.{has_peer, has_place, is_at, least_free}
use Rattle.xlate_core.specs.Rows.{find_out}
use Rattle.port_blocks.specs.declared.choice.Block.{Block}
use Rattle.port_blocks.specs.declared.choice.Choice.{Choice}
use Rattle.port_blocks.specs.declared.choice.Choice.TheVariants.{New, AddressFull, PoolEmpty}
use Rattle.port_blocks.specs.Free.{choice_of, has_ended_for, is_open_of, last_port, open_of, opened}
use Rattle.port_blocks.proofs.Choices.{IsChosen}
use Rattle.quota.specs.Limits.{may_block, may_map, may_peer}
use Rattle.xlate_core.specs.declared.grant.Flow.{Flow}
use Rattle.xlate_core.specs.Endpoints.{endpoint}
use Rattle.xlate_core.specs.State.{State}
use Rattle.xlate_core.specs.Valid.{clash, clash_open}
use Rattle.xlate_core.specs.declared.grant.Grant.{Grant}
use Rattle.xlate_core.specs.Grant.{at_once, granted, kept_place, new_block, new_lease, place_for, place_in, place_in_lease, usage_of, with_choice}
use Rattle.aftr_base.proofs.Founds.{found_passes, found_in, first_in, first_any, mapped_some, none_any, all_pass, any_filter, in_row}
use Rattle.xlate_core.proofs.Attempts.{test_passed}
use Rattle.xlate_core.proofs.ValidExpiry.{here_from, lasts_at, lies_here}
use Rattle.xlate_core.proofs.ValidRows.{lies_at}
use Rattle.subscriber_table.specs.Under.{subscriber_of}
use Rattle.cfg_text.specs.Accepted.{is_accepted}

-- ---- the ways of a grant

abbrev pub given : Grant → Result Grant DropCause
given g = Ok g

-- a place that a subscriber of this configuration was given
pub record IsGrant (s : State) (f : Flow) (g : Grant) : Type 0 where
  pub accepted : is_accepted s.config ≡ true
  pub owns : subscriber_of s.config f.key.softwire ≡ Some f.who.owner
  pub grants : granted s f ≡ given g

-- the block that its subscriber may have next
abbrev pub choice_for : State → Flow → Choice
choice_for s f = choice_of s.config s.leases f.who.owner None s.clock

-- the place that the key has, the least free one of an open lease, or the first of a new lease
pub data GrantCase (s : State) (f : Flow) (g : Grant) : Type 0 where
  Keeps : (r : Mapping) → find_out f.key s.rows ≡ Some r → g ≡ at_once r.ext → GrantCase s f g
  Takes : (e : Ext) → find_out f.key s.rows ≡ None → place_in_lease s f ≡ Some e → g ≡ at_once e → GrantCase s f g
  Opens : (b : Block) → find_out f.key s.rows ≡ None → choice_for s f ≡ New b → g ≡ new_lease s f.who.owner b → GrantCase s f g

given_inj : (x y : Grant) → given x ≡ given y → x ≡ y
given_inj x y h = cc

case_kept : (s : State) (f : Flow) (g : Grant) (r : Mapping) (b : Bool) → find_out f.key s.rows ≡ Some r
    → cond b (Ok (at_once r.ext)) (Err QuotaPeers) ≡ Ok g → GrantCase s f g
case_kept s f g r true found h = Keeps r found (sym (given_inj (at_once r.ext) g h))
case_kept s f g r false found h = cc

case_chosen : (s : State) (f : Flow) (g : Grant) (o : Choice) → find_out f.key s.rows ≡ None → choice_for s f ≡ o
    → with_choice s f.who.owner o ≡ Ok g → GrantCase s f g
case_chosen s f g (New b) none e h = Opens b none e (sym (given_inj (new_lease s f.who.owner b) g h))
case_chosen s f g AddressFull none e h = cc
case_chosen s f g PoolEmpty none e h = cc

case_block : (s : State) (f : Flow) (g : Grant) → find_out f.key s.rows ≡ None → new_block s f ≡ Ok g → GrantCase s f g
case_block s f g none h =
    let within = (test_passed (may_block (usage_of s f.who.owner) s.config) QuotaBlocks _ g h).1 in
    case_chosen s f g (choice_for s f) none refl within

-- what a place, or none, of an open lease leads to
abbrev with_place : State → Flow → Option Ext → Result Grant DropCause
with_place s f o = elim o [ Some ext ↦ Ok (at_once ext) | None ↦ new_block s f ]

case_place : (s : State) (f : Flow) (g : Grant) (o : Option Ext) → find_out f.key s.rows ≡ None → place_in_lease s f ≡ o
    → with_place s f o ≡ Ok g → GrantCase s f g
case_place s f g None none e h = case_block s f g none h
case_place s f g (Some ext) none e h = Takes ext none e (sym (given_inj (at_once ext) g h))

case_new : (s : State) (f : Flow) (g : Grant) → find_out f.key s.rows ≡ None → place_for s f ≡ Ok g → GrantCase s f g
case_new s f g none h =
    let asked = (test_passed (not f.answers) NoMapping _ g h).1 in
    let mapped = (test_passed (may_map (usage_of s f.who.owner) s.config) QuotaMappings _ g asked).1 in
    let peered = (test_passed (may_peer (usage_of s f.who.owner) s.config) QuotaPeers _ g mapped).1 in
    case_place s f g (place_in_lease s f) none refl peered

abbrev with_row : State → Flow → Option Mapping → Result Grant DropCause
with_row s f o = elim o [ Some r ↦ kept_place s f r | None ↦ place_for s f ]

case_found : (s : State) (f : Flow) (g : Grant) (o : Option Mapping) → find_out f.key s.rows ≡ o → with_row s f o ≡ Ok g
    → GrantCase s f g
case_found s f g None e h = case_new s f g e h
case_found s f g (Some r) e h =
    case_kept s f g r (has_peer (endpoint f.key.proto f.remote) r.peers || may_peer (usage_of s f.who.owner) s.config) e h

pub grant_cases : (s : State) (f : Flow) (g : Grant) → granted s f ≡ given g → GrantCase s f g
grant_cases s f g h = case_found s f g (find_out f.key s.rows) refl h

pub grant_case : {s : State} {f : Flow} {g : Grant} → IsGrant s f g → GrantCase s f g
grant_case {s = s} {f = f} {g = g} h = grant_cases s f g h.grants

-- ---- a place in an open lease

-- a port of the lease that no row of the protocol has
record IsPlaceIn (rows : List Mapping) (proto : Proto) (l : LeaseRow) (e : Ext) : Type 0 where
  addr : e.addr.0 ≡ l.addr.0
  low : l.first ≤ e.port
  high : e.port ≤ l.last
  free : list_any (is_at proto e) rows ≡ false

place_parts : (rows : List Mapping) (proto : Proto) (l : LeaseRow) (e : Ext) → place_in rows proto l ≡ Some e → IsPlaceIn rows proto l e
place_parts rows proto l e h =
    let count = l.last + 1 - l.first in
    let ports = range_with_len l.first count in
    let test = λ (n : ℕ). not (list_any (is_at proto (place l.addr n)) rows) in
    let (port, found, same) = mapped_some (place l.addr) (least_free proto l.addr l.first l.last rows) e h in
    let within = found_in (λ n. (l.first ≤ n) × (n < l.first + count)) test ports port (in_row l.first count) found in
    let free = not-true (list_any (is_at proto (place l.addr port)) rows) (found_passes test ports port found) in
    subst (IsPlaceIn rows proto l) same (record { addr = refl; low = within.0; high = omega (arith, within.0, within.1); free = free })

lies_in : (s : State) (f : Flow) (e : Ext) (l : LeaseRow) → is_open_of f.who.owner l ≡ true
    → place_in s.rows f.key.proto l ≡ Some e → lies_here f.who.owner e l ≡ true
lies_in s f e l h k =
    let parts = and_parts (is_open l) (subscriber_eq f.who.owner l.owner) h in
    let here = place_parts s.rows f.key.proto l e k in
    here_from f.who.owner e l (record { lasts = parts.0; owns = parts.1; addr = here.addr; low = here.low; high = here.high })

pub taken_granted : (s : State) (f : Flow) (e : Ext) → place_in_lease s f ≡ Some e → lies_at s.leases f.who.owner e ≡ true
taken_granted s f e h =
    let test = is_open_of f.who.owner in
    let lies = lies_here f.who.owner e in
    any_filter lies test s.leases
    (first_any (place_in s.rows f.key.proto) (λ l. test l ≡ true) lies (open_of f.who.owner s.leases) e
    (λ l lasts here. lies_in s f e l lasts here) (filter_passes test s.leases) h)

-- no row has it
pub taken_unused : (s : State) (f : Flow) (e : Ext) → place_in_lease s f ≡ Some e → has_place f.key.proto e s.rows ≡ false
taken_unused s f e h =
    let test = is_open_of f.who.owner in
    let proto = f.key.proto in
    let hit = first_in (place_in s.rows proto) (λ l. test l ≡ true) (open_of f.who.owner s.leases) e (filter_passes test s.leases) h in
    (place_parts s.rows proto hit.0 e hit.2).free

pub taken_free : (s : State) (f : Flow) (e : Ext) → place_in_lease s f ≡ Some e → All (λ q. is_at f.key.proto e q ≡ false) s.rows
taken_free s f e h = none_any (is_at f.key.proto e) s.rows (taken_unused s f e h)

-- ---- a free block

-- no lease is in the way of the block
abbrev pub may_have : Config → Subscriber → ℕ → Block → LeaseRow → Bool
may_have c owner now b l = not (overlaps l b.addr b.first b.last) || has_ended_for c owner now l

pub block_free : {c : Config} {leases : List LeaseRow} {owner : Subscriber} {now : ℕ} {b : Block} → IsChosen c leases owner now b
    → All (λ l. may_have c owner now b l ≡ true) leases
block_free {c = c} {leases = leases} {owner = owner} {now = now} {b = b} h =
    let test = λ (last : ℕ) (l : LeaseRow). not (overlaps l b.addr b.first last) || has_ended_for c owner now l in
    subst (λ (last : ℕ). All (λ l. test last l ≡ true) leases) (sym h.last) (all_pass (test (last_port c b.first)) leases h.free)

-- an open lease hasn't ended for anybody
stays_by : (mine : Bool) (hold now : ℕ) (u : Option Moment) → is_none u ≡ true
    → elim u [ None ↦ false | Some until ↦ nat_le (until.0 + hold) now || (mine && nat_lt until.0 now) ] ≡ false
stays_by mine hold now None lasts = refl
stays_by mine hold now (Some m) lasts = cc

pub open_stays : (c : Config) (owner : Subscriber) (now : ℕ) (l : LeaseRow) → is_open l ≡ true → has_ended_for c owner now l ≡ false
open_stays c owner now l lasts = stays_by (subscriber_eq owner l.owner) c.hold_ms now l.until lasts

open_by : (lasts over ended : Bool) → (lasts ≡ true → ended ≡ false) → (not over || ended) ≡ true → (lasts && true && over) ≡ false
open_by false over ended stays h = refl
open_by true false ended stays h = refl
open_by true true ended stays h = absurd (both_ways ended (stays refl) h)

-- a new lease shares no port with an open one
pub open_apart : (s : State) (owner : Subscriber) (b : Block) → IsChosen s.config s.leases owner s.clock b
    → All (λ m. clash_open m (opened owner b s.clock) ≡ false) s.leases
open_apart s owner b h k d lt =
    let m = get_or s.leases k d in
    open_by (is_open m) (overlaps m b.addr b.first b.last) (has_ended_for s.config owner s.clock m)
    (open_stays s.config owner s.clock m) (block_free h k d lt)

-- what has ended for somebody doesn't last to this moment, where the hold time isn't zero
over_by : (mine : Bool) (hold now : ℕ) (u : Option Moment) → 0 < hold
    → elim u [ None ↦ false | Some until ↦ nat_le (until.0 + hold) now || (mine && nat_lt until.0 now) ] ≡ true → lasts_at now u ≡ false
over_by mine hold now None holds h = cc
over_by mine hold now (Some m) holds h = elim (or_cases (nat_le (m.0 + hold) now) (mine && nat_lt m.0 now) h) [
  | inl past ↦ lt-leb now m.0 (omega (arith, holds, leb-true (m.0 + hold) now past))
  | inr own ↦ lt-leb now m.0 (ltb-true m.0 now (and_parts mine (nat_lt m.0 now) own).1)
]

ended_before : (c : Config) (owner : Subscriber) (now : ℕ) (l : LeaseRow) → 0 < c.hold_ms → has_ended_for c owner now l ≡ true
    → lasts_at now l.until ≡ false
ended_before c owner now l holds h = over_by (subscriber_eq owner l.owner) c.hold_ms now l.until holds h

clash_by : (over lasts ended : Bool) → (not over || ended) ≡ true → (ended ≡ true → lasts ≡ false) → (over && lasts && true) ≡ false
clash_by true lasts ended h past = ap (λ (b : Bool). b && true) (past h)
clash_by false lasts ended h past = refl

-- nor a port with an earlier one that lasts to its begin
pub no_clash : (s : State) (owner : Subscriber) (b : Block) → 0 < s.config.hold_ms → IsChosen s.config s.leases owner s.clock b
    → All (λ m. clash m (opened owner b s.clock) ≡ false) s.leases
no_clash s owner b holds h k d lt =
    let m = get_or s.leases k d in
    clash_by (overlaps m b.addr b.first b.last) (lasts_at s.clock m.until) (has_ended_for s.config owner s.clock m)
    (block_free h k d lt) (ended_before s.config owner s.clock m holds)

-- A consistent state stays so as a packet's grant is carried out, and the packet's place lies in an open lease of its owner.
use Rattle.std.proofs.Common.{◌≡◌, ℕ, ◌<◌, ◌≤◌, Bool, true, false, cond, not, ◌&&◌, ◌||◌, ◌==◌, is_some, List, [], ◌∷◌, ◌++◌}
use Rattle.std.proofs.Common.{get_or, option_to_list, Option, Some, None, All, nat_le, refl, sym, ap, ◌∙◌, subst, append-nil, arith}
use Rattle.std.proofs.Common.{ap₂}
use Rattle.std.specs.Prelude.{if◌then◌else◌}
use Rattle.std.specs.List.{list_any}
use Rattle.std.proofs.lemmas.Bool.{both_ways, and_parts, and_from, le-leb, eqb-true, eq-eqb, false_from_ne_true, or_from, or_left, or_right}
use Rattle.std.proofs.lemmas.List.Elements.{All-head, All-push, All-tail, All-weaker}
use Rattle.std.proofs.lemmas.List.Folds.{list_any-append}
use Rattle.aftr_base.specs.Value.{ip4_eq, ip6_eq, key_eq, place_eq, proto_eq, place, subscriber_eq, ip6, is_under6, prefix_of}
use Rattle.aftr_base.specs.Plan.{is_prefix6}
use Rattle.aftr_base.specs.Row.{overlaps, ended}
use Rattle.aftr_base.specs.declared.value.Prefix6.{Prefix6}
use Rattle.aftr_base.specs.declared.value.Ip6.{Ip6}
use Rattle.aftr_base.specs.declared.value.Ext.{Ext}
use Rattle.aftr_base.specs.declared.value.InnerKey.{InnerKey}
use Rattle.aftr_base.specs.declared.value.Proto.{Proto}
use Rattle.aftr_base.specs.declared.value.Subscriber.{Subscriber}
use Rattle.aftr_base.specs.declared.row.LeaseRow.{LeaseRow}
use Rattle.cfg_text.specs.declared.config.Config.{Config}
use Rattle.nat_mapping.specs.Rows.{Mapping}
use Rattle.nat_mapping.specs.declared.row.Peer.{Peer}
use Rattle.cfg_text.specs.Accepted.{is_accepted}
use Rattle.cfg_text.proofs.Facts.{facts, under_fits, subscriber_is_prefix}
use Rattle.nat_mapping.specs.Rows.{has_place, is_at, is_of}
use Rattle.xlate_core.specs.Rows.{find_out, touched}
use Rattle.port_blocks.specs.declared.choice.Block.{Block}
use Rattle.port_blocks.specs.declared.choice.Choice.TheVariants.{New}
use Rattle.port_blocks.specs.Free.{has_ended_for, opened}
use Rattle.port_blocks.proofs.Choices.{IsChosen, chosen}
use Rattle.subscriber_table.specs.Under.{subscriber_of}
use Rattle.xlate_core.specs.declared.grant.Flow.{Flow}
use Rattle.xlate_core.specs.State.{State, latest}
use Rattle.xlate_core.specs.Valid.{AreGranted, IsConsistent, lies_in_lease, is_granted, is_owned, is_lease_by}
use Rattle.xlate_core.specs.declared.grant.Grant.{Grant}
use Rattle.xlate_core.specs.Endpoints.{outbound_peer, state_among}
use Rattle.xlate_core.specs.Grant.{after_grant, at_once, granted, granted_only, known_state, new_lease, peer_of, row_for}
use Rattle.aftr_base.proofs.Founds.{found_passes, found_in, found_none, some_inj, any_gives}
use Rattle.xlate_core.proofs.ValidExpiry.{here_from, lease_from, lies_here, lies_parts}
use Rattle.xlate_core.proofs.ValidRows.{consistent_opened, consistent_pushed, consistent_touched, granted_by, lies_at}
use Rattle.xlate_core.proofs.ValidRows.{own_subscriber, same_subscriber, with_lease}
use Rattle.xlate_core.proofs.ValidGrants.{IsGrant, may_have, GrantCase, Keeps, Takes, Opens, choice_for, given, grant_case, grant_cases, taken_granted, taken_free}
use Rattle.xlate_core.proofs.ValidGrants.{block_free, open_apart, open_stays, taken_unused}

-- ---- searches

none_some : (r : Mapping) → None ≡ Some r → ⊥
none_some r h = cc

pub none_has : {X : Type 0} (p : X → Bool) (xs : List X) → All (λ x. p x ≡ false) xs → list_any p xs ≡ false
none_has p [] h = refl
none_has p (x ∷ xs) h =
    or_from (p x) (list_any p xs) (All-head (λ y. p y ≡ false) x xs h) (none_has p xs (All-tail (λ y. p y ≡ false) x xs h))

-- ---- a subscriber is a prefix

owner_by : (b : Bool) (p : Prefix6) (owner : Subscriber) → (b ≡ true → is_prefix6 p ≡ true)
    → cond b (Some (record { 0 = p })) None ≡ Some owner → is_prefix6 owner.0 ≡ true
owner_by true p owner is h = subst (λ (o : Subscriber). is_prefix6 o.0 ≡ true) (some_inj (record { 0 = p }) owner h) (is refl)
owner_by false p owner is h = cc

pub owner_prefix : (c : Config) (softwire : Ip6) (owner : Subscriber) → is_accepted c ≡ true → subscriber_of c softwire ≡ Some owner
    → is_prefix6 owner.0 ≡ true
owner_prefix c softwire owner ok h =
    owner_by (list_any (λ p. is_under6 p softwire) c.aggregates) (prefix_of c.subscriber_len softwire) owner
    (λ under. subscriber_is_prefix c.subscriber_len softwire (under_fits c ok softwire under) (facts c ok).subscriber_most) h

-- ---- a new lease

-- the lease of a block that opens for a subscriber
abbrev pub lease_of : State → Subscriber → Block → LeaseRow
lease_of s owner b = opened owner b s.clock

abbrev first_place : Block → Ext
first_place b = place b.addr b.first

-- a block has a port
pub block_range : {c : Config} {leases : List LeaseRow} {owner : Subscriber} {now : ℕ} {b : Block} → 0 < c.block_size
    → IsChosen c leases owner now b → b.first ≤ b.last
block_range some h = omega (arith, h.last, some)

-- what was chosen under an accepted configuration
pub chosen_for : (s : State) (f : Flow) (b : Block) → is_accepted s.config ≡ true → choice_for s f ≡ New b
    → IsChosen s.config s.leases f.who.owner s.clock b
chosen_for s f b ok h = chosen s.config s.leases f.who.owner None s.clock b ok h

lease_opens : (s : State) (owner : Subscriber) (b : Block) → b.first ≤ b.last → is_prefix6 owner.0 ≡ true
    → is_lease_by s.clock (latest s) (lease_of s owner b) ≡ true
lease_opens s owner b range prefix =
    lease_from s.clock (latest s) (lease_of s owner b)
    (record { owner = prefix; range = range; over = le-leb s.clock s.clock (omega arith) })

-- its first port lies in it
lies_first : (s : State) (owner : Subscriber) (b : Block) → b.first ≤ b.last
    → lies_here owner (first_place b) (lease_of s owner b) ≡ true
lies_first s owner b range =
    here_from owner (first_place b) (lease_of s owner b)
    (record { lasts = refl; owns = own_subscriber owner; addr = refl; low = omega arith; high = range })

-- and no row has it, since each has its place in an open lease, which the block overlaps with none of
apart_or_ended : (b ended : Bool) → (not b || ended) ≡ true → b ≡ true → ended ≡ false → ⊥
apart_or_ended true ended h e f = both_ways ended f h
apart_or_ended false ended h e f = cc

meets : (b : Block) (proto : Proto) (q : Mapping) (l : LeaseRow) → b.first ≤ b.last → is_at proto (first_place b) q ≡ true
    → lies_in_lease q l ≡ true → overlaps l b.addr b.first b.last ≡ true
meets b proto q l range there lies =
    let h = lies_parts q l lies in
    let same = (and_parts (proto_eq proto q.key.proto) (place_eq (first_place b) q.ext) there).1 in
    let at = and_parts (b.addr.0 == q.ext.addr.0) (b.first == q.ext.port) same in
    let addr : b.addr.0 ≡ q.ext.addr.0 = eqb-true b.addr.0 q.ext.addr.0 at.0 in
    let port : b.first ≡ q.ext.port = eqb-true b.first q.ext.port at.1 in
    let low = le-leb l.first b.last (omega (arith, h.low, port, range)) in
    let high = le-leb b.first l.last (omega (arith, h.high, port)) in
    and_from (l.addr.0 == b.addr.0 && nat_le l.first b.last) (nat_le b.first l.last)
    (and_from (l.addr.0 == b.addr.0) (nat_le l.first b.last) (eq-eqb l.addr.0 b.addr.0 (sym (addr ∙ h.addr))) low) high

place_free : (s : State) (owner : Subscriber) (b : Block) (proto : Proto) → b.first ≤ b.last → AreGranted s.rows s.leases
    → IsChosen s.config s.leases owner s.clock b → All (λ q. is_at proto (first_place b) q ≡ false) s.rows
place_free s owner b proto range granted h k d lt =
    let q = get_or s.rows k d in
    let c = s.config in
    false_from_ne_true (is_at proto (first_place b) q) (λ there.
    any_gives (λ l. may_have c owner s.clock b l ≡ true) (lies_in_lease q) s.leases (λ l may lies.
    let over = meets b proto q l range there lies in
    let stays = open_stays c owner s.clock l (lies_parts q l lies).lasts in
    apart_or_ended (overlaps l b.addr b.first b.last) (has_ended_for c owner s.clock l) may over stays) (block_free h) (granted k d lt))

-- ---- the rows and the leases after the grant

abbrev pub with_lists : State → List Mapping → List LeaseRow → State
with_lists s rows leases = record s { rows = rows; leases = leases }

-- the rows, where the key has a row or none
abbrev rows_by : Option Mapping → Flow → Peer → Ext → List Mapping → List Mapping
rows_by o f p e rows = if is_some o then touched (is_of f.key) p rows else rows ++ row_for f p e ∷ []

pub after_keeps : (s : State) (f : Flow) (g : Grant) (r : Mapping) → find_out f.key s.rows ≡ Some r → g ≡ at_once r.ext
    → after_grant f g s ≡ record s { rows = touched (is_of f.key) (peer_of s f) s.rows }
after_keeps s f g r found same =
    let p = peer_of s f in
    ap₂ (with_lists s) (ap (λ (o : Option Mapping). rows_by o f p g.place s.rows) found)
    (ap (λ (x : Grant). s.leases ++ option_to_list x.lease) same ∙ append-nil s.leases)

known_case : (s : State) (f : Flow) (g : Grant) (r : Mapping) → find_out f.key s.rows ≡ Some r → GrantCase s f g
    → after_grant f g s ≡ record s { rows = touched (is_of f.key) (peer_of s f) s.rows }
known_case s f g r there (Keeps q found same) = after_keeps s f g q found same
known_case s f g r there (Takes x none taken same) = absurd (none_some r (sym none ∙ there))
known_case s f g r there (Opens b none free same) = absurd (none_some r (sym none ∙ there))

-- where the key has a row
pub after_known : (s : State) (f : Flow) (g : Grant) (r : Mapping) → find_out f.key s.rows ≡ Some r → granted s f ≡ given g
    → after_grant f g s ≡ record s { rows = touched (is_of f.key) (peer_of s f) s.rows }
after_known s f g r there h = known_case s f g r there (grant_cases s f g h)

-- a new row, and the lease that opens for it
pub after_new : (s : State) (f : Flow) (g : Grant) → find_out f.key s.rows ≡ None
    → after_grant f g s ≡ record s { rows = s.rows ++ row_for f (peer_of s f) g.place ∷ []; leases = s.leases ++ option_to_list g.lease }
after_new s f g none =
    ap (λ (o : Option Mapping). with_lists s (rows_by o f (peer_of s f) g.place s.rows) (s.leases ++ option_to_list g.lease)) none

-- however its parts came about
pub added : (x s : State) (f : Flow) (g : Grant) (rows : List Mapping) (leases : List LeaseRow) → x ≡ s → find_out f.key s.rows ≡ None
    → rows ≡ s.rows ++ row_for f (peer_of s f) g.place ∷ [] → leases ≡ s.leases ++ option_to_list g.lease
    → with_lists x rows leases ≡ after_grant f g s
added x s f g rows leases same none rows_are leases_are =
    ap (λ (y : State). with_lists y rows leases) same ∙ ap₂ (with_lists s) rows_are leases_are ∙ sym (after_new s f g none)

-- the peer that is made in a new row, or in one that is there
pub first_peer : (s : State) (f : Flow) → find_out f.key s.rows ≡ None
    → outbound_peer s.config s.clock f.key.proto f.remote f.flags None ≡ peer_of s f
first_peer s f none =
    ap (λ (o : Option Mapping). outbound_peer s.config s.clock f.key.proto f.remote f.flags (known_state f o)) (sym none)

pub next_peer : (s : State) (f : Flow) (r : Mapping) → find_out f.key s.rows ≡ Some r
    → outbound_peer s.config s.clock f.key.proto f.remote f.flags (state_among f.key.proto f.remote r.peers) ≡ peer_of s f
next_peer s f r there =
    ap (λ (o : Option Mapping). outbound_peer s.config s.clock f.key.proto f.remote f.flags (known_state f o)) (sym there)

-- the grant alone, which an old row isn't touched by
pub only_new : (s : State) (f : Flow) (g : Grant) → find_out f.key s.rows ≡ None → granted_only f g s ≡ after_grant f g s
only_new s f g none =
    let p = peer_of s f in
    ap (λ (o : Option Mapping). with_lists s (if is_some o then s.rows else s.rows ++ row_for f p g.place ∷ [])
    (s.leases ++ option_to_list g.lease)) none ∙ sym (after_new s f g none)

only_case : (s : State) (f : Flow) (g : Grant) (r : Mapping) → find_out f.key s.rows ≡ Some r → GrantCase s f g → granted_only f g s ≡ s
only_case s f g r there (Keeps q found same) =
    let p = peer_of s f in
    ap₂ (with_lists s) (ap (λ (o : Option Mapping). if is_some o then s.rows else s.rows ++ row_for f p g.place ∷ []) found)
    (ap (λ (x : Grant). s.leases ++ option_to_list x.lease) same ∙ append-nil s.leases)
only_case s f g r there (Takes x none taken same) = absurd (none_some r (sym none ∙ there))
only_case s f g r there (Opens b none free same) = absurd (none_some r (sym none ∙ there))

pub only_known : (s : State) (f : Flow) (g : Grant) (r : Mapping) → find_out f.key s.rows ≡ Some r → granted s f ≡ given g
    → granted_only f g s ≡ s
only_known s f g r there h = only_case s f g r there (grant_cases s f g h)

pub after_takes : (s : State) (f : Flow) (g : Grant) (e : Ext) → find_out f.key s.rows ≡ None → g ≡ at_once e
    → after_grant f g s ≡ record s { rows = s.rows ++ row_for f (peer_of s f) e ∷ [] }
after_takes s f g e none same =
    let p = peer_of s f in
    ap₂ (with_lists s)
    (ap (λ (o : Option Mapping). rows_by o f p g.place s.rows) none ∙ ap (λ (x : Grant). s.rows ++ row_for f p x.place ∷ []) same)
    (ap (λ (x : Grant). s.leases ++ option_to_list x.lease) same ∙ append-nil s.leases)

-- with one row more, and a lease for it
abbrev with_block : Flow → Block → State → State
with_block f b s = record s {
  rows = s.rows ++ row_for f (peer_of s f) (first_place b) ∷ [];
  leases = s.leases ++ lease_of s f.who.owner b ∷ [];
}

pub after_opens : (s : State) (f : Flow) (g : Grant) (b : Block) → find_out f.key s.rows ≡ None → g ≡ new_lease s f.who.owner b
    → after_grant f g s ≡ with_block f b s
after_opens s f g b none same =
    let p = peer_of s f in
    ap₂ (with_lists s)
    (ap (λ (o : Option Mapping). rows_by o f p g.place s.rows) none ∙ ap (λ (x : Grant). s.rows ++ row_for f p x.place ∷ []) same)
    (ap (λ (x : Grant). s.leases ++ option_to_list x.lease) same)

-- ---- the state after the grant

abbrev owned_by : Subscriber → Option Subscriber → Bool
owned_by owner o = elim o [ None ↦ false | Some known ↦ subscriber_eq owner known ]

row_owned : (s : State) (f : Flow) (p : Peer) (e : Ext) → subscriber_of s.config f.key.softwire ≡ Some f.who.owner
    → is_owned s (row_for f p e) ≡ true
row_owned s f p e h = ap (owned_by f.who.owner) h ∙ own_subscriber f.who.owner

consistent_case : (s : State) (f : Flow) (g : Grant) → IsGrant s f g → IsConsistent s → GrantCase s f g → IsConsistent (after_grant f g s)
consistent_case s f g h v (Keeps r found same) =
    subst IsConsistent (sym (after_keeps s f g r found same)) (consistent_touched s (is_of f.key) (peer_of s f) v)
consistent_case s f g h v (Takes x none taken same) =
    let p = peer_of s f in
    let keys = found_none (is_of f.key) s.rows none in
    subst IsConsistent (sym (after_takes s f g x none same))
    (consistent_pushed s (row_for f p x) v (taken_granted s f x taken) (row_owned s f p x h.owns) keys (taken_free s f x taken))
consistent_case s f g h v (Opens b none free same) =
    let p = peer_of s f in
    let l = lease_of s f.who.owner b in
    let e = first_place b in
    let is = chosen_for s f b h.accepted free in
    let range = block_range (facts s.config h.accepted).block_least is in
    let prefix = owner_prefix s.config f.key.softwire f.who.owner h.accepted h.owns in
    let opens = consistent_opened s l v (lease_opens s f.who.owner b range prefix) (open_apart s f.who.owner b is) in
    let keys = found_none (is_of f.key) s.rows none in
    let granted = granted_by s l (row_for f p e) (lies_first s f.who.owner b range) in
    subst IsConsistent (sym (after_opens s f g b none same))
    (consistent_pushed (with_lease l s) (row_for f p e) opens granted (row_owned s f p e h.owns) keys
    (place_free s f.who.owner b f.key.proto range v.granted is))

pub consistent_grant : {s : State} {f : Flow} {g : Grant} → IsGrant s f g → IsConsistent s → IsConsistent (after_grant f g s)
consistent_grant {s = s} {f = f} {g = g} h v = consistent_case s f g h v (grant_case h)

-- ---- the packet's place

kept_owner : (s : State) (key : InnerKey) (owner : Subscriber) (r : Mapping) → subscriber_of s.config key.softwire ≡ Some owner
    → key_eq key r.key ≡ true → is_owned s r ≡ true → r.owner ≡ owner
kept_owner s key owner r owns same owned =
    let by_softwire = ip6_eq key.softwire r.key.softwire in
    let by_proto = proto_eq key.proto r.key.proto in
    let by_addr = ip4_eq key.addr r.key.addr in
    let but_port = (and_parts (by_softwire && by_proto && by_addr) (key.port == r.key.port) same).0 in
    let softwires = (and_parts by_softwire by_proto (and_parts (by_softwire && by_proto) by_addr but_port).0).0 in
    let one : key.softwire ≡ r.key.softwire = ap ip6 (eqb-true key.softwire.0 r.key.softwire.0 softwires) in
    let known : subscriber_of s.config r.key.softwire ≡ Some owner = ap (λ (a : Ip6). subscriber_of s.config a) (sym one) ∙ owns in
    same_subscriber r.owner owner (sym (ap (owned_by r.owner) known) ∙ owned)

-- the leases after a grant
abbrev pub after : State → Grant → List LeaseRow
after s g = s.leases ++ option_to_list g.lease

lies_more : (owner : Subscriber) (e : Ext) (leases more : List LeaseRow) → lies_at leases owner e ≡ true
    → lies_at (leases ++ more) owner e ≡ true
lies_more owner e leases more h =
    list_any-append (lies_here owner e) leases more ∙ or_left (lies_at leases owner e) (lies_at more owner e) h

opened_lies : (s : State) (f : Flow) (b : Block) → is_accepted s.config ≡ true → choice_for s f ≡ New b
    → lies_at (s.leases ++ lease_of s f.who.owner b ∷ []) f.who.owner (first_place b) ≡ true
opened_lies s f b ok free =
    let l = lease_of s f.who.owner b in
    let lies = lies_here f.who.owner (first_place b) in
    let here : lies l ≡ true =
    lies_first s f.who.owner b (block_range (facts s.config ok).block_least (chosen_for s f b ok free)) in
    list_any-append lies s.leases (l ∷ [])
    ∙ or_right (list_any lies s.leases) (list_any lies (l ∷ [])) (or_left (lies l) false here)

-- the place of a row lies in an open lease of its key's subscriber
pub row_lies : (s : State) (key : InnerKey) (owner : Subscriber) (r : Mapping) → subscriber_of s.config key.softwire ≡ Some owner
    → find_out key s.rows ≡ Some r → IsConsistent s → lies_at s.leases owner r.ext ≡ true
row_lies s key owner r owns found v =
    let hit = is_of key in
    let owned = found_in (λ q. is_owned s q ≡ true) hit s.rows r v.owned found in
    let own = kept_owner s key owner r owns (found_passes hit s.rows r found) owned in
    let lies = found_in (λ q. is_granted s q ≡ true) hit s.rows r v.granted found in
    subst (λ (o : Subscriber). lies_at s.leases o r.ext ≡ true) own lies

granted_case : (s : State) (f : Flow) (g : Grant) → IsGrant s f g → IsConsistent s → GrantCase s f g
    → lies_at (after s g) f.who.owner g.place ≡ true
granted_case s f g h v (Keeps r found same) =
    let here = row_lies s f.key f.who.owner r h.owns found v in
    subst (λ (x : Grant). lies_at (after s x) f.who.owner x.place ≡ true) (sym same) (lies_more f.who.owner r.ext s.leases [] here)
granted_case s f g h v (Takes x none taken same) =
    let here = taken_granted s f x taken in
    subst (λ (y : Grant). lies_at (after s y) f.who.owner y.place ≡ true) (sym same) (lies_more f.who.owner x s.leases [] here)
granted_case s f g h v (Opens b none free same) =
    subst (λ (x : Grant). lies_at (after s x) f.who.owner x.place ≡ true) (sym same) (opened_lies s f b h.accepted free)

-- it lies in an open lease of the sender
pub place_granted : {s : State} {f : Flow} {g : Grant} → IsGrant s f g → IsConsistent s
    → lies_at (after_grant f g s).leases f.who.owner g.place ≡ true
place_granted {s = s} {f = f} {g = g} h v = granted_case s f g h v (grant_case h)

-- ---- a new row

new_case : (s : State) (f : Flow) (g : Grant) → is_accepted s.config ≡ true → find_out f.key s.rows ≡ None → GrantCase s f g
    → lies_at (after s g) f.who.owner g.place ≡ true
new_case s f g ok none (Keeps r found same) = absurd (none_some r (sym none ∙ found))
new_case s f g ok none (Takes x none' taken same) =
    let here = taken_granted s f x taken in
    subst (λ (y : Grant). lies_at (after s y) f.who.owner y.place ≡ true) (sym same) (lies_more f.who.owner x s.leases [] here)
new_case s f g ok none (Opens b none' free same) =
    subst (λ (x : Grant). lies_at (after s x) f.who.owner x.place ≡ true) (sym same) (opened_lies s f b ok free)

-- it lies in an open lease of its owner
pub new_granted : (s : State) (f : Flow) (g : Grant) → is_accepted s.config ≡ true → find_out f.key s.rows ≡ None → granted s f ≡ given g
    → lies_at (after s g) f.who.owner g.place ≡ true
new_granted s f g ok none h = new_case s f g ok none (grant_cases s f g h)

unused_case : (s : State) (f : Flow) (g : Grant) → is_accepted s.config ≡ true → find_out f.key s.rows ≡ None
    → AreGranted s.rows s.leases → GrantCase s f g → has_place f.key.proto g.place s.rows ≡ false
unused_case s f g ok none all (Keeps r found same) = absurd (none_some r (sym none ∙ found))
unused_case s f g ok none all (Takes x none' taken same) =
    subst (λ (y : Grant). has_place f.key.proto y.place s.rows ≡ false) (sym same) (taken_unused s f x taken)
unused_case s f g ok none all (Opens b none' free same) =
    let is = chosen_for s f b ok free in
    let range = block_range (facts s.config ok).block_least is in
    subst (λ (y : Grant). has_place f.key.proto y.place s.rows ≡ false) (sym same)
    (none_has (is_at f.key.proto (first_place b)) s.rows (place_free s f.who.owner b f.key.proto range all is))

-- its place has no other row
pub new_unused : (s : State) (f : Flow) (g : Grant) → is_accepted s.config ≡ true → find_out f.key s.rows ≡ None
    → AreGranted s.rows s.leases → granted s f ≡ given g → has_place f.key.proto g.place s.rows ≡ false
new_unused s f g ok none all h = unused_case s f g ok none all (grant_cases s f g h)

-- each row lies in an open lease with the new one
pub granted_after : (s : State) (f : Flow) (g : Grant) (p : Peer) → AreGranted s.rows s.leases
    → lies_at (after s g) f.who.owner g.place ≡ true → AreGranted (s.rows ++ row_for f p g.place ∷ []) (after s g)
granted_after s f g p all here =
    let granted = λ (r : Mapping). list_any (lies_in_lease r) (after s g) ≡ true in
    All-push granted s.rows (row_for f p g.place)
    (All-weaker (λ (r : Mapping). list_any (lies_in_lease r) s.leases ≡ true) granted
    (λ r h. lies_more r.owner r.ext s.leases (option_to_list g.lease) h) s.rows all) here

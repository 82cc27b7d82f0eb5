-- A consistent state stays so as a row is touched or made, and as a lease opens.
use Rattle.std.proofs.Common.{◌≡◌, ℕ, zero, suc, Bool, true, false, ◌&&◌, ◌||◌, ◌==◌, List, [], ◌∷◌, ◌++◌, get_or, Some, None, All, refl, ap, ◌∙◌}
use Rattle.std.proofs.Common.{arith, ap₂}
use Rattle.std.specs.Prelude.{if◌then◌else◌}
use Rattle.std.specs.List.{AllZip, list_any}
use Rattle.std.proofs.lemmas.Bool.{and_parts, and_from, or_from, or_left, or_right, eqb-true, eq-eqb}
use Rattle.std.proofs.lemmas.Bool.Decides.{nat_tests}
use Rattle.std.proofs.lemmas.List.Folds.{list_any-append}
use Rattle.std.proofs.lemmas.List.Elements.{All-weaker, All-push}
use Rattle.std.proofs.lemmas.List.Quantifiers.{all_pairs_push}
use Rattle.aftr_base.specs.Value.{key_eq, place_eq, proto_eq, number_of, subscriber_eq}
use Rattle.aftr_base.specs.Plan.{prefix6}
use Rattle.aftr_base.specs.declared.value.Ext.{Ext}
use Rattle.aftr_base.specs.declared.value.InnerKey.{InnerKey}
use Rattle.aftr_base.specs.declared.value.Subscriber.{Subscriber}
use Rattle.aftr_base.specs.declared.row.LeaseRow.{LeaseRow}
use Rattle.nat_mapping.specs.Rows.{Mapping}
use Rattle.nat_mapping.specs.declared.row.Peer.{Peer}
use Rattle.nat_mapping.specs.Rows.{is_at, touched_at, with_peer}
use Rattle.xlate_core.specs.Rows.{touched}
use Rattle.subscriber_table.specs.Under.{subscriber_of}
use Rattle.xlate_core.specs.State.{State, latest}
use Rattle.xlate_core.specs.Valid.{AreGranted, IsConsistent, lies_in_lease, is_granted, is_owned, are_alike, clash_open, is_lease_by}
use Rattle.xlate_core.specs.Grant.{granted}
use Rattle.xlate_core.proofs.ValidExpiry.{lies_here}
use Rattle.aftr_base.proofs.Pairwise.{pairs_zip, all_zip, zip_same}

-- ---- equal values

eqb_same : (m n : ℕ) → (m == n) ≡ (n == m)
eqb_same m n = grind (arith, nat_tests)

pub key_same : (a b : InnerKey) → key_eq a b ≡ key_eq b a
key_same a b =
    let s = eqb_same a.softwire.0 b.softwire.0 in
    let p = eqb_same (number_of a.proto) (number_of b.proto) in
    let d = eqb_same a.addr.0 b.addr.0 in
    let q = eqb_same a.port b.port in
    cc (s, p, d, q)

pub own_subscriber : (s : Subscriber) → subscriber_eq s s ≡ true
own_subscriber s =
    let bits = s.0.bits.0 in
    let len = s.0.len in
    and_from (bits == bits) (len == len) (eq-eqb bits bits refl) (eq-eqb len len refl)

abbrev subscriber : ℕ → ℕ → Subscriber
subscriber bits len = record { 0 = prefix6 bits len }

pub same_subscriber : (s t : Subscriber) → subscriber_eq s t ≡ true → s ≡ t
same_subscriber s t h =
    let parts = and_parts (s.0.bits.0 == t.0.bits.0) (s.0.len == t.0.len) h in
    ap₂ subscriber (eqb-true s.0.bits.0 t.0.bits.0 parts.0) (eqb-true s.0.len t.0.len parts.1)

-- ---- rows that differ in their peers

abbrev pub SameRow : Mapping → Mapping → Type 0
SameRow r q = (q.key ≡ r.key) × (q.owner ≡ r.owner) × (q.ext ≡ r.ext)

row_kept : (r : Mapping) → SameRow r r
row_kept r = (refl, refl, refl)

touched_by : (b : Bool) (r : Mapping) (peers : List Peer) (rows after : List Mapping) → AllZip SameRow rows after
    → AllZip SameRow (r ∷ rows) (if b then (record r { peers = peers } ∷ rows) else (r ∷ after))
touched_by true r peers rows after z = (row_kept r, zip_same SameRow row_kept rows)
touched_by false r peers rows after z = (row_kept r, z)

pub rows_touched : (test : Mapping → Bool) (p : Peer) (rows : List Mapping) → AllZip SameRow rows (touched test p rows)
rows_touched test p [] = tt
rows_touched test p (r ∷ rows) = touched_by (test r) r (with_peer p r.peers) rows (touched test p rows) (rows_touched test p rows)

-- a place lies in an open lease of this owner
abbrev pub lies_at : List LeaseRow → Subscriber → Ext → Bool
lies_at ls owner e = list_any (lies_here owner e) ls

lies_same : (leases : List LeaseRow) (r q : Mapping) → SameRow r q → list_any (lies_in_lease r) leases ≡ true
    → list_any (lies_in_lease q) leases ≡ true
lies_same leases r q z h = ap (λ (o : Subscriber). lies_at leases o q.ext) z.1 ∙ ap (λ (e : Ext). lies_at leases r.owner e) z.2 ∙ h

abbrev owns_key : State → InnerKey → Subscriber → Bool
owns_key s key o = elim (subscriber_of s.config key.softwire) [ None ↦ false | Some owner ↦ subscriber_eq o owner ]

owned_same : (s : State) (r q : Mapping) → SameRow r q → is_owned s r ≡ true → is_owned s q ≡ true
owned_same s r q z h = ap (λ (o : Subscriber). owns_key s q.key o) z.1 ∙ ap (λ (k : InnerKey). owns_key s k r.owner) z.0 ∙ h

abbrev alike_at : InnerKey → Ext → InnerKey → Ext → Bool
alike_at rk re qk qe = key_eq rk qk || (proto_eq qk.proto rk.proto && place_eq qe re)

alike_same : (x y u v : Mapping) → SameRow x u → SameRow y v → are_alike x y ≡ false → are_alike u v ≡ false
alike_same x y u v z w h =
    ap (λ (k : InnerKey). alike_at k u.ext v.key v.ext) z.0
    ∙ ap (λ (e : Ext). alike_at x.key e v.key v.ext) z.2
    ∙ ap (λ (k : InnerKey). alike_at x.key x.ext k v.ext) w.0
    ∙ ap (λ (e : Ext). alike_at x.key x.ext y.key e) w.2
    ∙ h

pub rows_touched_at : (at : ℕ) (p : Peer) (rows : List Mapping) → AllZip SameRow rows (touched_at at p rows)
rows_touched_at at p [] = tt
rows_touched_at zero p (r ∷ rows) = (row_kept r, zip_same SameRow row_kept rows)
rows_touched_at (suc at) p (r ∷ rows) = (row_kept r, rows_touched_at at p rows)

pub granted_touched_at : (leases : List LeaseRow) (at : ℕ) (p : Peer) (rows : List Mapping) → AreGranted rows leases
    → AreGranted (touched_at at p rows) leases
granted_touched_at leases at p rows h =
    let granted = λ (r : Mapping). list_any (lies_in_lease r) leases ≡ true in
    all_zip SameRow granted granted (lies_same leases) rows (touched_at at p rows) (rows_touched_at at p rows) h

-- rows that lie in open leases do so with other peers
pub granted_touched : (leases : List LeaseRow) (test : Mapping → Bool) (p : Peer) (rows : List Mapping) → AreGranted rows leases
    → AreGranted (touched test p rows) leases
granted_touched leases test p rows h =
    let granted = λ (r : Mapping). list_any (lies_in_lease r) leases ≡ true in
    all_zip SameRow granted granted (lies_same leases) rows (touched test p rows) (rows_touched test p rows) h

pub consistent_touched : (s : State) (test : Mapping → Bool) (p : Peer) → IsConsistent s
    → IsConsistent (record s { rows = touched test p s.rows })
consistent_touched s test p v =
    let z = rows_touched test p s.rows in
    let owned = λ (r : Mapping). is_owned s r ≡ true in
    let apart = λ (r q : Mapping). are_alike r q ≡ false in
    record {
      granted = granted_touched s.leases test p s.rows v.granted;
      owned = all_zip SameRow owned owned (owned_same s) s.rows (touched test p s.rows) z v.owned;
      apart = pairs_zip SameRow apart apart alike_same s.rows (touched test p s.rows) z v.apart;
      leases = v.leases;
      open_apart = v.open_apart;
    }

-- ---- one row more

pub consistent_pushed : (s : State) (r : Mapping) → IsConsistent s → is_granted s r ≡ true → is_owned s r ≡ true
    → All (λ q. key_eq r.key q.key ≡ false) s.rows → All (λ q. is_at r.key.proto r.ext q ≡ false) s.rows
    → IsConsistent (record s { rows = s.rows ++ r ∷ [] })
consistent_pushed s r v granted owned keys places = record {
  granted = All-push (λ q. is_granted s q ≡ true) s.rows r v.granted granted;
  owned = All-push (λ q. is_owned s q ≡ true) s.rows r v.owned owned;
  apart = all_pairs_push (λ x y. are_alike x y ≡ false) s.rows r v.apart (λ k d lt.
      let q = get_or s.rows k d in
      or_from (key_eq q.key r.key) (is_at r.key.proto r.ext q) (key_same q.key r.key ∙ keys k d lt) (places k d lt));
  leases = v.leases;
  open_apart = v.open_apart;
}

-- ---- one lease more

abbrev pub with_lease : LeaseRow → State → State
with_lease l s = record s { leases = s.leases ++ l ∷ [] }

pub granted_on : (s : State) (l : LeaseRow) (r : Mapping) → is_granted s r ≡ true → is_granted (with_lease l s) r ≡ true
granted_on s l r h =
    let lies = lies_in_lease r in
    list_any-append lies s.leases (l ∷ []) ∙ or_left (list_any lies s.leases) (list_any lies (l ∷ [])) h

pub granted_by : (s : State) (l : LeaseRow) (r : Mapping) → lies_in_lease r l ≡ true → is_granted (with_lease l s) r ≡ true
granted_by s l r h =
    let lies = lies_in_lease r in
    list_any-append lies s.leases (l ∷ []) ∙ or_right (list_any lies s.leases) (list_any lies (l ∷ [])) (or_left (lies l) false h)

pub consistent_opened : (s : State) (l : LeaseRow) → IsConsistent s → is_lease_by s.clock (latest s) l ≡ true
    → All (λ m. clash_open m l ≡ false) s.leases → IsConsistent (with_lease l s)
consistent_opened s l v by apart = record {
  granted = All-weaker (λ r. is_granted s r ≡ true) (λ r. is_granted (with_lease l s) r ≡ true) (granted_on s l) s.rows v.granted;
  owned = v.owned;
  apart = v.apart;
  leases = All-push (λ m. is_lease_by s.clock (latest s) m ≡ true) s.leases l v.leases by;
  open_apart = all_pairs_push (λ x y. clash_open x y ≡ false) s.leases l v.open_apart apart;
}

-- ---- another horizon

pub consistent_horizon : (s : State) (horizon : ℕ) → IsConsistent s → IsConsistent (record s { horizon = horizon })
consistent_horizon s horizon v =
    record { granted = v.granted; owned = v.owned; apart = v.apart; leases = v.leases; open_apart = v.open_apart }

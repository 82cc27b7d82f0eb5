-- The index of open leases, as blocks open and close.
use Rattle.std.proofs.Common.{◌≡◌, inl, inr, ℕ, ◌<◌, ◌≤◌, Bool, true, false, cond, not, List, [], ◌∷◌, ◌++◌, length, map, set, get_or}
use Rattle.std.proofs.Common.{All, AllPairs, refl, sym, ap, ◌∙◌, subst, arith, true≢false}
use Rattle.std.specs.Prelude.{◌&&◌, nat_le, Option, Some, None, is_none, is_some}
use Rattle.std.specs.BTreeMap.{BTreeMap, UpdatesBy, get}
use Rattle.std.specs.List.{list_all, list_any}
use Rattle.std.specs.Map.{lookup}
use Rattle.std.specs.Ordering.{is_eq}
use Rattle.std.proofs.lemmas.Bool.{and_parts, and_from, cases_Bool, cases_eq, cases_lt, cases_order, eqb-true, eq-eqb, le-leb, leb-true}
use Rattle.std.proofs.lemmas.Bool.{false_from_ne_true}
use Rattle.std.proofs.lemmas.List.{get_or_append_left, get_or_default, get_or_push, get_or-set_same, get_or-set_other, get_or-map}
use Rattle.std.proofs.lemmas.List.{length_push, length-map, length-set, same_lists}
use Rattle.std.proofs.lemmas.List.Elements.{All-head, All-map, All-nil, All-push, All-tail}
use Rattle.aftr_base.specs.Row.{is_open, ended, overlaps}
use Rattle.aftr_base.specs.Telling.{is_lease_of, lease_ended, lease_told}
use Rattle.aftr_base.specs.Value.{ip4_eq}
use Rattle.aftr_base.specs.declared.value.Ip4.{Ip4}
use Rattle.aftr_base.specs.declared.value.Moment.{Moment}
use Rattle.aftr_base.specs.declared.row.LeaseRow.{LeaseRow}
use Rattle.aftr_base.proofs.Founds.{all_pass, none_any, some_inj}
use Rattle.lease_log.specs.Index.{place_cmp, place_of, IsUpTo, IsOpenAt, IsIndexed, IsLastUpTo, IsLeaseAt}
use Rattle.lease_log.specs.Sound.{clash}
use Rattle.lease_log.specs.declared.place.Place.{Place}
use Rattle.lease_log.proofs.OpenLeases.{any_at, clashes, lease_parts}
use Rattle.lease_log.proofs.Places.{equal_itself, same_or_other, same_place}
use Rattle.lease_log.proofs.SoundRows.{apart_ended, apart_told}

-- ---- tests over a list

pub all_from : {X : Type 0} (p : X → Bool) (xs : List X) → All (λ x. p x ≡ true) xs → list_all p xs ≡ true
all_from {X} p [] all = refl
all_from {X} p (x ∷ xs) all =
    let passes : X → Type 0 = λ y. p y ≡ true in
    and_from (p x) (list_all p xs) (All-head passes x xs all) (all_from p xs (All-tail passes x xs all))

pub not_all : {X : Type 0} (p : X → Bool) (xs : List X) (i : ℕ) (d : X) → i < length xs → p (get_or xs i d) ≡ false → list_all p xs ≡ false
not_all p xs i d within fails = elim (cases_Bool (list_all p xs)) [
  | inl all ↦ absurd (true≢false (sym (all_pass p xs all i d within) ∙ fails))
  | inr some ↦ some
]

pub any_from : {X : Type 0} (p : X → Bool) (xs : List X) (i : ℕ) (d : X) → i < length xs → p (get_or xs i d) ≡ true → list_any p xs ≡ true
any_from p xs i d within passes = elim (cases_Bool (list_any p xs)) [
  | inl some ↦ some
  | inr none ↦ absurd (true≢false (sym passes ∙ none_any p xs none i d within))
]

pub none_from : {X : Type 0} (p : X → Bool) (xs : List X)
    → ((i : ℕ) → i < length xs → ((d : X) → p (get_or xs i d) ≡ true) → ⊥) → list_any p xs ≡ false
none_from p xs never = elim (cases_Bool (list_any p xs)) [
  | inl some ↦ let found = any_at p xs some in absurd (never found.0 found.1 found.2)
  | inr none ↦ none
]

none_or_some : {C : Type 0} (o : Option ℕ) (n : ℕ) → o ≡ None → o ≡ Some n → C
none_or_some None n h e = cc
none_or_some (Some m) n h e = cc

-- ---- leases and places

-- the lease is the open one of this block
abbrev pub is_of : LeaseRow → LeaseRow → Bool
is_of b = is_lease_of b.owner b.addr b.first b.last

pub overlapping : (l : LeaseRow) (addr : Ip4) (first last : ℕ) → l.addr.0 ≡ addr.0 → l.first ≤ last → first ≤ l.last
    → overlaps l addr first last ≡ true
overlapping l addr first last same from upto =
    and_from (ip4_eq l.addr addr && nat_le l.first last) (nat_le first l.last)
    (and_from (ip4_eq l.addr addr) (nat_le l.first last) (eq-eqb l.addr.0 addr.0 same) (le-leb l.first last from))
    (le-leb first l.last upto)

-- what it says of a lease that it is in the way
pub record IsInTheWay (b l : LeaseRow) : Type 0 where
  pub stands : is_open l ≡ true
  pub addr : l.addr.0 ≡ b.addr.0
  pub first : l.first ≤ b.last
  pub last : b.first ≤ l.last

way_parts : (b l : LeaseRow) → (is_open l && overlaps l b.addr b.first b.last) ≡ true → IsInTheWay b l
way_parts b l h =
    let p₁ = and_parts (is_open l) (overlaps l b.addr b.first b.last) h in
    let p₂ = and_parts (ip4_eq l.addr b.addr && nat_le l.first b.last) (nat_le b.first l.last) p₁.1 in
    let p₃ = and_parts (ip4_eq l.addr b.addr) (nat_le l.first b.last) p₂.0 in
    record {
      stands = p₁.0;
      addr = eqb-true l.addr.0 b.addr.0 p₃.0;
      first = leb-true l.first b.last p₃.1;
      last = leb-true b.first l.last p₂.1;
    }

-- the last place where a lease may begin that is in the way
abbrev pub end_of_block : LeaseRow → Place
end_of_block b = record { addr = b.addr.0; port = b.last }

begins_before : (b l : LeaseRow) → IsInTheWay b l → IsUpTo (place_of l) (end_of_block b)
begins_before b l way = inr (way.addr, way.first)

between : (p q r : Place) → p.addr ≡ r.addr → IsUpTo p q → IsUpTo q r → (q.addr ≡ r.addr) × (p.port ≤ q.port) × (q.port ≤ r.port)
between p q r same (inl x) (inl y) = absurd (omega (arith, same, x, y))
between p q r same (inl x) (inr y) = absurd (omega (arith, same, x, y.0))
between p q r same (inr x) (inl y) = absurd (omega (arith, same, x.0, y))
between p q r same (inr x) (inr y) = (y.0, x.1, y.1)

-- ---- whether a block is free

abbrev pub is_free_of : LeaseRow → LeaseRow → Bool
is_free_of b l = not (is_open l && overlaps l b.addr b.first b.last)

free_each : (b : LeaseRow) (leases : List LeaseRow) → ((i : ℕ) (d : LeaseRow) → i < length leases → IsInTheWay b (get_or leases i d) → ⊥)
    → list_all (is_free_of b) leases ≡ true
free_each b leases never =
    all_from (is_free_of b) leases (λ i d within.
    let l = get_or leases i d in
    elim (cases_Bool (is_open l && overlaps l b.addr b.first b.last)) [
      | inl way ↦ absurd (never i d within (way_parts b l way))
      | inr free ↦ ap not free
    ])

-- no open lease begins early enough
pub free_where_none : (b : LeaseRow) {leases : List LeaseRow} {find : Place → Option ℕ} → IsIndexed leases find
    → ((q : Place) → IsUpTo q (end_of_block b) → find q ≡ None) → list_all (is_free_of b) leases ≡ true
free_where_none b {leases} {find} x none =
    free_each b leases (λ i d within way.
    let l = get_or leases i d in
    none_or_some (find (place_of l)) i (none (place_of l) (begins_before b l way)) (x.has i d within way.stands))

-- one that is in the way, and the last that begins early enough, which isn't: they share a port
never_both : (b : LeaseRow) {leases : List LeaseRow} {find : Place → Option ℕ} {at : ℕ} (i : ℕ) (d : LeaseRow) → IsIndexed leases find
    → IsLastUpTo find (end_of_block b) at
    → overlaps (get_or leases at d) b.addr b.first b.last ≡ false
    → i < length leases → IsInTheWay b (get_or leases i d) → ⊥
never_both b {leases} {find} {at} i d x last apart within way =
    let l = get_or leases at d in
    let m = get_or leases i d in
    let here = x.finds last.here at last.found in
    let later = last.last (place_of m) (begins_before b m way) (ap is_some (x.has i d within way.stands)) in
    let order = between (place_of m) last.here (end_of_block b) way.addr later last.before in
    let addr : l.addr.0 ≡ b.addr.0 = ap (λ (p : Place). p.addr) (here.begins d) ∙ order.0 in
    let first : l.first ≡ last.here.port = ap (λ (p : Place). p.port) (here.begins d) in
    let ports : l.first ≤ l.last = x.ports at d here.within in
    elim (cases_lt l.last b.first) [
      | inl short ↦
          let m_first : m.first ≤ l.last = omega (arith, first, ports, order.1) in
          let l_first : l.first ≤ m.last = omega (arith, first, order.2, ports, short, way.last) in
          elim (cases_order i at) [
            | inl same ↦ absurd (omega (arith, short, way.last, ap (λ (k : ℕ). (get_or leases k d).last) same))
            | inr other ↦ elim other [
              | inl before ↦
                  let shared = clashes m l way.stands (here.stands d) (omega (arith, addr, way.addr)) m_first l_first in
                  true≢false (sym shared ∙ x.apart i at d before here.within)
              | inr after ↦
                  let shared = clashes l m (here.stands d) way.stands (omega (arith, addr, way.addr)) l_first m_first in
                  true≢false (sym shared ∙ x.apart at i d after within)
            ]
          ]
      | inr long ↦ true≢false (sym (overlapping l b.addr b.first b.last addr (omega (arith, first, order.2)) long) ∙ apart)
    ]

pub free_by_last : (b : LeaseRow) {leases : List LeaseRow} {find : Place → Option ℕ} {at : ℕ} (d : LeaseRow) → IsIndexed leases find
    → IsLastUpTo find (end_of_block b) at
    → not (overlaps (get_or leases at d) b.addr b.first b.last) ≡ list_all (is_free_of b) leases
free_by_last b {leases} {find} {at} d x last =
    let l = get_or leases at d in
    let here = x.finds last.here at last.found in
    let shares = λ (m : LeaseRow). overlaps m b.addr b.first b.last in
    elim (cases_Bool (shares l)) [
      | inl way ↦ ap not way ∙ sym (not_all (is_free_of b) leases at d here.within
          (ap not (and_from (is_open l) (shares l) (here.stands d) way)))
      | inr free ↦ ap not free ∙ sym (free_each b leases (λ i e within way.
          never_both b i e x last (ap shares (get_or_default leases at e d here.within) ∙ free) within way))
    ]

-- ---- a block opens

-- what is found by place after one place got this position, or none
pub record IsFoundAfter (find find' : Place → Option ℕ) (place : Place) (w : Option ℕ) : Type 0 where
  pub here : find' place ≡ w
  pub others : (q : Place) → is_eq (place_cmp place q) ≡ false → find' q ≡ find q

pub found_after : (m n : BTreeMap Place ℕ) {p q : Place} {v w : Option ℕ} → UpdatesBy place_cmp (place_cmp p) m n v → p ≡ q → v ≡ w
    → IsFoundAfter (get place_cmp m) (get place_cmp n) q w
found_after m n {p} {q} {v} {w} is place value =
    let found = λ (r : Place) (u : Option ℕ). IsFoundAfter (get place_cmp m) (get place_cmp n) r u in
    subst (found q) value (subst (λ (r : Place). found r v) place record { here = is.1; others = is.2 })

-- two places of which one can't be the other
other_place : (p q : Place) → (p ≡ q → ⊥) → is_eq (place_cmp p q) ≡ false
other_place p q apart = elim (same_or_other p q) [
  | inl same ↦ absurd (apart same)
  | inr other ↦ other
]

kept_at : (leases : List LeaseRow) (b : LeaseRow) (q : Place) (i : ℕ) → IsOpenAt leases q i → IsOpenAt (leases ++ b ∷ []) q i
kept_at leases b q i is = record {
  within = omega (arith, is.within, length_push leases b);
  stands = λ d. ap is_open (get_or_append_left leases (b ∷ []) d i is.within) ∙ is.stands d;
  begins = λ d. ap place_of (get_or_append_left leases (b ∷ []) d i is.within) ∙ is.begins d;
}

new_at : (leases : List LeaseRow) (b : LeaseRow) (q : Place) (i : ℕ) → is_open b ≡ true → place_of b ≡ q → length leases ≡ i
    → IsOpenAt (leases ++ b ∷ []) q i
new_at leases b q i stands same end = record {
  within = omega (arith, end, length_push leases b);
  stands = λ d. ap is_open (get_or_push leases b d i end) ∙ stands;
  begins = λ d. ap place_of (get_or_push leases b d i end) ∙ same;
}

-- an open lease begins elsewhere than a block that is free
begins_elsewhere : (b l : LeaseRow) → b.first ≤ b.last → l.first ≤ l.last → is_open l ≡ true → is_free_of b l ≡ true
    → is_eq (place_cmp (place_of b) (place_of l)) ≡ false
begins_elsewhere b l ports l_ports stands free =
    other_place (place_of b) (place_of l) (λ same.
    let addr : b.addr.0 ≡ l.addr.0 = ap (λ (p : Place). p.addr) same in
    let first : b.first ≡ l.first = ap (λ (p : Place). p.port) same in
    let shares = overlapping l b.addr b.first b.last (sym addr) (omega (arith, first, ports)) (omega (arith, first, l_ports)) in
    true≢false (sym free ∙ ap not (and_from (is_open l) (overlaps l b.addr b.first b.last) stands shares)))

-- the row of a lease that is open
as_told : (b : LeaseRow) → b.until ≡ None → b ≡ lease_told b.owner b.addr b.first b.last b.since
as_told b h = ap (λ (u : Option Moment). let r : LeaseRow = record b { until = u } in r) h

pub indexed_more : {leases : List LeaseRow} {find find' : Place → Option ℕ} (b : LeaseRow) → IsIndexed leases find
    → IsFoundAfter find find' (place_of b) (Some (length leases))
    → b.until ≡ None → b.first ≤ b.last → list_all (is_free_of b) leases ≡ true
    → IsIndexed (leases ++ b ∷ []) find'
indexed_more {leases} {find} {find'} b x after none ports free =
    let stands : is_open b ≡ true = ap is_none none in
    record {
      ports = All-push (λ (l : LeaseRow). l.first ≤ l.last) leases b x.ports ports;
      apart = subst (λ (l : LeaseRow). AllPairs (λ l m. clash l m ≡ false) (leases ++ l ∷ [])) (sym (as_told b none))
          (apart_told b.owner b.addr b.first b.last b.since leases free x.apart);
      finds = λ q i e. elim (same_or_other (place_of b) q) [
        | inl same ↦ new_at leases b q i stands same
            (some_inj (length leases) i (sym after.here ∙ ap find' same ∙ e))
        | inr other ↦ kept_at leases b q i (x.finds q i (sym (after.others q other) ∙ e))
      ];
      has = λ i d within is. elim (cases_lt i (length leases)) [
        | inl old ↦ let same = get_or_append_left leases (b ∷ []) d i old in let l = get_or leases i d in
            let was : is_open l ≡ true = sym (ap is_open same) ∙ is in
            ap (λ (m : LeaseRow). find' (place_of m)) same
            ∙ after.others (place_of l) (begins_elsewhere b l ports (x.ports i d old) was (all_pass (is_free_of b) leases free i d old))
            ∙ x.has i d old was
        | inr new ↦ let end : length leases ≡ i = omega (arith, within, new, length_push leases b) in
            ap (λ (m : LeaseRow). find' (place_of m)) (get_or_push leases b d i end) ∙ after.here ∙ ap (λ (n : ℕ). Some n) end
      ];
    }

-- where the row didn't get in, and its place was taken out again
pub indexed_still : {leases : List LeaseRow} {find find' find'' : Place → Option ℕ} (b : LeaseRow) → IsIndexed leases find
    → IsFoundAfter find find' (place_of b) (Some (length leases)) → IsFoundAfter find' find'' (place_of b) None
    → b.first ≤ b.last → list_all (is_free_of b) leases ≡ true
    → IsIndexed leases find''
indexed_still {leases} {find} {find'} {find''} b x added taken ports free = record {
  ports = x.ports;
  apart = x.apart;
  finds = λ q i e. elim (same_or_other (place_of b) q) [
    | inl same ↦ none_or_some (find'' q) i (sym (ap find'' same) ∙ taken.here) e
    | inr other ↦ x.finds q i (sym (added.others q other) ∙ sym (taken.others q other) ∙ e)
  ];
  has = λ i d within is. let l = get_or leases i d in
      let other = begins_elsewhere b l ports (x.ports i d within) is (all_pass (is_free_of b) leases free i d within) in
      taken.others (place_of l) other ∙ added.others (place_of l) other ∙ x.has i d within is;
}

pub indexed_nothing : (m : BTreeMap Place ℕ) → m.entries ≡ [] → IsIndexed [] (get place_cmp m)
indexed_nothing m none = record {
  ports = All-nil (λ (l : LeaseRow). l.first ≤ l.last);
  apart = λ i j d before within. absurd (omega (arith, before, within));
  finds = λ q i e. none_or_some (get place_cmp m q) i (ap (lookup (λ p. is_eq (place_cmp q p))) none) e;
  has = λ i d within is. absurd (omega (arith, within));
}

-- ---- a block closes

-- the open lease of a block begins where the block does
at_its_place : (b l : LeaseRow) → is_of b l ≡ true → place_of l ≡ place_of b
at_its_place b l is =
    let parts = lease_parts b.owner b.addr b.first b.last l is in
    same_place (place_of l) (place_of b) (sym parts.same_addr) (sym parts.same_first)

found_there : {leases : List LeaseRow} {find : Place → Option ℕ} (b : LeaseRow) (i : ℕ) (d : LeaseRow) → IsIndexed leases find
    → i < length leases → is_of b (get_or leases i d) ≡ true → find (place_of b) ≡ Some i
found_there {leases} {find} b i d x within is =
    let l = get_or leases i d in
    ap find (sym (at_its_place b l is)) ∙ x.has i d within (lease_parts b.owner b.addr b.first b.last l is).stands

abbrev pub may_end : LeaseRow → LeaseRow → Bool
may_end b l = is_of b l && nat_le l.since.0 b.since.0

-- nothing is found at the block's place, so that it isn't open
pub none_to_close : {leases : List LeaseRow} {find : Place → Option ℕ} (b : LeaseRow) → IsIndexed leases find → find (place_of b) ≡ None
    → list_any (may_end b) leases ≡ false
none_to_close {leases} {find} b x none =
    none_from (may_end b) leases (λ i within passes.
    let l = get_or leases i b in
    let is = and_parts (is_of b l) (nat_le l.since.0 b.since.0) (passes b) in
    none_or_some (find (place_of b)) i none (found_there b i b x within is.0))

-- what is found there may not end, so that no lease may
pub other_to_close : {leases : List LeaseRow} {find : Place → Option ℕ} (b : LeaseRow) (at : ℕ) (d : LeaseRow) → IsIndexed leases find
    → find (place_of b) ≡ Some at → may_end b (get_or leases at d) ≡ false
    → list_any (may_end b) leases ≡ false
other_to_close {leases} {find} b at d x found fails =
    none_from (may_end b) leases (λ i within passes.
    let l = get_or leases i d in
    let is = and_parts (is_of b l) (nat_le l.since.0 b.since.0) (passes d) in
    let there = some_inj at i (sym found ∙ found_there b i d x within is.0) in
    true≢false (sym (passes d) ∙ ap (λ (k : ℕ). may_end b (get_or leases k d)) (sym there) ∙ fails))

-- it may end
pub lease_found : {leases : List LeaseRow} {find : Place → Option ℕ} (b : LeaseRow) (at : ℕ) (d : LeaseRow) → IsIndexed leases find
    → find (place_of b) ≡ Some at → may_end b (get_or leases at d) ≡ true
    → IsLeaseAt leases b at
lease_found {leases} {find} b at d x found passes =
    let l = get_or leases at d in
    let parts = and_parts (is_of b l) (nat_le l.since.0 b.since.0) passes in
    let within = (x.finds (place_of b) at found).within in
    let is = λ (e : LeaseRow). get_or_default leases at d e within in
    record {
      within = within;
      same = λ e. ap (is_of b) (sym (is e)) ∙ parts.0;
      begun = λ e. subst (λ (m : LeaseRow). m.since.0 ≤ b.since.0) (is e) (leb-true l.since.0 b.since.0 parts.1);
    }

-- so that the block may close
pub may_end_there : {leases : List LeaseRow} {b : LeaseRow} {at : ℕ} → IsLeaseAt leases b at → list_any (may_end b) leases ≡ true
may_end_there {leases} {b} {at} is =
    let l = get_or leases at b in
    any_from (may_end b) leases at b is.within
    (and_from (is_of b l) (nat_le l.since.0 b.since.0) (is.same b) (le-leb l.since.0 b.since.0 (is.begun b)))

abbrev pub end_of : LeaseRow → LeaseRow → LeaseRow
end_of b = lease_ended b.owner b.addr b.first b.last b.since

stays : (b l : LeaseRow) → is_of b l ≡ false → end_of b l ≡ l
stays b l isnt = ap (λ (v : Bool). cond v (ended b.since.0 l) l) isnt

ends : (b l : LeaseRow) → is_of b l ≡ true → end_of b l ≡ ended b.since.0 l
ends b l is = ap (λ (v : Bool). cond v (ended b.since.0 l) l) is

-- no lease is the block's but the one at its position
isnt_its : {leases : List LeaseRow} {find : Place → Option ℕ} {b : LeaseRow} {at : ℕ} (i : ℕ) (d : LeaseRow) → IsIndexed leases find
    → IsLeaseAt leases b at → i < length leases → (i ≡ at → ⊥)
    → is_of b (get_or leases i d) ≡ false
isnt_its {leases} {find} {b} {at} i d x is within apart = elim (cases_Bool (is_of b (get_or leases i d))) [
  | inl its ↦ absurd (apart (some_inj i at (sym (found_there b i d x within its) ∙ found_there b at d x is.within (is.same d))))
  | inr other ↦ other
]

-- to end the lease at its position is to end the block's leases
pub ended_there : {leases : List LeaseRow} {find : Place → Option ℕ} {b : LeaseRow} {at : ℕ} (e : LeaseRow) → IsIndexed leases find
    → IsLeaseAt leases b at
    → set leases at (ended b.since.0 (get_or leases at e)) ≡ map (end_of b) leases
ended_there {leases} {find} {b} {at} e x is =
    same_lists (set leases at (ended b.since.0 l)) (map (end_of b) leases)
    (length-set leases at (ended b.since.0 l) ∙ sym (length-map leases (end_of b))) each
  where
    l : LeaseRow
    l = get_or leases at e

    each : (k : ℕ) (d : LeaseRow) → k < length (set leases at (ended b.since.0 l))
        → get_or (set leases at (ended b.since.0 l)) k d ≡ get_or (map (end_of b) leases) k d
    each k d lt =
        let within : k < length leases = omega (arith, lt, length-set leases at (ended b.since.0 l)) in
        let made = get_or-map (end_of b) leases k d d within in
        elim (cases_eq k at) [
          | inl here ↦
              let row : l ≡ get_or leases k d = get_or_default leases at e d is.within ∙ ap (λ (n : ℕ). get_or leases n d) (sym here) in
              let its = ap (λ (n : ℕ). is_of b (get_or leases n d)) here ∙ is.same d in
              ap (λ (n : ℕ). get_or (set leases at (ended b.since.0 l)) n d) here
              ∙ get_or-set_same leases at (ended b.since.0 l) d is.within
              ∙ ap (ended b.since.0) row ∙ sym (ends b (get_or leases k d) its) ∙ sym made
          | inr apart ↦
              get_or-set_other leases at k (ended b.since.0 l) d apart
              ∙ sym (stays b (get_or leases k d) (isnt_its k d x is within apart)) ∙ sym made
        ]

ports_ended : (b l : LeaseRow) (v : Bool) → l.first ≤ l.last → (cond v (ended b.since.0 l) l).first ≤ (cond v (ended b.since.0 l) l).last
ports_ended b l true ports = ports
ports_ended b l false ports = ports

-- what is open after the end isn't the block's
still_open : (b l : LeaseRow) → is_open (end_of b l) ≡ true → is_of b l ≡ false
still_open b l is = elim (cases_Bool (is_of b l)) [
  | inl its ↦ absurd (true≢false (sym is ∙ ap is_open (ends b l its)))
  | inr other ↦ other
]

pub indexed_less : {leases : List LeaseRow} {find find' : Place → Option ℕ} {b : LeaseRow} {at : ℕ} → IsIndexed leases find
    → IsLeaseAt leases b at → IsFoundAfter find find' (place_of b) None
    → IsIndexed (map (end_of b) leases) find'
indexed_less {leases} {find} {find'} {b} {at} x is after = record {
  ports = All-map (λ (l : LeaseRow). l.first ≤ l.last) (end_of b) leases
      (λ i d within. let l = get_or leases i d in ports_ended b l (is_of b l) (x.ports i d within));
  apart = apart_ended b.owner b.addr b.first b.last b.since leases x.apart;
  finds = λ q i e. elim (same_or_other (place_of b) q) [
    | inl same ↦ none_or_some (find' q) i (sym (ap find' same) ∙ after.here) e
    | inr other ↦ found_still q i other (x.finds q i (sym (after.others q other) ∙ e))
  ];
  has = λ i d within stands.
      let old : i < length leases = omega (arith, within, length-map leases (end_of b)) in
      let l = get_or leases i d in
      let made = get_or-map (end_of b) leases i d d old in
      let isnt = still_open b l (sym (ap is_open made) ∙ stands) in
      let same = made ∙ stays b l isnt in
      let was : is_open l ≡ true = sym (ap is_open same) ∙ stands in
      let other = other_place (place_of b) (place_of l) (λ p.
      true≢false (sym (is.same d) ∙ ap (λ (n : ℕ). is_of b (get_or leases n d))
      (some_inj at i (sym (found_there b at d x is.within (is.same d)) ∙ ap find p ∙ x.has i d old was)) ∙ isnt)) in
      ap (λ (m : LeaseRow). find' (place_of m)) same ∙ after.others (place_of l) other ∙ x.has i d old was;
}
  where
    found_still : (q : Place) (i : ℕ) → is_eq (place_cmp (place_of b) q) ≡ false → IsOpenAt leases q i
        → IsOpenAt (map (end_of b) leases) q i
    found_still q i other was =
        let elsewhere = λ (d : LeaseRow) (its : is_of b (get_or leases i d) ≡ true).
        true≢false (sym (equal_itself (place_of b) q (sym (at_its_place b (get_or leases i d) its) ∙ was.begins d)) ∙ other) in
        let isnt = λ (d : LeaseRow). false_from_ne_true (is_of b (get_or leases i d)) (elsewhere d) in
        let same = λ (d : LeaseRow). get_or-map (end_of b) leases i d d was.within ∙ stays b (get_or leases i d) (isnt d) in
        record {
          within = omega (arith, was.within, length-map leases (end_of b));
          stands = λ d. ap is_open (same d) ∙ was.stands d;
          begins = λ d. ap place_of (same d) ∙ was.begins d;
        }

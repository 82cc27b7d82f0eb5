-- What a log tells after closings, an opening and a horizon, each where it can be told them.
use Rattle.std.proofs.Common.{◌≡◌, ℕ, zero, suc, ◌+◌, ◌≤◌, Bool, true, false, not, ◌&&◌, ◌==◌, List, [], ◌∷◌, ◌++◌, length, map, Result}
use Rattle.std.proofs.Common.{Ok, Err, None, Option, is_none, nat_le, refl, sym, ap, ap₂, ◌∙◌, subst, append_assoc, arith}
use Rattle.std.specs.Prelude.{if◌then◌else◌}
use Rattle.std.specs.List.{AllByRecursion, list_all, list_any}
use Rattle.std.proofs.lemmas.Bool.{true≢false, and_from, and_parts, both_ways, eq-eqb, eqb-true, false_from_ne_true, le-leb, or_left}
use Rattle.std.proofs.lemmas.Bool.{or_right}
use Rattle.std.proofs.lemmas.List.{map-append}
use Rattle.std.proofs.lemmas.List.Folds.{list_any-append}
use Rattle.aftr_base.specs.Attempt.{◌>>=◌, ◌>>◌, require}
use Rattle.aftr_base.specs.Limits.{log_moment_limit}
use Rattle.aftr_base.specs.Plan.{is_prefix6}
use Rattle.aftr_base.specs.Value.{ip4_eq, moment, subscriber_eq}
use Rattle.aftr_base.specs.Row.{is_open, overlaps, ended, block_event}
use Rattle.aftr_base.specs.Telling.{told_after, after_event, is_lease_of, lease_ended, lease_told, may_close, may_open}
use Rattle.aftr_base.specs.declared.value.Moment.{Moment}
use Rattle.aftr_base.specs.declared.row.LeaseRow.{LeaseRow}
use Rattle.aftr_base.specs.declared.event.LogEvent.{LogEvent}
use Rattle.aftr_base.specs.declared.event.LogEvent.TheVariants.{Horizon}
use Rattle.aftr_base.specs.declared.told.Told.{Told}
use Rattle.aftr_base.proofs.Pairwise.{Pairwise}
use Rattle.nat_mapping.specs.Rows.{Mapping}
use Rattle.xlate_core.specs.Valid.{clash_open}
use Rattle.xlate_core.specs.Expiry.{closings_of, is_idle, with_idle_ended}
use Rattle.xlate_core.proofs.Closings.{becomes_busy, becomes_ended, closes_busy, closes_ended}
use Rattle.xlate_core.proofs.Middles.{before_mid, behind_mid, pairwise_put}
use Rattle.xlate_core.proofs.ValidExpiry.{idle_open}
use Rattle.xlate_core.proofs.ValidRows.{own_subscriber}

-- ---- events in a row

then_assoc : {A B E : Type 0} (r : Result (Unit {0}) E) (q : Result A E) (f g : A → Result B E) (k : B → Result B E)
    → ((x : A) → g x ≡ (f x >>= k)) → (r >> (q >>= g)) ≡ ((r >> (q >>= f)) >>= k)
then_assoc (Ok u) (Ok x) f g k h = h x
then_assoc (Ok u) (Err e) f g k h = refl
then_assoc (Err e) q f g k h = refl

told_append : (xs ys : List LogEvent) (t : Told) → told_after (xs ++ ys) t ≡ (told_after xs t >>= told_after ys)
told_append [] ys t = refl
told_append (e ∷ xs) ys t =
    then_assoc _ (after_event t e) _ _ (told_after ys)
    (λ (next : Told). told_append xs ys (record next { count = suc t.count }))

pub told_then : (xs ys : List LogEvent) (t t' : Told) → told_after xs t ≡ Ok t' → told_after (xs ++ ys) t ≡ told_after ys t'
told_then xs ys t t' h = told_append xs ys t ∙ ap (λ (r : Result Told (Unit {0})). r >>= told_after ys) h

-- what a log tells with other leases, in so many records
abbrev pub told_with : Told → List LeaseRow → ℕ → Told
told_with t leases count = record t { leases = leases; count = count }

-- ---- which lease a closing is about

-- the first overlaps no later one while both are open
abbrev pub Apart : LeaseRow → LeaseRow → Type 0
Apart l m = is_open l ≡ true → is_open m ≡ true → overlaps l m.addr m.first m.last ≡ false

pub apart : (l m : LeaseRow) → clash_open l m ≡ false → Apart l m
apart l m free first later =
    let over = overlaps l m.addr m.first m.last in
    sym (ap₂ (λ (a b : Bool). a && b && over) first later) ∙ free

-- the closing of l is about m
abbrev is_about : LeaseRow → LeaseRow → Bool
is_about l m = is_lease_of l.owner l.addr l.first l.last m

record IsAbout (l m : LeaseRow) : Type 0 where
  lasts : is_open m ≡ true
  addr : l.addr.0 ≡ m.addr.0
  first : l.first ≡ m.first
  last : l.last ≡ m.last

about_parts : (l m : LeaseRow) → is_about l m ≡ true → IsAbout l m
about_parts l m h =
    let a = and_parts (is_open m && subscriber_eq l.owner m.owner && ip4_eq l.addr m.addr && l.first == m.first) (l.last == m.last) h in
    let b = and_parts (is_open m && subscriber_eq l.owner m.owner && ip4_eq l.addr m.addr) (l.first == m.first) a.0 in
    let d = and_parts (is_open m && subscriber_eq l.owner m.owner) (ip4_eq l.addr m.addr) b.0 in
    record {
      lasts = (and_parts (is_open m) (subscriber_eq l.owner m.owner) d.0).0;
      addr = eqb-true l.addr.0 m.addr.0 d.1;
      first = eqb-true l.first m.first b.1;
      last = eqb-true l.last m.last a.1;
    }

overlaps_from : (l m : LeaseRow) → l.addr.0 ≡ m.addr.0 → l.first ≤ m.last → m.first ≤ l.last → overlaps l m.addr m.first m.last ≡ true
overlaps_from l m addr low high =
    and_from (ip4_eq l.addr m.addr && nat_le l.first m.last) (nat_le m.first l.last)
    (and_from (ip4_eq l.addr m.addr) (nat_le l.first m.last) (eq-eqb l.addr.0 m.addr.0 addr) (le-leb l.first m.last low))
    (le-leb m.first l.last high)

about_own : (l : LeaseRow) → is_open l ≡ true → is_about l l ≡ true
about_own l lasts =
    and_from (is_open l && subscriber_eq l.owner l.owner && ip4_eq l.addr l.addr && l.first == l.first) (l.last == l.last)
    (and_from (is_open l && subscriber_eq l.owner l.owner && ip4_eq l.addr l.addr) (l.first == l.first)
    (and_from (is_open l && subscriber_eq l.owner l.owner) (ip4_eq l.addr l.addr)
    (and_from (is_open l) (subscriber_eq l.owner l.owner) lasts (own_subscriber l.owner))
    (eq-eqb l.addr.0 l.addr.0 refl)) (eq-eqb l.first l.first refl)) (eq-eqb l.last l.last refl)

-- not about one before it, nor about one behind it
not_before : (l m : LeaseRow) → l.first ≤ l.last → is_open l ≡ true → Apart m l → is_about l m ≡ false
not_before l m range lasts free = false_from_ne_true (is_about l m) (λ h.
    let x = about_parts l m h in
    let over = overlaps_from m l (sym x.addr) (omega (arith, range, x.first)) (omega (arith, range, x.last)) in
    both_ways (overlaps m l.addr l.first l.last) (free x.lasts lasts) over)

not_behind : (l m : LeaseRow) → l.first ≤ l.last → is_open l ≡ true → Apart l m → is_about l m ≡ false
not_behind l m range lasts free = false_from_ne_true (is_about l m) (λ h.
    let x = about_parts l m h in
    let over = overlaps_from l m x.addr (omega (arith, range, x.last)) (omega (arith, range, x.first)) in
    both_ways (overlaps l m.addr m.first m.last) (free lasts x.lasts) over)

others_before : (l : LeaseRow) (ms : List LeaseRow) → l.first ≤ l.last → is_open l ≡ true → AllByRecursion (λ m. Apart m l) ms
    → AllByRecursion (λ m. is_about l m ≡ false) ms
others_before l [] range lasts h = tt
others_before l (m ∷ ms) range lasts h = (not_before l m range lasts h.0, others_before l ms range lasts h.1)

others_behind : (l : LeaseRow) (ms : List LeaseRow) → l.first ≤ l.last → is_open l ≡ true → AllByRecursion (Apart l) ms
    → AllByRecursion (λ m. is_about l m ≡ false) ms
others_behind l [] range lasts h = tt
others_behind l (m ∷ ms) range lasts h = (not_behind l m range lasts h.0, others_behind l ms range lasts h.1)

-- what the closing makes of a lease, and of those that it isn't about
abbrev after_closing : ℕ → LeaseRow → LeaseRow → LeaseRow
after_closing now l m = lease_ended l.owner l.addr l.first l.last (moment now) m

others_stay : (now : ℕ) (l : LeaseRow) (ms : List LeaseRow) → AllByRecursion (λ m. is_about l m ≡ false) ms
    → map (after_closing now l) ms ≡ ms
others_stay now l [] h = refl
others_stay now l (m ∷ ms) h =
    ap₂ (λ (x : LeaseRow) (xs : List LeaseRow). x ∷ xs) (ap (λ (b : Bool). if b then ended now m else m) h.0) (others_stay now l ms h.1)

ends_alone : (now : ℕ) (pre rest : List LeaseRow) (l : LeaseRow) → is_open l ≡ true → l.first ≤ l.last → Pairwise Apart (pre ++ l ∷ rest)
    → map (after_closing now l) (pre ++ l ∷ rest) ≡ pre ++ ended now l ∷ rest
ends_alone now pre rest l lasts range h =
    let before = others_stay now l pre (others_before l pre range lasts (before_mid Apart pre rest l h)) in
    let behind = others_stay now l rest (others_behind l rest range lasts (behind_mid Apart pre rest l h)) in
    let own : after_closing now l l ≡ ended now l = ap (λ (b : Bool). if b then ended now l else l) (about_own l lasts) in
    map-append (after_closing now l) pre (l ∷ rest)
    ∙ ap₂ (λ (xs ys : List LeaseRow). xs ++ ys) before (ap₂ (λ (x : LeaseRow) (xs : List LeaseRow). x ∷ xs) own behind)

-- ---- a closing

closes_there : (now : ℕ) (pre rest : List LeaseRow) (l : LeaseRow) (t : Told) → is_open l ≡ true → l.since.0 ≤ now
    → t.leases ≡ pre ++ l ∷ rest → may_close t l.owner l.addr l.first l.last now ≡ true
closes_there now pre rest l t lasts begun same =
    let test = λ (m : LeaseRow). is_about l m && nat_le m.since.0 now in
    let here : test l ≡ true = and_from (is_about l l) (nat_le l.since.0 now) (about_own l lasts) (le-leb l.since.0 now begun) in
    ap (list_any test) same ∙ list_any-append test pre (l ∷ rest)
    ∙ or_right (list_any test pre) (list_any test (l ∷ rest)) (or_left (test l) (list_any test rest) here)

tell_closed : (now : ℕ) (l : LeaseRow) (es : List LogEvent) (t : Told) (after : List LeaseRow) → now ≤ log_moment_limit
    → may_close t l.owner l.addr l.first l.last now ≡ true → map (after_closing now l) t.leases ≡ after
    → told_after (block_event false now l ∷ es) t ≡ told_after es (told_with t after (suc t.count))
tell_closed now l es t after le may same =
    let next = λ (x : Told). told_after es (record x { count = suc t.count }) in
    let done : Told = record t { leases = map (after_closing now l) t.leases } in
    let may_be = may_close t l.owner l.addr l.first l.last now in
    ap (λ (b : Bool). require b tt >> ((require may_be tt >> Ok done) >>= next)) (le-leb now log_moment_limit le)
    ∙ ap (λ (b : Bool). (require b tt >> Ok done) >>= next) may
    ∙ ap (λ (ls : List LeaseRow). next (record t { leases = ls })) same

-- ---- all closings, where those before are done

abbrev pub MayClose : ℕ → LeaseRow → Type 0
MayClose now l = is_open l ≡ true → (l.first ≤ l.last) × (l.since.0 ≤ now)

pub record IsClosable (now : ℕ) (pre ls : List LeaseRow) (t : Told) : Type 0 where
  pub limit : now ≤ log_moment_limit
  pub pairs : Pairwise Apart (pre ++ ls)
  pub each : AllByRecursion (MayClose now) ls
  pub same : t.leases ≡ pre ++ ls

abbrev Tells : ℕ → ℕ → List Mapping → List LeaseRow → List LeaseRow → Told → Type 0
Tells n now rows pre ls t =
    told_after (closings_of n now rows ls) t
    ≡ Ok (told_with t (pre ++ with_idle_ended n now rows ls) (t.count + length (closings_of n now rows ls)))

pub tells_same : (t : Told) (ls : List LeaseRow) → t.leases ≡ ls
    → (let r : Result Told (Unit {0}) = Ok t in r) ≡ Ok (told_with t ls (t.count + 0))
tells_same t ls same =
    let none : t.count ≡ t.count + 0 = omega arith in
    ap₂ (λ (xs : List LeaseRow) (k : ℕ). let r : Result Told (Unit {0}) = Ok (told_with t xs k) in r) same none

-- with the same lists in other words
pub tells_as : (t : Told) (ls ls' : List LeaseRow) (k k' : ℕ) → ls ≡ ls' → k ≡ k'
    → (let r : Result Told (Unit {0}) = Ok (told_with t ls k) in r) ≡ Ok (told_with t ls' k')
tells_as t ls ls' k k' same count =
    ap₂ (λ (xs : List LeaseRow) (n : ℕ). let r : Result Told (Unit {0}) = Ok (told_with t xs n) in r) same count

-- an idle lease closes, and the rest after it
tells_ended : (n now : ℕ) (rows : List Mapping) (pre : List LeaseRow) (l : LeaseRow) (ls : List LeaseRow) (t : Told)
    → IsClosable now pre (l ∷ ls) t → is_idle rows l ≡ true
    → ((t' : Told) → IsClosable now (pre ++ ended now l ∷ []) ls t' → Tells n now rows (pre ++ ended now l ∷ []) ls t')
    → Tells (suc n) now rows pre (l ∷ ls) t
tells_ended n now rows pre l ls t h idle later =
    let lasts = idle_open rows l idle in
    let may = h.each.0 lasts in
    let e = ended now l in
    let front = pre ++ e ∷ [] in
    let to = told_with t (pre ++ e ∷ ls) (suc t.count) in
    let events = closings_of n now rows ls in
    let closes = closes_ended n now rows l ls idle in
    let whole : pre ++ e ∷ ls ≡ front ++ ls = sym (append_assoc pre (e ∷ []) ls) in
    let before = λ (m : LeaseRow) (free : Apart m l). let x : Apart m e = λ first again. absurd (true≢false (sym again)) in x in
    let behind = λ (m : LeaseRow) (free : Apart l m). let x : Apart e m = λ again later. absurd (true≢false (sym again)) in x in
    let pairs = subst (Pairwise Apart) whole (pairwise_put Apart pre ls l e before behind h.pairs) in
    let rest = later to (record { limit = h.limit; pairs = pairs; each = h.each.1; same = whole }) in
    ap (λ (es : List LogEvent). told_after es t) closes
    ∙ tell_closed now l events t (pre ++ e ∷ ls) h.limit (closes_there now pre ls l t lasts may.1 h.same)
    (ap (map (after_closing now l)) h.same ∙ ends_alone now pre ls l lasts may.0 h.pairs)
    ∙ rest
    ∙ tells_as t (front ++ with_idle_ended n now rows ls) (pre ++ with_idle_ended (suc n) now rows (l ∷ ls)) _ _
    (append_assoc pre (e ∷ []) (with_idle_ended n now rows ls)
    ∙ ap (λ (xs : List LeaseRow). pre ++ xs) (sym (becomes_ended n now rows l ls idle)))
    (omega (arith, ap (λ (es : List LogEvent). length es) closes))

-- another stays
tells_busy : (n now : ℕ) (rows : List Mapping) (pre : List LeaseRow) (l : LeaseRow) (ls : List LeaseRow) (t : Told)
    → IsClosable now pre (l ∷ ls) t → is_idle rows l ≡ false
    → ((t' : Told) → IsClosable now (pre ++ l ∷ []) ls t' → Tells n now rows (pre ++ l ∷ []) ls t')
    → Tells n now rows pre (l ∷ ls) t
tells_busy n now rows pre l ls t h busy later =
    let closes = closes_busy n now rows l ls busy in
    let whole : pre ++ l ∷ ls ≡ (pre ++ l ∷ []) ++ ls = sym (append_assoc pre (l ∷ []) ls) in
    let pairs = subst (Pairwise Apart) whole h.pairs in
    let rest = later t (record { limit = h.limit; pairs = pairs; each = h.each.1; same = h.same ∙ whole }) in
    ap (λ (es : List LogEvent). told_after es t) closes
    ∙ rest
    ∙ tells_as t ((pre ++ l ∷ []) ++ with_idle_ended n now rows ls) (pre ++ with_idle_ended n now rows (l ∷ ls)) _ _
    (append_assoc pre (l ∷ []) (with_idle_ended n now rows ls)
    ∙ ap (λ (xs : List LeaseRow). pre ++ xs) (sym (becomes_busy n now rows l ls busy)))
    (ap (λ (es : List LogEvent). t.count + length es) (sym closes))

tells_by : (b : Bool) (n now : ℕ) (rows : List Mapping) (pre : List LeaseRow) (l : LeaseRow) (ls : List LeaseRow) (t : Told)
    → is_idle rows l ≡ b → IsClosable now pre (l ∷ ls) t
    → ((k : ℕ) (front : List LeaseRow) (t' : Told) → IsClosable now front ls t' → Tells k now rows front ls t')
    → Tells (suc n) now rows pre (l ∷ ls) t
tells_by true n now rows pre l ls t idle h later = tells_ended n now rows pre l ls t h idle (later n (pre ++ ended now l ∷ []))
tells_by false n now rows pre l ls t busy h later = tells_busy (suc n) now rows pre l ls t h busy (later (suc n) (pre ++ l ∷ []))

pub tell_closings : (n now : ℕ) (rows : List Mapping) (pre ls : List LeaseRow) (t : Told) → IsClosable now pre ls t → Tells n now rows pre ls t
tell_closings zero now rows pre ls t h = tells_same t (pre ++ ls) h.same
tell_closings (suc n) now rows pre [] t h = tells_same t (pre ++ []) h.same
tell_closings (suc n) now rows pre (l ∷ ls) t h =
    tells_by (is_idle rows l) n now rows pre l ls t refl h (λ k front t' h'. tell_closings k now rows front ls t' h')

-- ---- an opening

-- an open range of a subscriber, at a moment that the horizon reaches, which no open lease overlaps
pub record IsOpenable (now : ℕ) (l : LeaseRow) (t : Told) : Type 0 where
  pub limit : now ≤ log_moment_limit
  pub owner : is_prefix6 l.owner.0 ≡ true
  pub range : l.first ≤ l.last
  pub since : l.since ≡ moment now
  pub until : l.until ≡ None
  pub ahead : now ≤ t.horizon.0
  pub apart : AllByRecursion (λ m. Apart m l) t.leases

free_by : (o v : Bool) → (o ≡ true → v ≡ false) → not (o && v) ≡ true
free_by true v h = ap not (h refl)
free_by false v h = refl

all_free : (l : LeaseRow) (ms : List LeaseRow) → is_open l ≡ true → AllByRecursion (λ m. Apart m l) ms
    → list_all (λ m. not (is_open m && overlaps m l.addr l.first l.last)) ms ≡ true
all_free l [] lasts h = refl
all_free l (m ∷ ms) lasts h =
    and_from (not (is_open m && overlaps m l.addr l.first l.last)) (list_all (λ m. not (is_open m && overlaps m l.addr l.first l.last)) ms)
    (free_by (is_open m) (overlaps m l.addr l.first l.last) (λ first. h.0 first lasts)) (all_free l ms lasts h.1)

may_be_opened : (now : ℕ) (l : LeaseRow) (t : Told) → IsOpenable now l t → may_open t l.owner l.addr l.first l.last now ≡ true
may_be_opened now l t h =
    let free = list_all (λ m. not (is_open m && overlaps m l.addr l.first l.last)) t.leases in
    and_from (is_prefix6 l.owner.0 && nat_le l.first l.last && nat_le now t.horizon.0) free
    (and_from (is_prefix6 l.owner.0 && nat_le l.first l.last) (nat_le now t.horizon.0)
    (and_from (is_prefix6 l.owner.0) (nat_le l.first l.last) h.owner (le-leb l.first l.last h.range)) (le-leb now t.horizon.0 h.ahead))
    (all_free l t.leases (ap is_none h.until) h.apart)

abbrev lease_from : LeaseRow → Moment → Option Moment → LeaseRow
lease_from l since until = record { owner = l.owner; addr = l.addr; first = l.first; last = l.last; since = since; until = until }

pub tell_opened : (now : ℕ) (l : LeaseRow) (t : Told) → IsOpenable now l t
    → told_after (block_event true now l ∷ []) t ≡ Ok (told_with t (t.leases ++ l ∷ []) (suc t.count))
tell_opened now l t h =
    let next = λ (x : Told). told_after [] (record x { count = suc t.count }) in
    let fresh = lease_told l.owner l.addr l.first l.last (moment now) in
    let same : fresh ≡ l = ap₂ (lease_from l) (sym h.since) (sym h.until) in
    let done : Told = record t { leases = t.leases ++ fresh ∷ [] } in
    let may_be = may_open t l.owner l.addr l.first l.last now in
    ap (λ (b : Bool). require b tt >> ((require may_be tt >> Ok done) >>= next)) (le-leb now log_moment_limit h.limit)
    ∙ ap (λ (b : Bool). (require b tt >> Ok done) >>= next) (may_be_opened now l t h)
    ∙ ap (λ (x : LeaseRow). next (record t { leases = t.leases ++ x ∷ [] })) same

-- ---- a horizon

pub tell_horizon : (at reach : ℕ) (t : Told) → at ≤ log_moment_limit → t.horizon.0 ≤ reach → reach ≤ log_moment_limit
    → told_after (Horizon (moment at) (moment reach) ∷ []) t ≡ Ok (record t { horizon = moment reach; count = suc t.count })
tell_horizon at reach t le rises fits =
    let next = λ (x : Told). told_after [] (record x { count = suc t.count }) in
    let done : Told = record t { horizon = moment reach } in
    let may_be = nat_le t.horizon.0 reach && nat_le reach log_moment_limit in
    ap (λ (b : Bool). require b tt >> ((require may_be tt >> Ok done) >>= next)) (le-leb at log_moment_limit le)
    ∙ ap (λ (b : Bool). (require b tt >> Ok done) >>= next)
    (and_from (nat_le t.horizon.0 reach) (nat_le reach log_moment_limit) (le-leb t.horizon.0 reach rises)
    (le-leb reach log_moment_limit fits))

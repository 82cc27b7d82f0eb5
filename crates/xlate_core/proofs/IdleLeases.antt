-- Where each open lease has the place of a row, none is idle, and none ends.
use Rattle.std.proofs.Common.{◌≡◌, ℕ, zero, suc, ◌+◌, ◌<◌, ◌≤◌, Bool, true, false, not, cond, ◌&&◌, ◌||◌, List, [], ◌∷◌, ◌++◌, length}
use Rattle.std.proofs.Common.{get_or, set, take, map, filter, refl, sym, ap, ◌∙◌, arith}
use Rattle.std.specs.Prelude.{nat_lt, nat_le, if◌then◌else◌, option_to_list}
use Rattle.std.specs.List.{list_any}
use Rattle.std.proofs.lemmas.Bool.{and_from, or_from, or_left, or_right, le-leb, eq-eqb, ltb-true, ltb-false}
use Rattle.std.proofs.lemmas.List.{append-nil, length-map, take_more_set}
use Rattle.std.proofs.lemmas.List.Folds.{list_any-append}
use Rattle.aftr_base.specs.Value.{ip4_eq, is_within, place}
use Rattle.aftr_base.specs.Row.{is_open, ended, block_event}
use Rattle.aftr_base.specs.declared.value.Ip4.{Ip4}
use Rattle.aftr_base.specs.declared.row.LeaseRow.{LeaseRow}
use Rattle.aftr_base.specs.declared.event.LogEvent.{LogEvent}
use Rattle.cfg_text.specs.Accepted.{is_accepted}
use Rattle.cfg_text.proofs.Facts.{facts}
use Rattle.nat_mapping.specs.Rows.{Mapping}
use Rattle.nat_mapping.specs.declared.row.Peer.{Peer}
use Rattle.xlate_core.specs.declared.grant.Grant.{Grant}
use Rattle.xlate_core.specs.declared.grant.Flow.{Flow}
use Rattle.nat_mapping.specs.Rows.{expired, in_use, is_used, lies_in, live_peers, touched_at}
use Rattle.port_blocks.specs.declared.choice.Block.{Block}
use Rattle.xlate_core.specs.Expiry.{Closed, at_moment, closings_of, has_idle, is_idle, with_idle_ended, closing_limit}
use Rattle.xlate_core.specs.Grant.{after_grant, granted, peer_of, row_for}
use Rattle.xlate_core.specs.State.{State}
use Rattle.xlate_core.specs.Stepped.{HasMoved}
use Rattle.xlate_core.proofs.Clock.{moment_raises, raised}
use Rattle.xlate_core.proofs.ValidForwards.{after_opens, block_range, chosen_for, lease_of}
use Rattle.xlate_core.proofs.ValidGrants.{GrantCase, Keeps, Takes, Opens, given, grant_cases}

-- ---- a list of which a filter leaves as many as there were

short_by : {X : Type 0} (b : Bool) (x : X) (ys xs : List X) → length ys ≤ length xs → length (cond b (x ∷ ys) ys) ≤ length (x ∷ xs)
short_by true x ys xs le = omega (arith, le)
short_by false x ys xs le = omega (arith, le)

filter_short : {X : Type 0} (p : X → Bool) (xs : List X) → length (filter p xs) ≤ length xs
filter_short p [] = omega arith
filter_short p (x ∷ xs) = short_by (p x) x (filter p xs) xs (filter_short p xs)

kept_by : {X : Type 0} (b : Bool) (x : X) (ys xs : List X) → length ys ≤ length xs → (length xs ≤ length ys → ys ≡ xs)
    → length (x ∷ xs) ≤ length (cond b (x ∷ ys) ys) → cond b (x ∷ ys) ys ≡ x ∷ xs
kept_by true x ys xs short all h = ap (λ l. x ∷ l) (all (omega (arith, h)))
kept_by false x ys xs short all h = absurd (omega (arith, short, h))

kept_all : {X : Type 0} (p : X → Bool) (xs : List X) → length xs ≤ length (filter p xs) → filter p xs ≡ xs
kept_all p [] h = refl
kept_all p (x ∷ xs) h = kept_by (p x) x (filter p xs) xs (filter_short p xs) (kept_all p xs) h

-- ---- rows that keep their places

in_use_live : (now : ℕ) (addr : Ip4) (first last : ℕ) (rows : List Mapping)
    → in_use addr first last (map (live_peers now) rows) ≡ in_use addr first last rows
in_use_live now addr first last [] = refl
in_use_live now addr first last (r ∷ rows) =
    ap (λ (b : Bool). (ip4_eq addr r.ext.addr && is_within first last r.ext.port) || b) (in_use_live now addr first last rows)

-- a later moment at which no row goes
in_use_stays : (now : ℕ) (addr : Ip4) (first last : ℕ) (rows : List Mapping) → length rows ≤ length (expired now rows)
    → in_use addr first last (expired now rows) ≡ in_use addr first last rows
in_use_stays now addr first last rows h =
    let live = map (live_peers now) rows in
    let all : filter is_used live ≡ live = kept_all is_used live (omega (arith, length-map rows (live_peers now), h)) in
    ap (in_use addr first last) all ∙ in_use_live now addr first last rows

in_use_touched : (at : ℕ) (p : Peer) (addr : Ip4) (first last : ℕ) (rows : List Mapping)
    → in_use addr first last (touched_at at p rows) ≡ in_use addr first last rows
in_use_touched at p addr first last [] = refl
in_use_touched zero p addr first last (r ∷ rows) = refl
in_use_touched (suc at) p addr first last (r ∷ rows) =
    ap (λ (b : Bool). (ip4_eq addr r.ext.addr && is_within first last r.ext.port) || b) (in_use_touched at p addr first last rows)

-- one row more
in_use_pushed : (r : Mapping) (addr : Ip4) (first last : ℕ) (rows : List Mapping) → in_use addr first last rows ≡ true
    → in_use addr first last (rows ++ r ∷ []) ≡ true
in_use_pushed r addr first last rows h =
    let test = λ (q : Mapping). ip4_eq addr q.ext.addr && is_within first last q.ext.port in
    list_any-append test rows (r ∷ []) ∙ or_left (list_any test rows) (list_any test (r ∷ [])) h

-- ---- leases that are in use stay so

-- what is in use among these rows is in use among those
abbrev pub InUseOn : List Mapping → List Mapping → Type 0
InUseOn rows rows' = (addr : Ip4) (first last : ℕ) → in_use addr first last rows ≡ true → in_use addr first last rows' ≡ true

busy_by : (o u u' : Bool) → (u ≡ true → u' ≡ true) → (o && not u) ≡ false → (o && not u') ≡ false
busy_by true true u' on h = ap not (on refl)
busy_by true false u' on h = cc
busy_by false u u' on h = refl

busy_on : (rows rows' : List Mapping) (l : LeaseRow) → InUseOn rows rows' → is_idle rows l ≡ false → is_idle rows' l ≡ false
busy_on rows rows' l on h =
    busy_by (is_open l) (in_use l.addr l.first l.last rows) (in_use l.addr l.first l.last rows') (on l.addr l.first l.last) h

none_of : (a b : Bool) → (a || b) ≡ false → (a ≡ false) × (b ≡ false)
none_of true b h = cc
none_of false b h = (refl, h)

none_on : (rows rows' : List Mapping) (ls : List LeaseRow) → InUseOn rows rows' → has_idle rows ls ≡ false → has_idle rows' ls ≡ false
none_on rows rows' [] on h = refl
none_on rows rows' (l ∷ ls) on h =
    let each = none_of (is_idle rows l) (has_idle rows ls) h in
    or_from (is_idle rows' l) (has_idle rows' ls) (busy_on rows rows' l on each.0) (none_on rows rows' ls on each.1)

-- where it is known
known_by : (known idle idle' : Bool) → (idle ≡ false → idle' ≡ false) → (known && idle) ≡ false → (known && idle') ≡ false
known_by true idle idle' on h = on h
known_by false idle idle' on h = refl

known_on : (known : Bool) (rows rows' : List Mapping) (ls : List LeaseRow) → InUseOn rows rows' → (known && has_idle rows ls) ≡ false
    → (known && has_idle rows' ls) ≡ false
known_on known rows rows' ls on h = known_by known (has_idle rows ls) (has_idle rows' ls) (none_on rows rows' ls on) h

pub known_touched : (known : Bool) (rows rows' : List Mapping) (ls : List LeaseRow) (at : ℕ) (p : Peer) → rows' ≡ touched_at at p rows
    → (known && has_idle rows ls) ≡ false → (known && has_idle rows' ls) ≡ false
known_touched known rows rows' ls at p same h =
    known_on known rows rows' ls
    (λ addr first last used. ap (in_use addr first last) same ∙ in_use_touched at p addr first last rows ∙ used) h

pub known_pushed : (known : Bool) (rows rows' : List Mapping) (ls : List LeaseRow) (r : Mapping) → rows' ≡ rows ++ r ∷ []
    → (known && has_idle rows ls) ≡ false → (known && has_idle rows' ls) ≡ false
known_pushed known rows rows' ls r same h =
    known_on known rows rows' ls (λ addr first last used. ap (in_use addr first last) same ∙ in_use_pushed r addr first last rows used) h

pub known_same : (known : Bool) (rows rows' : List Mapping) (ls : List LeaseRow) → rows' ≡ rows
    → (known && has_idle rows ls) ≡ false → (known && has_idle rows' ls) ≡ false
known_same known rows rows' ls same h = ap (λ (rs : List Mapping). known && has_idle rs ls) same ∙ h

-- more leases
pub known_opened : (known : Bool) (rows : List Mapping) (ls ls' more : List LeaseRow) → ls' ≡ ls ++ more → has_idle rows more ≡ false
    → (known && has_idle rows ls) ≡ false → (known && has_idle rows ls') ≡ false
known_opened known rows ls ls' more same none h =
    known_by known (has_idle rows ls) (has_idle rows ls') (λ before. ap (has_idle rows) same ∙ list_any-append (is_idle rows) ls more
    ∙ or_from (has_idle rows ls) (has_idle rows more) before none) h

-- ---- the lease of a grant is in use by its row

first_used : (s : State) (f : Flow) (p : Peer) (b : Block) → b.first ≤ b.last
    → is_idle (s.rows ++ row_for f p (place b.addr b.first) ∷ []) (lease_of s f.who.owner b) ≡ false
first_used s f p b range =
    let r = row_for f p (place b.addr b.first) in
    let l = lease_of s f.who.owner b in
    let test = lies_in l.addr l.first l.last in
    let here : test r ≡ true =
    and_from (ip4_eq l.addr r.ext.addr) (is_within l.first l.last r.ext.port) (eq-eqb b.addr.0 b.addr.0 refl)
    (and_from (nat_le l.first b.first) (nat_le b.first l.last) (le-leb l.first b.first (omega arith)) (le-leb b.first l.last range)) in
    let used : in_use l.addr l.first l.last (s.rows ++ r ∷ []) ≡ true =
    list_any-append test s.rows (r ∷ []) ∙ or_right (list_any test s.rows) (list_any test (r ∷ [])) (or_left (test r) false here) in
    ap not used

used_case : (s : State) (f : Flow) (g : Grant) → is_accepted s.config ≡ true → GrantCase s f g
    → has_idle (after_grant f g s).rows (option_to_list g.lease) ≡ false
used_case s f g ok (Keeps r found same) =
    ap (λ (x : Grant). has_idle (after_grant f g s).rows (option_to_list x.lease)) same
used_case s f g ok (Takes e none taken same) =
    ap (λ (x : Grant). has_idle (after_grant f g s).rows (option_to_list x.lease)) same
used_case s f g ok (Opens b none free same) =
    let rows = s.rows ++ row_for f (peer_of s f) (place b.addr b.first) ∷ [] in
    let l = lease_of s f.who.owner b in
    let range = block_range (facts s.config ok).block_least (chosen_for s f b ok free) in
    ap (λ (x : State). has_idle x.rows (option_to_list g.lease)) (after_opens s f g b none same)
    ∙ ap (λ (x : Grant). has_idle rows (option_to_list x.lease)) same
    ∙ or_from (is_idle rows l) false (first_used s f (peer_of s f) b range) refl

pub lease_used : (s : State) (f : Flow) (g : Grant) → is_accepted s.config ≡ true → granted s f ≡ given g
    → has_idle (after_grant f g s).rows (option_to_list g.lease) ≡ false
lease_used s f g ok h = used_case s f g ok (grant_cases s f g h)

-- ---- where none is idle, none ends

none_ends : (n now : ℕ) (rows : List Mapping) (ls : List LeaseRow) → has_idle rows ls ≡ false → with_idle_ended n now rows ls ≡ ls
none_ends zero now rows ls h = refl
none_ends (suc n) now rows [] h = refl
none_ends (suc n) now rows (l ∷ ls) h =
    let each = none_of (is_idle rows l) (has_idle rows ls) h in
    ap (λ (b : Bool). (if b then ended now l else l) ∷ with_idle_ended (if b then n else suc n) now rows ls) each.0
    ∙ ap (λ (xs : List LeaseRow). l ∷ xs) (none_ends (suc n) now rows ls each.1)

none_pass : (rows : List Mapping) (ls : List LeaseRow) → has_idle rows ls ≡ false → filter (is_idle rows) ls ≡ []
none_pass rows [] h = refl
none_pass rows (l ∷ ls) h =
    let each = none_of (is_idle rows l) (has_idle rows ls) h in
    let later = filter (is_idle rows) ls in
    ap (λ (b : Bool). cond b (l ∷ later) later) each.0 ∙ none_pass rows ls each.1

none_taken : {X : Type 0} (n : ℕ) → (let none : List X = [] in take n none ≡ none)
none_taken zero = refl
none_taken (suc n) = refl

none_close : (n now : ℕ) (rows : List Mapping) (ls : List LeaseRow) → has_idle rows ls ≡ false → closings_of n now rows ls ≡ []
none_close n now rows ls h =
    ap (λ (xs : List LeaseRow). map (block_event false now) (take n xs)) (none_pass rows ls h)
    ∙ ap (λ (xs : List LeaseRow). map (block_event false now) xs) (none_taken n)

-- ---- as the clock is raised

known_true : (known idle : Bool) → known ≡ true → (known && idle) ≡ false → idle ≡ false
known_true true idle k h = h
known_true false idle k h = cc

not_shorter : (m n : ℕ) (b : Bool) → b ≡ nat_lt n m → b ≡ false → m ≤ n
not_shorter m n b is none = ltb-false n m (sym is ∙ none)

-- no row went, and none was idle before
pub stays_used : (known went : Bool) (now : ℕ) (rows rows' : List Mapping) (ls : List LeaseRow) → rows' ≡ expired now rows
    → went ≡ nat_lt (length rows') (length rows) → went ≡ false → known ≡ true → (known && has_idle rows ls) ≡ false
    → has_idle rows' ls ≡ false
stays_used known went now rows rows' ls same is none k h =
    let all : length rows ≤ length (expired now rows) =
    omega (arith, not_shorter (length rows) (length rows') went is none, ap (λ (rs : List Mapping). length rs) same) in
    none_on rows rows' ls (λ addr first last used. ap (in_use addr first last) same ∙ in_use_stays now addr first last rows all ∙ used)
    (known_true known (has_idle rows ls) k h)

pub moved_quietly : (at : ℕ) (s s' : State) (log : List LogEvent) → s.clock < at → s' ≡ raised at s
    → has_idle (expired at s.rows) s.leases ≡ false → HasMoved (at_moment at s) s' log log
moved_quietly at s s' log lt is none =
    let to = raised at s in
    let leases = none_ends closing_limit at to.rows s.leases none in
    let closings = none_close closing_limit at to.rows s.leases none in
    let moved = moment_raises at s lt in
    record {
      reaches = is ∙ sym (ap (λ (c : Closed). c.state) moved
          ∙ ap (λ (ls : List LeaseRow). let x : State = record to { leases = ls } in x) leases);
      logged = sym (append-nil log) ∙ ap (λ (es : List LogEvent). log ++ es) (sym (ap (λ (c : Closed). c.closings) moved ∙ closings));
    }

-- ---- a loop over the leases, of which the first i are done

none_next : (rows : List Mapping) (ls ls' : List LeaseRow) (i : ℕ) (e : LeaseRow) → i < length ls → ls' ≡ set ls i e → is_idle rows e ≡ false
    → has_idle rows (take i ls) ≡ false → has_idle rows (take (i + 1) ls') ≡ false
none_next rows ls ls' i e lt same busy before =
    ap (λ (xs : List LeaseRow). has_idle rows (take (i + 1) xs)) same ∙ ap (has_idle rows) (take_more_set ls i e lt)
    ∙ list_any-append (is_idle rows) (take i ls) (e ∷ [])
    ∙ or_from (has_idle rows (take i ls)) (has_idle rows (e ∷ [])) before (or_from (is_idle rows e) false busy refl)

pub none_ended : (now : ℕ) (rows : List Mapping) (ls ls' : List LeaseRow) (i : ℕ) (d : LeaseRow) → i < length ls
    → ls' ≡ set ls i (ended now (get_or ls i d)) → has_idle rows (take i ls) ≡ false → has_idle rows (take (i + 1) ls') ≡ false
none_ended now rows ls ls' i d lt same before = none_next rows ls ls' i (ended now (get_or ls i d)) lt same refl before

pub none_busy : (rows : List Mapping) (ls ls' : List LeaseRow) (i : ℕ) (d : LeaseRow) → i < length ls → ls' ≡ set ls i (get_or ls i d)
    → is_idle rows (get_or ls i d) ≡ false → has_idle rows (take i ls) ≡ false → has_idle rows (take (i + 1) ls') ≡ false
none_busy rows ls ls' i d lt same busy before = none_next rows ls ls' i (get_or ls i d) lt same busy before

-- what is known where the loop ends
pub none_left : (left : ℕ) (known idle : Bool) → known ≡ nat_lt 0 left → (0 < left → idle ≡ false) → (known && idle) ≡ false
none_left left true idle is none = none (ltb-true 0 left (sym is))
none_left left false idle is none = refl

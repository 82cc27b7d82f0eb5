-- Rows of which no peer goes before a moment.
use Rattle.std.proofs.Common.{◌≡◌, ℕ, zero, suc, ◌+◌, ◌<◌, ◌≤◌, Bool, true, false, cond, List, [], ◌∷◌, ◌++◌, length, get_or, map, filter}
use Rattle.std.proofs.Common.{All, take, nat_lt, refl, sym, ap, ◌∙◌, subst, arith, length-append}
use Rattle.std.specs.Prelude.{if◌then◌else◌}
use Rattle.std.proofs.lemmas.Bool.{lt-ltb, ltb-true}
use Rattle.std.proofs.lemmas.List.{length-map, take_more}
use Rattle.nat_mapping.specs.declared.row.Peer.{Peer}
use Rattle.nat_mapping.specs.declared.row.Row.{Row}
use Rattle.nat_mapping.specs.Rows.{LastsUntil, Mapping, expired, has_peer, live_peers, mapping_of, same_peer, touched_at, with_peer}
use Rattle.std.proofs.lemmas.List.Elements.{All-cons, All-head, All-map, All-push, All-tail, All-weaker, filter_passes}

abbrev pub IsFrom : ℕ → Peer → Type 0
IsFrom at p = at ≤ p.deadline.0

abbrev lasts : Mapping → Bool
lasts r = nat_lt 0 (length r.peers)

-- ---- an earlier moment

pub earlier_peers : (to at : ℕ) (ps : List Peer) → at ≤ to → All (IsFrom to) ps → All (IsFrom at) ps
earlier_peers to at ps le h = λ k d lt. omega (arith, h k d lt, le)

pub earlier_row : (to at : ℕ) (r : Mapping) → at ≤ to → LastsUntil to r → LastsUntil at r
earlier_row to at r le h = record { some = h.some; each = earlier_peers to at r.peers le h.each }

pub earlier : (to at : ℕ) (rows : List Mapping) → at ≤ to → All (LastsUntil to) rows → All (LastsUntil at) rows
earlier to at rows le h = λ k d lt. earlier_row to at (get_or rows k d) le (h k d lt)

-- ---- at a moment before that nothing goes

all_kept : (now at : ℕ) (ps : List Peer) → now < at → All (IsFrom at) ps → filter (λ (p : Peer). nat_lt now p.deadline.0) ps ≡ ps
all_kept now at [] lt h = refl
all_kept now at (p ∷ ps) lt h =
    let later = filter (λ (q : Peer). nat_lt now q.deadline.0) ps in
    ap (λ (b : Bool). cond b (p ∷ later) later) (lt-ltb now p.deadline.0 (omega (arith, All-head (IsFrom at) p ps h, lt)))
    ∙ ap (λ (qs : List Peer). p ∷ qs) (all_kept now at ps lt (All-tail (IsFrom at) p ps h))

pub none_goes : (now at : ℕ) (rows : List Mapping) → now < at → All (LastsUntil at) rows → expired now rows ≡ rows
none_goes now at [] lt h = refl
none_goes now at (r ∷ rows) lt h =
    let here = All-head (LastsUntil at) r rows h in
    let same = all_kept now at r.peers lt here.each in
    let rest = expired now rows in
    ap (λ (ps : List Peer). let x : Mapping = record r { peers = ps } in cond (nat_lt 0 (length ps)) (x ∷ rest) rest) same
    ∙ ap (λ (b : Bool). cond b (r ∷ rest) rest) (lt-ltb 0 (length r.peers) here.some)
    ∙ ap (λ (rs : List Mapping). r ∷ rs) (none_goes now at rows lt (All-tail (LastsUntil at) r rows h))

-- ---- a peer put into a row

put_by : (at : ℕ) (p q : Peer) (b : Bool) → IsFrom at p → IsFrom at q → IsFrom at (if b then p else q)
put_by at p q true h k = h
put_by at p q false h k = k

all_put : (at : ℕ) (p : Peer) (ps : List Peer) → IsFrom at p → All (IsFrom at) ps
    → All (IsFrom at) (map (λ (q : Peer). if same_peer p q then p else q) ps)
all_put at p ps h all =
    let put = λ (q : Peer). if same_peer p q then p else q in
    All-map (IsFrom at) put ps (All-weaker (IsFrom at) (λ q. IsFrom at (put q)) (λ q k. put_by at p q (same_peer p q) h k) ps all)

with_by : (at : ℕ) (p : Peer) (r : Mapping) (b : Bool) → IsFrom at p → LastsUntil at r
    → (let ps = if b then map (λ (q : Peer). if same_peer p q then p else q) r.peers else r.peers ++ p ∷ [] in
    LastsUntil at (record r { peers = ps }))
with_by at p r true h k = record {
  some = omega (arith, k.some, length-map r.peers (λ (q : Peer). if same_peer p q then p else q));
  each = all_put at p r.peers h k.each;
}
with_by at p r false h k = record {
  some = omega (arith, length-append r.peers (p ∷ []));
  each = All-push (IsFrom at) r.peers p k.each h;
}

pub lasts_touched : (at i : ℕ) (p : Peer) (rows : List Mapping) → IsFrom at p → All (LastsUntil at) rows
    → All (LastsUntil at) (touched_at i p rows)
lasts_touched at i p [] h all = all
lasts_touched at zero p (r ∷ rows) h all =
    All-cons (LastsUntil at) (record r { peers = with_peer p r.peers }) rows
    (with_by at p r (has_peer p r.peers) h (All-head (LastsUntil at) r rows all)) (All-tail (LastsUntil at) r rows all)
lasts_touched at (suc i) p (r ∷ rows) h all =
    All-cons (LastsUntil at) r (touched_at i p rows) (All-head (LastsUntil at) r rows all)
    (lasts_touched at i p rows h (All-tail (LastsUntil at) r rows all))

-- ---- one row more

pub lasts_pushed : (at : ℕ) (rows : List Mapping) (r : Mapping) → All (LastsUntil at) rows → 0 < length r.peers → All (IsFrom at) r.peers
    → All (LastsUntil at) (rows ++ r ∷ [])
lasts_pushed at rows r all some each = All-push (LastsUntil at) rows r all (record { some = some; each = each })

-- ---- after rows went

pub lasts_left : (now at : ℕ) (rows left : List Mapping) → left ≡ expired now rows → All (λ (r : Mapping). All (IsFrom at) r.peers) left
    → All (LastsUntil at) left
lasts_left now at rows left same each =
    let passed = subst (All (λ (r : Mapping). lasts r ≡ true)) (sym same) (filter_passes lasts (map (live_peers now) rows)) in
    λ k d lt. record { some = ltb-true 0 _ (passed k d lt); each = each k d lt }

-- ---- the least deadline so far

pub min_next : (peers : List Peer) (i e e' : ℕ) (p : Peer) → i < length peers → p ≡ get_or peers i p → e' ≤ e → IsFrom e' p
    → All (IsFrom e) (take i peers) → All (IsFrom e') (take (i + 1) peers)
min_next peers i e e' p lt is le here before =
    subst (All (IsFrom e')) (sym (take_more peers i p lt))
    (All-push (IsFrom e') (take i peers) (get_or peers i p) (earlier_peers e e' (take i peers) le before) (subst (IsFrom e') is here))

abbrev pub AreFrom : ℕ → Row → Type 0
AreFrom at r = All (IsFrom at) r.peers.items

pub rows_next : (rows : List Row) (i e e' : ℕ) (r : Row) → i < length rows → r ≡ get_or rows i r → e' ≤ e → AreFrom e' r
    → All (AreFrom e) (take i rows) → All (AreFrom e') (take (i + 1) rows)
rows_next rows i e e' r lt is le here before =
    subst (All (AreFrom e')) (sym (take_more rows i r lt))
    (All-push (AreFrom e') (take i rows) (get_or rows i r)
    (All-weaker (AreFrom e) (AreFrom e') (λ (q : Row) h. earlier_peers e e' q.peers.items le h) (take i rows) before)
    (subst (AreFrom e') is here))

-- those of rows as contracts see them
pub mapped_from : (at : ℕ) (rows : List Row) → All (AreFrom at) rows
    → All (λ (r : Mapping). All (IsFrom at) r.peers) (map mapping_of rows)
mapped_from at rows h = All-map (λ (r : Mapping). All (IsFrom at) r.peers) mapping_of rows h

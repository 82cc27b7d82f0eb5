-- What a row adds to what its owner has, and a search that counts on its way.
use Rattle.std.proofs.Common.{◌≡◌, ltb, ℕ, ◌+◌, ◌-◌, ◌^◌, ◌<◌, ◌≤◌, Bool, true, false, cond, List, length, get_or, take, drop, map, min}
use Rattle.std.proofs.Common.{inl, inr, Option, Some, None, option_map, refl, sym, ap, ◌∙◌, ap₂, arith, [], ◌∷◌}
use Rattle.std.specs.Prelude.{if◌then◌else◌}
use Rattle.std.specs.List.{position_or_len, sum_by}
use Rattle.std.proofs.lemmas.Bool.{cases_lt, lt-ltb, le-ltb}
use Rattle.std.proofs.lemmas.List.{get_or_default, get_or-drop, take_all, take-map, length-drop, length-map}
use Rattle.std.proofs.lemmas.List.Sums.{position_or_len_is, sum_by_more}
use Rattle.aftr_base.specs.Value.{subscriber_eq}
use Rattle.aftr_base.specs.declared.value.InnerKey.{InnerKey}
use Rattle.aftr_base.specs.declared.value.Subscriber.{Subscriber}
use Rattle.nat_mapping.specs.declared.row.Row.{Row}
use Rattle.nat_mapping.specs.declared.search.Holding.{Holding}
use Rattle.nat_mapping.specs.declared.table.RowId.{RowId}
use Rattle.nat_mapping.specs.Rows.{Mapping, holding_of, is_of, mapping_of, peer_count, row_count, row_id, row_of}
use Rattle.nat_mapping.proofs.Mapped.{position-map, sum_by-map}

abbrev pub rows_in : Subscriber → Row → ℕ
rows_in s r = if subscriber_eq s r.owner then 1 else 0

abbrev pub peers_in : Subscriber → Row → ℕ
peers_in s r = if subscriber_eq s r.owner then length r.peers.items else 0

-- ---- what is counted in the rows before an index

-- the greatest number of 64 bits
abbrev pub most : ℕ
most = 2 ^ 64 - 1

pub record IsCounted (owner : Subscriber) (rows : List Row) (at : ℕ) (h : Holding) : Type 0 where
  pub rows_are : h.rows ≡ min (sum_by (rows_in owner) (take at rows)) most
  pub peers_are : h.peers ≡ min (sum_by (peers_in owner) (take at rows)) most

-- what a search went over
abbrev mapped : List Row → List Mapping
mapped rows = map mapping_of rows

rows_there : (owner : Subscriber) (rows : List Row) (at : ℕ) → row_count owner (take at (mapped rows)) ≡ sum_by (rows_in owner) (take at rows)
rows_there owner rows at =
    ap (row_count owner) (take-map mapping_of at rows)
    ∙ sum_by-map mapping_of (λ (r : Mapping). if subscriber_eq owner r.owner then 1 else 0) (take at rows)

peers_there : (owner : Subscriber) (rows : List Row) (at : ℕ)
    → peer_count owner (take at (mapped rows)) ≡ sum_by (peers_in owner) (take at rows)
peers_there owner rows at =
    ap (peer_count owner) (take-map mapping_of at rows)
    ∙ sum_by-map mapping_of (λ (r : Mapping). if subscriber_eq owner r.owner then length r.peers else 0) (take at rows)

abbrev least : ℕ → ℕ
least n = min n most

pub counted : {owner : Subscriber} {rows : List Row} {at : ℕ} {h : Holding} → IsCounted owner rows at h
    → h ≡ holding_of owner (take at (mapped rows))
counted {owner} {rows} {at} {h} is = ap₂ (λ (m n : ℕ). let x : Holding = record { rows = m; peers = n } in x)
    (is.rows_are ∙ ap least (sym (rows_there owner rows at))) (is.peers_are ∙ ap least (sym (peers_there owner rows at)))

-- and back
pub counts : {owner : Subscriber} {rows : List Row} {at : ℕ} {h : Holding} → h ≡ holding_of owner (take at (mapped rows))
    → IsCounted owner rows at h
counts {owner} {rows} {at} {h} is = record {
  rows_are = ap (λ (x : Holding). x.rows) is ∙ ap least (rows_there owner rows at);
  peers_are = ap (λ (x : Holding). x.peers) is ∙ ap least (peers_there owner rows at);
}

pub counted_all : {owner : Subscriber} {rows : List Row} {at : ℕ} {h : Holding} → length rows ≤ at → IsCounted owner rows at h
    → h ≡ holding_of owner (mapped rows)
counted_all {owner} {rows} {at} {h} end is =
    counted is ∙ ap (holding_of owner) (take_all at (mapped rows) (omega (arith, end, length-map rows mapping_of)))

-- ---- where the row stands

abbrev test : InnerKey → Row → Bool
test key r = is_of key (mapping_of r)

row_at_place : (key : InnerKey) (rows : List Row) (at : ℕ) (found : Option RowId)
    → position_or_len (test key) rows ≡ at → found ≡ option_map row_id (cond (ltb at (length rows)) (Some at) None)
    → found ≡ row_of key (mapped rows)
row_at_place key rows at found first here =
    here ∙ ap (λ (n : ℕ). option_map row_id (cond (ltb n (length rows)) (Some n) None)) (sym first)
    ∙ sym (ap (option_map row_id) (position-map mapping_of (is_of key) rows))

pub row_hit : (key : InnerKey) (rows : List Row) (at : ℕ) (d : Row) → at < length rows
    → ((k : ℕ) (d : Row) → k < at → is_of key (mapping_of (get_or rows k d)) ≡ false)
    → is_of key (mapping_of (get_or rows at d)) ≡ true → Some (row_id at) ≡ row_of key (mapped rows)
row_hit key rows at d lt missed hit =
    let first = position_or_len_is (test key) rows at d (omega (arith, lt)) (λ k below. missed k d below) (λ within. hit) in
    row_at_place key rows at (Some (row_id at)) first
    (sym (ap (λ (b : Bool). option_map row_id (cond b (Some at) None)) (lt-ltb at (length rows) lt)))

pub row_missed : (key : InnerKey) (rows : List Row) (at : ℕ) → at ≡ length rows
    → ((k : ℕ) (d : Row) → k < at → is_of key (mapping_of (get_or rows k d)) ≡ false) → None ≡ row_of key (mapped rows)
row_missed key [] at end missed = refl
row_missed key (r ∷ rows) at end missed =
    let all = r ∷ rows in
    let first = position_or_len_is (test key) all at r (omega (arith, end)) (λ k below. missed k r below)
    (λ within. absurd (omega (arith, within, end))) in
    row_at_place key all at None first
    (sym (ap (λ (b : Bool). option_map row_id (cond b (Some at) None)) (le-ltb at (length all) (omega (arith, end)))))

-- ---- one row more

pub count_more : (f : Row → ℕ) (rows : List Row) (at count count' : ℕ) (row : Row) → at < length rows → row ≡ get_or rows at row
    → count ≡ min (sum_by f (take at rows)) most → count' ≡ min (count + f row) most → count' ≡ min (sum_by f (take (at + 1) rows)) most
count_more f rows at count count' row lt is before next =
    omega (arith, before, next, ap f is, sum_by_more f rows at row lt)

missed_by : (key : InnerKey) (rows : List Row) (at k : ℕ) (d row : Row) → at < length rows → row ≡ get_or rows at row
    → is_of key (mapping_of row) ≡ false → k ≡ at → is_of key (mapping_of (get_or rows k d)) ≡ false
missed_by key rows at k d row lt is missed same =
    ap (λ (n : ℕ). is_of key (mapping_of (get_or rows n d))) same
    ∙ ap (test key) (get_or_default rows at d row lt ∙ sym is) ∙ missed

pub missed_more : (key : InnerKey) (rows : List Row) (at : ℕ) (row : Row) → at < length rows → row ≡ get_or rows at row
    → ((k : ℕ) (d : Row) → k < at → is_of key (mapping_of (get_or rows k d)) ≡ false) → is_of key (mapping_of row) ≡ false
    → (k : ℕ) (d : Row) → k < at + 1 → is_of key (mapping_of (get_or rows k d)) ≡ false
missed_more key rows at row lt is before missed k d le = elim (cases_lt k at) [
  | inl below ↦ before k d below
  | inr past ↦ missed_by key rows at k d row lt is missed (omega (arith, le, past))
]

-- ---- counting on from a row

pub count_next : (f : Row → ℕ) (rows part : List Row) (from i : ℕ) (item : Row) (count count' : ℕ) → part ≡ drop from rows
    → i < length part → item ≡ get_or part i item
    → count ≡ min (sum_by f (take (from + i) rows)) most → count' ≡ min (count + f item) most
    → count' ≡ min (sum_by f (take (from + (i + 1)) rows)) most
count_next f rows part from i item count count' same lt is before next =
    let inside : from + i < length rows = omega (arith, lt, ap (λ (rs : List Row). length rs) same, length-drop from rows) in
    let here : f item ≡ f (get_or rows (from + i) item) =
    ap f (is ∙ ap (λ (rs : List Row). get_or rs i item) same ∙ get_or-drop from rows i item) in
    let more = sum_by_more f rows (from + i) item inside in
    let there : sum_by f (take (from + (i + 1)) rows) ≡ sum_by f (take (from + i + 1) rows) =
    ap (λ (n : ℕ). sum_by f (take n rows)) (omega arith) in
    omega (arith, before, next, here, more, there)

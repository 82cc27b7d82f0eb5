-- The row that a search found, by its place in the table.
use Rattle.std.proofs.Common.{◌≡◌, ltb, ℕ, suc, ◌+◌, ◌<◌, ◌≤◌, Bool, true, false, not, cond, List, [], ◌∷◌, length, Option, Some}
use Rattle.std.proofs.Common.{None, IfNone, IfSome, find, option_map, refl, sym, ap, ap₂, ◌∙◌, subst, inl, inr, arith}
use Rattle.std.specs.Prelude.{Result, if◌then◌else◌, slice_get}
use Rattle.std.specs.List.{position, position_or_len}
use Rattle.std.proofs.lemmas.List.Folds.{find_at}
use Rattle.std.proofs.lemmas.Option.{slice_get_cases}
use Rattle.aftr_base.specs.declared.value.Ext.{Ext}
use Rattle.aftr_base.specs.declared.value.InnerKey.{InnerKey}
use Rattle.aftr_base.specs.declared.value.Proto.{Proto}
use Rattle.aftr_base.specs.declared.event.DropCause.{DropCause}
use Rattle.nat_mapping.specs.Rows.{Mapping}
use Rattle.nat_mapping.specs.declared.table.RowId.{RowId}
use Rattle.nat_mapping.specs.declared.row.Peer.{Peer}
use Rattle.xlate_core.specs.declared.grant.Grant.{Grant}
use Rattle.xlate_core.specs.declared.grant.Flow.{Flow}
use Rattle.nat_mapping.specs.Rows.{row_id, row_of, row_at, is_of, is_at, with_peer}
use Rattle.xlate_core.specs.Rows.{find_out, find_in, touched}
use Rattle.nat_mapping.specs.Rows.{touched_at}
use Rattle.xlate_core.specs.Grant.{granted, kept_place, place_for}
use Rattle.xlate_core.specs.State.{State}
use Rattle.std.proofs.lemmas.Bool.{ltb-true, ltb-false}
use Rattle.aftr_base.proofs.Founds.{some_inj, mapped_some}

-- ---- a search that answers the item, and one that answers where it stands

pub in_list : {X : Type 0} (xs : List X) (b : Bool) (n i : ℕ) → cond b (Some n) None ≡ Some i → n ≡ i
in_list xs true n i h = some_inj n i h
in_list xs false n i h = cc

pub item_there : {X : Type 0} (p : X → Bool) (xs : List X) (i : ℕ) → position p xs ≡ Some i → find p xs ≡ slice_get xs i
item_there p xs i h = find_at p xs ∙ ap (slice_get xs) (in_list xs _ (position_or_len p xs) i h)

in_by : (b : Bool) (n i len : ℕ) → ltb n len ≡ b → cond b (Some n) None ≡ Some i → i < len
in_by true n i len e h = subst (λ (k : ℕ). k < len) (some_inj n i h) (ltb-true n len e)
in_by false n i len e h = cc

pub in_range : {X : Type 0} (p : X → Bool) (xs : List X) (i : ℕ) → position p xs ≡ Some i → i < length xs
in_range p xs i h = in_by _ (position_or_len p xs) i (length xs) refl h

pub item_at : {X : Type 0} (xs : List X) (i : ℕ) → i < length xs → (x : X) × (i < length xs) × (slice_get xs i ≡ Some x)
item_at xs i lt = elim (slice_get_cases xs i).1 [ inl (x, inside, here, same) ↦ (x, inside, here) | inr (le, none) ↦ absurd (omega arith) ]

past_end : {X : Type 0} (xs : List X) (i : ℕ) → length xs ≤ i → slice_get xs i ≡ None
past_end xs i past = elim (slice_get_cases xs i).1 [ inl (x, lt, here, same) ↦ absurd (omega arith) | inr (le, none) ↦ none ]

none_by : (b : Bool) (n : ℕ) → cond b (Some n) None ≡ None → b ≡ false
none_by true n h = cc
none_by false n h = refl

pub no_item : {X : Type 0} (p : X → Bool) (xs : List X) → position p xs ≡ None → find p xs ≡ None
no_item p xs h = find_at p xs ∙ past_end xs (position_or_len p xs) (ltb-false _ _ (none_by _ (position_or_len p xs) h))

-- ---- the row that is touched

touched_by : (test : Mapping → Bool) (peer : Peer) (r : Mapping) (rows : List Mapping) (n : ℕ) (b : Bool)
    → touched_at n peer rows ≡ touched test peer rows
    → touched_at (cond (not b) (1 + n) 0) peer (r ∷ rows)
    ≡ (if b then record r { peers = with_peer peer r.peers } ∷ rows else r ∷ touched test peer rows)
touched_by test peer r rows n true h = refl
touched_by test peer r rows n false h =
    let next : 1 + n ≡ suc n = omega arith in
    ap (λ (m : ℕ). touched_at m peer (r ∷ rows)) next ∙ ap (λ (rs : List Mapping). r ∷ rs) h

touched_first : (test : Mapping → Bool) (peer : Peer) (rows : List Mapping)
    → touched_at (position_or_len test rows) peer rows ≡ touched test peer rows
touched_first test peer [] = refl
touched_first test peer (r ∷ rows) = touched_by test peer r rows (position_or_len test rows) (test r) (touched_first test peer rows)

-- ---- by what the table's searches answer

pub place_of : (o : Option ℕ) (id : RowId) → Some id ≡ option_map row_id o → o ≡ Some id.0
place_of o id h = let (n, found, same) = mapped_some row_id o id (sym h) in found ∙ ap (λ (r : RowId). Some r.0) same

pub no_place : (o : Option ℕ) → None ≡ option_map row_id o → o ≡ None
no_place None h = refl
no_place (Some n) h = cc

abbrev by_row : State → Flow → Option Mapping → Result Grant DropCause
by_row s f o = elim o [ Some r ↦ kept_place s f r | None ↦ place_for s f ]

-- the row that stands there
pub found_row : (key : InnerKey) (rows : List Mapping) (id : RowId) → Some id ≡ row_of key rows
    → (r : Mapping) × (id.0 < length rows) × (slice_get rows id.0 ≡ Some r) × (find_out key rows ≡ Some r)
found_row key rows id found =
    let at = place_of (position (is_of key) rows) id found in
    let (r, lt, here) = item_at rows id.0 (in_range (is_of key) rows id.0 at) in
    (r, lt, here, item_there (is_of key) rows id.0 at ∙ here)

pub unfound : (key : InnerKey) (rows : List Mapping) → None ≡ row_of key rows → find_out key rows ≡ None
unfound key rows none = no_item (is_of key) rows (no_place (position (is_of key) rows) none)

pub granted_there : (s : State) (f : Flow) (id : RowId) (r : Mapping) → Some id ≡ row_of f.key s.rows → slice_get s.rows id.0 ≡ Some r
    → kept_place s f r ≡ granted s f
granted_there s f id r found here =
    let row = item_there (is_of f.key) s.rows id.0 (place_of (position (is_of f.key) s.rows) id found) in
    sym (ap (by_row s f) (row ∙ here))

pub granted_anew : (s : State) (f : Flow) → None ≡ row_of f.key s.rows → place_for s f ≡ granted s f
granted_anew s f none = sym (ap (by_row s f) (unfound f.key s.rows none))

pub touched_there : (test : Mapping → Bool) (peer : Peer) (rows : List Mapping) (id : RowId)
    → Some id ≡ option_map row_id (position test rows) → touched_at id.0 peer rows ≡ touched test peer rows
touched_there test peer rows id found =
    let at = place_of (position test rows) id found in
    ap (λ (n : ℕ). touched_at n peer rows) (sym (in_list rows _ (position_or_len test rows) id.0 at))
    ∙ touched_first test peer rows

-- ---- rows stay in their places where one is touched

-- the test doesn't look at peers
abbrev pub IgnoresPeers : (Mapping → Bool) → Type 0
IgnoresPeers test = (r : Mapping) (peers : List Peer) → test (record r { peers = peers }) ≡ test r

stays_by : (test : Mapping → Bool) (r : Mapping) (peers : List Peer) (rows after : List Mapping) (b : Bool) → IgnoresPeers test
    → position_or_len test after ≡ position_or_len test rows
    → position_or_len test (if b then record r { peers = peers } ∷ rows else r ∷ after) ≡ position_or_len test (r ∷ rows)
stays_by test r peers rows after true same h =
    ap (λ (x : Bool). cond (not x) (1 + position_or_len test rows) 0) (same r peers)
stays_by test r peers rows after false same h = ap (λ (n : ℕ). cond (not (test r)) (1 + n) 0) h

stays_first : (test other : Mapping → Bool) (peer : Peer) (rows : List Mapping) → IgnoresPeers test
    → position_or_len test (touched other peer rows) ≡ position_or_len test rows
stays_first test other peer [] same = refl
stays_first test other peer (r ∷ rows) same =
    stays_by test r (with_peer peer r.peers) rows (touched other peer rows) (other r) same (stays_first test other peer rows same)

many_by : (r : Mapping) (peers : List Peer) (rows after : List Mapping) (b : Bool) → length after ≡ length rows
    → length (if b then record r { peers = peers } ∷ rows else r ∷ after) ≡ length (r ∷ rows)
many_by r peers rows after true h = refl
many_by r peers rows after false h = ap suc h

as_many : (other : Mapping → Bool) (peer : Peer) (rows : List Mapping) → length (touched other peer rows) ≡ length rows
as_many other peer [] = refl
as_many other peer (r ∷ rows) = many_by r (with_peer peer r.peers) rows (touched other peer rows) (other r) (as_many other peer rows)

pub place_stays : (proto : Proto) (ext : Ext) (other : Mapping → Bool) (peer : Peer) (rows : List Mapping)
    → row_at proto ext (touched other peer rows) ≡ row_at proto ext rows
place_stays proto ext other peer rows =
    ap₂ (λ (n len : ℕ). option_map row_id (cond (ltb n len) (Some n) None))
    (stays_first (is_at proto ext) other peer rows (λ r peers. refl)) (as_many other peer rows)

pub found_there : (proto : Proto) (ext : Ext) (rows : List Mapping) (id : RowId) (r : Mapping) → Some id ≡ row_at proto ext rows
    → slice_get rows id.0 ≡ Some r → Some r ≡ find_in proto ext rows
found_there proto ext rows id r found here = sym
    (item_there (is_at proto ext) rows id.0 (place_of (position (is_at proto ext) rows) id found) ∙ here)

pub found_none : (proto : Proto) (ext : Ext) (rows : List Mapping) → None ≡ row_at proto ext rows → None ≡ find_in proto ext rows
found_none proto ext rows none = sym (no_item (is_at proto ext) rows (no_place (position (is_at proto ext) rows) none))

pub found_at : (proto : Proto) (ext : Ext) (rows : List Mapping) (o : Option RowId) → o ≡ row_at proto ext rows
    → IfSome o (λ id. (row : Mapping) × (slice_get rows id.0 ≡ Some row) × (find_in proto ext rows ≡ Some row))
found_at proto ext rows None h = tt
found_at proto ext rows (Some id) h =
    let at = place_of (position (is_at proto ext) rows) id h in
    let (r, lt, here) = item_at rows id.0 (in_range (is_at proto ext) rows id.0 at) in
    (r, here, item_there (is_at proto ext) rows id.0 at ∙ here)

pub unfound_at : (proto : Proto) (ext : Ext) (rows : List Mapping) (o : Option RowId) → o ≡ row_at proto ext rows
    → IfNone o (find_in proto ext rows ≡ None)
unfound_at proto ext rows None h = sym (found_none proto ext rows h)
unfound_at proto ext rows (Some id) h = tt

pub live_at : (proto : Proto) (ext : Ext) (rows : List Mapping) (id : RowId) → Some id ≡ row_at proto ext rows → id.0 < length rows
live_at proto ext rows id found = in_range (is_at proto ext) rows id.0 (place_of (position (is_at proto ext) rows) id found)

-- the same by a key
pub found_key : (key : InnerKey) (rows : List Mapping) (o : Option RowId) → o ≡ row_of key rows
    → IfSome o (λ id. (row : Mapping) × (slice_get rows id.0 ≡ Some row) × (find_out key rows ≡ Some row))
found_key key rows None h = tt
found_key key rows (Some id) h = let (r, lt, here, is) = found_row key rows id h in (r, here, is)

pub unfound_key : (key : InnerKey) (rows : List Mapping) (o : Option RowId) → o ≡ row_of key rows → IfNone o (find_out key rows ≡ None)
unfound_key key rows None h = unfound key rows h
unfound_key key rows (Some id) h = tt

-- Mapping rows (RFC 4787 4), as a list in order of making.
use Rattle.std.specs.Prelude.{◌≡◌, ◌<◌, ℕ, zero, suc, ◌+◌, ◌-◌, Bool, true, false, not, ◌&&◌, ◌==◌, nat_lt, List, [], ◌∷◌, ◌++◌, length, map, filter, find, sum_by}
use Rattle.std.specs.Prelude.{All, ◌≤◌, ◌^◌, min, take, Option, Some, None, option_map, if◌then◌else◌, slice_index, slice_index_or}
use Rattle.std.specs.List.{list_any, position, range_with_len}
use Rattle.std.specs.Vec.{vec_capacity, vec_len}
use Rattle.aftr_base.specs.Value.{ip4_eq, place_eq, proto_eq, key_eq, subscriber_eq, is_within, place}
use Rattle.aftr_base.specs.declared.value.Ip4.{Ip4}
use Rattle.aftr_base.specs.declared.value.Ext.{Ext}
use Rattle.aftr_base.specs.declared.value.InnerKey.{InnerKey}
use Rattle.aftr_base.specs.declared.value.Proto.{Proto}
use Rattle.aftr_base.specs.declared.value.Subscriber.{Subscriber}
use Rattle.nat_mapping.specs.declared.row.Row.{Row}
use Rattle.nat_mapping.specs.declared.row.Peer.{Peer}
use Rattle.nat_mapping.specs.declared.search.Holding.{Holding}
use Rattle.nat_mapping.specs.declared.table.RowId.{RowId}

-- an inner key with its owner, its external place and the remote endpoints that it was used for
pub record Mapping : Type 0 where
  pub key : InnerKey
  pub owner : Subscriber
  pub ext : Ext
  pub peers : List Peer

-- rows, and for how many more peers each of them has room
pub record Mappings : Type 0 where
  pub rows : List Mapping
  pub spares : List ℕ

abbrev pub mappings : List Mapping → List ℕ → Mappings
mappings rows spares = record { rows = rows; spares = spares }

abbrev pub mapping_of : Row → Mapping
mapping_of r = record { key = r.key; owner = r.owner; ext = r.ext; peers = r.peers.items }

abbrev pub room_of : Row → ℕ
room_of r = vec_capacity r.peers - vec_len r.peers

-- ---- searches

-- the row of an inner key, and the row of an external place
abbrev pub is_of : InnerKey → Mapping → Bool
is_of key r = key_eq key r.key

abbrev pub is_at : Proto → Ext → Mapping → Bool
is_at proto ext r = proto_eq proto r.key.proto && place_eq ext r.ext

-- a row has the key, or the place for this protocol
abbrev pub has_key : InnerKey → List Mapping → Bool
has_key key rows = list_any (is_of key) rows

abbrev pub has_place : Proto → Ext → List Mapping → Bool
has_place proto ext rows = list_any (is_at proto ext) rows

-- where they stand: how many rows stand before them
abbrev pub row_id : ℕ → RowId
row_id at = record { 0 = at }

abbrev pub row_of : InnerKey → List Mapping → Option RowId
row_of key rows = option_map row_id (position (is_of key) rows)

abbrev pub row_at : Proto → Ext → List Mapping → Option RowId
row_at proto ext rows = option_map row_id (position (is_at proto ext) rows)

-- no two rows have one key, and no two rows of one protocol have one place
abbrev pub are_apart : List Mapping → Bool
are_apart [] = true
are_apart (r ∷ rows) = not (has_key r.key rows) && not (has_place r.key.proto r.ext rows) && are_apart rows

-- no row of the protocol has the port at the address
abbrev pub is_free : Proto → Ip4 → List Mapping → ℕ → Bool
is_free proto addr rows port = not (has_place proto (place addr port) rows)

-- the least port of the range that is free
abbrev pub least_free : Proto → Ip4 → ℕ → ℕ → List Mapping → Option ℕ
least_free proto addr first last rows = find (is_free proto addr rows) (range_with_len first (last + 1 - first))

-- a port has a mark
abbrev pub is_marked : List Bool → ℕ → Bool
is_marked marks port = slice_index_or marks port false

-- the marked ports are those that rows of the protocol have at the address
abbrev pub MarksPorts : List Bool → Proto → Ip4 → List Mapping → Type 0
MarksPorts marks proto addr rows = (port : ℕ) → port < 65536 → is_marked marks port ≡ has_place proto (place addr port) rows

-- a port stands this far behind another, where it does at all
abbrev pub is_offset : Option ℕ → ℕ → Bool
is_offset None i = false
is_offset (Some at) i = at == i

-- a row's place lies in the range
abbrev pub lies_in : Ip4 → ℕ → ℕ → Mapping → Bool
lies_in addr first last r = ip4_eq addr r.ext.addr && is_within first last r.ext.port

abbrev pub in_use : Ip4 → ℕ → ℕ → List Mapping → Bool
in_use addr first last rows = list_any (lies_in addr first last) rows

-- ---- remote endpoints

abbrev pub same_peer : Peer → Peer → Bool
same_peer p q = ip4_eq p.addr q.addr && p.port == q.port

abbrev pub has_peer : Peer → List Peer → Bool
has_peer p peers = list_any (same_peer p) peers

-- the peer in the place of the one at its endpoint, or behind all
abbrev pub with_peer : Peer → List Peer → List Peer
with_peer p peers = if has_peer p peers then map (λ (q : Peer). if same_peer p q then p else q) peers else peers ++ p ∷ []

-- the row behind so many others with a peer made or refreshed
abbrev pub touched_at : ℕ → Peer → List Mapping → List Mapping
touched_at at p [] = []
touched_at zero p (r ∷ rows) = record r { peers = with_peer p r.peers } ∷ rows
touched_at (suc at) p (r ∷ rows) = r ∷ touched_at at p rows

-- the row there has this peer, and how many more it has room for
abbrev pub has_peer_at : ℕ → Peer → List Mapping → Bool
has_peer_at at p [] = true
has_peer_at zero p (r ∷ rows) = has_peer p r.peers
has_peer_at (suc at) p (r ∷ rows) = has_peer_at at p rows

abbrev pub spare_at : ℕ → Mappings → ℕ
spare_at at table = slice_index table.spares at

-- each row that was there has room for as many more peers as before
abbrev pub KeepsSpares : Mappings → Mappings → Type 0
KeepsSpares old new = (k : ℕ) → k < length old.rows → spare_at k new ≡ spare_at k old

-- ---- what one owner has

abbrev pub row_count : Subscriber → List Mapping → ℕ
row_count s rows = sum_by (λ (r : Mapping). if subscriber_eq s r.owner then 1 else 0) rows

abbrev pub peer_count : Subscriber → List Mapping → ℕ
peer_count s rows = sum_by (λ (r : Mapping). if subscriber_eq s r.owner then length r.peers else 0) rows

-- both, where a count stands still at the greatest number of 64 bits
abbrev pub holding_of : Subscriber → List Mapping → Holding
holding_of s rows = record { rows = min (row_count s rows) (2 ^ 64 - 1); peers = min (peer_count s rows) (2 ^ 64 - 1) }

-- the rows that a search went over: those before the row that it found, or all where it found none
abbrev pub searched : Option RowId → List Mapping → List Mapping
searched None rows = rows
searched (Some id) rows = take id.0 rows

-- ---- expiry

-- peers go at their deadline, and rows without peers (RFC 4787 4.3)
abbrev pub live_peers : ℕ → Mapping → Mapping
live_peers now r = record r { peers = filter (λ (p : Peer). nat_lt now p.deadline.0) r.peers }

abbrev pub is_used : Mapping → Bool
is_used r = nat_lt 0 (length r.peers)

abbrev pub expired : ℕ → List Mapping → List Mapping
expired now rows = filter is_used (map (live_peers now) rows)

-- a row has peers, none of which goes before this moment
pub record LastsUntil (at : ℕ) (r : Mapping) : Type 0 where
  pub some : 0 < length r.peers
  pub each : All (λ (p : Peer). at ≤ p.deadline.0) r.peers

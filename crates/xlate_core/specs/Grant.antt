-- Which place a mapping gets (RFC 4787 4, RFC 6888 3), and the first reason why it gets none.
use Rattle.std.specs.Prelude.{true, not, ◌||◌, List, [], ◌∷◌, ◌++◌, length, map, Option, Some, None, is_some}
use Rattle.std.specs.Prelude.{option_map, option_to_list, Result, Ok, Err, if◌then◌else◌}
use Rattle.aftr_base.specs.Attempt.{◌>>◌, require, first_some}
use Rattle.aftr_base.specs.Row.{block_event}
use Rattle.aftr_base.specs.Value.{place}
use Rattle.aftr_base.specs.declared.value.Ext.{Ext}
use Rattle.aftr_base.specs.declared.value.Proto.{Proto}
use Rattle.aftr_base.specs.declared.value.Subscriber.{Subscriber}
use Rattle.aftr_base.specs.declared.row.LeaseRow.{LeaseRow}
use Rattle.aftr_base.specs.declared.event.LogEvent.{LogEvent}
use Rattle.aftr_base.specs.declared.event.DropCause.{DropCause}
use Rattle.aftr_base.specs.declared.event.DropCause.TheVariants.{NoMapping, QuotaMappings, QuotaPeers, QuotaBlocks}
use Rattle.aftr_base.specs.declared.event.DropCause.TheVariants.{AddressFull as NoRoom, PoolEmpty as NoBlock}
use Rattle.nat_mapping.specs.declared.row.Peer.{Peer}
use Rattle.nat_mapping.specs.Rows.{Mapping, has_peer, is_of, least_free, peer_count, row_count}
use Rattle.port_blocks.specs.declared.choice.Block.{Block}
use Rattle.port_blocks.specs.declared.choice.Choice.{Choice}
use Rattle.port_blocks.specs.declared.choice.Choice.TheVariants.{New, AddressFull, PoolEmpty}
use Rattle.port_blocks.specs.Free.{choice_of, open_of, opened}
use Rattle.quota.specs.declared.Usage.{Usage}
use Rattle.quota.specs.Limits.{may_block, may_map, may_peer}
use Rattle.tcp_track.specs.declared.TcpState.{TcpState}
use Rattle.xlate_core.specs.declared.grant.Grant.{Grant}
use Rattle.xlate_core.specs.declared.grant.Flow.{Flow}
use Rattle.xlate_core.specs.Endpoints.{endpoint, outbound_peer, state_among}
use Rattle.xlate_core.specs.Rows.{find_out, touched}
use Rattle.xlate_core.specs.State.{State}

-- what a subscriber has: mappings, their peers, and open leases
abbrev pub usage_of : State → Subscriber → Usage
usage_of s owner = record { mappings = row_count owner s.rows; peers = peer_count owner s.rows; blocks = length (open_of owner s.leases) }

abbrev pub at_once : Ext → Grant
at_once e = record { place = e; lease = None }

-- the least free port in a lease
abbrev pub place_in : List Mapping → Proto → LeaseRow → Option Ext
place_in rows proto l = option_map (place l.addr) (least_free proto l.addr l.first l.last rows)

-- the least free port in the sender's open leases, in order of opening
abbrev pub place_in_lease : State → Flow → Option Ext
place_in_lease s f = first_some (place_in s.rows f.key.proto) (open_of f.who.owner s.leases)

-- the first port of a block whose lease opens
abbrev pub new_lease : State → Subscriber → Block → Grant
new_lease s owner b = record { place = place b.addr b.first; lease = Some (opened owner b s.clock) }

abbrev pub with_choice : State → Subscriber → Choice → Result Grant DropCause
with_choice s owner (New b) = Ok (new_lease s owner b)
with_choice s owner AddressFull = Err NoRoom
with_choice s owner PoolEmpty = Err NoBlock

-- A subscriber may have so many blocks (RFC 6888 3, REQ-4), all on one address (REQ-2): no plan gives it another one.
abbrev pub new_block : State → Flow → Result Grant DropCause
new_block s f =
    require (may_block (usage_of s f.who.owner) s.config) QuotaBlocks
    >> with_choice s f.who.owner (choice_of s.config s.leases f.who.owner None s.clock)

-- The place of a key that has no row; an answer makes none (RFC 5508 3.1).
abbrev pub place_for : State → Flow → Result Grant DropCause
place_for s f =
    require (not f.answers) NoMapping
    >> (require (may_map (usage_of s f.who.owner) s.config) QuotaMappings
    >> (require (may_peer (usage_of s f.who.owner) s.config) QuotaPeers
    >> (elim (place_in_lease s f) [ Some ext ↦ Ok (at_once ext) | None ↦ new_block s f ])))

-- the place of a row, unless the flow's remote endpoint would be a peer more than its subscriber may have (RFC 6888 3, REQ-5)
abbrev pub kept_place : State → Flow → Mapping → Result Grant DropCause
kept_place s f r =
    if has_peer (endpoint f.key.proto f.remote) r.peers || may_peer (usage_of s f.who.owner) s.config
    then Ok (at_once r.ext) else Err QuotaPeers

-- A mapping keeps its place for every remote endpoint (RFC 4787 4.1, REQ-1), as long as it may have one more.
abbrev pub granted : State → Flow → Result Grant DropCause
granted s f = elim (find_out f.key s.rows) [ Some r ↦ kept_place s f r | None ↦ place_for s f ]

-- the state of the flow's peer, where its key has a row with one
abbrev pub known_state : Flow → Option Mapping → Option TcpState
known_state f None = None
known_state f (Some r) = state_among f.key.proto f.remote r.peers

-- the peer that a flow's packet makes or refreshes
abbrev pub peer_of : State → Flow → Peer
peer_of s f = outbound_peer s.config s.clock f.key.proto f.remote f.flags (known_state f (find_out f.key s.rows))

-- a new row has its first peer at once
abbrev pub row_for : Flow → Peer → Ext → Mapping
row_for f peer ext = record { key = f.key; owner = f.who.owner; ext = ext; peers = peer ∷ [] }

-- the rows after a flow's packet went out: a new row, or the key's row with the peer
abbrev pub rows_after : Flow → Peer → Ext → List Mapping → List Mapping
rows_after f peer ext rows = if is_some (find_out f.key rows) then touched (is_of f.key) peer rows else rows ++ row_for f peer ext ∷ []

-- the state after a grant
abbrev pub after_grant : Flow → Grant → State → State
after_grant f g s = record s {
  rows = rows_after f (peer_of s f) g.place s.rows;
  leases = s.leases ++ option_to_list g.lease;
}

-- the rows after the grant alone: a new row has its first peer at once, and an old one is as it was
abbrev pub rows_granted : Flow → Peer → Ext → List Mapping → List Mapping
rows_granted f peer ext rows = if is_some (find_out f.key rows) then rows else rows ++ row_for f peer ext ∷ []

-- the state in which it is asked whether the flow's packet may turn back to a subscriber
abbrev pub granted_only : Flow → Grant → State → State
granted_only f g s = record s {
  rows = rows_granted f (peer_of s f) g.place s.rows;
  leases = s.leases ++ option_to_list g.lease;
}

-- what is logged of it
abbrev pub opening_events : State → Grant → List LogEvent
opening_events s g = map (block_event true s.clock) (option_to_list g.lease)

-- What goes in by a mapping, from the public side or from another subscriber: which row that is, and what becomes of it
-- (RFC 4787 5, 6).
use Rattle.std.specs.Prelude.{ℕ, true, false, List, Option, Some, None, ok_or, Result, Ok, option_and_then}
use Rattle.aftr_base.specs.Attempt.{◌>>=◌, ◌>>◌, require}
use Rattle.aftr_base.specs.declared.event.DropCause.{DropCause}
use Rattle.aftr_base.specs.declared.event.DropCause.TheVariants.{NoMapping, Filtered}
use Rattle.cfg_text.specs.declared.config.Config.{Config}
use Rattle.cfg_text.specs.Accepted.{by_address}
use Rattle.nat_filter.specs.Admits.{admits}
use Rattle.nat_mapping.specs.declared.row.Peer.{Peer}
use Rattle.nat_mapping.specs.Rows.{Mapping, is_at}
use Rattle.wire_l4.specs.Places.{proto_of}
use Rattle.xlate_core.specs.declared.arrival.Arrival.{Arrival}
use Rattle.xlate_core.specs.Datagram.{Datagram, flags_of, place_on}
use Rattle.xlate_core.specs.Endpoints.{inbound_peer, state_inbound}
use Rattle.xlate_core.specs.Rows.{find_in, touched}
use Rattle.xlate_core.specs.State.{State}

-- what a datagram that comes to a mapping says of itself
abbrev pub arrival_of : Datagram → Arrival
arrival_of d = record {
  proto = proto_of d.body;
  from = place_on true d;
  to = place_on false d;
  flags = flags_of d.body;
}

-- the mapping that it goes in by, or the first rule that refuses it
abbrev pub receiver_of : State → Arrival → Result Mapping DropCause
receiver_of s a = do
  row ← ok_or (find_in a.proto a.to s.rows) NoMapping
  require (admits row a.from.addr (by_address s.config)) Filtered
  Ok row

-- the peer whose state a segment changes
abbrev pub moved_peer : Config → ℕ → Arrival → List Peer → Option Peer
moved_peer c now a peers = option_and_then (inbound_peer c now a.from a.flags) (state_inbound a.proto a.from peers)

-- among those of the row that it comes to
abbrev pub moved_in : State → Arrival → Option Peer
moved_in s a = option_and_then (λ (row : Mapping). moved_peer s.config s.clock a row.peers) (find_in a.proto a.to s.rows)

-- A TCP segment moves the state of the peer that it comes from, and its deadline with it; nothing else does.
abbrev pub rows_inbound : State → Arrival → List Mapping
rows_inbound s a = elim (moved_in s a) [ None ↦ s.rows | Some p ↦ touched (is_at a.proto a.to) p s.rows ]

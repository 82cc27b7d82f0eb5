-- The remote endpoints that mappings are used for: which peer a packet makes or refreshes, and when it is forgotten
-- (RFC 4787 4.3, RFC 5382 5, RFC 5508 3.2).
use Rattle.std.specs.Prelude.{ℕ, ◌+◌, ◌==◌, true, false, List, find, Option, Some, None, option_map, if◌then◌else◌}
use Rattle.aftr_base.specs.Value.{moment}
use Rattle.aftr_base.specs.declared.value.Ext.{Ext}
use Rattle.aftr_base.specs.declared.value.Proto.{Proto}
use Rattle.aftr_base.specs.declared.value.Proto.TheVariants.{Tcp, Udp, Icmp}
use Rattle.cfg_text.specs.declared.config.Config.{Config}
use Rattle.nat_mapping.specs.declared.row.Peer.{Peer}
use Rattle.nat_mapping.specs.Rows.{same_peer}
use Rattle.tcp_track.specs.declared.TcpState.{TcpState}
use Rattle.tcp_track.specs.declared.TcpState.TheVariants.{Opening, Open, HalfOut, HalfIn, Ending}
use Rattle.tcp_track.specs.States.{first, next, short_idle}

-- how long a peer lasts unused, in milliseconds
abbrev pub idle_ms : Config → Proto → TcpState → ℕ
idle_ms c Udp state = c.udp_ms
idle_ms c Icmp state = c.icmp_ms
idle_ms c Tcp state = if short_idle state then c.tcp_short_ms else c.tcp_ms

-- the port by which remote endpoints are told apart: TCP's alone
abbrev pub peer_port : Proto → ℕ → ℕ
peer_port Tcp port = port
peer_port Udp port = 0
peer_port Icmp port = 0

abbrev pub peer_at : Proto → Ext → TcpState → ℕ → Peer
peer_at proto remote state deadline =
    record { addr = remote.addr; port = peer_port proto remote.port; state = state; deadline = moment deadline }

-- the endpoint alone, whatever its state and deadline
abbrev pub endpoint : Proto → Ext → Peer
endpoint proto remote = peer_at proto remote Open 0

-- the state of the peer at an endpoint
abbrev pub state_among : Proto → Ext → List Peer → Option TcpState
state_among proto remote peers = option_map (λ (p : Peer). p.state) (find (same_peer (endpoint proto remote)) peers)

-- the state after an outbound packet; only TCP has states
abbrev pub outbound_state : Proto → ℕ → Option TcpState → TcpState
outbound_state Udp flags known = Open
outbound_state Icmp flags known = Open
outbound_state Tcp flags None = first flags
outbound_state Tcp flags (Some state) = next state flags true

-- the peer after an outbound packet
abbrev pub outbound_peer : Config → ℕ → Proto → Ext → ℕ → Option TcpState → Peer
outbound_peer c now proto remote flags known =
    let state = outbound_state proto flags known in peer_at proto remote state (now + idle_ms c proto state)

-- the state of the peer that an inbound packet comes from, where it is TCP's
abbrev pub state_inbound : Proto → Ext → List Peer → Option TcpState
state_inbound Tcp remote peers = state_among Tcp remote peers
state_inbound Udp remote peers = None
state_inbound Icmp remote peers = None

abbrev pub state_number : TcpState → ℕ
state_number Opening = 0
state_number Open = 1
state_number HalfOut = 2
state_number HalfIn = 3
state_number Ending = 4

-- the peer after an inbound segment, where that changes its state
abbrev pub inbound_peer : Config → ℕ → Ext → ℕ → TcpState → Option Peer
inbound_peer c now remote flags state =
    let after = next state flags false in
    if state_number after == state_number state then None else Some (peer_at Tcp remote after (now + idle_ms c Tcp after))

-- What every packet is asked, whichever way it goes.
use Rattle.std.specs.Prelude.{◌≡◌, ◌≤◌, ◌+◌, ℕ, ◌/◌, Bool, not, ◌&&◌, ◌||◌, ◌==◌, List, [], length, drop, true, false, Result, Ok, Err, if◌then◌else◌}
use Rattle.aftr_base.specs.Attempt.{◌>>=◌, ◌>>◌, require, refused_as}
use Rattle.aftr_base.specs.Value.{is_under4}
use Rattle.aftr_base.specs.Plan.{is_routable_octet, tunnel_prefix}
use Rattle.aftr_base.specs.declared.value.Ip4.{Ip4}
use Rattle.aftr_base.specs.declared.value.Proto.{Proto}
use Rattle.aftr_base.specs.declared.value.Proto.TheVariants.{Tcp, Udp, Icmp}
use Rattle.aftr_base.specs.declared.event.DropCause.{DropCause}
use Rattle.aftr_base.specs.declared.event.DropCause.TheVariants.{BadPacket, NoProtocol}
use Rattle.wire_ip4.specs.Grammar.{Header}
use Rattle.wire_icmp.specs.Grammar.{message_of}
use Rattle.wire_icmp.specs.Quoted.{is_echo}
use Rattle.wire_l4.specs.Grammar.{Transport, Query, header_len, transport_in, transport_of}
use Rattle.wire_l4.specs.Places.{port_at}
use Rattle.xlate_core.specs.declared.packet.Ends.{Ends}
use Rattle.xlate_core.specs.Datagram.{flags_of, is_answer}

-- neither this network, nor loopback, nor multicast or reserved (RFC 1122 3.2.1.3)
abbrev pub is_routable : Ip4 → Bool
is_routable a = is_routable_octet (a.0 / 16777216)

-- from and to addresses that are routed, and not to the softwire's own (RFC 6333 5.7)
abbrev pub has_route : Header → Bool
has_route h = is_routable h.fields.src && is_routable h.fields.dst && not (is_under4 tunnel_prefix h.fields.dst)

-- the protocols that are translated (RFC 3022 4.1, RFC 5508 3.1)
abbrev pub proto_from : ℕ → Result Proto DropCause
proto_from number = if number == 17 then Ok Udp else if number == 6 then Ok Tcp else if number == 1 then Ok Icmp else Err NoProtocol

-- Of ICMP's messages those of echo, which bear their checksum (RFC 792).
abbrev pub query_from : List ℕ → Result Transport DropCause
query_from bytes = do
  m ← refused_as (message_of bytes) BadPacket
  require (is_echo m.kind) NoProtocol
  Ok (Query m)

-- the transport of the protocol
abbrev pub transport_from : Proto → List ℕ → Result Transport DropCause
transport_from Udp bytes = refused_as (transport_of Udp bytes) BadPacket
transport_from Tcp bytes = refused_as (transport_of Tcp bytes) BadPacket
transport_from Icmp bytes = query_from bytes

-- the types of ICMP's errors: Destination Unreachable, Time Exceeded and Parameter Problem (RFC 792)
abbrev pub is_fault : ℕ → Bool
is_fault kind = kind == 3 || kind == 11 || kind == 12

-- the ports and the control bits of a transport, and whether it is an answer to an echo request
abbrev pub ends_of : Transport → Ends
ends_of t = record { src = port_at true t; dst = port_at false t; flags = flags_of t; answers = is_answer t }

-- a datagram as it lies in its packet, whose header has no options and whose TTL is at least 2
pub record IsReady (header : Header) (payload : List ℕ) (proto : Proto) (ends : Ends) : Type 0 where
  pub bare : header.options ≡ []
  pub alive : 2 ≤ header.fields.ttl
  pub total : header.fields.total ≡ 20 + length payload
  pub short : header.fields.total ≤ 65535
  pub whole : header_len proto ≤ length payload
  pub sound : transport_of proto payload ≡ Ok (transport_in proto payload)
  pub read : ends ≡ ends_of (transport_in proto payload)

-- the transport behind a header of 20 bytes
abbrev pub transport_behind : Proto → List ℕ → Transport
transport_behind proto bytes = transport_in proto (drop 20 bytes)

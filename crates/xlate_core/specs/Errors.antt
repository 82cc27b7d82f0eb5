-- ICMP errors (RFC 792): those that the translator makes, and those that it passes on with the packets that they quote.
use Rattle.std.specs.Prelude.{ℕ, true, false, List, Option, Some, None, ok_or, Result, Ok, if◌then◌else◌}
use Rattle.aftr_base.specs.Attempt.{◌>>=◌}
use Rattle.aftr_base.specs.declared.value.Ext.{Ext}
use Rattle.aftr_base.specs.declared.value.InnerKey.{InnerKey}
use Rattle.aftr_base.specs.declared.value.Ip6.{Ip6}
use Rattle.aftr_base.specs.declared.value.Subscriber.{Subscriber}
use Rattle.aftr_base.specs.declared.event.DropCause.{DropCause}
use Rattle.aftr_base.specs.declared.event.DropCause.TheVariants.{NoMapping, TtlSpent, TooBig as TooBigCause}
use Rattle.aftr_base.specs.declared.event.DropCause.TheVariants.{QuotaMappings, QuotaPeers, QuotaBlocks, AddressFull, PoolEmpty}
use Rattle.cfg_text.specs.declared.config.Config.{Config}
use Rattle.wire_ip4.specs.Grammar.{Header}
use Rattle.softwire.specs.Tunnel.{carrier}
use Rattle.icmp_xlate.specs.declared.made.MadeError.{MadeError}
use Rattle.icmp_xlate.specs.declared.made.MadeError.TheVariants.{HostUnreachable, TooBig, TimeExceeded}
use Rattle.wire_icmp.specs.Quoted.{report_bytes}
use Rattle.icmp_xlate.specs.Made.{error_packet, is_error}
use Rattle.icmp_xlate.specs.Errors.{ErrorPacket, error_bytes, error_place, error_proto, forwarded_error, turned_error}
use Rattle.nat_mapping.specs.Rows.{Mapping}
use Rattle.ingress.specs.declared.received.Sender.{Sender}
use Rattle.xlate_core.specs.Datagram.{inner_place}
use Rattle.ingress.specs.declared.received.Received.{Received}
use Rattle.xlate_core.specs.Rows.{find_in, find_out}
use Rattle.ingress.specs.PublicSide.{is_ours}
use Rattle.xlate_core.specs.State.{State}
use Rattle.xlate_core.specs.Sending.{Sending, to_public, to_softwire}

-- ---- made (RFC 1191 4, RFC 6888 3, RFC 1122 3.2.2)

-- the error that tells the sender of a drop
abbrev pub error_for : Config → DropCause → Option MadeError
error_for c TtlSpent = Some TimeExceeded
error_for c TooBigCause = Some (TooBig c.public_mtu)
error_for c QuotaMappings = Some HostUnreachable
error_for c QuotaPeers = Some HostUnreachable
error_for c QuotaBlocks = Some HostUnreachable
error_for c AddressFull = Some HostUnreachable
error_for c PoolEmpty = Some HostUnreachable
error_for c other = None

-- but none about an error
abbrev pub error_about : Config → Header × List ℕ → DropCause → Option MadeError
error_about c packet cause = if is_error packet.0.fields.proto packet.1 then None else error_for c cause

-- it goes to the softwire that the packet came from
abbrev pub answer_bytes : State → Received → MadeError → List ℕ
answer_bytes s got e = carrier s.config.aftr got.who.softwire 0 (error_packet e got.packet.0 got.packet.1)

-- ---- passed on (RFC 5508 4): they use no mapping, and aren't filtered

-- the mapping at this place that an error goes in by
abbrev pub quoted_row : State → ErrorPacket → Ext → Result Mapping DropCause
quoted_row s e to = ok_or (find_in (error_proto e) to s.rows) NoMapping

-- an error to the softwire of a mapping, with its TOS as the traffic class
abbrev pub error_in : State → Option Subscriber → Mapping → ErrorPacket → Sending
error_in s owner row e = to_softwire s owner row e.header.fields.tos (error_bytes e)

-- what the mapping is found by of the packet that a subscriber's error quotes
abbrev pub error_key : Ip6 → ErrorPacket → InnerKey
error_key softwire e =
    record { softwire = softwire; proto = error_proto e; addr = (error_place true e).addr; port = (error_place true e).port }

-- to the public side, or from the mapping's external place in by the mapping at the place that it then quotes
abbrev pub error_out : State → Sender → Mapping → ErrorPacket → Sending
error_out s who row e =
    let sent = forwarded_error true row.ext e in to_public s who.owner sent.header (report_bytes sent.report)

abbrev pub error_back : State → Sender → Mapping → ErrorPacket → Result Sending DropCause
error_back s who row e = do
  to ← quoted_row s e (error_place false (forwarded_error true row.ext e))
  Ok (error_in s (Some who.owner) to (turned_error row.ext (inner_place to.key) e))

abbrev pub error_onward : State → Sender → Mapping → ErrorPacket → Result Sending DropCause
error_onward s who row e = if is_ours s.config e.header.fields.dst then error_back s who row e else Ok (error_out s who row e)

abbrev pub error_from_subscriber : State → Sender → ErrorPacket → Result Sending DropCause
error_from_subscriber s who e = do
  row ← ok_or (find_out (error_key who.softwire e) s.rows) NoMapping
  error_onward s who row e

-- to the softwire of the mapping that sent the packet that it quotes
abbrev pub error_from_public : State → ErrorPacket → Result Sending DropCause
error_from_public s e = do
  row ← quoted_row s e (error_place false e)
  Ok (error_in s None row (forwarded_error false (inner_place row.key) e))

-- What a whole packet brings: a datagram, or an ICMP error with the packet that it quotes.
use Rattle.std.specs.Prelude.{ℕ, Bool, false, nat_le, List, ok_or, option_map, Result, Ok, Err, if◌then◌else◌}
use Rattle.aftr_base.specs.Attempt.{◌>>=◌, ◌>>◌, require}
use Rattle.aftr_base.specs.declared.value.Proto.{Proto}
use Rattle.aftr_base.specs.declared.value.Proto.TheVariants.{Tcp, Udp, Icmp}
use Rattle.aftr_base.specs.declared.event.DropCause.{DropCause}
use Rattle.aftr_base.specs.declared.event.DropCause.TheVariants.{BadPacket, TtlSpent}
use Rattle.wire_ip4.specs.Grammar.{Header}
use Rattle.wire_icmp.specs.Grammar.{message_of}
use Rattle.icmp_xlate.specs.Errors.{error_of}
use Rattle.xlate_core.specs.declared.packet.Content.{Content}
use Rattle.xlate_core.specs.declared.packet.Content.TheVariants.{Carries, Reports}
use Rattle.xlate_core.specs.Datagram.{Datagram}
use Rattle.xlate_core.specs.Packet.{is_fault, proto_from, transport_from}

-- whether it is an ICMP error
abbrev pub is_report : Proto → List ℕ → Bool
is_report Icmp bytes = elim (message_of bytes) [ Err bad ↦ false | Ok m ↦ is_fault m.kind ]
is_report Udp bytes = false
is_report Tcp bytes = false

-- the datagram, or the error, whose quoted packet has to be one that can be translated
abbrev pub datagram_content : Proto → Header × List ℕ → Result Content DropCause
datagram_content proto packet = do
  transport ← transport_from proto packet.1
  let d : Datagram = record { header = packet.0; body = transport }
  Ok (Carries d)

abbrev pub error_content : Header × List ℕ → Result Content DropCause
error_content packet = ok_or (option_map Reports (error_of packet)) BadPacket

abbrev pub content_in : Proto → Header × List ℕ → Result Content DropCause
content_in proto packet = if is_report proto packet.1 then error_content packet else datagram_content proto packet

-- What a packet brings that may be forwarded once more. No packet is longer than its header can tell.
abbrev pub content_of : Header × List ℕ → Result Content DropCause
content_of packet = do
  require (nat_le packet.0.fields.total 65535) BadPacket
  proto ← proto_from packet.0.fields.proto
  require (nat_le 2 packet.0.fields.ttl) TtlSpent
  content_in proto packet

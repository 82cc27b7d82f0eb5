-- Where a packet that leaves comes from (RFC 791, RFC 2473, RFC 8200 4.5).
use Rattle.std.specs.Prelude.{ℕ, ◌+◌, ◌/◌, ◌%◌, Bool, true, not, ◌&&◌, ◌||◌, ◌==◌, List, Option, None, if◌then◌else◌}
use Rattle.aftr_base.specs.Bytes.{u8_at, u16_at, u32_at}
use Rattle.aftr_base.specs.Value.{ip4, place}
use Rattle.aftr_base.specs.declared.value.Ext.{Ext}
use Rattle.aftr_base.specs.declared.value.Side.{Side}
use Rattle.aftr_base.specs.declared.value.Subscriber.{Subscriber}
use Rattle.aftr_base.specs.declared.value.Side.TheVariants.{Softwire, Public}
use Rattle.xlate_core.specs.declared.step_out.Item.{Item}
use Rattle.xlate_core.specs.Packet.{is_fault}

-- whether a packet in a softwire is a fragment, whose Fragment header (44) is the next one
abbrev pub is_fragment : List ℕ → Bool
is_fragment bytes = u8_at 6 bytes == 44

-- where its IPv4 packet begins: in a softwire behind the IPv6 header, and behind the Fragment header if there is one
abbrev pub inner_at : Side → List ℕ → ℕ
inner_at Public bytes = 0
inner_at Softwire bytes = if is_fragment bytes then 48 else 40

-- whether it is a whole packet, or the first piece of one, so that ports and identifiers stand in it
abbrev pub is_first : Side → List ℕ → Bool
is_first Public bytes = u16_at 6 bytes % 8192 == 0
is_first Softwire bytes = not (is_fragment bytes) || u16_at 42 bytes / 8 == 0

-- ---- in a packet without options that begins there

-- whether it is of ICMP, and then whether it is an error, and one about an ICMP packet, by what stands there (RFC 792)
abbrev pub is_icmp_at : ℕ → List ℕ → Bool
is_icmp_at at bytes = u8_at (at + 9) bytes == 1

abbrev pub is_error_at : ℕ → List ℕ → Bool
is_error_at at bytes = is_fault (u8_at (at + 20) bytes)

abbrev pub is_about_icmp_at : ℕ → List ℕ → Bool
is_about_icmp_at at bytes = u8_at (at + 37) bytes == 1

-- where its source's port or identifier stands (RFC 768, RFC 9293 3.1, RFC 792): of an error that is the destination's in the
-- packet that it quotes, since that went to where the error is from (RFC 5508 4)
abbrev pub port_offset : ℕ → Bool → Bool → Bool → ℕ
port_offset at icmp error about_icmp = if icmp then (if error then (if about_icmp then at + 52 else at + 50) else at + 24) else at + 20

abbrev pub port_at : ℕ → List ℕ → ℕ
port_at at bytes = u16_at (port_offset at (is_icmp_at at bytes) (is_error_at at bytes) (is_about_icmp_at at bytes)) bytes

-- whether that is an identifier
abbrev pub is_query_at : ℕ → List ℕ → Bool
is_query_at at bytes = is_icmp_at at bytes && (not (is_error_at at bytes) || is_about_icmp_at at bytes)

-- ---- of a packet that leaves

-- Whether it shows its sender's place. An echo message between subscribers doesn't, nor an error about one: there is one
-- identifier, and as it comes in that becomes its receiver's.
abbrev pub shows_by : Side → Bool → Bool
shows_by Public query = true
shows_by Softwire query = not query

-- the subscriber whose place it shows, where a source was translated; a later piece shows none
abbrev pub sender_of : Item → Option Subscriber
sender_of i = if is_first i.side i.bytes && shows_by i.side (is_query_at (inner_at i.side i.bytes) i.bytes) then i.owner else None

-- the source address, and the source port or the identifier
abbrev pub source_of : Item → Ext
source_of i = let at = inner_at i.side i.bytes in place (ip4 (u32_at (at + 12) i.bytes)) (port_at at i.bytes)

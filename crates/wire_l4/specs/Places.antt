-- The places of a transport, and how they are replaced (RFC 3022 4.1, 4.2; RFC 5508 3.1).
use Rattle.std.specs.Prelude.{ℕ, ◌+◌, ◌≢◌, sum, Bool, List, [], ◌∷◌, ◌++◌, option_map, if◌then◌else◌}
use Rattle.aftr_base.specs.Checksum.{adjusted, adjusted_udp, address_words, words_of}
use Rattle.aftr_base.specs.Bytes.{u16_at}
use Rattle.aftr_base.specs.declared.value.Ext.{Ext}
use Rattle.aftr_base.specs.declared.value.Proto.{Proto}
use Rattle.aftr_base.specs.declared.value.Proto.TheVariants.{Tcp, Udp, Icmp}
use Rattle.wire_l4.specs.Grammar.{Transport, Ports, Query}

abbrev pub proto_of : Transport → Proto
proto_of (Ports p s) = p
proto_of (Query e) = Icmp

-- the port on either side, which for an echo message is its identifier
abbrev pub port_at : Bool → Transport → ℕ
port_at source (Ports p s) = if source then s.src else s.dst
port_at source (Query e) = e.id

-- the words that a place has in the sum over the addresses and ports
abbrev pub place_words : Ext → List ℕ
place_words e = address_words e.addr.0 ++ e.port ∷ []

abbrev pub segment_sum : Proto → Ext → Ext → ℕ → ℕ
segment_sum Udp old new sum = adjusted_udp sum (place_words old) (place_words new)
segment_sum Tcp old new sum = adjusted sum (place_words old) (place_words new)
segment_sum Icmp old new sum = adjusted sum (place_words old) (place_words new)

-- the transport after the place on one side became another
abbrev pub replaced : Bool → Ext → Ext → Transport → Transport
replaced source old new (Ports p s) = Ports p record s {
  src = if source then new.port else s.src;
  dst = if source then s.dst else new.port;
  sum = option_map (segment_sum p old new) s.sum;
}
replaced source old new (Query e) = Query record e { id = new.port; sum = adjusted e.sum (old.port ∷ []) (new.port ∷ []) }

-- the sum of what the checksum covers of a place's address and of the bytes (RFC 768, RFC 9293 3.1, RFC 792)
abbrev pub covered : Proto → Ext → List ℕ → ℕ
covered Udp e bytes = sum (address_words e.addr.0) + sum (words_of bytes)
covered Tcp e bytes = sum (address_words e.addr.0) + sum (words_of bytes)
covered Icmp e bytes = sum (words_of bytes)

-- a UDP datagram may have none (RFC 768)
abbrev pub HasChecksum : Proto → List ℕ → Type 0
HasChecksum Udp bytes = u16_at 6 bytes ≢ 0
HasChecksum Tcp bytes = Unit {0}
HasChecksum Icmp bytes = Unit {0}

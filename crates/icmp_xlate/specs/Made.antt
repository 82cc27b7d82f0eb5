-- ICMP errors that a translator makes (RFC 792, RFC 1191 4, RFC 6888 3, RFC 6333 6.5).
use Rattle.std.specs.Prelude.{◌≡◌, ℕ, ◌+◌, Bool, true, false, ◌&&◌, ◌||◌, ◌==◌, List, [], ◌∷◌, ◌++◌, length, take, Ok, if◌then◌else◌}
use Rattle.aftr_base.specs.Value.{ip4}
use Rattle.aftr_base.specs.Bytes.{be16, be32}
use Rattle.aftr_base.specs.Checksum.{sum16}
use Rattle.aftr_base.specs.declared.value.Ip4.{Ip4}
use Rattle.wire_ip4.specs.declared.fields.Ip4Fields.{Ip4Fields}
use Rattle.wire_ip4.specs.Grammar.{Header, header_bytes, header_with, checksum_of, packet_of}
use Rattle.icmp_xlate.specs.declared.made.MadeError.{MadeError}
use Rattle.icmp_xlate.specs.declared.made.MadeError.TheVariants.{HostUnreachable, TooBig, TimeExceeded}

-- the type, the code and the second word: the MTU of the next hop, or unused
abbrev pub type_of : MadeError → ℕ
type_of HostUnreachable = 3
type_of (TooBig mtu) = 3
type_of TimeExceeded = 11

abbrev pub code_of : MadeError → ℕ
code_of HostUnreachable = 1
code_of (TooBig mtu) = 4
code_of TimeExceeded = 0

abbrev pub word_of : MadeError → ℕ
word_of HostUnreachable = 0
word_of (TooBig mtu) = mtu
word_of TimeExceeded = 0

-- An ICMP error or a redirect, about which no error is made (RFC 1122 3.2.2).
abbrev pub is_error : ℕ → List ℕ → Bool
is_error proto [] = false
is_error proto (kind ∷ rest) = proto == 1 && (kind == 3 || kind == 4 || kind == 5 || kind == 11 || kind == 12)

-- an error with this checksum that quotes a header and the first 8 bytes behind it, or all where there are fewer
abbrev pub error_message : MadeError → ℕ → Header → List ℕ → List ℕ
error_message e sum h payload =
    type_of e ∷ code_of e ∷ (be16 sum ++ be32 (word_of e) ++ (header_bytes h ++ take 8 payload))

-- the same with the checksum that it should have
abbrev pub sound_message : MadeError → Header → List ℕ → List ℕ
sound_message e h payload = error_message e (checksum_of (error_message e 0 h payload)) h payload

-- the translator's own address on the tunnel (RFC 6333 5.7)
abbrev pub tunnel_address : Ip4
tunnel_address = ip4 0xc0000001

-- the fields of a packet that brings a message of this length from the translator
abbrev pub error_fields : Ip4 → ℕ → Ip4Fields
error_fields to len = record {
  tos = 0;
  total = 20 + len;
  id = 0;
  dont_cut = true;
  more = false;
  offset = 0;
  ttl = 64;
  proto = 1;
  src = tunnel_address;
  dst = to;
}

-- the packet to the source of the offending one
abbrev pub error_packet : MadeError → Header → List ℕ → List ℕ
error_packet e h payload =
    let message = sound_message e h payload in
    header_bytes (header_with (error_fields h.fields.src (length message))) ++ message

-- what is sent of it: nothing about an error
abbrev pub made_error : MadeError → Header → List ℕ → List ℕ
made_error e h payload = if is_error h.fields.proto payload then [] else error_packet e h payload

-- That packet is read as its header and the message, and the message bears its checksum.
pub record ReadsBack (e : MadeError) (h : Header) (payload : List ℕ) : Type 0 where
  pub packet : let message = sound_message e h payload in
      packet_of (error_packet e h payload) ≡ Ok (header_with (error_fields h.fields.src (length message)), message)
  pub sound : sum16 (sound_message e h payload) ≡ 65535

-- ICMP messages (RFC 792).
use Rattle.std.specs.Prelude.{◌≡◌, ℕ, ◌^◌, ◌<◌, ◌≤◌, ◌||◌, ◌==◌, nat_le, List, length, Result, Ok, if◌then◌else◌}
use Rattle.aftr_base.specs.Attempt.{◌>>◌, require}
use Rattle.aftr_base.specs.Checksum.{sum16, is_sound}
use Rattle.wire_l4.specs.Grammar.{Echo, echo_of, echo_bytes}
use Rattle.wire_icmp.specs.declared.view.IcmpBad.{IcmpBad}
use Rattle.wire_icmp.specs.declared.view.IcmpBad.TheVariants.{Short, Sum}
use Rattle.wire_icmp.specs.declared.view.IcmpKind.{IcmpKind}
use Rattle.wire_icmp.specs.declared.view.IcmpKind.TheVariants.{EchoRequest, EchoReply, Fault, Other}

-- what a message of this type is for
abbrev pub kind_of : ℕ → IcmpKind
kind_of n =
    if n == 8 then EchoRequest
    else if n == 0 then EchoReply
    else if n == 3 || n == 11 || n == 12 then Fault
    else Other

-- The message of these bytes, or the first thing that is wrong. Every message is read as an echo message
-- is; what stands in the identifier's place is one only in a query.
abbrev pub message_of : List ℕ → Result Echo IcmpBad
message_of bytes = do
  require (nat_le 8 (length bytes)) Short
  require (is_sound bytes) Sum
  Ok (echo_of bytes)

-- ---- the grammar: a relation on whole byte lists

-- The bytes are a type, a code, a checksum, four bytes and the data in a row, and they bear their checksum.
pub record SpellsMessage (bytes : List ℕ) (m : Echo) : Type 0 where
  pub spelled : bytes ≡ echo_bytes m
  pub kind : m.kind < 256
  pub code : m.code < 256
  pub sum : m.sum < 2 ^ 16
  pub id : m.id < 2 ^ 16
  pub words : 2 ≤ length m.rest
  pub sound : sum16 bytes ≡ 65535

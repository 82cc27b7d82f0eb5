-- A message that is put together.
use Rattle.std.specs.Prelude.{ℕ, ◌+◌, List, [], ◌∷◌, ◌++◌, length, take, drop}
use Rattle.aftr_base.specs.Bytes.{be16}
use Rattle.ipfix_writer.specs.Grammar.{IpfixMessage, message_len}

-- the message so far, and how many bytes it may come to before it needs further memory
pub record IpfixDraft : Type 0 where
  pub message : IpfixMessage
  pub room : ℕ

-- a message without sets
abbrev pub empty_message : ℕ → ℕ → ℕ → IpfixMessage
empty_message time seq domain = record { head = record { time = time; seq = seq; domain = domain }; sets = [] }

-- the message with one more set behind the others, and its length then
abbrev pub with_set : IpfixMessage → ℕ → List ℕ → IpfixMessage
with_set m id body = record m { sets = m.sets ++ record { id = id; body = body } ∷ [] }

abbrev pub len_with : IpfixMessage → List ℕ → ℕ
len_with m body = message_len m + (4 + length body)

-- the bytes with their own number as the length in their header (RFC 7011 3.1)
abbrev pub with_len_of : List ℕ → List ℕ
with_len_of bytes = take 2 bytes ++ be16 (length bytes) ++ drop 4 bytes

-- IPFIX messages (RFC 7011 3.1, 3.3).
use Rattle.std.specs.Prelude.{◌≡◌, ℕ, zero, suc, ◌+◌, ◌-◌, ◌^◌, ◌<◌, Bool, ◌||◌, ◌==◌, nat_lt, nat_le, IsTrue, List, [], ◌∷◌, ◌++◌, length}
use Rattle.std.specs.Prelude.{take, drop, if◌then◌else◌}
use Rattle.std.specs.List.{AllByRecursion, flat_map}
use Rattle.aftr_base.specs.Bytes.{u16_at, u32_at, be16, be32}

-- what a message's header says beside its length: the export time in seconds, the sequence number and the
-- observation domain (RFC 7011 3.1)
pub record IpfixHead : Type 0 where
  pub time : ℕ
  pub seq : ℕ
  pub domain : ℕ

-- a set: its identifier, and what stands behind its header (RFC 7011 3.3)
pub record IpfixSet : Type 0 where
  pub id : ℕ
  pub body : List ℕ

pub record IpfixMessage : Type 0 where
  pub head : IpfixHead
  pub sets : List IpfixSet

abbrev pub set_of : ℕ → List ℕ → IpfixSet
set_of id body = record { id = id; body = body }

-- ---- the bytes

-- the length of a set counts its header of 4 bytes (RFC 7011 3.3.2)
abbrev pub set_bytes : IpfixSet → List ℕ
set_bytes s = be16 s.id ++ be16 (4 + length s.body) ++ s.body

abbrev pub sets_bytes : List IpfixSet → List ℕ
sets_bytes sets = flat_map set_bytes sets

-- the header of a message of this length, which counts the header's 16 bytes too; the version is 10
abbrev pub head_bytes : ℕ → IpfixHead → List ℕ
head_bytes len h = be16 10 ++ be16 len ++ be32 h.time ++ be32 h.seq ++ be32 h.domain

abbrev pub message_len : IpfixMessage → ℕ
message_len m = 16 + length (sets_bytes m.sets)

-- the one spelling of a message
abbrev pub message_bytes : IpfixMessage → List ℕ
message_bytes m = head_bytes (message_len m) m.head ++ sets_bytes m.sets

-- ---- which messages there are

-- 2 is a template set, 3 an options template set, and from 256 on sets have data; no other is in use
-- (RFC 7011 3.3.2)
abbrev pub is_set_id : ℕ → Bool
is_set_id id = id == 2 || id == 3 || nat_le 256 id

-- each field has the width that the header gives it
pub record FitsHead (h : IpfixHead) : Type 0 where
  pub time : h.time < 2 ^ 32
  pub seq : h.seq < 2 ^ 32
  pub domain : h.domain < 2 ^ 32

pub record FitsSet (s : IpfixSet) : Type 0 where
  pub used : IsTrue (is_set_id s.id)
  pub id : s.id < 2 ^ 16
  pub len : 4 + length s.body < 2 ^ 16

pub record FitsMessage (m : IpfixMessage) : Type 0 where
  pub head : FitsHead m.head
  pub sets : AllByRecursion FitsSet m.sets
  pub len : message_len m < 2 ^ 16

-- the bytes are this message and nothing else
pub record SpellsMessage (bytes : List ℕ) (m : IpfixMessage) : Type 0 where
  pub fits : FitsMessage m
  pub spelled : bytes ≡ message_bytes m

-- ---- what stands at which place

abbrev pub head_of : List ℕ → IpfixHead
head_of bytes = record { time = u32_at 4 bytes; seq = u32_at 8 bytes; domain = u32_at 12 bytes }

-- the set at the front
abbrev pub first_set : List ℕ → IpfixSet
first_set bytes = set_of (u16_at 0 bytes) (take (u16_at 2 bytes - 4) (drop 4 bytes))

-- the sets that stand one behind the other, at most n
unfoldable pub sets_within : ℕ → List ℕ → List IpfixSet
sets_within zero bytes = []
sets_within (suc n) bytes =
    if nat_lt (length bytes) 4 then [] else first_set bytes ∷ sets_within n (drop (u16_at 2 bytes) bytes)

-- each set takes bytes, so there are no more sets than bytes
abbrev pub sets_of : List ℕ → List IpfixSet
sets_of bytes = sets_within (length bytes) bytes

-- The message that the bytes spell, where they spell one. Opaque where nobody unfolds it.
unfoldable pub message_of : List ℕ → IpfixMessage
message_of bytes = record { head = head_of bytes; sets = sets_of (drop 16 bytes) }

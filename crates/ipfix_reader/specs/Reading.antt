-- What is read of bytes: the message that they spell, or where they stop being one (RFC 7011 3.1, 3.3).
use Rattle.std.specs.Prelude.{◌≡◌, ◌⊎◌, ℕ, ◌+◌, ◌^◌, ◌<◌, List, ◌++◌, length, Result, Ok}
use Rattle.std.specs.List.{AllByRecursion}
use Rattle.ipfix_writer.specs.Grammar.{IpfixHead, IpfixSet, IpfixMessage, set_bytes, sets_bytes, head_bytes, FitsHead, FitsSet}
use Rattle.ipfix_writer.specs.Grammar.{SpellsMessage}
use Rattle.ipfix_reader.specs.declared.fault.BadIpfix.{BadIpfix}

-- every message that the bytes spell is the answer
abbrev pub AcceptsMessages : List ℕ → Result IpfixMessage BadIpfix → Type 0
AcceptsMessages bytes answer = (m : IpfixMessage) → SpellsMessage bytes m → answer ≡ Ok m

-- the bytes begin with a header that counts all of them
abbrev pub HasHeader : List ℕ → Type 0
HasHeader bytes =
    (h : IpfixHead) × (rest : List ℕ) × FitsHead h × (length bytes < 2 ^ 16) × (bytes ≡ head_bytes (length bytes) h ++ rest)

-- the bytes are this set and the rest
pub record SpellsFirst (bytes : List ℕ) (s : IpfixSet) (rest : List ℕ) : Type 0 where
  pub fits : FitsSet s
  pub spelled : bytes ≡ set_bytes s ++ rest

abbrev pub BeginsWithSet : List ℕ → Type 0
BeginsWithSet bytes = (s : IpfixSet) × (rest : List ℕ) × SpellsFirst bytes s rest

-- Behind a header and these sets stand further bytes, at this offset, that begin with no set.
pub record StopsBehind (bytes : List ℕ) (sets : List IpfixSet) (at : ℕ) : Type 0 where
  pub header : IpfixHead
  pub rest : List ℕ
  pub fits : AllByRecursion FitsSet sets
  pub counted : (length bytes < 2 ^ 16) × FitsHead header
  pub spelled : bytes ≡ head_bytes (length bytes) header ++ sets_bytes sets ++ rest
  pub more : 0 < length rest
  pub no_set : ¬ BeginsWithSet rest
  pub place : at ≡ 16 + length (sets_bytes sets)

-- the offset of the header, or else of the first set, that isn't by the grammar
abbrev pub IsFirstBad : List ℕ → ℕ → Type 0
IsFirstBad bytes at = (at ≡ 0) × ¬ HasHeader bytes ⊎ ((sets : List IpfixSet) × StopsBehind bytes sets at)

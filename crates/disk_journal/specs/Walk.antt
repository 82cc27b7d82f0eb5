-- What a file is as a log: its messages, and how they end.
use Rattle.std.specs.Prelude.{◌≡◌, ◌≢◌, ◌⊎◌, ℕ, zero, suc, ◌+◌, Bool, not, ◌&&◌, ◌==◌, nat_lt, List, [], ◌∷◌, ◌++◌, length, take, drop}
use Rattle.std.specs.Prelude.{All, Result, Ok, Err, bytes_eq, if◌then◌else◌}
use Rattle.aftr_base.specs.Bytes.{u32_at, be32}
use Rattle.aftr_base.specs.Value.{is_within}
use Rattle.disk_journal.specs.Frames.{file_header, frame, frames, IsMessage}

-- The messages of whole frames with open gates, from the first on. They end at a closed gate, and then the tail is the
-- place behind that gate, or at the gate of a frame that isn't whole.
pub record Walk : Type 0 where
  pub messages : List (List ℕ)
  pub end : Result ℕ ℕ

abbrev pub no_messages : Result ℕ ℕ → Walk
no_messages end = record { messages = []; end = end }

-- a message before the others
abbrev pub after_message : List ℕ → Walk → Walk
after_message message walk = record { messages = message ∷ walk.messages; end = walk.end }

-- ---- how a file is read

-- Behind an open gate: a length in range, as many bytes, and one more.
unfoldable pub is_whole : List ℕ → Bool
is_whole bytes =
    bytes_eq (take 4 bytes) (be32 (u32_at 0 bytes)) && is_within 16 65535 (u32_at 0 bytes) && nat_lt (4 + u32_at 0 bytes) (length bytes)

-- at most n frames of these bytes, the first of which begins at this offset of the file
unfoldable pub walk_within : ℕ → ℕ → List ℕ → Walk
walk_within zero at bytes = no_messages (Err at)
walk_within (suc n) at [] = no_messages (Err at)
walk_within (suc n) at (gate ∷ bytes) =
    if not (gate == 1) then no_messages (Ok (at + 1))
    else if not (is_whole bytes) then no_messages (Err at)
    else after_message (take (u32_at 0 bytes) (drop 4 bytes)) (walk_within n (at + 5 + u32_at 0 bytes) (drop (4 + u32_at 0 bytes) bytes))

-- from the gate at this offset of the file on
unfoldable pub walk_from : ℕ → List ℕ → Walk
walk_from at file = walk_within (length file) at (drop at file)

-- the header, and a gate behind it
unfoldable pub has_header : List ℕ → Bool
has_header file = bytes_eq (take 16 file) file_header && nat_lt 16 (length file)

unfoldable pub walk_of : List ℕ → Walk
walk_of file = if has_header file then walk_from 16 file else no_messages (Err 0)

-- the messages end at a closed gate, and this is the place behind it
abbrev pub StandsAt : List ℕ → ℕ → Type 0
StandsAt file tail = (walk_of file).end ≡ Ok tail

-- ---- how a file is spelled

-- a whole frame with an open gate, and then the next gate
pub record BeginsWithFrame (bytes : List ℕ) : Type 0 where
  pub message : List ℕ
  pub in_range : IsMessage message
  pub next : ℕ
  pub behind : List ℕ
  pub split : bytes ≡ frame message ++ next ∷ behind

-- what stands behind the frames, at this offset: a closed gate, or an open one without a whole frame
abbrev pub EndsIn : List ℕ → ℕ → Result ℕ ℕ → Type 0
EndsIn bytes at (Ok tail) = (gate : ℕ) × (behind : List ℕ) × (gate ≢ 1) × (bytes ≡ gate ∷ behind) × (tail ≡ at + 1)
EndsIn bytes at (Err offset) = (behind : List ℕ) × (bytes ≡ 1 ∷ behind) × (BeginsWithFrame bytes → ⊥) × (offset ≡ at)

-- the file is the header, the frames of these messages, and this end
pub record Spells (file : List ℕ) (walk : Walk) : Type 0 where
  pub rest : List ℕ
  pub in_range : All IsMessage walk.messages
  pub split : file ≡ file_header ++ frames walk.messages ++ rest
  pub end : EndsIn rest (16 + length (frames walk.messages)) walk.end

-- a header and a gate, whatever they are
abbrev pub HasHeader : List ℕ → Type 0
HasHeader file = (gate : ℕ) × (behind : List ℕ) × (file ≡ file_header ++ gate ∷ behind)

-- the file is so spelled, or it has no header
abbrev pub IsWalkOf : List ℕ → Walk → Type 0
IsWalkOf file walk = Spells file walk ⊎ ((HasHeader file → ⊥) × (walk ≡ no_messages (Err 0)))

-- ---- one message more

-- the tail moves on
abbrev pub end_after : ℕ → Result ℕ ℕ → Result ℕ ℕ
end_after size (Ok tail) = Ok (tail + size)
end_after size (Err offset) = Err offset

-- this message behind the others
abbrev pub with_message : List ℕ → Walk → Walk
with_message message walk = record { messages = walk.messages ++ message ∷ []; end = end_after (5 + length message) walk.end }

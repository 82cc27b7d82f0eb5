-- What a reader of records has taken of its input, and what its answers say of the bytes that are left.
use Rattle.std.specs.Prelude.{◌≡◌, ◌<◌, ℕ, ◌+◌, List, [], length, drop, Some, None}
use Rattle.link_records.specs.declared.Next.{Next}
use Rattle.link_records.specs.declared.Next.TheVariants.{Got, End, Bad, Failed, NoMemory}
use Rattle.link_records.specs.Frames.{event_at, frame_len}

-- the bytes that were taken from the input and belong to no record so far, and the offset at which they begin
pub record Reader : Type 0 where
  pub held : List ℕ
  pub offset : ℕ

-- The next record of the bytes that are left, or why there is none; without one, nothing is passed over.
abbrev pub Reads : ℕ → List ℕ → ℕ → List ℕ → Next → Type 0
Reads at left at' left' (Got e) = (event_at at left ≡ Some e) × (left' ≡ drop (frame_len left) left) × (at' ≡ at + frame_len left)
Reads at left at' left' End = (left ≡ []) × (left' ≡ left) × (at' ≡ at)
Reads at left at' left' (Bad offset) = (event_at at left ≡ None) × (0 < length left) × (offset ≡ at) × (left' ≡ left) × (at' ≡ at)
Reads at left at' left' Failed = (left' ≡ left) × (at' ≡ at)
Reads at left at' left' NoMemory = (left' ≡ left) × (at' ≡ at)

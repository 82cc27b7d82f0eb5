-- What stands at the front of an input of which some bytes are at hand.
use Rattle.std.specs.Prelude.{◌≡◌, ◌<◌, ◌≤◌, ℕ, ◌+◌, Bool, true, false, ◌&&◌, nat_le, List, ◌++◌, length, slice_range, Option, Some, None}
use Rattle.aftr_base.specs.Value.{moment, is_within}
use Rattle.aftr_base.specs.Bytes.{u8_at, u64_at}
use Rattle.aftr_base.specs.declared.event.Event.{Event}
use Rattle.link_records.specs.declared.front.Head.{Head}
use Rattle.link_records.specs.declared.front.Front.{Front}
use Rattle.link_records.specs.declared.front.Front.TheVariants.{Whole, Short, Bad}
use Rattle.aftr_base.specs.Limits.{moment_limit}
use Rattle.link_records.specs.Frames.{event_at, frame_len, input_limit, kind_of, may_have_body}

-- the bytes of the longest frame
abbrev pub longest_frame : ℕ
longest_frame = 65588

-- kind, body and moment of the whole frame at the front are sound
abbrev pub is_sound_head : List ℕ → Bool
is_sound_head bytes = is_within 1 4 (u8_at 4 bytes) && may_have_body (u8_at 4 bytes) bytes && nat_le (u64_at 5 bytes) moment_limit

-- the head of the whole frame at the front, where it is sound
abbrev pub HeadOf : List ℕ → Option Head → Type 0
HeadOf bytes None = is_sound_head bytes ≡ false
HeadOf bytes (Some head) =
    (is_sound_head bytes ≡ true) × (kind_of (u8_at 4 bytes) ≡ Some head.kind) × (head.at ≡ moment (u64_at 5 bytes)) ×
    (head.len ≡ frame_len bytes)

-- the event of a record with this head
abbrev pub event_of : List ℕ → Head → Event
event_of bytes head = record { kind = head.kind; at = head.at; bytes = slice_range bytes 13 head.len }

-- the record at the front of the bytes from this offset on has this head
pub record IsHead (at : ℕ) (bytes : List ℕ) (head : Head) : Type 0 where
  pub longer : 13 ≤ head.len
  pub within : head.len ≤ length bytes
  pub limit : at + head.len ≤ input_limit
  pub moment : head.at.0 ≤ moment_limit
  pub len : frame_len bytes ≡ head.len
  pub event : event_at at bytes ≡ Some (event_of bytes head)

-- what stands at the front, of which these bytes are at hand
abbrev pub Scans : ℕ → List ℕ → Front → Type 0
Scans at bytes (Whole head) = IsHead at bytes head
Scans at bytes Short = (length bytes < longest_frame) × (event_at at bytes ≡ None)
Scans at bytes Bad = (0 < length bytes) × ((rest : List ℕ) → event_at at (bytes ++ rest) ≡ None)

-- Frames: a length, a kind, a moment and a body.
use Rattle.std.specs.Prelude.{ℕ, zero, suc, ◌+◌, Bool, not, ◌&&◌, ◌||◌, ◌==◌, nat_le, List, [], ◌∷◌, ◌++◌, length, drop, slice_range}
use Rattle.std.specs.Prelude.{Option, Some, None, option_map, if◌then◌else◌}
use Rattle.aftr_base.specs.Value.{moment, is_within}
use Rattle.aftr_base.specs.Bytes.{u8_at, u32_at, u64_at, be32, be64}
use Rattle.aftr_base.specs.Limits.{moment_limit}
use Rattle.aftr_base.specs.declared.event.Event.{Event}
use Rattle.aftr_base.specs.declared.event.EventKind.{EventKind}
use Rattle.aftr_base.specs.declared.event.EventKind.TheVariants.{Softwire, Public, Tick, Change}
use Rattle.aftr_base.specs.declared.value.Side.{Side}
use Rattle.aftr_base.specs.declared.value.Side.TheVariants.{Softwire as SoftwireSide, Public as PublicSide}

-- the offset, in bytes, by which each record of an input ends
abbrev pub input_limit : ℕ
input_limit = 1125899906842624

abbrev pub kind_of : ℕ → Option EventKind
kind_of n =
    if n == 1 then Some Softwire
    else if n == 2 then Some Public
    else if n == 3 then Some Tick
    else if n == 4 then Some Change
    else None

-- the one spelling of a frame
abbrev pub frame_bytes : ℕ → ℕ → List ℕ → List ℕ
frame_bytes kind at body = be32 (9 + length body) ++ kind ∷ (be64 at ++ body)

-- the bytes of a frame, by its length field
abbrev pub frame_len : List ℕ → ℕ
frame_len bytes = 4 + u32_at 0 bytes

-- a length in its range, and as many bytes
abbrev pub is_whole : List ℕ → Bool
is_whole bytes = nat_le 4 (length bytes) && is_within 9 65584 (u32_at 0 bytes) && nat_le (frame_len bytes) (length bytes)

-- a tick has no body
abbrev pub may_have_body : ℕ → List ℕ → Bool
may_have_body kind bytes = not (kind == 3) || u32_at 0 bytes == 9

-- whether a frame stands at the front of the bytes from this offset of the input on
abbrev pub is_frame : ℕ → List ℕ → Bool
is_frame at bytes =
    is_whole bytes && nat_le (at + frame_len bytes) input_limit
    && is_within 1 4 (u8_at 4 bytes) && may_have_body (u8_at 4 bytes) bytes && nat_le (u64_at 5 bytes) moment_limit

abbrev pub event_in : List ℕ → EventKind → Event
event_in bytes kind = record { kind = kind; at = moment (u64_at 5 bytes); bytes = slice_range bytes 13 (frame_len bytes) }

-- the record at the front
abbrev pub event_at : ℕ → List ℕ → Option Event
event_at at bytes = if is_frame at bytes then option_map (event_in bytes) (kind_of (u8_at 4 bytes)) else None

-- how the records of one input end: at its end, or at an offset where none stands
pub data Stop : Type 0 where
  AtEnd : Stop
  BadAt : ℕ → Stop

-- the records of one input
pub record Input : Type 0 where
  pub events : List Event
  pub stop : Stop

abbrev pub stop_at : ℕ → List ℕ → Stop
stop_at at [] = AtEnd
stop_at at (b ∷ rest) = BadAt at

abbrev pub with_event : Event → Input → Input
with_event e i = record i { events = e ∷ i.events }

-- At most n records of an input; at is the offset of the bytes.
abbrev pub records_from : ℕ → ℕ → List ℕ → Input
records_from zero at bytes = record { events = []; stop = stop_at at bytes }
records_from (suc n) at bytes =
    elim (event_at at bytes) [
      | None ↦ record { events = []; stop = stop_at at bytes }
      | Some e ↦ with_event e (records_from n (at + frame_len bytes) (drop (frame_len bytes) bytes))
    ]

-- the records of the bytes from this offset on; each takes at least a byte
abbrev pub frames_from : ℕ → List ℕ → Input
frames_from at bytes = records_from (length bytes) at bytes

abbrev pub frames_of : List ℕ → Input
frames_of bytes = frames_from 0 bytes

-- ---- what is written

abbrev pub number_of : Side → ℕ
number_of SoftwireSide = 1
number_of PublicSide = 2

abbrev pub record_bytes : Side → ℕ → List ℕ → List ℕ
record_bytes side at packet = frame_bytes (number_of side) at packet

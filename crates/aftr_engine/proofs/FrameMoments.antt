-- The moments of an input's records.
use Rattle.std.proofs.Common.{◌≡◌, ℕ, zero, suc, ◌+◌, ◌≤◌, Bool, true, false, cond, nat_le, List, [], length, drop, All, Option, Some}
use Rattle.std.proofs.Common.{None, IfSome, option_map, refl, leb-true}
use Rattle.std.proofs.lemmas.Bool.{and_parts}
use Rattle.std.proofs.lemmas.List.Elements.{All-cons, All-nil}
use Rattle.aftr_base.specs.Bytes.{u8_at, u64_at}
use Rattle.aftr_base.specs.declared.event.Event.{Event}
use Rattle.aftr_base.specs.declared.event.EventKind.{EventKind}
use Rattle.aftr_base.specs.Limits.{moment_limit}
use Rattle.xlate_core.proofs.ValidStates.{AreBy}
use Rattle.link_records.specs.Frames.{Input, event_at, event_in, frame_len, frames_of, is_frame, kind_of, records_from}
use Rattle.link_records.specs.Frames.{stop_at, with_event}

-- a moment that a record may bear
abbrev InTime : Event → Type 0
InTime e = e.at.0 ≤ moment_limit

event_by : (sound : Bool) (o : Option EventKind) (bytes : List ℕ) → (sound ≡ true → u64_at 5 bytes ≤ moment_limit)
    → IfSome (cond sound (option_map (event_in bytes) o) None) InTime
event_by true None bytes early = tt
event_by true (Some kind) bytes early = early refl
event_by false o bytes early = tt

event_in_time : (at : ℕ) (bytes : List ℕ) → IfSome (event_at at bytes) InTime
event_in_time at bytes =
    event_by (is_frame at bytes) (kind_of (u8_at 4 bytes)) bytes
    (λ (is : is_frame at bytes ≡ true). leb-true (u64_at 5 bytes) moment_limit (and_parts _ (nat_le (u64_at 5 bytes) moment_limit) is).1)

front_in_time : (at : ℕ) (bytes : List ℕ) (o : Option Event) (rest : Input) → IfSome o InTime → All InTime rest.events
    → let all : Input = elim o [ None ↦ record { events = []; stop = stop_at at bytes } | Some e ↦ with_event e rest ] in
    All InTime all.events
front_in_time at bytes None rest first others = All-nil InTime
front_in_time at bytes (Some e) rest first others = All-cons InTime e rest.events first others

records_in_time : (n at : ℕ) (bytes : List ℕ) → All InTime (records_from n at bytes).events
records_in_time zero at bytes = All-nil InTime
records_in_time (suc n) at bytes =
    front_in_time at bytes (event_at at bytes) (records_from n (at + frame_len bytes) (drop (frame_len bytes) bytes))
    (event_in_time at bytes)
    (records_in_time n (at + frame_len bytes) (drop (frame_len bytes) bytes))

pub frames_in_time : (input : List ℕ) → AreBy moment_limit (frames_of input).events
frames_in_time input = records_in_time (length input) 0 input

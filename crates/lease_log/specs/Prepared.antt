-- What a batch keeps beside its events: the records of each set, and room for the body.
use Rattle.std.specs.Prelude.{◌≡◌, ◌≤◌, ◌+◌, ◌%◌, ◌/◌, ◌^◌, ℕ, Bool, List, [], ◌∷◌, ◌++◌, length, filter, flat_map, All, Vec, vec_capacity}
use Rattle.std.specs.declared.alloc.Global.{Global}
use Rattle.aftr_base.specs.Limits.{log_moment_limit}
use Rattle.aftr_base.specs.Telling.{is_horizon, is_plan_event, is_block}
use Rattle.aftr_base.specs.declared.event.LogEvent.{LogEvent}
use Rattle.aftr_base.specs.declared.event.LogEvent.TheVariants.{Block, Horizon, Plan}
use Rattle.ipfix_writer.specs.Grammar.{IpfixHead, IpfixSet, IpfixMessage}
use Rattle.nat_events.specs.Grammar.{FitsRecord}
use Rattle.nat_events.specs.Spelling.{event_record, templates}
use Rattle.lease_log.specs.Batch.{IsWithinLimits}
use Rattle.lease_log.specs.declared.batch.Sets.{Sets}

-- the records of these events of one kind
abbrev pub records : (LogEvent → Bool) → List LogEvent → List ℕ
records kind events = flat_map event_record (filter kind events)

-- how many bytes of records there are
abbrev pub size_of : Sets → ℕ
size_of s = length s.horizon + length s.plan + length s.blocks

-- a record behind those of its set
abbrev pub with_record : LogEvent → List ℕ → Sets → Sets
with_record (Block opens owner addr first last at) bytes s = record s { blocks = s.blocks ++ bytes }
with_record (Horizon at reach) bytes s = record s { horizon = s.horizon ++ bytes }
with_record (Plan at spec) bytes s = record s { plan = s.plan ++ bytes }

-- a frame's body with records of so many bytes takes no more than this: beside them the two lengths, the gate, the
-- header, the template set and three headers of sets
abbrev pub room_for : ℕ → ℕ
room_for size = 101 + size

-- each record that the sets have is that of an event, in order, and there is room for all
pub record IsPrepared (at : ℕ) (events : List LogEvent) (sets : Sets) (body : Vec ℕ Global) : Type 0 where
  pub in_time : at ≤ log_moment_limit
  pub limits : IsWithinLimits events
  pub each : All FitsRecord events
  pub horizon : sets.horizon ≡ records is_horizon events
  pub plan : sets.plan ≡ records is_plan_event events
  pub blocks : sets.blocks ≡ records is_block events
  pub room : room_for (size_of sets) ≤ vec_capacity body

-- ---- the message

-- the set of these records, where there are any
abbrev pub set_of_records : ℕ → List ℕ → List IpfixSet
set_of_records id [] = []
set_of_records id (b ∷ bytes) = record { id = id; body = b ∷ bytes } ∷ []

abbrev pub head_at : ℕ → ℕ → IpfixHead
head_at at count = record { time = at / 1000; seq = count % 2 ^ 32; domain = 1 }

abbrev pub sets_of_records : Sets → List IpfixSet
sets_of_records s = set_of_records 257 s.horizon ++ set_of_records 258 s.plan ++ set_of_records 256 s.blocks

-- the message with the records of these sets
abbrev pub message_with : ℕ → ℕ → Sets → IpfixMessage
message_with at count s = record { head = head_at at count; sets = templates ∷ sets_of_records s }

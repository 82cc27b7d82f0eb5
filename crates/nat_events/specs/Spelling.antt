-- Log messages (RFC 7011 3, RFC 8158 4): the template set, the records, and the message of events.
use Rattle.std.specs.Prelude.{ℕ, ◌+◌, ◌/◌, ◌%◌, ◌^◌, Bool, nat_lt, List, [], ◌∷◌, ◌++◌, length, filter, flat_map, Option, Some, None, if◌then◌else◌}
use Rattle.aftr_base.specs.Bytes.{be16, be32, be64, be128}
use Rattle.aftr_base.specs.Telling.{is_horizon, is_plan_event, is_block}
use Rattle.aftr_base.specs.declared.row.PlanSpec.{PlanSpec}
use Rattle.aftr_base.specs.declared.event.LogEvent.{LogEvent}
use Rattle.aftr_base.specs.declared.event.LogEvent.TheVariants.{Block, Horizon, Plan}
use Rattle.ipfix_writer.specs.Grammar.{IpfixSet, set_bytes, message_bytes}
use Rattle.nat_events.specs.PlanText.{plan_text}

-- ---- templates (RFC 7011 3.4.1)

-- a field of IANA's registry, and its length in bytes
abbrev pub field : ℕ → ℕ → List ℕ
field id len = be16 id ++ be16 len

-- a field of this log alone: the enterprise bit is set, and the number of documentation follows (RFC 7011 3.2, RFC 5612)
abbrev pub own_field : ℕ → ℕ → List ℕ
own_field id len = be16 (2 ^ 15 + id) ++ be16 len ++ be32 32473

-- observationTimeMilliseconds, natEvent, sourceIPv6Address, sourceIPv6PrefixLength, postNATSourceIPv4Address,
-- portRangeStart, portRangeEnd
abbrev pub block_template : List ℕ
block_template =
    be16 256 ++ be16 7 ++ field 323 8 ++ field 230 1 ++ field 27 16 ++ field 29 1 ++ field 225 4 ++ field 361 2 ++ field 362 2

-- observationTimeMilliseconds, and the log's horizon in milliseconds
abbrev pub horizon_template : List ℕ
horizon_template = be16 257 ++ be16 2 ++ field 323 8 ++ own_field 1 8

-- observationTimeMilliseconds, and the text of a plan, whose length varies (RFC 7011 7)
abbrev pub plan_template : List ℕ
plan_template = be16 258 ++ be16 2 ++ field 323 8 ++ own_field 2 65535

-- the set that every message begins with
abbrev pub templates : IpfixSet
templates = record { id = 2; body = block_template ++ horizon_template ++ plan_template }

abbrev pub template_set : List ℕ
template_set = set_bytes templates

-- ---- records (RFC 7011 3.4.3)

-- natEvent: 16 opens a block, 17 closes it (RFC 8158 4.3, 8.2)
abbrev pub event_number : Bool → ℕ
event_number opens = if opens then 16 else 17

-- a plan that opens has its text, and the empty text closes
abbrev pub text_of : Option PlanSpec → List ℕ
text_of None = []
text_of (Some p) = plan_text p

-- the text in a record: that of a plan
abbrev pub spec_text : LogEvent → List ℕ
spec_text (Block opens owner addr first last at) = []
spec_text (Horizon at reach) = []
spec_text (Plan at spec) = text_of spec

-- a field of variable length behind its length, in one byte where it fits (RFC 7011 7)
abbrev pub short_field : List ℕ → List ℕ
short_field text = length text ∷ text

abbrev pub long_field : List ℕ → List ℕ
long_field text = 255 ∷ (be16 (length text) ++ text)

-- what stands before the bytes of such a field
abbrev pub len_of_field : ℕ → List ℕ
len_of_field len = if nat_lt len 255 then len ∷ [] else 255 ∷ be16 len

abbrev pub variable : List ℕ → List ℕ
variable text = if nat_lt (length text) 255 then short_field text else long_field text

abbrev pub event_record : LogEvent → List ℕ
event_record (Block opens owner addr first last at) =
    be64 at.0 ++ event_number opens ∷ (be128 owner.0.bits.0 ++ owner.0.len ∷ (be32 addr.0 ++ be16 first ++ be16 last))
event_record (Horizon at reach) = be64 at.0 ++ be64 reach.0
event_record (Plan at spec) = be64 at.0 ++ variable (text_of spec)

-- the set that a record stands in
abbrev pub set_of : LogEvent → ℕ
set_of (Block opens owner addr first last at) = 256
set_of (Horizon at reach) = 257
set_of (Plan at spec) = 258

-- ---- messages (RFC 7011 3.1)

-- the set of these events' records, where there are any
abbrev pub set_with : ℕ → List LogEvent → List IpfixSet
set_with id [] = []
set_with id (e ∷ events) = record { id = id; body = flat_map event_record (e ∷ events) } ∷ []

-- the horizon, the plan, and then the blocks in their own order
abbrev pub sets_with : List LogEvent → List IpfixSet
sets_with events =
    set_with 257 (filter is_horizon events) ++ set_with 258 (filter is_plan_event events) ++ set_with 256 (filter is_block events)

-- what the writer makes of the events of a moment in milliseconds, behind so many records
abbrev pub message : ℕ → ℕ → List LogEvent → List ℕ
message at count events =
    message_bytes record {
      head = record { time = at / 1000; seq = count % 2 ^ 32; domain = 1 };
      sets = templates ∷ sets_with events;
    }

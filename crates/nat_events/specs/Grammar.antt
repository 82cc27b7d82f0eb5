-- Which bytes are a record, and which are a log message, by concatenation (RFC 7011 3).
use Rattle.std.specs.Prelude.{◌≡◌, ℕ, ◌/◌, ◌%◌, ◌^◌, ◌<◌, ◌≤◌, ◌⊎◌, ⊤, true, List, [], ◌∷◌, ◌++◌, length, take, replicate, filter, All, Option, Some, None, Result, Ok, Err}
use Rattle.aftr_base.specs.Bytes.{be64, IsBytes}
use Rattle.aftr_base.specs.Plan.{is_plan}
use Rattle.aftr_base.specs.Telling.{is_horizon, is_plan_event, in_message_order}
use Rattle.aftr_base.specs.declared.value.Moment.{Moment}
use Rattle.aftr_base.specs.declared.value.Ip4.{Ip4}
use Rattle.aftr_base.specs.declared.value.Subscriber.{Subscriber}
use Rattle.aftr_base.specs.declared.row.PlanSpec.{PlanSpec}
use Rattle.aftr_base.specs.declared.event.LogEvent.{LogEvent}
use Rattle.aftr_base.specs.declared.event.LogEvent.TheVariants.{Block, Horizon, Plan}
use Rattle.ipfix_writer.specs.Grammar.{IpfixSet, SpellsMessage}
use Rattle.nat_events.specs.PlanText.{plan_text}
use Rattle.nat_events.specs.Spelling.{event_record, set_of, text_of, short_field, long_field, templates, message}
use Rattle.nat_events.specs.Reading.{record_in, events_of}
use Rattle.nat_events.specs.declared.bad.EventBad.{EventBad}
use Rattle.nat_events.specs.declared.bad.EventBad.TheVariants.{NoMemory}

-- ---- one record

-- each value of a block has the width of its field
pub record FitsBlock (owner : Subscriber) (addr : Ip4) (first last : ℕ) (at : Moment) : Type 0 where
  pub moment : at.0 < 2 ^ 64
  pub prefix : owner.0.bits.0 < 2 ^ 128
  pub prefix_len : owner.0.len < 2 ^ 8
  pub address : addr.0 < 2 ^ 32
  pub first_port : first < 2 ^ 16
  pub last_port : last < 2 ^ 16

-- a plan that opens has values that a plan may have, and a text of 4,096 bytes at most
abbrev pub FitsSpec : Option PlanSpec → Type 0
FitsSpec None = ⊤
FitsSpec (Some spec) = (is_plan spec ≡ true) × (length (plan_text spec) ≤ 4096)

abbrev pub FitsRecord : LogEvent → Type 0
FitsRecord (Block opens owner addr first last at) = FitsBlock owner addr first last at
FitsRecord (Horizon at reach) = (at.0 < 2 ^ 64) × (reach.0 < 2 ^ 64)
FitsRecord (Plan at spec) = (at.0 < 2 ^ 64) × FitsSpec spec

-- a field of variable length, by either spelling of its length (RFC 7011 7)
abbrev pub SpellsField : List ℕ → List ℕ → Type 0
SpellsField text bytes = ((length text < 255) × (bytes ≡ short_field text)) ⊎ (bytes ≡ long_field text)

-- A block and a horizon have one spelling each, a plan two where its text is short.
abbrev pub SpellsEvent : LogEvent → List ℕ → Type 0
SpellsEvent (Block opens owner addr first last at) bytes = bytes ≡ event_record (Block opens owner addr first last at)
SpellsEvent (Horizon at reach) bytes = bytes ≡ event_record (Horizon at reach)
SpellsEvent (Plan at spec) bytes = (text : List ℕ) × SpellsField (text_of spec) text × (bytes ≡ be64 at.0 ++ text)

-- the bytes are a record of this set, which says this event
pub record IsRecord (set : ℕ) (event : LogEvent) (bytes : List ℕ) : Type 0 where
  pub of_set : set_of event ≡ set
  pub fits : FitsRecord event
  pub spelled : SpellsEvent event bytes

-- so many bytes at the front are a record of this set, which says this event
pub record BeginsWithRecord (set : ℕ) (bytes : List ℕ) (event : LogEvent) (len : ℕ) : Type 0 where
  pub within : len ≤ length bytes
  pub spelled : IsRecord set event (take len bytes)

-- whatever begins with a record is read as its event, with its length, but for want of memory
abbrev pub AcceptsRecords : ℕ → List ℕ → Result (LogEvent × ℕ) EventBad → Type 0
AcceptsRecords set bytes answer =
    (event : LogEvent) (spelling rest : List ℕ) → IsRecord set event spelling → bytes ≡ spelling ++ rest
    → (answer ≡ Ok (event, length spelling)) ⊎ (answer ≡ Err NoMemory)

-- ---- a message

-- the bytes are records of this set one behind another, which say these events
abbrev pub AreRecords : ℕ → List LogEvent → List ℕ → Type 0
AreRecords set [] bytes = bytes ≡ []
AreRecords set (e ∷ events) bytes =
    (spelling : List ℕ) × (rest : List ℕ) × IsRecord set e spelling × AreRecords set events rest × (bytes ≡ spelling ++ rest)

-- The body of a set: records, and zeros, fewer than the set's shortest record has bytes (RFC 7011 3.3.1).
pub record IsBody (set shortest : ℕ) (events : List LogEvent) (body : List ℕ) : Type 0 where
  pub records : List ℕ
  pub padding : ℕ
  pub told : AreRecords set events records
  pub short : padding < shortest
  pub spelled : body ≡ records ++ replicate padding 0

-- There is no such set and no event of it, or one set with so many records as the events are, one at least.
abbrev pub IsOptional : ℕ → ℕ → List LogEvent → List IpfixSet → Type 0
IsOptional set shortest [] sets = sets ≡ []
IsOptional set shortest (e ∷ events) sets =
    (body : List ℕ) × IsBody set shortest (e ∷ events) body × (sets ≡ record { id = set; body = body } ∷ [])

-- The sets of a log message: the template set, and then each at most once a horizon, a plan and blocks.
pub record TellsInSets (horizons plans blocks : List LogEvent) (sets : List IpfixSet) : Type 0 where
  pub horizon_set : List IpfixSet
  pub plan_set : List IpfixSet
  pub block_set : List IpfixSet
  pub horizon : IsOptional 257 16 horizons horizon_set
  pub one_horizon : length horizons ≤ 1
  pub plan : IsOptional 258 9 plans plan_set
  pub one_plan : length plans ≤ 1
  pub each_block : IsOptional 256 34 blocks block_set
  pub in_order : sets ≡ templates ∷ (horizon_set ++ plan_set ++ block_set)

-- The bytes are a log message behind so many records, which tells these events: an IPFIX message of any export time,
-- whose sequence number is the number of records before it.
pub record IsLogMessage (count : ℕ) (events : List LogEvent) (bytes : List ℕ) : Type 0 where
  pub time : ℕ
  pub sets : List IpfixSet
  pub horizons : List LogEvent
  pub plans : List LogEvent
  pub blocks : List LogEvent
  pub told : TellsInSets horizons plans blocks sets
  pub in_order : events ≡ horizons ++ plans ++ blocks
  pub spelled : SpellsMessage bytes record { head = record { time = time; seq = count % 2 ^ 32; domain = 1 }; sets = sets }

-- ---- writing and reading back

-- a record that is written is read as its event, before anything
abbrev pub ReadsBack : LogEvent → Type 0
ReadsBack event =
    FitsRecord event → (rest : List ℕ)
    → record_in (set_of event) (event_record event ++ rest) ≡ Ok (event, length (event_record event))

-- these events fit a message at this moment in milliseconds: at most one horizon and one plan, and fields that are wide
-- enough, the message's length and export time among them
pub record FitsLogMessage (at count : ℕ) (events : List LogEvent) : Type 0 where
  pub time : at / 1000 < 2 ^ 32
  pub each : All FitsRecord events
  pub one_horizon : length (filter is_horizon events) ≤ 1
  pub one_plan : length (filter is_plan_event events) ≤ 1
  pub len : length (message at count events) < 2 ^ 16

-- what is written is a log message, and tells the events that it was made of in the order of its sets
abbrev pub WritesMessages : Type 0
WritesMessages =
    (at count : ℕ) (events : List LogEvent) → FitsLogMessage at count events
    → IsLogMessage count (in_message_order events) (message at count events)

abbrev pub MessagesReadBack : Type 0
MessagesReadBack =
    (at count : ℕ) (events : List LogEvent) → FitsLogMessage at count events
    → events_of count (message at count events) ≡ Ok (in_message_order events)

-- what is read as events is a log message that tells them
abbrev pub ReadsLogMessages : Type 0
ReadsLogMessages =
    (count : ℕ) (bytes : List ℕ) (events : List LogEvent) → IsBytes bytes
    → events_of count bytes ≡ Ok events → IsLogMessage count events bytes

-- whatever is a log message is read as its events
abbrev pub AcceptsLogMessages : Type 0
AcceptsLogMessages =
    (count : ℕ) (bytes : List ℕ) (events : List LogEvent)
    → IsLogMessage count events bytes → events_of count bytes ≡ Ok events

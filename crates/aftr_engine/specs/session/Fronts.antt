-- How far a run came, wherever it ended.
use Rattle.std.specs.Prelude.{◌≡◌, ◌≤◌, ◌<◌, ◌+◌, ◌-◌, ℕ, List, ◌++◌, length, take, slice_get, Some}
use Rattle.plant_io.specs.Story.{Story, content, sent}
use Rattle.aftr_base.specs.declared.event.Event.{Event}
use Rattle.aftr_base.specs.declared.told.Told.{Told}
use Rattle.aftr_base.specs.declared.outcome.Status.{Status}
use Rattle.aftr_base.specs.declared.outcome.Status.TheVariants.{Ok, BadInput, ReadFault, LogFault, LogFull, OutFault}
use Rattle.aftr_base.specs.Drops.{drop_counts}
use Rattle.cfg_text.specs.declared.config.Config.{Config}
use Rattle.xlate_core.specs.Step.{step}
use Rattle.link_records.specs.Frames.{frames_of}
use Rattle.egress_gate.specs.Held.{body_for}
use Rattle.egress_gate.specs.Logged.{EndsAt, Tells}
use Rattle.egress_gate.specs.Output.{output}
use Rattle.aftr_engine.specs.session.EndToEnd.{front_run, told_behind}
use Rattle.plant_io.specs.Uses.{SourceUse, PlantUse}

-- the packets of the first n records were sent, and of no further one
abbrev pub HasSentFirst : Config → Told → ℕ → List ℕ → List ℕ → Story → Type 0
HasSentFirst c told n input past after = sent after ≡ past ++ output (front_run c told n input).items

-- and the log tells what they came to, and nothing else
pub record HasTreatedFirst (c : Config) (told : Told) (n : ℕ) (input : List ℕ) (past : List ℕ) (after : Story) : Type 0 where
  pub packets : HasSentFirst c told n input past after
  pub tells : Tells (content after) (told_behind told (front_run c told n input))

-- The n first records were treated, the log tells what one more comes to, and a part of its packets was sent, from their
-- start. A record that sends isn't dropped, so the drops are those of the n.
pub record IsSendingNext (c : Config) (told : Told) (n : ℕ) (input : List ℕ) (past : List ℕ) (after : Story) : Type 0 where
  pub more : n < length (frames_of input).events
  pub count : ℕ
  pub behind : length (output (front_run c told n input).items) ≤ count
  pub packets : sent after ≡ past ++ take count (output (front_run c told (n + 1) input).items)
  pub tells : Tells (content after) (told_behind told (front_run c told (n + 1) input))

-- The n first records were treated, and behind the log's tail there is no room for what the next one logs.
pub record IsFull (c : Config) (told : Told) (n : ℕ) (input : List ℕ) (past : List ℕ) (after : Story) (tail asked : ℕ) : Type 0 where
  pub treated : HasTreatedFirst c told n input past after
  pub ends : EndsAt (content after) (told_behind told (front_run c told n input)) tail
  pub next : Event
  pub place : slice_get (frames_of input).events n ≡ Some next
  pub need : asked ≡ length (body_for (told.count + length (front_run c told n input).log) (step (front_run c told n input).state next))

-- What the n first records sent and logged, where a run ends so. Of a log that failed only what a stop leaves is known.
abbrev pub HasDoneFirst : Config → Told → ℕ → List ℕ → List ℕ → Story → Status → Type 0
HasDoneFirst c told n input past after LogFault = HasSentFirst c told n input past after
HasDoneFirst c told n input past after OutFault = IsSendingNext c told n input past after
HasDoneFirst c told n input past after (LogFull tail need limit) = IsFull c told n input past after tail need
HasDoneFirst c told n input past after other = HasTreatedFirst c told n input past after

-- the bytes that were taken of an input, where these are left
abbrev pub taken_of : List ℕ → List ℕ → List ℕ
taken_of input left = take (length input - length left) input

-- These are all records at the records' end, and where a read failed all whole records in the bytes that were taken.
abbrev pub AreTreated : ℕ → List ℕ → List ℕ → Status → Type 0
AreTreated n input left Ok = n ≡ length (frames_of input).events
AreTreated n input left (BadInput place offset) = n ≡ length (frames_of input).events
AreTreated n input left ReadFault = n ≡ length (frames_of (taken_of input left)).events
AreTreated n input left other = Unit {0}

-- A number of records from the input's start was treated: their drops are counted, whatever the plant tells.
pub record HasCome (c : Config) (told : Told) (input : SourceUse) (plant : PlantUse) (drops : List ℕ) (status : Status) : Type 0 where
  pub treated : ℕ
  pub records : input.tells → AreTreated treated input.bytes input.left status
  pub counts : input.tells → drops ≡ drop_counts (front_run c told treated input.bytes).drops
  pub done : input.tells → plant.tells → HasDoneFirst c told treated input.bytes (sent plant.before) plant.after status

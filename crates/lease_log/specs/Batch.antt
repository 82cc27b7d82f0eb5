-- The events of one message that is put together, and the log behind them.
use Rattle.std.specs.Prelude.{◌≡◌, ◌⊎◌, ℕ, ◌+◌, ◌≤◌, List, [], ◌∷◌, ◌++◌, length, filter, Ok}
use Rattle.aftr_base.specs.Telling.{in_message_order, told_after, is_horizon, is_plan_event, is_block}
use Rattle.aftr_base.specs.declared.told.Told.{Told}
use Rattle.aftr_base.specs.declared.event.LogEvent.{LogEvent}
use Rattle.plant_io.specs.Story.{Story, content, sent, IsSettled}
use Rattle.disk_journal.specs.Frames.{body_of}
use Rattle.nat_events.specs.Spelling.{message}
use Rattle.lease_log.specs.Log.{log_of}
use Rattle.lease_log.specs.Sound.{HasSoundPlan}

pub record Batch : Type 0 where
  -- the moment of the message, in milliseconds
  pub at : ℕ
  -- how many records the log has before it
  pub count : ℕ
  pub events : List LogEvent

abbrev pub empty_batch : ℕ → ℕ → Batch
empty_batch at count = record { at = at; count = count; events = [] }

abbrev pub with_event : LogEvent → Batch → Batch
with_event e batch = record batch { events = batch.events ++ e ∷ [] }

-- how many events a message may have of each kind
pub record IsWithinLimits (events : List LogEvent) : Type 0 where
  pub horizons : length (filter is_horizon events) ≤ 1
  pub plans : length (filter is_plan_event events) ≤ 1
  pub blocks : length (filter is_block events) ≤ 1280

-- one event more is within the limits, and opens no plan but one with values that a plan may have
pub record CanAdd (batch : Batch) (e : LogEvent) : Type 0 where
  pub limits : IsWithinLimits (batch.events ++ e ∷ [])
  pub plan : HasSoundPlan e

-- what stands behind a gate: the batch's message with its length, and a closed gate
abbrev pub batch_body : Batch → List ℕ
batch_body batch = body_of (message batch.at batch.count batch.events)

-- ---- the log behind it

-- the batch follows what this file tells, whose tail this is
pub record CanAppend (file : List ℕ) (tail : ℕ) (batch : Batch) : Type 0 where
  pub told : Told
  pub next : Told
  pub log : log_of file ≡ Ok record { told = told; tail = tail }
  pub count : batch.count ≡ told.count
  pub follows : told_after (in_message_order batch.events) told ≡ Ok next

-- the file tells what the other told, and then the batch's events, to a tail behind the batch's message
pub record TellsMore (before now : List ℕ) (batch : Batch) : Type 0 where
  pub told : Told
  pub tail : ℕ
  pub next : Told
  pub was : log_of before ≡ Ok record { told = told; tail = tail }
  pub follows : told_after (in_message_order batch.events) told ≡ Ok next
  pub log : log_of now ≡ Ok record { told = next; tail = tail + length (batch_body batch) }

-- a stop while a batch is appended: the file tells what was told, or the batch's events after that; nothing was sent
pub record AppendLeaves (before : Story) (batch : Batch) (image bytes : List ℕ) : Type 0 where
  pub log : (log_of image ≡ log_of (content before)) ⊎ TellsMore (content before) image batch
  pub nothing_sent : bytes ≡ sent before

-- the batch was appended: every stop from now on leaves a file that tells it too
pub record HasAppended (before now : Story) (batch : Batch) : Type 0 where
  pub log : TellsMore (content before) (content now) batch
  pub settled : IsSettled now
  pub nothing_sent : sent now ≡ sent before

-- What a log tells, and what a batch adds to it.
use Rattle.std.specs.Prelude.{◌≡◌, ◌⊎◌, ℕ, ◌+◌, List, length, Ok}
use Rattle.plant_io.specs.Sink.{GainsPart}
use Rattle.aftr_base.specs.Telling.{in_message_order, told_after}
use Rattle.aftr_base.specs.declared.told.Told.{Told}
use Rattle.lease_log.specs.Batch.{Batch}
use Rattle.lease_log.specs.Log.{log_of as log_in}
use Rattle.xlate_core.specs.State.{Step}
use Rattle.xlate_core.specs.Run.{told_of}
use Rattle.xlate_core.specs.Step.{log_of}

-- the file is a log that tells this, and these are its bytes that count
abbrev pub EndsAt : List ℕ → Told → ℕ → Type 0
EndsAt file told tail = log_in file ≡ Ok record { told = told; tail = tail }

abbrev pub Tells : List ℕ → Told → Type 0
Tells file told = (tail : ℕ) × EndsAt file told tail

-- the file tells this, and that is told once the batch's events stand in it
pub record IsFollowing (file : List ℕ) (batch : Batch) (was next : Told) : Type 0 where
  pub tail : ℕ
  pub log : EndsAt file was tail
  pub follows : told_after (in_message_order batch.events) was ≡ Ok next

-- what a log of so many data records tells once a record's events stand in it
abbrev pub told_next : ℕ → Step → Told
told_next count t = told_of t.state (count + length (log_of t))

-- A stop leaves what was told, and nothing more was sent; or what is told next, and then a part of the packets was sent:
-- never a byte of a packet before the log tells the batch's events.
abbrev pub LogsFirst : Told → Told → List ℕ → List ℕ → List ℕ → List ℕ → Type 0
LogsFirst was next past packets image bytes = (Tells image was × (bytes ≡ past)) ⊎ (Tells image next × GainsPart packets past bytes)

-- Closings on their way into the log: what a batch takes, and what a commit of it leaves.
use Rattle.std.specs.Prelude.{◌≡◌, ◌⊎◌, ⊤, ℕ, ◌+◌, ◌<◌, ◌≤◌, List, ◌++◌, length, drop, max, Ok}
use Rattle.aftr_base.specs.Telling.{in_message_order}
use Rattle.aftr_base.specs.declared.row.LeaseRow.{LeaseRow}
use Rattle.aftr_base.specs.declared.told.Told.{Told}
use Rattle.aftr_base.specs.declared.value.Moment.{Moment}
use Rattle.disk_journal.specs.Standing.{Standing}
use Rattle.plant_io.specs.Story.{Story, content, sent}
use Rattle.lease_log.specs.Batch.{Batch, IsWithinLimits}
use Rattle.lease_log.specs.Log.{Log, log_of}
use Rattle.recovery.specs.Closings.{IsPartlyClosed, lease_closings, recovered}
use Rattle.recovery.specs.Leaves.{IsClosing}
use Rattle.recovery.specs.declared.RecoverBad.{RecoverBad}
use Rattle.recovery.specs.declared.RecoverBad.TheVariants.{Damaged, Full, Failed, NoMemory}

-- the log that tells this, with the journal at its tail
abbrev pub log_at_tail : Told → Standing → Log
log_at_tail told journal = record { told = told; tail = journal.at + 1 }

-- The batch took the closings of the first leases, so many of them. It is a whole frame, or these are all.
pub record HasGathered (horizon : Moment) (leases : List LeaseRow) (was now : Batch) (passed : ℕ) : Type 0 where
  pub same : now ≡ record was { events = now.events }
  pub moved : now.events ++ lease_closings horizon (drop passed leases) ≡ was.events ++ lease_closings horizon leases
  pub within : passed ≤ length leases
  pub few : length now.events ≤ 1024
  pub ends : (length now.events ≡ 1024) ⊎ (passed ≡ length leases)
  pub limits : IsWithinLimits now.events
  pub ordered : in_message_order was.events ≡ was.events → in_message_order now.events ≡ now.events

-- a commit that wasn't done, of so many bytes behind the tail
abbrev pub IsRefusal : ℕ → ℕ → ℕ → RecoverBad → Type 0
IsRefusal tail size limit (Damaged offset) = ⊥
IsRefusal tail size limit (Full at need most) = (at ≡ tail) × (need ≡ size) × (most ≡ limit) × (limit < tail + size)
IsRefusal tail size limit Failed = ⊤
IsRefusal tail size limit NoMemory = ⊥

-- a stop meanwhile: a log of the rows that were told, some of them closed, and nothing was sent
pub record CloseLeaves (before : Story) (image bytes : List ℕ) : Type 0 where
  pub closing : IsClosing (content before) image
  pub nothing_sent : bytes ≡ sent before

-- all closings are told, and so many records
pub record HasClosed (limit : ℕ) (was : Log) (now : List ℕ) (tail number : ℕ) : Type 0 where
  pub log : log_of now ≡ Ok record { told = recovered was.told; tail = tail }
  pub closed : IsPartlyClosed was.told (recovered was.told)
  pub count : number ≡ (recovered was.told).count
  pub room : tail ≤ max was.tail limit

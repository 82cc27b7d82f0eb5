-- What a run has done: it was refused before its records, or it treated them.
use Rattle.std.specs.Prelude.{◌≡◌, ◌≢◌, ◌⊎◌, ◌<◌, ◌≤◌, ◌+◌, ℕ, List, [], ◌∷◌, ◌++◌, length, codes, max, Ok, Err}
use Rattle.plant_io.specs.Sink.{GainsPart}
use Rattle.plant_io.specs.Story.{content, sent, IsSettled}
use Rattle.plant_io.specs.declared.source.Source as source
use Rattle.aftr_base.specs.Drops.{drop_counts}
use Rattle.aftr_base.specs.declared.outcome.Status.{Status}
use Rattle.aftr_base.specs.declared.told.Told.{Told}
use Rattle.aftr_base.specs.declared.outcome.Status.TheVariants.{BadConfig, ReadFault, LogFault, LogDamaged, LogFull, NoMemory}
use Rattle.cfg_text.specs.declared.config.Config.{Config}
use Rattle.lease_log.specs.Log.{Log, log_of}
use Rattle.aftr_engine.specs.report.Lines.{summary}
use Rattle.egress_gate.specs.Logged.{Tells}
use Rattle.aftr_engine.specs.session.EndToEnd.{run_of, output_of, counts_of, summary_of, told_behind}
use Rattle.plant_io.specs.Uses.{HasRisen, SourceUse, PlantUse}
use Rattle.aftr_engine.specs.session.Begun.{StopsFor, IsAtRecordsEnd}
use Rattle.aftr_engine.specs.session.Fronts.{HasCome}
use Rattle.aftr_engine.specs.engine.Reported.{IsText}
use Rattle.recovery.specs.Answers.{HasNoRoom}
use Rattle.recovery.specs.Closings.{recovered}
use Rattle.recovery.specs.Leaves.{IsClosing}

-- ---- the objects

-- a call that looks at no configuration's bytes
abbrev pub no_source : SourceUse
no_source = record { tells = Unit {0}; bytes = []; left = []; faults = record { before = 0; after = 0 } }

-- what the first of a list has, or a value where there is none
abbrev pub at_first : {A B : Type 0} → B → (A → B) → List A → B
at_first none f [] = none
at_first none f (x ∷ xs) = f x

-- the first input
abbrev pub first_use : {S : Type 0} → source.Ghosts S → List S → List S → SourceUse
first_use g before after = record {
  tells = g.tells;
  bytes = at_first [] g.rest before;
  left = at_first [] g.rest after;
  faults = record { before = at_first 0 g.faults before; after = at_first 0 g.faults after };
}

-- ---- the log

-- The log has no more bytes that count than it had, or than the limit.
abbrev pub KeepsRoom : ℕ → List ℕ → List ℕ → Type 0
KeepsRoom limit before after =
    (was now : Log) → log_of before ≡ Ok was → log_of after ≡ Ok now → now.tail ≤ max was.tail limit

-- ---- before the records

-- Why a configuration is refused: it has a byte, or it can't be looked at.
abbrev pub RefusesConfig : SourceUse → Status → Type 0
RefusesConfig config (BadConfig key) = (key ≡ codes "text") × (config.tells → 0 < length config.bytes)
RefusesConfig config ReadFault = HasRisen config.faults
RefusesConfig config NoMemory = Unit {0}
RefusesConfig config other = ⊥

-- the next closings would pass the limit, and those before them are told
pub record LacksRoom (most : ℕ) (plant : PlantUse) (tail need limit : ℕ) : Type 0 where
  pub bound : limit ≡ most
  pub full : limit < tail + need
  pub numbers : plant.tells → HasNoRoom most (content plant.before) (content plant.after) tail need limit

-- the same bytes, or a log of the same rows, some of them closed at the told horizon
abbrev pub KeepsRows : List ℕ → List ℕ → Type 0
KeepsRows before after = (after ≡ before) ⊎ IsClosing before after

-- Why a log is refused: it is damaged, the closings of its open rows have no room, or it can't be looked at.
abbrev pub RefusesLog : ℕ → PlantUse → Status → Type 0
RefusesLog most plant LogFault = HasRisen plant.disk
RefusesLog most plant (LogDamaged offset) = plant.tells → log_of (content plant.before) ≡ Err offset
RefusesLog most plant (LogFull tail need limit) = LacksRoom most plant tail need limit
RefusesLog most plant NoMemory = Unit {0}
RefusesLog most plant other = ⊥

-- Why a run is refused: by its configuration, or, where that has no byte, by its log.
abbrev pub RefusesFor : Config → SourceUse → PlantUse → Status → Type 0
RefusesFor c config plant status =
    RefusesConfig config status ⊎ ((config.tells → config.bytes ≡ []) × RefusesLog c.log_limit plant status)

-- What a refused run leaves of the log: its bytes, or its rows, some of them closed at the told horizon. Of a log that failed
-- only what a stop leaves is known.
abbrev pub LeavesRows : PlantUse → Status → Type 0
LeavesRows plant LogFault = Unit {0}
LeavesRows plant (LogFull tail need limit) = KeepsRows (content plant.before) (content plant.after)
LeavesRows plant NoMemory = KeepsRows (content plant.before) (content plant.after)
LeavesRows plant other = content plant.after ≡ content plant.before

-- A refused run takes no byte of its input, sends nothing, leaves the log's rows, and drops nothing. Unless the log failed, it has
-- no more bytes that count than it had, or than the configuration lets it have.
pub record IsRefused (c : Config) (config input : SourceUse) (plant : PlantUse) (drops : List ℕ) (status : Status) : Type 0 where
  pub reason : RefusesFor c config plant status
  pub unread : input.tells → input.left ≡ input.bytes
  pub unsent : plant.tells → sent plant.after ≡ sent plant.before
  pub rows : plant.tells → LeavesRows plant status
  pub room : plant.tells → status ≢ LogFault → KeepsRoom c.log_limit (content plant.before) (content plant.after)
  pub undropped : drops ≡ drop_counts []

-- ---- the records

-- All records were treated: what was sent and dropped is what the translator's run over them sends and drops, and the log tells
-- that run's rows and horizon.
pub record IsWhole (c : Config) (from : Told) (input : SourceUse) (plant : PlantUse) (drops : List ℕ) : Type 0 where
  pub packets : input.tells → plant.tells → sent plant.after ≡ sent plant.before ++ output_of c from input.bytes
  pub told : input.tells → plant.tells → Tells (content plant.after) (told_behind from (run_of c from input.bytes))
  pub counts : input.tells → drops ≡ counts_of c from input.bytes

-- this is what the file told, with all rows closed
pub record BeginsFrom (file : List ℕ) (from : Told) : Type 0 where
  pub was : Told
  pub tells : Tells file was
  pub closed : from ≡ recovered was

-- A run with no configuration bytes, from what its log told with all rows closed. Wherever it ended, its packets are a part of the
-- output, from its start; and unless the log failed, it is settled, and has no more bytes that count than it had, or than the
-- configuration lets it have.
pub record HasRun (c : Config) (config input : SourceUse) (plant : PlantUse) (drops : List ℕ) (status : Status) : Type 0 where
  pub unset : config.tells → config.bytes ≡ []
  pub from : Told
  pub onto : plant.tells → BeginsFrom (content plant.before) from
  pub reason : StopsFor c input plant status
  pub whole : IsAtRecordsEnd status → IsWhole c from input plant drops
  pub came : HasCome c from input plant drops status
  pub part : input.tells → plant.tells → GainsPart (output_of c from input.bytes) (sent plant.before) (sent plant.after)
  pub room : plant.tells → status ≢ LogFault → KeepsRoom c.log_limit (content plant.before) (content plant.after)
  pub settled : plant.tells → status ≢ LogFault → IsSettled plant.after

-- what a run prints that ends well: how many records and packets there were, and what was dropped
pub record IsSummary (c : Config) (input : SourceUse) (plant : PlantUse) (drops text : List ℕ) : Type 0 where
  pub records : ℕ
  pub packets : ℕ
  pub says : text ≡ summary records packets drops
  pub whole : (was : Told) → input.tells → plant.tells → Tells (content plant.before) was
      → text ≡ summary_of c (recovered was) input.bytes

pub record RanAs (c : Config) (config input : SourceUse) (plant : PlantUse) (drops : List ℕ) (status : Status)
    (text : List ℕ) : Type 0 where
  pub did : IsRefused c config input plant drops status ⊎ HasRun c config input plant drops status
  pub says : IsText (IsSummary c input plant drops) status text

-- What a call has made of the objects that it was handed: each where it tells what it holds, but for its counts of faults.
use Rattle.std.specs.Prelude.{◌≡◌, ℕ, List, ◌++◌, Result, OnOk, OnErr}
use Rattle.plant_io.specs.Causes.{Rose, HasCause}
use Rattle.plant_io.specs.Sink.{GainsPart}
use Rattle.plant_io.specs.Story.{Story}
use Rattle.plant_io.specs.declared.source.Source as source
use Rattle.plant_io.specs.declared.plant.Plant as plant
use Rattle.plant_io.specs.declared.sink.Sink as sink

-- a count of faults before and after
pub record Count : Type 0 where
  pub before : ℕ
  pub after : ℕ

abbrev pub HasRisen : Count → Type 0
HasRisen c = Rose c.before c.after

-- the bytes that a source had, and those that it has left
pub record SourceUse : Type 1 where
  pub tells : Type 0
  pub bytes : List ℕ
  pub left : List ℕ
  pub faults : Count

-- the story of a log with its outlet
pub record PlantUse : Type 1 where
  pub tells : Type 0
  pub before : Story
  pub after : Story
  pub disk : Count
  pub outlet : Count

-- the bytes that were written before, and all that are written now
pub record SinkUse : Type 1 where
  pub tells : Type 0
  pub past : List ℕ
  pub now : List ℕ
  pub faults : Count

abbrev pub source_use : {S : Type 0} → source.Ghosts S → S → S → SourceUse
source_use g before after = record {
  tells = g.tells;
  bytes = g.rest before;
  left = g.rest after;
  faults = record { before = g.faults before; after = g.faults after };
}

abbrev pub plant_use : {P : Type 0} → plant.Ghosts P → P → P → PlantUse
plant_use g before after = record {
  tells = g.tells;
  before = g.story before;
  after = g.story after;
  disk = record { before = g.disk_faults before; after = g.disk_faults after };
  outlet = record { before = g.out_faults before; after = g.out_faults after };
}

abbrev pub sink_use : {R : Type 0} → sink.Ghosts R → R → R → SinkUse
sink_use g before after = record {
  tells = g.tells;
  past = g.written before;
  now = g.written after;
  faults = record { before = g.faults before; after = g.faults after };
}

-- the text was written behind what was there, or a write failed and a first part of it was
pub record Writes {T E : Type 0} (text : List ℕ) (sink : SinkUse) (result : Result T E) : Type 0 where
  pub all : sink.tells → OnOk result (sink.now ≡ sink.past ++ text)
  pub part : sink.tells → OnErr result (GainsPart text sink.past sink.now)
  pub cause : HasCause sink.faults.before sink.faults.after result

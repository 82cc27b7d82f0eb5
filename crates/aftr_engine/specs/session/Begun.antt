-- A run at its start, and why it stops.
use Rattle.std.specs.Prelude.{◌≡◌, ◌<◌, ℕ, ◌+◌, List, [], length}
use Rattle.aftr_base.specs.declared.event.Event.{Event}
use Rattle.aftr_base.specs.declared.told.Told.{Told}
use Rattle.aftr_base.specs.declared.outcome.Status.{Status}
use Rattle.aftr_base.specs.declared.outcome.Status.TheVariants.{Ok, BadInput, ReadFault, LogFault, LogFull, OutFault, NoMemory}
use Rattle.cfg_text.specs.declared.config.Config.{Config}
use Rattle.xlate_core.specs.Run.{start, told_of}
use Rattle.xlate_core.specs.State.{Step}
use Rattle.xlate_core.specs.Step.{step}
use Rattle.link_records.specs.Frames.{frames_of, AtEnd, BadAt}
use Rattle.aftr_engine.specs.declared.session.Session.{Session}
use Rattle.egress_gate.specs.declared.tally.Tally.{Tally}
use Rattle.lease_log.specs.Sound.{IsSound}
use Rattle.recovery.specs.Closings.{AreEnded}
use Rattle.trace_query.specs.Logs.{NamesOne}
use Rattle.egress_gate.specs.Counting.{IsZero}
use Rattle.egress_gate.specs.Held.{Held, held_of}
use Rattle.egress_gate.specs.Logged.{told_next}
use Rattle.aftr_engine.specs.session.EndToEnd.{run_of}
use Rattle.aftr_engine.specs.session.Progress.{TalliesRun}
use Rattle.plant_io.specs.Uses.{HasRisen, SourceUse, PlantUse}

-- what a log tells that a run can begin with and whose names can be believed: it is sound, no row is open, and no place has two
-- names at a moment
pub record CanBegin (told : Told) : Type 0 where
  pub sound : IsSound told
  pub ended : AreEnded told
  pub one : NamesOne told

abbrev pub tally_of : Session → Tally
tally_of s = s.gate.tally

abbrev pub config_of : Session → Config
config_of s = s.core.config

-- what the log tells, by the rows that the session has
abbrev pub told_at : Session → Told
told_at s = told_of s.core s.gate.count

-- what the session makes of a record, and what its gate then holds
abbrev pub step_of : Session → Event → Step
step_of s e = step s.core e

abbrev pub held_next : Session → Event → Held
held_next s e = held_of s.gate.count (step_of s e)

-- what the log tells once a record's events stand in it
abbrev pub told_then : Session → Event → Told
told_then s e = told_next s.gate.count (step_of s e)

-- nothing was read, translated, held, logged or counted since the log told this
pub record HasBegun (c : Config) (told : Told) (s : Session) : Type 0 where
  pub held : s.reader.held ≡ []
  pub offset : s.reader.offset ≡ 0
  pub state : s.core ≡ start c told
  pub count : s.gate.count ≡ told.count
  pub counts : IsZero s.gate.tally
  pub idle : s.gate.held.records ≡ 0

-- the counts are those of the run over the input
abbrev pub TalliesAs : Config → Told → List ℕ → Tally → Type 0
TalliesAs c told input t = TalliesRun (run_of c told input) (length (frames_of input).events) t

-- Each way to stop has its cause: the end of the records, a count of faults that rose, a log without room, or want of memory.
abbrev pub StopsFor : Config → SourceUse → PlantUse → Status → Type 0
StopsFor c input plant Ok = input.tells → (frames_of input.bytes).stop ≡ AtEnd
StopsFor c input plant (BadInput k offset) = (k ≡ 0) × (input.tells → (frames_of input.bytes).stop ≡ BadAt offset)
StopsFor c input plant ReadFault = HasRisen input.faults
StopsFor c input plant LogFault = HasRisen plant.disk
StopsFor c input plant (LogFull tail need limit) = (limit ≡ c.log_limit) × (limit < tail + need)
StopsFor c input plant OutFault = HasRisen plant.outlet
StopsFor c input plant NoMemory = Unit {0}
StopsFor c input plant other = ⊥

-- all records were treated
abbrev pub IsAtRecordsEnd : Status → Type 0
IsAtRecordsEnd Ok = Unit {0}
IsAtRecordsEnd (BadInput input offset) = Unit {0}
IsAtRecordsEnd other = ⊥

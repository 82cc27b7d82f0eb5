-- What a query has done: it read the log, and answers by what it tells.
use Rattle.std.specs.Prelude.{◌≡◌, ℕ, List, [], Option, Some, None, Err}
use Rattle.plant_io.specs.Story.{content}
use Rattle.plant_io.specs.Uses.{HasRisen, PlantUse}
use Rattle.aftr_base.specs.Drops.{drop_counts}
use Rattle.aftr_base.specs.declared.outcome.Status.{Status}
use Rattle.aftr_base.specs.declared.outcome.Status.TheVariants.{Ok, LogFault, LogDamaged, NoMemory}
use Rattle.aftr_base.specs.declared.told.Told.{Told}
use Rattle.lease_log.specs.Log.{log_of}
use Rattle.aftr_engine.specs.declared.words.Command.{Command}
use Rattle.aftr_engine.specs.declared.words.Command.TheVariants.{Init, Run, Trace, Leases}
use Rattle.trace_query.specs.Names.{name_of}
use Rattle.aftr_engine.specs.report.Lines.{trace_line, told_text}
use Rattle.egress_gate.specs.Logged.{Tells}
use Rattle.aftr_engine.specs.engine.Reported.{IsText, IsKept}

-- what a query answers by what a log tells; the other commands are none
abbrev pub answer_to : Command → Option (Told → List ℕ)
answer_to Init = None
answer_to Run = None
answer_to (Trace addr port at) = Some (λ told. trace_line (name_of told addr port at.0))
answer_to Leases = Some told_text

-- Why a query ends so: it names damage only where it is.
abbrev pub AnswersFor : PlantUse → Status → Type 0
AnswersFor plant Ok = Unit {0}
AnswersFor plant LogFault = HasRisen plant.disk
AnswersFor plant (LogDamaged offset) = plant.tells → log_of (content plant.before) ≡ Err offset
AnswersFor plant NoMemory = Unit {0}
AnswersFor plant other = ⊥

-- the answer by what the whole log tells
pub record IsAnswer (answer : Told → List ℕ) (plant : PlantUse) (text : List ℕ) : Type 0 where
  pub told : Told
  pub tells : plant.tells → Tells (content plant.before) told
  pub says : text ≡ answer told

-- A query changes no byte of the log, sends nothing and drops nothing.
pub record AnsweredAs (answer : Told → List ℕ) (plant : PlantUse) (drops : List ℕ) (status : Status) (text : List ℕ) : Type 0 where
  pub reason : AnswersFor plant status
  pub same : plant.tells → IsKept plant
  pub undropped : drops ≡ drop_counts []
  pub says : IsText (IsAnswer answer plant) status text

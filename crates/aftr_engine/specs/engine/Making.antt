-- What making a log has done.
use Rattle.std.specs.Prelude.{◌≡◌, ◌<◌, ℕ, List, [], length}
use Rattle.plant_io.specs.Story.{content, sent, IsSettled}
use Rattle.plant_io.specs.Stops.{StopsLeave}
use Rattle.plant_io.specs.Uses.{HasRisen, PlantUse}
use Rattle.aftr_base.specs.Drops.{drop_counts}
use Rattle.aftr_base.specs.declared.outcome.Status.{Status}
use Rattle.aftr_base.specs.declared.outcome.Status.TheVariants.{Ok, LogFault, AlreadyThere}
use Rattle.disk_journal.specs.Frames.{empty_log}
use Rattle.disk_journal.specs.Make.{MakeLeaves}
use Rattle.aftr_engine.specs.engine.Reported.{IsText, IsKept}

-- Why it ends so: a file that has a byte is there already. It never wants memory.
abbrev pub MakesFor : PlantUse → Status → Type 0
MakesFor plant Ok = plant.tells → content plant.before ≡ []
MakesFor plant LogFault = HasRisen plant.disk
MakesFor plant (AlreadyThere size) = (0 < size) × (plant.tells → size ≡ length (content plant.before))
MakesFor plant other = ⊥

-- A file without a byte becomes an empty log, which every stop since leaves; one that has a byte keeps all of them. A stop meanwhile
-- leaves what one at the start might have left, or of a file without a byte a part of an empty log's length.
pub record MadeAs (plant : PlantUse) (drops : List ℕ) (status : Status) (text : List ℕ) : Type 0 where
  pub reason : MakesFor plant status
  pub made : plant.tells → status ≡ Ok → content plant.after ≡ empty_log
  pub settled : plant.tells → status ≡ Ok → IsSettled plant.after
  pub same : (size : ℕ) → plant.tells → status ≡ AlreadyThere size → IsKept plant
  pub unsent : plant.tells → sent plant.after ≡ sent plant.before
  pub stops : plant.tells → StopsLeave plant.before plant.after (MakeLeaves plant.before)
  pub undropped : drops ≡ drop_counts []
  pub says : IsText (λ (answer : List ℕ). answer ≡ []) status text

-- What a call answers and prints, of what its command has done.
use Rattle.std.specs.Prelude.{◌≡◌, ◌≢◌, ◌⊎◌, ℕ, List, [], ◌++◌}
use Rattle.plant_io.specs.Sink.{GainsPart}
use Rattle.disk_journal.specs.Attach.{IsKept as IsKeptSince}
use Rattle.aftr_base.specs.Drops.{drop_counts}
use Rattle.aftr_base.specs.declared.outcome.Status.{Status}
use Rattle.aftr_base.specs.declared.outcome.Status.TheVariants.{Ok, BadWords, OutFault}
use Rattle.aftr_engine.specs.report.Lines.{fault_line}
use Rattle.plant_io.specs.Uses.{HasRisen, PlantUse, SinkUse}

-- The text of an end: an answer where it ends well, and else the line of its fault; an outlet that failed has none.
pub record IsText (IsAnswer : List ℕ → Type 0) (status : Status) (text : List ℕ) : Type 0 where
  pub good : status ≡ Ok → IsAnswer text
  pub outlet : status ≡ OutFault → text ≡ []
  pub fault : status ≢ Ok → status ≢ OutFault → text ≡ fault_line status

-- The report gained the text whole and the status is that of the text, or else a write of the report failed: then the status
-- is OutFault, and the report gained a first part of the text.
abbrev pub IsPrinted : SinkUse → Status → Status → List ℕ → Type 0
IsPrinted report was status text =
    ((status ≡ was) × (report.tells → report.now ≡ report.past ++ text))
    ⊎ ((status ≡ OutFault) × HasRisen report.faults × (report.tells → GainsPart text report.past report.now))

-- The command has done what it has done where it ends with one status and one text, and these were reported so.
pub record IsReported (report : SinkUse) (status : Status) (HasDone : Status → List ℕ → Type 0) : Type 0 where
  pub was : Status
  pub text : List ℕ
  pub done : HasDone was text
  pub printed : IsPrinted report was status text

-- The report only gained bytes, and of a status other than Ok its one line; a report or an outlet that failed has none.
pub record PrintsFault (report : SinkUse) (status : Status) : Type 0 where
  pub line : report.tells → status ≢ Ok → status ≢ OutFault → report.now ≡ report.past ++ fault_line status
  pub behind : report.tells → (more : List ℕ) × (report.now ≡ report.past ++ more)

-- the log has the bytes that it had, and nothing was sent; it may have been synced
abbrev pub IsKept : PlantUse → Type 0
IsKept plant = IsKeptSince plant.before plant.after

-- words that are no command are refused before anything is looked at
pub record IsNoCommand (drops : List ℕ) (status : Status) (text : List ℕ) : Type 0 where
  pub refused : status ≡ BadWords
  pub undropped : drops ≡ drop_counts []
  pub says : text ≡ fault_line BadWords

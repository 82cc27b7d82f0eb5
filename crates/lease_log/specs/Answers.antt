-- What reading a log answers.
use Rattle.std.specs.Prelude.{◌≡◌, ◌+◌, ⊤, ℕ, true, false, List, Result, Ok, Err, ◌≤◌, ◌*◌, length}
use Rattle.aftr_base.specs.Told.{nothing_told}
use Rattle.aftr_base.specs.declared.told.Told.{Told}
use Rattle.disk_journal.specs.Standing.{Standing}
use Rattle.lease_log.specs.Log.{Log, log_at}
use Rattle.lease_log.specs.Sound.{IsSound}
use Rattle.lease_log.specs.declared.reading.ToldBad.{ToldBad}
use Rattle.lease_log.specs.declared.reading.ToldBad.TheVariants.{Damaged, Failed, NoMemory}

-- an error says where the file is damaged, or doesn't speak of it
abbrev pub IsDamageOf : Result Log ℕ → ToldBad → Type 0
IsDamageOf log (Damaged offset) = log ≡ Err offset
IsDamageOf log Failed = ⊤
IsDamageOf log NoMemory = ⊤

-- the file tells this, and the journal stands at its tail; or it is damaged
abbrev pub TellsLog : Result Log ℕ → Result (Told × Standing) ToldBad → Type 0
TellsLog log (Ok read) = log ≡ Ok record { told = read.0; tail = read.1.at + 1 }
TellsLog log (Err bad) = IsDamageOf log bad

-- the same of the frames from the first on
abbrev pub TellsFrames : List ℕ → ℕ → Result Told ToldBad → Type 0
TellsFrames file at (Ok told) = log_at 16 nothing_told file ≡ Ok record { told = told; tail = at + 1 }
TellsFrames file at (Err bad) = IsDamageOf (log_at 16 nothing_told file) bad

-- how many rows are told
abbrev pub number_of_rows : Told → ℕ
number_of_rows t = length t.leases + length t.plans

-- the records are few beside so many bytes of a file, and each row has one that opened it
pub record AreFew (t : Told) (bytes : ℕ) : Type 0 where
  pub records : 8 * t.count ≤ bytes
  pub rows : number_of_rows t ≤ t.count

-- the journal is at its tail, and no commit has failed
pub record IsAtTail (journal : Standing) : Type 0 where
  pub at_tail : journal.at_tail ≡ true
  pub suspect : journal.suspect ≡ false

-- whatever the file is: what is told is sound, its records are few, and the journal is at its tail
pub record IsReadLog (read : Told × Standing) : Type 0 where
  pub sound : IsSound read.0
  pub few : AreFew read.0 read.1.at
  pub stands : IsAtTail read.1

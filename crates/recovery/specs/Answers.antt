-- What a restart answers.
use Rattle.std.specs.Prelude.{◌≡◌, ◌⊎◌, ◌≤◌, ◌<◌, ℕ, ◌+◌, ◌*◌, ◌^◌, List, length, take, max, Ok, Err, Result}
use Rattle.aftr_base.specs.Telling.{told_after}
use Rattle.lease_log.specs.Answers.{IsAtTail}
use Rattle.lease_log.specs.Log.{Log, log_of}
use Rattle.lease_log.specs.Sound.{IsSound}
use Rattle.recovery.specs.Closings.{AreEnded, IsPartlyClosed, closings_of, frame_body, recovered}
use Rattle.recovery.specs.Leaves.{IsClosing}
use Rattle.recovery.specs.declared.Ready.{Ready}
use Rattle.recovery.specs.declared.RecoverBad.{RecoverBad}
use Rattle.recovery.specs.declared.RecoverBad.TheVariants.{Damaged, Full, Failed, NoMemory}

-- whatever the file is: no row is open, what is told is sound, its records are few, and the journal is at its tail
pub record IsReady (ready : Ready) : Type 0 where
  pub ended : AreEnded ready.told
  pub few : ready.told.count < 2 ^ 62
  pub sound : IsSound ready.told
  pub stands : IsAtTail ready.journal

-- The rows are those that the file told, each open one closed at its horizon; the log tells them now, and has no more bytes than
-- before or than the limit.
pub record HasRecovered (limit : ℕ) (before now : List ℕ) (ready : Ready) : Type 0 where
  pub was : Log
  pub was_log : log_of before ≡ Ok was
  pub told : ready.told ≡ recovered was.told
  pub closed : IsPartlyClosed was.told (recovered was.told)
  pub found : ready.found ≡ was.told.count
  pub log : log_of now ≡ Ok record { told = ready.told; tail = ready.journal.at + 1 }
  pub room : ready.journal.at + 1 ≤ max was.tail limit

-- The next frame of closings has no room: the frames before it are told, and the log has no more bytes than before or than the
-- limit; the numbers are those of the next.
pub record HasNoRoom (most : ℕ) (before now : List ℕ) (tail need limit : ℕ) : Type 0 where
  pub was : Log
  pub log : Log
  pub frames : ℕ
  pub was_log : log_of before ≡ Ok was
  pub is_log : log_of now ≡ Ok log
  pub told : told_after (take (1024 * frames) (closings_of was.told)) was.told ≡ Ok log.told
  pub left : 1024 * frames < length (closings_of was.told)
  pub ends : tail ≡ log.tail
  pub asks : need ≡ length (frame_body was.told frames)
  pub bound : limit ≡ most
  pub full : limit < tail + need
  pub room : log.tail ≤ max was.tail most

-- a log of the rows that were told, some of them closed, with no more bytes than before or than the limit
pub record IsClosedSoFar (limit : ℕ) (before now : List ℕ) : Type 0 where
  pub closing : IsClosing before now
  pub room : closing.log.tail ≤ max closing.was.tail limit

-- no room means that the tail and what is needed are together over the limit
abbrev pub IsLack : ℕ → RecoverBad → Type 0
IsLack most (Full tail need limit) = (limit ≡ most) × (limit < tail + need)
IsLack most (Damaged offset) = Unit {0}
IsLack most Failed = Unit {0}
IsLack most NoMemory = Unit {0}

-- why a restart ends so, where the plant tells its content; what a call on the file's failing leaves is said of stops
abbrev pub RecoversTo : ℕ → List ℕ → List ℕ → Result Ready RecoverBad → Type 0
RecoversTo limit before now (Ok ready) = HasRecovered limit before now ready
RecoversTo limit before now (Err (Damaged offset)) = (log_of before ≡ Err offset) × (now ≡ before)
RecoversTo limit before now (Err (Full tail need most)) = HasNoRoom limit before now tail need most
RecoversTo limit before now (Err Failed) = Unit {0}
RecoversTo limit before now (Err NoMemory) = (now ≡ before) ⊎ IsClosedSoFar limit before now

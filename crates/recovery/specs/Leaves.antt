-- What a restart leaves, at its end and after a stop.
use Rattle.std.specs.Prelude.{◌≡◌, ◌⊎◌, ℕ, List, Ok}
use Rattle.plant_io.specs.Story.{Story, content, sent, IsImage}
use Rattle.lease_log.specs.Log.{Log, log_of}
use Rattle.recovery.specs.Closings.{IsPartlyClosed}

-- a log of the rows that the other file tells, some of them closed at the horizon that it tells
pub record IsClosing (before now : List ℕ) : Type 0 where
  pub was : Log
  pub log : Log
  pub was_log : log_of before ≡ Ok was
  pub is_log : log_of now ≡ Ok log
  pub part : IsPartlyClosed was.told log.told

-- a stop meanwhile: one of the files that a stop before may leave, or a log of its rows, some of them closed; nothing was sent
pub record RecoverLeaves (before : Story) (image bytes : List ℕ) : Type 0 where
  pub file : IsImage before image ⊎ IsClosing (content before) image
  pub nothing_sent : bytes ≡ sent before

-- What making a log leaves.
use Rattle.std.specs.Prelude.{◌≡◌, ◌⊎◌, ℕ, ◌≤◌, List, [], length}
use Rattle.plant_io.specs.Story.{Story, content, sent, IsImage, IsSettled}
use Rattle.disk_journal.specs.Frames.{empty_log}

-- a stop meanwhile: a file that a stop before may leave, or, of a file that was empty, at most 17 bytes
pub record MakeLeaves (before : Story) (image bytes : List ℕ) : Type 0 where
  pub file : IsImage before image ⊎ ((content before ≡ []) × (length image ≤ 17))
  pub nothing_sent : bytes ≡ sent before

-- the file was empty, is the empty log, and every stop from now on leaves that
pub record IsMade (before now : Story) : Type 0 where
  pub empty : content before ≡ []
  pub log : content now ≡ empty_log
  pub settled : IsSettled now
  pub nothing_sent : sent now ≡ sent before

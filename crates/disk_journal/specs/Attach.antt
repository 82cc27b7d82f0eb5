-- What attaching a journal to a file leaves.
use Rattle.std.specs.Prelude.{◌≡◌, ℕ, List}
use Rattle.plant_io.specs.Story.{Story, content, sent, IsImage}

-- a stop meanwhile: one of the files that a stop before may leave, and nothing was sent
pub record AttachLeaves (before : Story) (image bytes : List ℕ) : Type 0 where
  pub image_before : IsImage before image
  pub nothing_sent : bytes ≡ sent before

-- the file reads as before, and nothing was sent
pub record IsKept (before now : Story) : Type 0 where
  pub same : content now ≡ content before
  pub nothing_sent : sent now ≡ sent before

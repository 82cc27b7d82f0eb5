-- What a stop at any moment of a run leaves: a log that tells all that the sent packets' records came to.
use Rattle.std.specs.Prelude.{◌≡◌, ◌⊎◌, ℕ, List, ◌++◌, take}
use Rattle.plant_io.specs.Story.{Story, content, sent}
use Rattle.aftr_base.specs.declared.told.Told.{Told}
use Rattle.cfg_text.specs.declared.config.Config.{Config}
use Rattle.xlate_core.specs.Run.{Run}
use Rattle.xlate_core.specs.Valid.{IsStart}
use Rattle.recovery.specs.Closings.{recovered}
use Rattle.recovery.specs.Leaves.{RecoverLeaves}
use Rattle.egress_gate.specs.Logged.{Tells}
use Rattle.egress_gate.specs.Output.{output}
use Rattle.aftr_engine.specs.session.EndToEnd.{front_run, told_behind}

-- What was sent is a part of what this run sends, and the log that is left tells what it came to.
pub record IsAccounted (told : Told) (r : Run) (past image bytes : List ℕ) : Type 0 where
  pub count : ℕ
  pub sent : bytes ≡ past ++ take count (output r.items)
  pub tells : Tells image (told_behind told r)

-- so it is for a number of records from the input's start
abbrev pub AccountsFor : Config → Told → List ℕ → List ℕ → List ℕ → List ℕ → Type 0
AccountsFor c told input past image bytes = (records : ℕ) × IsAccounted told (front_run c told records input) past image bytes

-- a run began from what the log told at the start, with all rows closed, and what is left accounts for the records so far
pub record AccountsSince (c : Config) (input : List ℕ) (before : Story) (image bytes : List ℕ) : Type 0 where
  pub was : Told
  pub onto : Tells (content before) was
  pub begins : IsStart c (recovered was)
  pub accounts : AccountsFor c (recovered was) input (sent before) image bytes

-- what a restart leaves, with nothing sent since, or a log that accounts for all that was sent
abbrev pub LeavesLog : Config → List ℕ → Story → List ℕ → List ℕ → Type 0
LeavesLog c input before image bytes = RecoverLeaves before image bytes ⊎ AccountsSince c input before image bytes

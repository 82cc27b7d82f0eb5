-- What the log names after a stop at any moment (RFC 6888 section 4): for each packet that left whole the one subscriber whose it was.
use Rattle.std.specs.Prelude.{ℕ, List}
use Rattle.plant_io.specs.Story.{Story, content, IsImage}
use Rattle.plant_io.specs.Stops.{StopsLeave}
use Rattle.aftr_base.specs.declared.told.Told.{Told}
use Rattle.cfg_text.specs.declared.config.Config.{Config}
use Rattle.xlate_core.specs.declared.step_out.Item.{Item}
use Rattle.recovery.specs.Closings.{recovered}
use Rattle.recovery.specs.Laws.{IsLeft}
use Rattle.trace_query.specs.Logs.{AreBelieved, KeepsNames}
use Rattle.egress_gate.specs.Logged.{Tells}
use Rattle.egress_gate.specs.Answered.{NamesEachSent}
use Rattle.aftr_engine.specs.session.EndToEnd.{run_of}
use Rattle.aftr_engine.specs.session.Stops.{LeavesLog}

-- A stop at any moment since leaves a log that can be believed, that names each packet's subscriber, and that names whom each file
-- that a stop at the start might have left names.
pub record AnswersForEachPacket (before now : Story) (items : List Item) : Type 0 where
  pub logs : AreBelieved (IsLeft before now)
  pub senders : NamesEachSent before now items
  pub kept : KeepsNames (IsImage before) (IsLeft before now)

-- so it is where a stop at any moment leaves what a run's stops leave, and the files at the start can be believed
abbrev pub EachStopIsAnswered : Type 0
EachStopIsAnswered = (c : Config) (input : List ℕ) (before now : Story) (was : Told) → StopsLeave before now (LeavesLog c input before)
    → Tells (content before) was → AreBelieved (IsImage before) → AnswersForEachPacket before now (run_of c (recovered was) input).items

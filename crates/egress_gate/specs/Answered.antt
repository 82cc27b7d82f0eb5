-- What a log names after a stop at any moment (RFC 6888 section 4): for each packet that left whole the one subscriber whose it was.
use Rattle.std.specs.Prelude.{◌≡◌, ◌≢◌, ◌⊎◌, ◌≤◌, ◌<◌, ◌+◌, ℕ, suc, List, [], ◌∷◌, All, length, take, slice_get, Some}
use Rattle.plant_io.specs.Story.{Story, sent, IsImage}
use Rattle.plant_io.specs.Stops.{LeftSince}
use Rattle.aftr_base.specs.Limits.{moment_limit}
use Rattle.aftr_base.specs.declared.event.Event.{Event}
use Rattle.aftr_base.specs.declared.told.Told.{Told}
use Rattle.aftr_base.specs.declared.value.Ip4.{Ip4}
use Rattle.aftr_base.specs.declared.value.Subscriber.{Subscriber}
use Rattle.cfg_text.specs.declared.config.Config.{Config}
use Rattle.recovery.specs.Laws.{IsLeft}
use Rattle.trace_query.specs.Logs.{AreBelieved, Holds}
use Rattle.xlate_core.specs.Run.{run, start}
use Rattle.xlate_core.specs.State.{State, Step}
use Rattle.xlate_core.specs.Step.{log_of}
use Rattle.xlate_core.specs.Valid.{IsStart}
use Rattle.xlate_core.specs.declared.step_out.Item.{Item}
use Rattle.egress_gate.specs.Output.{output}
use Rattle.xlate_core.specs.Sources.{sender_of, source_of}

-- of what was sent since, the k-th item's record is there to its end
pub record IsWholeIn (past bytes : List ℕ) (items : List Item) (k : ℕ) : Type 0 where
  pub more : ℕ
  pub size : length bytes ≡ length past + more
  pub place : k < length items
  pub whole : length (output (take (suc k) items)) ≤ more

-- The file names the subscriber of each packet whose record is whole in what was sent, and nobody else, by the packet's source
-- address and port and its moment.
abbrev pub NamesEachSent : Story → Story → List Item → Type 0
NamesEachSent before now items =
    (file bytes : List ℕ) → LeftSince now (length before) file bytes → (k : ℕ) (i : Item) (owner : Subscriber)
    → slice_get items k ≡ Some i → sender_of i ≡ Some owner → IsWholeIn (sent before) bytes items k
    → Holds file (source_of i).addr (source_of i).port i.at.0 (owner ∷ [])

-- a state that a run comes to, from what a log told with all its rows closed
pub record IsComeTo (s : State) : Type 0 where
  pub config : Config
  pub told : Told
  pub seen : List Event
  pub begins : IsStart config told
  pub timely : All (λ (e : Event). e.at.0 ≤ moment_limit) seen
  pub reaches : s ≡ (run (start config told) seen).state

-- The moments whose names a batch leaves as they are: all, where it logs nothing. Else closings and openings stand at its clock, so
-- those below the clock, and at the clock those of a place that has a name.
abbrev pub IsSpared : Step → ℕ → List Subscriber → Type 0
IsSpared t at names = (log_of t ≡ []) ⊎ ((at < t.state.clock) ⊎ ((at ≡ t.state.clock) × (names ≢ [])))

-- A stop at any moment of a batch leaves a log that can be believed, that names each packet's subscriber, and that names whom each
-- file that a stop at the start might have left names.
pub record AnswersForBatch (before now : Story) (t : Step) : Type 0 where
  pub logs : AreBelieved (IsLeft before now)
  pub senders : NamesEachSent before now t.items
  pub kept : (addr : Ip4) (port at : ℕ) (names : List Subscriber) → IsSpared t at names
      → ((file : List ℕ) → IsImage before file → Holds file addr port at names)
      → (file : List ℕ) → IsLeft before now file → Holds file addr port at names

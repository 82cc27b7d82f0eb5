-- What holds of each record and of each run, whatever the records are: the log can be believed.
use Rattle.std.specs.Prelude.{◌≡◌, ◌≤◌, ◌+◌, ℕ, List, [], ◌∷◌, ◌++◌, length, Ok, IfSome, All}
use Rattle.aftr_base.specs.Limits.{moment_limit}
use Rattle.aftr_base.specs.Telling.{in_message_order, told_after}
use Rattle.aftr_base.specs.declared.event.Event.{Event}
use Rattle.aftr_base.specs.declared.event.LogEvent.{LogEvent}
use Rattle.aftr_base.specs.declared.told.Told.{Told}
use Rattle.cfg_text.specs.declared.config.Config.{Config}
use Rattle.xlate_core.specs.declared.step_out.Item.{Item}
use Rattle.xlate_core.specs.State.{State}
use Rattle.xlate_core.specs.Step.{log_of, step}
use Rattle.xlate_core.specs.Run.{run, start, told_of}
use Rattle.xlate_core.specs.Valid.{AreDisjoint, IsReached, IsStart, IsValid, KeepsTold}

-- what is logged of records, a message for each
abbrev pub messages : State → List Event → List LogEvent
messages s [] = []
messages s (e ∷ es) = let t = step s e in in_message_order (log_of t) ++ messages t.state es

-- no record bears a moment past the limit
abbrev pub KeepLimit : List Event → Type 0
KeepLimit events = All (λ (e : Event). e.at.0 ≤ moment_limit) events

-- A log that has the rows and the horizon of a state can be told what a record logs, and then has those of the state after it.
abbrev pub EachStepIsTold : Type 0
EachStepIsTold = (s : State) (e : Event) (count : ℕ) → IsReached s → s.clock ≤ moment_limit → e.at.0 ≤ moment_limit
    → told_after (in_message_order (log_of (step s e))) (told_of s count)
    ≡ Ok (told_of (step s e).state (count + length (log_of (step s e))))

-- So can the log that a run starts from, for all records of the run.
abbrev pub EachRunIsTold : Type 0
EachRunIsTold = (c : Config) (t : Told) (events : List Event) → IsStart c t → KeepLimit events
    → (let r = run (start c t) events in told_after (messages (start c t) events) t ≡ Ok (told_of r.state (t.count + length r.log)))

-- A subscriber's packet goes out at a moment that the horizon has reached by then.
abbrev pub IsAhead : ℕ → Item → Type 0
IsAhead horizon i = IfSome i.owner (λ owner. i.at.0 ≤ horizon)

abbrev pub EachStepIsAhead : Type 0
EachStepIsAhead = (s : State) (e : Event) → All (IsAhead (step s e).state.horizon) (step s e).items

-- The horizon never falls, so that the log has it for good.
abbrev pub EachRunIsAhead : Type 0
EachRunIsAhead = (s : State) (events : List Event) → All (IsAhead (run s events).state.horizon) (run s events).items

-- each state of a run is reached
abbrev pub EachRunIsReached : Type 0
EachRunIsReached = (c : Config) (t : Told) (events : List Event) → IsStart c t → IsReached (run (start c t) events).state

-- and valid, where no two of the leases at the start share a port at a moment
abbrev pub EachRunIsValid : Type 0
EachRunIsValid = (c : Config) (t : Told) (events : List Event) → IsStart c t → AreDisjoint t.leases → IsValid (run (start c t) events).state

-- a run leaves what the log told at its start
abbrev pub EachRunKeepsTold : Type 0
EachRunKeepsTold = (c : Config) (t : Told) (events : List Event) → IsStart c t → KeepsTold t (run (start c t) events).state

-- Whole runs: a fold of the steps.
use Rattle.std.specs.Prelude.{ℕ, List, [], ◌∷◌, ◌++◌, option_to_list}
use Rattle.aftr_base.specs.declared.event.Event.{Event}
use Rattle.aftr_base.specs.declared.event.LogEvent.{LogEvent}
use Rattle.aftr_base.specs.declared.event.DropCause.{DropCause}
use Rattle.aftr_base.specs.declared.told.Told.{Told}
use Rattle.aftr_base.specs.Told.{end_of}
use Rattle.aftr_base.specs.Value.{moment}
use Rattle.cfg_text.specs.declared.config.Config.{Config}
use Rattle.xlate_core.specs.declared.step_out.Item.{Item}
use Rattle.xlate_core.specs.State.{State, Step}
use Rattle.xlate_core.specs.Step.{step, log_of}

-- what a run came to, sent, logged and dropped
pub record Run : Type 0 where
  pub state : State
  pub items : List Item
  pub log : List LogEvent
  pub drops : List DropCause

abbrev pub at_rest : State → Run
at_rest s = record { state = s; items = []; log = []; drops = [] }

-- a step before what follows it
abbrev pub after_step : Step → Run → Run
after_step t next = record {
  state = next.state;
  items = t.items ++ next.items;
  log = log_of t ++ next.log;
  drops = option_to_list t.drop ++ next.drops;
}

-- each record in order
abbrev pub run : State → List Event → Run
run s [] = at_rest s
run s (e ∷ es) = let t = step s e in after_step t (run t.state es)

-- The state that a run starts from: nothing is mapped, and the rows and the horizon are those that the log tells. Up to the end
-- of what it tells packets settle.
abbrev pub start : Config → Told → State
start c told = record {
  config = c;
  clock = 0;
  floor = end_of told;
  horizon = told.horizon.0;
  rows = [];
  leases = told.leases;
  plans = told.plans;
  kept = [];
  cuts = [];
}

-- what a log tells that has the rows and the horizon of a state, in so many records
abbrev pub told_of : State → ℕ → Told
told_of s count = record { leases = s.leases; plans = s.plans; horizon = moment s.horizon; count = count }

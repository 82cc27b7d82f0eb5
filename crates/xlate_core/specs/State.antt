-- The state of the translator, as lists in order of making.
use Rattle.std.specs.Prelude.{ℕ, ◌+◌, Bool, nat_lt, List, Option, max}
use Rattle.aftr_base.specs.Value.{moment}
use Rattle.aftr_base.specs.declared.value.Side.{Side}
use Rattle.aftr_base.specs.declared.value.Subscriber.{Subscriber}
use Rattle.aftr_base.specs.declared.row.LeaseRow.{LeaseRow}
use Rattle.aftr_base.specs.declared.row.PlanRow.{PlanRow}
use Rattle.aftr_base.specs.declared.event.DropCause.{DropCause}
use Rattle.aftr_base.specs.declared.event.LogEvent.{LogEvent}
use Rattle.cfg_text.specs.declared.config.Config.{Config}
use Rattle.frag_reasm.specs.declared.pieces.PartialDatagram.{PartialDatagram}
use Rattle.fragment_ids.specs.declared.Count.{Count}
use Rattle.nat_mapping.specs.Rows.{Mapping}
use Rattle.xlate_core.specs.declared.step_out.Item.{Item}

-- The clock is the greatest moment so far. A packet at or before the floor settles: up to there an earlier run may have
-- named other subscribers. The log has promised names up to the horizon. Plans are carried along: none opens yet. Pieces are
-- kept of datagrams that aren't whole, and packets are counted that were cut for each subscriber's softwires.
pub record State : Type 0 where
  pub config : Config
  pub clock : ℕ
  pub floor : ℕ
  pub horizon : ℕ
  pub rows : List Mapping
  pub leases : List LeaseRow
  pub plans : List PlanRow
  pub kept : List PartialDatagram
  pub cuts : List Count

-- the greatest moment that a row of the state may bear
abbrev pub latest : State → ℕ
latest s = max s.clock s.floor

-- the clock is past the horizon, and how far the horizon then goes
abbrev pub is_past_horizon : State → Bool
is_past_horizon s = nat_lt s.horizon s.clock

abbrev pub reach_of : State → ℕ
reach_of s = s.clock + s.config.horizon_ms

-- what a record leaves, sends and logs, and why it was dropped, if it was
pub record Step : Type 0 where
  pub state : State
  pub items : List Item
  pub closings : List LogEvent
  pub openings : List LogEvent
  pub drop : Option DropCause

-- a packet that leaves, at the clock's moment
abbrev pub item : State → Side → Option Subscriber → List ℕ → Item
item s side owner bytes = record { side = side; at = moment s.clock; owner = owner; bytes = bytes }

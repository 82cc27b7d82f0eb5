-- What goes when the clock is raised.
use Rattle.std.specs.Prelude.{◌≡◌, true, ℕ, zero, suc, Bool, false, not, ◌&&◌, nat_le, List, [], ◌∷◌, map, filter, take, if◌then◌else◌}
use Rattle.std.specs.List.{list_any}
use Rattle.aftr_base.specs.Row.{is_open, ended, block_event}
use Rattle.aftr_base.specs.declared.row.LeaseRow.{LeaseRow}
use Rattle.aftr_base.specs.declared.event.LogEvent.{LogEvent}
use Rattle.frag_reasm.specs.Offers.{live}
use Rattle.nat_mapping.specs.Rows.{Mapping}
use Rattle.nat_mapping.specs.Rows.{in_use, expired}
use Rattle.xlate_core.specs.State.{State}

-- an open lease in whose range no row has its place
abbrev pub is_idle : List Mapping → LeaseRow → Bool
is_idle rows l = is_open l && not (in_use l.addr l.first l.last rows)

abbrev pub has_idle : List Mapping → List LeaseRow → Bool
has_idle rows leases = list_any (is_idle rows) leases

-- the leases after the first n idle ones ended
abbrev pub with_idle_ended : ℕ → ℕ → List Mapping → List LeaseRow → List LeaseRow
with_idle_ended zero now rows ls = ls
with_idle_ended (suc n) now rows [] = []
with_idle_ended (suc n) now rows (l ∷ ls) =
    (if is_idle rows l then ended now l else l) ∷ with_idle_ended (if is_idle rows l then n else suc n) now rows ls

-- a lease as it was, or ended now because it was idle
pub data MayEnd (now : ℕ) (rows : List Mapping) (l m : LeaseRow) : Type 0 where
  Lasts : m ≡ l → MayEnd now rows l m
  Idle : is_idle rows l ≡ true → m ≡ ended now l → MayEnd now rows l m

-- the closings of the first n idle leases, in order of opening
abbrev pub closings_of : ℕ → ℕ → List Mapping → List LeaseRow → List LogEvent
closings_of n now rows leases = map (block_event false now) (take n (filter (is_idle rows) leases))

-- how many leases end at one moment, at the most
abbrev pub closing_limit : ℕ
closing_limit = 512

-- a state, and the closings on the way to it
pub record Closed : Type 0 where
  pub state : State
  pub closings : List LogEvent

abbrev pub leases_ended : State → Closed
leases_ended s = record {
  state = record s { leases = with_idle_ended closing_limit s.clock s.rows s.leases };
  closings = closings_of closing_limit s.clock s.rows s.leases;
}

-- A record whose moment is past the clock raises it: peers, rows and old pieces go, and then idle leases.
abbrev pub at_moment : ℕ → State → Closed
at_moment at s =
    if nat_le at s.clock then record { state = s; closings = [] }
    else leases_ended (record s { clock = at; rows = expired at s.rows; kept = live at s.kept })

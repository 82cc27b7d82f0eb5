-- How far a run has come, by the records that it has seen.
use Rattle.std.specs.Prelude.{◌≡◌, ℕ, List, ◌++◌, length}
use Rattle.aftr_base.specs.declared.event.Event.{Event}
use Rattle.aftr_base.specs.declared.told.Told.{Told}
use Rattle.aftr_base.specs.Drops.{drop_counts}
use Rattle.xlate_core.specs.Run.{Run}
use Rattle.link_records.specs.Frames.{Input, frames_of, frames_from}
use Rattle.egress_gate.specs.Logged.{EndsAt}
use Rattle.egress_gate.specs.Output.{output}
use Rattle.egress_gate.specs.declared.tally.Tally.{Tally}
use Rattle.aftr_engine.specs.session.EndToEnd.{told_behind}

-- these records before those of an input
abbrev pub with_events : List Event → Input → Input
with_events seen i = record i { events = seen ++ i.events }

-- the counts are those of this run over so many records
pub record TalliesRun (r : Run) (number : ℕ) (t : Tally) : Type 0 where
  pub records : t.records ≡ number
  pub sent : t.sent ≡ length r.items
  pub drops : t.drops.0 ≡ drop_counts r.drops

-- its packets were sent, and the log tells what it came to
pub record HasSent (told : Told) (r : Run) (past now log : List ℕ) (tail : ℕ) : Type 0 where
  pub packets : now ≡ past ++ output r.items
  pub tells : EndsAt log (told_behind told r) tail

-- The records are those before this offset of the input, where these bytes are left: the bytes before it hold these records,
-- whatever comes behind them.
pub record HasRead (seen : List Event) (input : List ℕ) (offset : ℕ) (left : List ℕ) : Type 0 where
  pub past : List ℕ
  pub whole : input ≡ past ++ left
  pub next : (tail : List ℕ) → frames_of (past ++ tail) ≡ with_events seen (frames_from offset tail)

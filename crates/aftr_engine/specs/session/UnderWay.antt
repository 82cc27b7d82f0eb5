-- A run under way: the records that it has seen account for all that it has done.
use Rattle.std.specs.Prelude.{◌≡◌, ◌≤◌, ℕ, ◌+◌, ◌*◌, List, All, length, max}
use Rattle.aftr_base.specs.Limits.{moment_limit}
use Rattle.aftr_base.specs.declared.event.Event.{Event}
use Rattle.aftr_base.specs.declared.told.Told.{Told}
use Rattle.cfg_text.specs.declared.config.Config.{Config}
use Rattle.xlate_core.specs.State.{State}
use Rattle.xlate_core.specs.Run.{run, start}
use Rattle.link_records.specs.Frames.{input_limit}
use Rattle.egress_gate.specs.Held.{Gated}
use Rattle.aftr_engine.specs.session.Progress.{TalliesRun, HasSent, HasRead}

-- where a run stands: the bytes that are left behind the offset, what was sent, the log's bytes, and those that count
pub record Standing : Type 0 where
  pub left : List ℕ
  pub offset : ℕ
  pub sent : List ℕ
  pub log : List ℕ
  pub tail : ℕ

-- The input and the plant have their part where they tell what they hold. The log began with so many bytes that count.
pub record IsUnderWay (c : Config) (told : Told) (began : ℕ) (input_tells plant_tells : Type 0) (input past : List ℕ) (w : Standing)
    (state : State) (p : Gated) : Type 0 where
  pub seen : List Event
  pub timely : All (λ (e : Event). e.at.0 ≤ moment_limit) seen
  pub reaches : state ≡ (run (start c told) seen).state
  pub counts : TalliesRun (run (start c told) seen) (length seen) p.tally
  pub logged : p.count ≡ told.count + length (run (start c told) seen).log
  pub read : input_tells → HasRead seen input w.offset w.left
  pub done : plant_tells → HasSent told (run (start c told) seen) past w.sent w.log w.tail
  pub room : w.tail ≤ max began c.log_limit
  pub few : 13 * length seen ≤ w.offset
  pub within : w.offset ≤ input_limit

-- What a step has done, over what it is defined to do.
use Rattle.std.specs.Prelude.{◌≡◌, ◌≤◌, List, ◌++◌, length, Option, All}
use Rattle.aftr_base.specs.declared.event.DropCause.{DropCause}
use Rattle.aftr_base.specs.declared.event.LogEvent.{LogEvent}
use Rattle.xlate_core.specs.declared.step_out.Item.{Item}
use Rattle.xlate_core.specs.declared.step_out.StepOut.{StepOut}
use Rattle.xlate_core.specs.State.{State, Step}
use Rattle.xlate_core.specs.Step.{log_of}
use Rattle.xlate_core.specs.Expiry.{Closed}

-- each item is an IP packet, whose length is a 16-bit number
abbrev pub AreShort : List Item → Type 0
AreShort items = All (λ (i : Item). length i.bytes ≤ 65535) items

-- The state and the cause are those of the step, and its packets and log events stand behind those that were there.
pub record HasStepped (t : Step) (before : StepOut) (state : State) (after : StepOut) (cause : Option DropCause) : Type 0 where
  pub reaches : state ≡ t.state
  pub packets : after.items ≡ before.items ++ t.items
  pub logged : after.log ≡ before.log ++ log_of t
  pub refusal : cause ≡ t.drop
  pub short : AreShort t.items

-- the clock was raised: the state and the closings are those of that
pub record HasMoved (c : Closed) (state : State) (before after : List LogEvent) : Type 0 where
  pub reaches : state ≡ c.state
  pub logged : after ≡ before ++ c.closings

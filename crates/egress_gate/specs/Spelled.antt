-- What one record gave, spelled.
use Rattle.std.specs.Prelude.{◌≡◌, ℕ}
use Rattle.xlate_core.specs.State.{State, Step}
use Rattle.egress_gate.specs.Held.{held_in, held_of}
use Rattle.egress_gate.specs.declared.batch.Batch.{Batch}

-- the state is the step's, and the batch has what the step gives, behind so many data records
pub record HasSpelled (t : Step) (before : ℕ) (state : State) (b : Batch) : Type 0 where
  pub reaches : state ≡ t.state
  pub holds : held_in b ≡ held_of before t

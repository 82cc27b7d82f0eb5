-- What a gate counts.
use Rattle.std.specs.Prelude.{◌≡◌, ◌<◌, ◌+◌, ◌^◌, List, [], ◌++◌, EachIndex, slice_index}
use Rattle.aftr_base.specs.declared.event.DropCause.{DropCause}
use Rattle.aftr_base.specs.Drops.{drop_counts}
use Rattle.egress_gate.specs.Held.{Held}
use Rattle.egress_gate.specs.declared.tally.Tally.{Tally}

-- the records, packets and drops that were held are counted too
pub record HasCounted (h : Held) (before after : Tally) : Type 0 where
  pub records : after.records ≡ before.records + h.records
  pub sent : after.sent ≡ before.sent + h.items
  pub drops : (drops : List DropCause) → before.drops.0 ≡ drop_counts drops → after.drops.0 ≡ drop_counts (drops ++ h.drops)

-- no count is near its type's end
pub record AreFew (t : Tally) : Type 0 where
  pub records : t.records < 2 ^ 60
  pub sent : t.sent < 2 ^ 60
  pub drops : EachIndex t.drops.0 (λ k. slice_index t.drops.0 k < 2 ^ 63)

-- nothing was counted
pub record IsZero (t : Tally) : Type 0 where
  pub records : t.records ≡ 0
  pub sent : t.sent ≡ 0
  pub drops : t.drops.0 ≡ drop_counts []

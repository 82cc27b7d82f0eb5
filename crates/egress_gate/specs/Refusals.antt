-- Why what is held goes no further.
use Rattle.std.specs.Prelude.{◌≡◌, ◌<◌, ℕ, ◌+◌, List, length}
use Rattle.plant_io.specs.Uses.{HasRisen, PlantUse}
use Rattle.egress_gate.specs.declared.refusal.Lack.{Lack}
use Rattle.egress_gate.specs.declared.refusal.PassFailed.{PassFailed}
use Rattle.egress_gate.specs.declared.refusal.PassFailed.TheVariants.{NoMemory, Full, Log, Outlet}

-- the log has no room for these bytes behind its tail
pub record IsLack (body : List ℕ) (end most : ℕ) (l : Lack) : Type 0 where
  pub tail : l.tail ≡ end
  pub need : l.need ≡ length body
  pub limit : l.limit ≡ most
  pub full : most < end + length body

-- each refusal has its cause
abbrev pub FailsFor : List ℕ → ℕ → ℕ → PlantUse → PassFailed → Type 0
FailsFor body tail limit plant NoMemory = Unit {0}
FailsFor body tail limit plant (Full lack) = IsLack body tail limit lack
FailsFor body tail limit plant Log = HasRisen plant.disk
FailsFor body tail limit plant Outlet = HasRisen plant.outlet

-- the log and the outlet weren't touched
abbrev pub IsUntouched : PassFailed → Type 0
IsUntouched NoMemory = Unit {0}
IsUntouched (Full lack) = Unit {0}
IsUntouched Log = ⊥
IsUntouched Outlet = ⊥

-- no cause but the log's
abbrev pub IsDiskOnly : PassFailed → Type 0
IsDiskOnly NoMemory = ⊥
IsDiskOnly (Full lack) = Unit {0}
IsDiskOnly Log = Unit {0}
IsDiskOnly Outlet = ⊥

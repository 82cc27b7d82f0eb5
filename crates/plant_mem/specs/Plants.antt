-- What contracts see of the plants in memory.
use Rattle.std.specs.Prelude.{◌≡◌, ◌⊎◌, ℕ, ◌≤◌, List, [], ◌∷◌, ◌++◌, length}
use Rattle.std.specs.List.{Contains}
use Rattle.plant_io.specs.Story.{Story}
use Rattle.plant_mem.specs.declared.tape.PlantCall.{PlantCall}
use Rattle.plant_mem.specs.declared.mem_plant.MemPlant.{MemPlant}
use Rattle.plant_mem.specs.declared.stop_plant.StopPlant.{StopPlant}

abbrev pub mem_story : MemPlant → Story
mem_story plant = plant.tape.story

-- the kinds of the calls made, in order
abbrev pub mem_calls : MemPlant → List PlantCall
mem_calls plant = plant.tape.calls

abbrev pub mem_disk_faults : MemPlant → ℕ
mem_disk_faults plant = plant.tape.disk_faults

abbrev pub mem_out_faults : MemPlant → ℕ
mem_out_faults plant = plant.tape.out_faults

-- the numbers of the calls that fail
abbrev pub mem_fail_at : MemPlant → List ℕ
mem_fail_at plant = plant.fail_at

-- the next call is to fail
abbrev pub IsPlanned : MemPlant → Type 0
IsPlanned plant = Contains (mem_fail_at plant) (length (mem_calls plant))

-- the call is kept as the next of the calls made
abbrev pub IsKept : PlantCall → MemPlant → MemPlant → Type 0
IsKept call before now = mem_calls now ≡ mem_calls before ++ call ∷ []

-- A call passed: it wasn't planned to fail, and it counts no fault.
pub record Passes (call : PlantCall) (before now : MemPlant) : Type 0 where
  pub unplanned : ¬ IsPlanned before
  pub kept : IsKept call before now
  pub disk_faults : mem_disk_faults now ≡ mem_disk_faults before
  pub out_faults : mem_out_faults now ≡ mem_out_faults before
  pub fail_at : mem_fail_at now ≡ mem_fail_at before

-- A call failed. Either that was planned, and then it is kept and leaves this story; or memory was refused, and then
-- it isn't kept and did nothing.
pub record Fails (call : PlantCall) (left : Story) (before now : MemPlant) : Type 0 where
  pub how : (IsPlanned before × IsKept call before now × (mem_story now ≡ left)) ⊎ ((mem_calls now ≡ mem_calls before) × (mem_story now ≡ mem_story before))
  pub fail_at : mem_fail_at now ≡ mem_fail_at before

abbrev pub stop_story : StopPlant → Story
stop_story plant = plant.tape.story

-- the kinds of the calls that passed, in order
abbrev pub stop_calls : StopPlant → List PlantCall
stop_calls plant = plant.tape.calls

abbrev pub stop_disk_faults : StopPlant → ℕ
stop_disk_faults plant = plant.tape.disk_faults

abbrev pub stop_out_faults : StopPlant → ℕ
stop_out_faults plant = plant.tape.out_faults

-- how many calls pass
abbrev pub stop_after : StopPlant → ℕ
stop_after plant = plant.after

-- as many calls as pass have passed
abbrev pub IsStopped : StopPlant → Type 0
IsStopped plant = stop_after plant ≤ length (stop_calls plant)

-- A call passed: the plant hadn't stopped, and the call counts no fault.
pub record PassesBefore (call : PlantCall) (before now : StopPlant) : Type 0 where
  pub running : ¬ IsStopped before
  pub kept : stop_calls now ≡ stop_calls before ++ call ∷ []
  pub disk_faults : stop_disk_faults now ≡ stop_disk_faults before
  pub out_faults : stop_out_faults now ≡ stop_out_faults before
  pub after : stop_after now ≡ stop_after before

-- A call failed, and but for the counts of faults nothing changed.
pub record DidNothing (before now : StopPlant) : Type 0 where
  pub story : stop_story now ≡ stop_story before
  pub calls : stop_calls now ≡ stop_calls before
  pub after : stop_after now ≡ stop_after before

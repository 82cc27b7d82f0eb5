-- What an answer of a reader says of itself, whether its source tells its bytes or not.
use Rattle.std.specs.Prelude.{◌≡◌, ◌≤◌, ℕ, ◌+◌, List, None}
use Rattle.plant_io.specs.Causes.{Rose}
use Rattle.link_records.specs.declared.Next.{Next}
use Rattle.link_records.specs.declared.Next.TheVariants.{Got, End, Bad, Failed, NoMemory}
use Rattle.aftr_base.specs.Limits.{moment_limit}
use Rattle.link_records.specs.Frames.{event_at, input_limit}

-- a record's moment is in its range
abbrev pub IsTimely : Next → Type 0
IsTimely (Got e) = e.at.0 ≤ moment_limit
IsTimely End = Unit {0}
IsTimely (Bad offset) = Unit {0}
IsTimely Failed = Unit {0}
IsTimely NoMemory = Unit {0}

-- a record takes at least its 13 bytes up to its body, and nothing else takes any
abbrev pub Advances : ℕ → ℕ → Next → Type 0
Advances at at' (Got e) = (at + 13 ≤ at') × (at' ≤ input_limit)
Advances at at' End = at' ≡ at
Advances at at' (Bad offset) = at' ≡ at
Advances at at' Failed = at' ≡ at
Advances at at' NoMemory = at' ≡ at

-- the bad offset is where the reader stands
abbrev pub IsBadHere : ℕ → Next → Type 0
IsBadHere at (Got e) = Unit {0}
IsBadHere at End = Unit {0}
IsBadHere at (Bad offset) = offset ≡ at
IsBadHere at Failed = Unit {0}
IsBadHere at NoMemory = Unit {0}

-- a failure has a cause: the source's faults rose
abbrev pub HasFault : ℕ → ℕ → Next → Type 0
HasFault faults faults' (Got e) = Unit {0}
HasFault faults faults' End = Unit {0}
HasFault faults faults' (Bad offset) = Unit {0}
HasFault faults faults' Failed = Rose faults faults'
HasFault faults faults' NoMemory = Unit {0}

-- where the source failed, no whole record is at hand
abbrev pub HoldsNone : ℕ → List ℕ → Next → Type 0
HoldsNone at held (Got e) = Unit {0}
HoldsNone at held End = Unit {0}
HoldsNone at held (Bad offset) = Unit {0}
HoldsNone at held Failed = event_at at held ≡ None
HoldsNone at held NoMemory = Unit {0}

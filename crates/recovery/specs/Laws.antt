-- What closing rows changes of names: nothing, as an open row is named up to the same horizon.
use Rattle.std.specs.Prelude.{◌≡◌, ℕ, List, length}
use Rattle.aftr_base.specs.declared.told.Told.{Told}
use Rattle.aftr_base.specs.declared.value.Ip4.{Ip4}
use Rattle.aftr_base.specs.declared.value.Subscriber.{Subscriber}
use Rattle.plant_io.specs.Story.{Story}
use Rattle.plant_io.specs.Stops.{LeftSince}
use Rattle.trace_query.specs.Names.{names_of}
use Rattle.trace_query.specs.Logs.{Holds, IsBelieved}
use Rattle.recovery.specs.Closings.{recovered}
use Rattle.recovery.specs.Leaves.{IsClosing}

-- a stop at some moment since leaves this file
abbrev pub IsLeft : Story → Story → List ℕ → Type 0
IsLeft before now file = (bytes : List ℕ) × LeftSince now (length before) file bytes

abbrev pub EachClosingIsBelieved : Type 0
EachClosingIsBelieved = (before now : List ℕ) → IsClosing before now → IsBelieved before → IsBelieved now

abbrev pub EachClosingKeepsNames : Type 0
EachClosingKeepsNames = (before now : List ℕ) → IsClosing before now
    → (addr : Ip4) (port at : ℕ) (names : List Subscriber) → Holds before addr port at names → Holds now addr port at names

abbrev pub RecoveredKeepsNames : Type 0
RecoveredKeepsNames = (t : Told) (addr : Ip4) (port at : ℕ) → names_of (recovered t) addr port at ≡ names_of t addr port at

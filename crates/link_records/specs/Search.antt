-- How a reader finds the next record: it looks at the bytes at hand, and reads until they tell.
use Rattle.std.specs.Prelude.{◌≡◌, ◌<◌, ℕ, List, [], length, None}
use Rattle.plant_io.specs.Causes.{Rose}
use Rattle.link_records.specs.declared.reader.Found.{Found}
use Rattle.link_records.specs.declared.reader.Found.TheVariants.{Record, End, Bad, Failed}
use Rattle.link_records.specs.Frames.{event_at}
use Rattle.link_records.specs.Front.{IsHead}

-- what the bytes at hand are after the search
abbrev pub Finds : ℕ → List ℕ → Found → Type 0
Finds at bytes (Record head) = IsHead at bytes head
Finds at bytes End = bytes ≡ []
Finds at bytes Bad = 0 < length bytes
Finds at bytes Failed = event_at at bytes ≡ None

-- the bytes that are left stay, and the answer is about all of them
abbrev pub FindsWhole : ℕ → List ℕ → List ℕ → Found → Type 0
FindsWhole at left left' (Record head) = left' ≡ left
FindsWhole at left left' End = (left' ≡ left) × (left ≡ [])
FindsWhole at left left' Bad = (left' ≡ left) × (event_at at left ≡ None)
FindsWhole at left left' Failed = left' ≡ left

-- a search fails for a cause alone
abbrev pub FailsFor : ℕ → ℕ → Found → Type 0
FailsFor faults faults' (Record head) = Unit {0}
FailsFor faults faults' End = Unit {0}
FailsFor faults faults' Bad = Unit {0}
FailsFor faults faults' Failed = Rose faults faults'

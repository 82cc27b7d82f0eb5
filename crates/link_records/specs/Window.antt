-- What a window holds, and what one more read makes of it.
use Rattle.std.specs.Prelude.{◌≡◌, ◌<◌, ℕ, List, [], length, slice_range}
use Rattle.plant_io.specs.Causes.{Rose}
use Rattle.link_records.specs.declared.window.Window.{Window}
use Rattle.link_records.specs.declared.window.Fill.{Fill}
use Rattle.link_records.specs.declared.window.Fill.TheVariants.{More, End, Failed}

-- the bytes of a window
abbrev pub held : Window → List ℕ
held w = slice_range w.buffer.items w.first w.end

-- a read leaves the input's bytes as they are in order, and finds the end only there
abbrev pub FillsWhole : List ℕ → List ℕ → List ℕ → Fill → Type 0
FillsWhole whole whole' rest More = whole' ≡ whole
FillsWhole whole whole' rest End = (whole' ≡ whole) × (rest ≡ [])
FillsWhole whole whole' rest Failed = whole' ≡ whole

-- a read gains a byte, or ends, or fails for a cause
abbrev pub Fills : List ℕ → List ℕ → ℕ → ℕ → Fill → Type 0
Fills bytes bytes' faults faults' More = length bytes < length bytes'
Fills bytes bytes' faults faults' End = bytes' ≡ bytes
Fills bytes bytes' faults faults' Failed = (bytes' ≡ bytes) × Rose faults faults'

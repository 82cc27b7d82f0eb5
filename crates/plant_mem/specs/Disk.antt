-- What a file in memory holds.
use Rattle.std.specs.Prelude.{ℕ, List, Option, None, Some, Vec}
use Rattle.std.specs.declared.alloc.Global.{Global}
use Rattle.plant_mem.specs.declared.disk.Disk.{Disk}

abbrev pub bytes_of : List ℕ → Option (Vec ℕ Global) → List ℕ
bytes_of start None = start
bytes_of start (Some changed) = changed.items

-- the bytes at the start
abbrev pub start_of : Disk → List ℕ
start_of disk = disk.start

-- the bytes now
abbrev pub bytes_now : Disk → List ℕ
bytes_now disk = bytes_of disk.start disk.changed

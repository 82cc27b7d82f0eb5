-- Where a journal stands in its file.
use Rattle.std.specs.Prelude.{ℕ, ◌+◌, Bool, true, false, List, length}
use Rattle.disk_journal.specs.declared.format.Frame.{Frame}
use Rattle.disk_journal.specs.declared.format.Frame.TheVariants.{Got, Tail, Damaged, Failed as NotRead, NoMemory}
use Rattle.disk_journal.specs.declared.format.Commit.{Commit}
use Rattle.disk_journal.specs.declared.format.Commit.TheVariants.{Done, Full, Failed as NotCommitted}

pub record Standing : Type 0 where
  -- the offset of the gate where it stands
  pub at : ℕ
  -- that gate was found closed
  pub at_tail : Bool
  -- a commit has failed
  pub suspect : Bool

-- before the first frame
abbrev pub at_first_gate : Standing
at_first_gate = record { at = 16; at_tail = false; suspect = false }

-- behind a frame that was read, at the tail that was found, or where it stood
abbrev pub after_read : Frame → List ℕ → Standing → Standing
after_read (Got offset) message s = record s { at = s.at + 5 + length message; at_tail = false }
after_read Tail message s = record s { at_tail = true }
after_read (Damaged offset) message s = s
after_read NotRead message s = s
after_read NoMemory message s = s

-- behind the frame that was committed, or where it stood
abbrev pub after_commit : Commit → List ℕ → Standing → Standing
after_commit Done body s = record s { at = s.at + length body }
after_commit (Full tail need limit) body s = s
after_commit NotCommitted body s = record s { suspect = true }

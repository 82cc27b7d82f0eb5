-- What reading a frame answers.
use Rattle.std.specs.Prelude.{◌≡◌, ℕ, ◌+◌, List, ◌∷◌, ◌++◌, length, drop, Ok, Err}
use Rattle.aftr_base.specs.Bytes.{be32}
use Rattle.disk_journal.specs.Frames.{IsMessage}
use Rattle.disk_journal.specs.Walk.{walk_from, no_messages, after_message}
use Rattle.disk_journal.specs.declared.format.Frame.{Frame}
use Rattle.disk_journal.specs.declared.format.Frame.TheVariants.{Got, Tail, Damaged, Failed, NoMemory}

-- what the file is from the gate at this offset on: the message and what follows its frame, or nothing more
abbrev pub IsNextFrame : List ℕ → ℕ → List ℕ → Frame → Type 0
IsNextFrame file at message (Got offset) = walk_from at file ≡ after_message message (walk_from (at + 5 + length message) file)
IsNextFrame file at message Tail = walk_from at file ≡ no_messages (Ok (at + 1))
IsNextFrame file at message (Damaged offset) = walk_from at file ≡ no_messages (Err at)
IsNextFrame file at message Failed = Unit {0}
IsNextFrame file at message NoMemory = Unit {0}

-- an answer that bears an offset bears that of the gate, and a message has a length in range
abbrev pub IsFrameAt : ℕ → List ℕ → Frame → Type 0
IsFrameAt at message (Got offset) = (offset ≡ at) × IsMessage message
IsFrameAt at message Tail = Unit {0}
IsFrameAt at message (Damaged offset) = offset ≡ at
IsFrameAt at message Failed = Unit {0}
IsFrameAt at message NoMemory = Unit {0}

-- a fact of a message that was read
abbrev pub OnGot : Frame → Type 0 → Type 0
OnGot (Got offset) P = P
OnGot Tail P = Unit {0}
OnGot (Damaged offset) P = Unit {0}
OnGot Failed P = Unit {0}
OnGot NoMemory P = Unit {0}

-- at this offset stands an open gate, and then this length
abbrev pub OpensAt : List ℕ → ℕ → ℕ → Type 0
OpensAt file at len = drop at file ≡ 1 ∷ (be32 len ++ drop (at + 5) file)

-- What a log file tells, or where it is damaged.
use Rattle.std.specs.Prelude.{ℕ, ◌+◌, List, [], ◌∷◌, length, Result, Ok}
use Rattle.aftr_base.specs.Attempt.{◌>>=◌, refused_as}
use Rattle.aftr_base.specs.Telling.{told_after}
use Rattle.aftr_base.specs.Told.{nothing_told}
use Rattle.aftr_base.specs.declared.told.Told.{Told}
use Rattle.disk_journal.specs.Walk.{Walk, walk_from, walk_of}
use Rattle.nat_events.specs.Reading.{events_of}

-- what a log tells, and the length of the file that counts, in bytes: the closed gate at its end is the last byte of it
pub record Log : Type 0 where
  pub told : Told
  pub tail : ℕ

-- what is told after a message: its events in order, where it is a log message in its place
abbrev pub after_message : Told → List ℕ → Result Told (Unit {0})
after_message t message = events_of t.count message >>= λ events. told_after events t

-- The messages of frames, the first of whose gates is at this offset. The first that can't be told is damage at its own
-- gate; where all are told, the frames' end is the log's.
abbrev pub log_from : ℕ → Told → List (List ℕ) → Result ℕ ℕ → Result Log ℕ
log_from at t [] end = end >>= λ tail. Ok record { told = t; tail = tail }
log_from at t (message ∷ messages) end =
    refused_as (after_message t message) at >>= λ next. log_from (at + 5 + length message) next messages end

abbrev pub log_of_walk : ℕ → Told → Walk → Result Log ℕ
log_of_walk at t walk = log_from at t walk.messages walk.end

-- the same of the file's frames from this gate on, after what was told
abbrev pub log_at : ℕ → Told → List ℕ → Result Log ℕ
log_at at t file = log_of_walk at t (walk_from at file)

-- what the file tells, or the offset of its damage
abbrev pub log_of : List ℕ → Result Log ℕ
log_of file = log_of_walk 16 nothing_told (walk_of file)

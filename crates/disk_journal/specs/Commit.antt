-- What a commit leaves.
use Rattle.std.specs.Prelude.{◌≡◌, ◌⊎◌, ℕ, ◌+◌, ◌<◌, ◌≤◌, List}
use Rattle.plant_io.specs.Story.{Story, content, sent, IsSettled}
use Rattle.disk_journal.specs.Walk.{walk_of, with_message, StandsAt}
use Rattle.disk_journal.specs.declared.format.Commit.{Commit}
use Rattle.disk_journal.specs.declared.format.Commit.TheVariants.{Done, Full, Failed}

-- a stop during a commit: the log as before or with the message, and nothing was sent
pub record CommitLeaves (before : Story) (message image bytes : List ℕ) : Type 0 where
  pub log : (walk_of image ≡ walk_of (content before)) ⊎ (walk_of image ≡ with_message message (walk_of (content before)))
  pub nothing_sent : bytes ≡ sent before

-- the log has one message more, the tail stands behind it, and every stop from now on leaves that log
pub record IsCommitted (before now : Story) (message : List ℕ) (tail : ℕ) : Type 0 where
  pub log : walk_of (content now) ≡ with_message message (walk_of (content before))
  pub stands : StandsAt (content now) tail
  pub settled : IsSettled now
  pub nothing_sent : sent now ≡ sent before

abbrev pub OnDone : Commit → Type 0 → Type 0
OnDone Done P = P
OnDone (Full tail need limit) P = Unit {0}
OnDone Failed P = Unit {0}

abbrev pub OnFull : Commit → Type 0 → Type 0
OnFull Done P = Unit {0}
OnFull (Full tail need limit) P = P
OnFull Failed P = Unit {0}

-- the log is full, with these numbers, exactly where the body doesn't fit below the limit
abbrev pub IsFullAt : ℕ → ℕ → ℕ → Commit → Type 0
IsFullAt tail need limit Done = tail + need ≤ limit
IsFullAt tail need limit (Full at size most) = (at ≡ tail) × (size ≡ need) × (most ≡ limit) × (limit < tail + need)
IsFullAt tail need limit Failed = tail + need ≤ limit

-- What a log tells once a batch's message was committed.
use Rattle.std.proofs.Common.{◌≡◌, ℕ, ◌+◌, List, length, inl, inr, sym, ap, ◌∙◌, arith}
use Rattle.std.specs.Prelude.{Result, Ok}
use Rattle.aftr_base.specs.Attempt.{◌>>=◌}
use Rattle.aftr_base.specs.Telling.{told_after}
use Rattle.aftr_base.specs.Told.{nothing_told}
use Rattle.aftr_base.specs.declared.event.LogEvent.{LogEvent}
use Rattle.plant_io.specs.Story.{Story, content}
use Rattle.plant_io.specs.Stops.{StopsLeave}
use Rattle.plant_io.proofs.Moments.{weaker}
use Rattle.disk_journal.specs.Commit.{CommitLeaves, IsCommitted, OnDone}
use Rattle.disk_journal.specs.Frames.{message_of}
use Rattle.disk_journal.specs.Walk.{walk_of, with_message, StandsAt}
use Rattle.disk_journal.specs.declared.format.Commit.{Commit}
use Rattle.disk_journal.specs.declared.format.Commit.TheVariants.{Done, Full, Failed}
use Rattle.disk_journal.proofs.Spellings.{message_of-body_of, length-body_of}
use Rattle.nat_events.specs.Grammar.{FitsLogMessage, MessagesReadBack}
use Rattle.nat_events.specs.Reading.{events_of}
use Rattle.nat_events.specs.Spelling.{message}
use Rattle.lease_log.specs.Batch.{Batch, batch_body, CanAppend, TellsMore, AppendLeaves, HasAppended}
use Rattle.lease_log.specs.Log.{Log, after_message, log_of_walk}
use Rattle.lease_log.proofs.LogSteps.{log_more, log_stands}

-- a log ends at its tail
pub stands : (file : List ℕ) (tail : ℕ) (batch : Batch) → CanAppend file tail batch → StandsAt file tail
stands file tail batch can = log_stands (walk_of file).messages 16 (walk_of file).end nothing_told record { told = can.told; tail = tail } can.log

module _ (before : List ℕ) (tail : ℕ) (batch : Batch) (can : CanAppend before tail batch) (law : MessagesReadBack)
    (fits : FitsLogMessage batch.at batch.count batch.events) where
  abbrev m : List ℕ
  m = message batch.at batch.count batch.events

  -- the message's events follow
  follows : after_message can.told m ≡ Ok can.next
  follows =
      ap (λ (n : ℕ). events_of n m >>= λ events. told_after events can.told) (sym can.count)
      ∙ ap (λ (r : Result (List LogEvent) (Unit {0})). r >>= λ events. told_after events can.told) (law batch.at batch.count batch.events fits)
      ∙ can.follows

  pub tells_more : (now : List ℕ) → walk_of now ≡ with_message (message_of (batch_body batch)) (walk_of before) → TellsMore before now batch
  tells_more now walk =
      let back : message_of (batch_body batch) ≡ m = message_of-body_of m in
      let more = log_more (walk_of before).messages m 16 (5 + length m) (walk_of before).end nothing_told can.next record { told = can.told; tail = tail } can.log follows in
      let size : tail + (5 + length m) ≡ tail + length (batch_body batch) = omega (arith, length-body_of m) in
      record {
        told = can.told;
        tail = tail;
        next = can.next;
        was = can.log;
        follows = can.follows;
        log = ap (log_of_walk 16 nothing_told) (walk ∙ ap (λ (l : List ℕ). with_message l (walk_of before)) back) ∙ more
            ∙ ap (λ (n : ℕ). let r : Result Log ℕ = Ok record { told = can.next; tail = n } in r) size;
      }

-- a stop during the commit
leaves : (before : Story) (tail : ℕ) (batch : Batch) → CanAppend (content before) tail batch → MessagesReadBack
    → FitsLogMessage batch.at batch.count batch.events
    → (image bytes : List ℕ) → CommitLeaves before (message_of (batch_body batch)) image bytes → AppendLeaves before batch image bytes
leaves before tail batch can law fits image bytes left = record {
  log = elim left.log [
    | inl same ↦ inl (ap (log_of_walk 16 nothing_told) same)
    | inr more ↦ inr (tells_more (content before) tail batch can law fits image more)
  ];
  nothing_sent = left.nothing_sent;
}

pub stops : (before now : Story) (tail : ℕ) (batch : Batch) → CanAppend (content before) tail batch → MessagesReadBack
    → FitsLogMessage batch.at batch.count batch.events
    → StopsLeave before now (CommitLeaves before (message_of (batch_body batch)))
    → StopsLeave before now (AppendLeaves before batch)
stops before now tail batch can law fits left =
    weaker before now (CommitLeaves before (message_of (batch_body batch))) (AppendLeaves before batch)
    (λ image bytes h. leaves before tail batch can law fits image bytes h) left

-- once it is done
pub appended : (before now : Story) (tail tail' : ℕ) (batch : Batch) (answer : Commit) → CanAppend (content before) tail batch → MessagesReadBack
    → FitsLogMessage batch.at batch.count batch.events
    → OnDone answer (IsCommitted before now (message_of (batch_body batch)) tail')
    → OnDone answer (HasAppended before now batch)
appended before now tail tail' batch Done can law fits is = record {
  log = tells_more (content before) tail batch can law fits (content now) is.log;
  settled = is.settled;
  nothing_sent = is.nothing_sent;
}
appended before now tail tail' batch (Full at need limit) can law fits is = tt
appended before now tail tail' batch Failed can law fits is = tt

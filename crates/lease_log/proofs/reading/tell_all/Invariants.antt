use Rattle.std.proofs.Common.{◌≡◌, ◌<◌, ◌+◌, ◌^◌, length}
use Rattle.std.specs.Vec.Iter.{into_iter_items}
use Rattle.aftr_base.specs.Telling.{told_after}
use Rattle.lease_log.proofs.reading.tell_all.Given as goal

-- the events that are left lead on as all did
abbrev pub invariant-loop-event : goal.invariant-loop-event
invariant-loop-event l = record {
  told : told_after (into_iter_items l.event-iterator) l.told ≡ told_after l.fn.events l.fn.told;
  fits : l.told.count + length (into_iter_items l.event-iterator) < 2 ^ 64;
}

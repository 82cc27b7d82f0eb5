use Rattle.std.proofs.Common.{◌≡◌, ◌≤◌, ◌+◌, length}
use Rattle.lease_log.specs.Answers.{IsAtTail}
use Rattle.recovery.specs.Closings.{closings_of, lease_closings}
use Rattle.recovery.specs.Frames.{log_at_tail}
use Rattle.recovery.proofs.FrameSteps.{IsUnderWay}
use Rattle.recovery.proofs.closing.commit_closings.Given as goal

-- the frames so far are told, and the batch and the leases that are left have the other closings
abbrev pub invariant-loop-passed : goal.invariant-loop-passed
invariant-loop-passed g l = record {
  way : IsUnderWay g.P.Plant.tells (log_at_tail l.fn.told l.fn.journal) l.limit (g.P.Plant.story l.fn.plant) (g.P.Plant.story l.plant)
      (l.journal.at + 1) l.batch l.rest;
  count : l.batch.count ≡ l.count;
  left : l.count + (length l.batch.events + length (lease_closings l.fn.told.horizon l.rest)) ≡ l.fn.told.count + length (closings_of l.fn.told);
  journal : IsAtTail l.journal;
  later : g.P.Plant.disk_faults l.fn.plant ≤ g.P.Plant.disk_faults l.plant;
  outlet : g.P.Plant.out_faults l.plant ≡ g.P.Plant.out_faults l.fn.plant;
}

-- each frame takes the batch's events or leases
abbrev pub decreases-loop-passed : goal.decreases-loop-passed
decreases-loop-passed g l = length l.rest + length l.batch.events

use Rattle.std.proofs.Common.{◌≡◌, take}
use Rattle.egress_gate.proofs.batch.collect.Given as goal

-- the events so far stand in the batch
abbrev pub invariant-loop-event : goal.invariant-loop-event
invariant-loop-event l = l.batch ≡ record l.fn.batch { events = take l.event-index l.events }

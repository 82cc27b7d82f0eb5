use Rattle.std.proofs.Common.{◌≤◌, All, take}
use Rattle.nat_mapping.proofs.Deadlines.{IsFrom}
use Rattle.nat_mapping.proofs.row.earliest_deadline.Given as goal

-- the least so far
abbrev pub invariant-loop-peer : goal.invariant-loop-peer
invariant-loop-peer l = record {
  before : l.earliest.0 ≤ l.fn.or.0;
  so_far : All (IsFrom l.earliest.0) (take l.peer-index l.peers);
}

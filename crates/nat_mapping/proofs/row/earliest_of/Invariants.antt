use Rattle.std.proofs.Common.{All, take}
use Rattle.nat_mapping.proofs.Deadlines.{AreFrom}
use Rattle.nat_mapping.proofs.row.earliest_of.Given as goal

-- none of the rows so far has a peer that goes before
abbrev pub invariant-loop-row : goal.invariant-loop-row
invariant-loop-row l = All (AreFrom l.earliest.0) (take l.row-index l.rows)

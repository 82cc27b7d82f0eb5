use Rattle.std.proofs.Common.{◌≡◌, ◌+◌, min, take}
use Rattle.std.specs.List.{sum_by}
use Rattle.nat_mapping.proofs.Usages.{most, peers_in, rows_in}
use Rattle.nat_mapping.proofs.search.holding_from.Given as goal

-- what the owner has in the rows so far
abbrev pub invariant-loop-row : goal.invariant-loop-row
invariant-loop-row l = record {
  rows : l.holding.rows ≡ min (sum_by (rows_in l.owner) (take (l.fn.from.0 + l.row-index) l.rows)) most;
  peers : l.holding.peers ≡ min (sum_by (peers_in l.owner) (take (l.fn.from.0 + l.row-index) l.rows)) most;
}

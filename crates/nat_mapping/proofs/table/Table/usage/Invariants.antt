use Rattle.std.proofs.Common.{◌≡◌, ◌-◌, ◌^◌, ◌≤◌, min, take}
use Rattle.std.specs.List.{sum_by}
use Rattle.nat_mapping.proofs.Usages.{peers_in, rows_in}
use Rattle.nat_mapping.proofs.table.Table.usage.Given as goal

-- what the rows so far come to
abbrev pub invariant-loop-row : goal.invariant-loop-row
invariant-loop-row l = record {
  rows : l.rows ≡ sum_by (rows_in l.owner) (take l.row-index l.row-items);
  few : l.rows ≤ l.row-index;
  peers : l.peers ≡ min (sum_by (peers_in l.owner) (take l.row-index l.row-items)) (2 ^ 64 - 1);
}

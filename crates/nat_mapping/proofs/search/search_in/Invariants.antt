use Rattle.std.proofs.Common.{◌≡◌, ◌<◌, ℕ, false, get_or, min, take}
use Rattle.std.specs.List.{sum_by}
use Rattle.nat_mapping.specs.declared.row.Row.{Row}
use Rattle.nat_mapping.specs.Rows.{is_of, mapping_of}
use Rattle.nat_mapping.proofs.Marks.{AreMarked}
use Rattle.nat_mapping.proofs.Usages.{most, peers_in, rows_in}
use Rattle.nat_mapping.proofs.search.search_in.Given as goal

-- what the owner has in the rows so far, none of which is the key's, and the marks of their ports
abbrev pub invariant-loop-at : goal.invariant-loop-at
invariant-loop-at l = record {
  rows : l.before.rows ≡ min (sum_by (rows_in l.owner) (take l.at l.rows)) most;
  peers : l.before.peers ≡ min (sum_by (peers_in l.owner) (take l.at l.rows)) most;
  missed : (k : ℕ) (d : Row) → k < l.at → is_of l.key (mapping_of (get_or l.rows k d)) ≡ false;
  marks : AreMarked l.taken l.key.proto l.rows l.at l.addr;
}

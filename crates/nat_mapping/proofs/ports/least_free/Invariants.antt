use Rattle.std.proofs.Common.{◌≡◌, ◌+◌, ◌-◌, map}
use Rattle.std.specs.Prelude.{find}
use Rattle.aftr_base.proofs.Searches.{numbers}
use Rattle.nat_mapping.specs.Rows.{is_free, least_free, mapping_of}
use Rattle.nat_mapping.proofs.ports.least_free.Given as goal

-- nothing was found before this port
abbrev pub invariant-loop-from : goal.invariant-loop-from
invariant-loop-from l =
    find (is_free l.fn.proto l.fn.addr (map mapping_of l.fn.rows)) (numbers l.from (l.fn.last + 1))
    ≡ least_free l.fn.proto l.fn.addr l.fn.first l.fn.last (map mapping_of l.fn.rows)

abbrev pub decreases-loop-from : goal.decreases-loop-from
decreases-loop-from l = l.end - l.from

use Rattle.std.proofs.Common.{◌≡◌, map}
use Rattle.std.specs.Prelude.{find}
use Rattle.aftr_base.proofs.Searches.{numbers}
use Rattle.nat_mapping.specs.Rows.{is_free, mapping_of}
use Rattle.nat_mapping.proofs.ports.least_free_in.Given as goal

-- nothing was found so far
abbrev pub invariant-loop-port : goal.invariant-loop-port
invariant-loop-port l =
    find (is_free l.fn.proto l.fn.addr (map mapping_of l.fn.rows)) (numbers l.port l.fn.until)
    ≡ find (is_free l.fn.proto l.fn.addr (map mapping_of l.fn.rows)) (numbers l.fn.from l.fn.until)

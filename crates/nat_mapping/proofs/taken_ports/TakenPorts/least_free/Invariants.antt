use Rattle.std.proofs.Common.{◌≡◌, ◌+◌, List}
use Rattle.std.specs.Prelude.{find}
use Rattle.aftr_base.proofs.Searches.{numbers}
use Rattle.aftr_base.specs.declared.value.Ip4.{Ip4}
use Rattle.aftr_base.specs.declared.value.Proto.{Proto}
use Rattle.nat_mapping.specs.Rows.{Mapping, MarksPorts, is_free, least_free}
use Rattle.nat_mapping.proofs.taken_ports.TakenPorts.least_free.Given as goal

-- no port was free so far
abbrev pub invariant-loop-port : goal.invariant-loop-port
invariant-loop-port l = (proto : Proto) (addr : Ip4) (rows : List Mapping) → MarksPorts l.self proto addr rows
    → find (is_free proto addr rows) (numbers l.port (l.fn.last + 1)) ≡ least_free proto addr l.fn.first l.fn.last rows

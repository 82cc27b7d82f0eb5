use Rattle.std.proofs.Common.{◌<◌, ◌+◌, not, ap, sym, ◌∙◌, arith}
use Rattle.aftr_base.proofs.Searches.{find_passed}
use Rattle.nat_mapping.specs.Rows.{is_free}
use Rattle.nat_mapping.proofs.Parts.{find_first}
use Rattle.nat_mapping.proofs.taken_ports.TakenPorts.least_free.Goals as goal

pub returns-then-not-is_taken : goal.returns-then-not-is_taken
returns-then-not-is_taken c = λ proto addr rows marks.
    let port = c.loop-port.port in
    let lt : port < c.args.last + 1 = omega arith in
    let in_range : port < 65536 = omega (arith, c.ranges.last.fits) in
    let free = ap not (sym (marks port in_range) ∙ sym c.is_taken.ensures ∙ c.if-not-is_taken.true) in
    sym (find_first (is_free proto addr rows) port (c.args.last + 1) lt free) ∙ c.loop-port.invariant proto addr rows marks

pub loop-port-preserved : goal.loop-port-preserved
loop-port-preserved c = λ proto addr rows marks.
    let port = c.loop-port.port in
    let lt : port < c.args.last + 1 = omega arith in
    let in_range : port < 65536 = omega (arith, c.ranges.last.fits) in
    let taken = ap not (sym (marks port in_range) ∙ sym c.is_taken.ensures ∙ c.if-not-is_taken.false) in
    sym (find_passed (is_free proto addr rows) port (c.args.last + 1) lt taken) ∙ c.loop-port.invariant proto addr rows marks

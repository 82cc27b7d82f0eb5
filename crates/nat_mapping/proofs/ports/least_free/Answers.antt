use Rattle.std.proofs.Common.{◌≤◌, ◌+◌, map, sym, ◌∙◌, arith}
use Rattle.nat_mapping.specs.Rows.{is_free, mapping_of}
use Rattle.nat_mapping.proofs.Parts.{find_here, find_later, not_some}
use Rattle.nat_mapping.proofs.ports.least_free.Goals as goal

pub returns-then-is_some : goal.returns-then-is_some
returns-then-is_some c =
    let le : c.loop-from.from ≤ c.min-until.result = omega arith in
    let le' : c.min-until.result ≤ c.args.last + 1 = omega arith in
    sym (find_here (is_free c.args.proto c.args.addr (map mapping_of c.args.rows.now)) c.loop-from.from c.min-until.result (c.args.last + 1)
    c.least_free_in-found.result le le' (sym c.least_free_in-found.ensures) (sym c.is_some.ensures ∙ c.if-is_some.true))
    ∙ c.loop-from.invariant

pub loop-from-preserved : goal.loop-from-preserved
loop-from-preserved c =
    let le : c.loop-from.from ≤ c.min-until.result = omega arith in
    let le' : c.min-until.result ≤ c.args.last + 1 = omega arith in
    sym (find_later (is_free c.args.proto c.args.addr (map mapping_of c.args.rows.now)) c.loop-from.from c.min-until.result (c.args.last + 1)
    le le' (sym c.least_free_in-found.ensures ∙ not_some c.least_free_in-found.result (sym c.is_some.ensures ∙ c.if-is_some.false)))
    ∙ c.loop-from.invariant

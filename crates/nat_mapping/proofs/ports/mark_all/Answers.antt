use Rattle.std.proofs.Common.{◌+◌, ap, sym, ◌∙◌, arith}
use Rattle.std.specs.List.{list_any}
use Rattle.std.proofs.lemmas.List.{take_all}
use Rattle.aftr_base.specs.Value.{place}
use Rattle.nat_mapping.specs.declared.row.Row.{Row}
use Rattle.nat_mapping.specs.Rows.{is_at, mapping_of}
use Rattle.nat_mapping.proofs.Mapped.{list_any-map}
use Rattle.nat_mapping.proofs.ports.mark_all.Goals as goal

pub returns : goal.returns
returns c = λ i lt.
    c.loop-row.invariant i lt
    ∙ ap (list_any (λ (r : Row). is_at c.args.proto (place c.args.addr (c.args.from + i)) (mapping_of r))) (take_all c.loop-row.row-index c.args.rows.now (omega arith))
    ∙ sym (list_any-map mapping_of (is_at c.args.proto (place c.args.addr (c.args.from + i))) c.args.rows.now)

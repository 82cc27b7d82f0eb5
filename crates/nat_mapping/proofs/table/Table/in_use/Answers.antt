use Rattle.std.proofs.Common.{ap, sym, ◌∙◌}
use Rattle.std.specs.List.{list_any}
use Rattle.nat_mapping.specs.declared.row.Row.{Row}
use Rattle.nat_mapping.specs.Rows.{Mappings, in_use, lies_in, mapping_of}
use Rattle.nat_mapping.proofs.Mapped.{list_any-map}
use Rattle.nat_mapping.proofs.table.Table.in_use.Goals as goal

pub returns : goal.returns
returns c =
    c.lies_within.ensures ∙ ap (list_any (λ (r : Row). lies_in c.args.addr c.args.first c.args.last (mapping_of r))) c.deref.ensures.value
    ∙ sym (list_any-map mapping_of (lies_in c.args.addr c.args.first c.args.last) c.self.inside.rows.items)
    ∙ ap (λ (t : Mappings). in_use c.args.addr c.args.first c.args.last t.rows) c.self.view_is

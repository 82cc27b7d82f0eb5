use Rattle.std.proofs.Common.{List, map, ap, ◌∙◌}
use Rattle.std.specs.List.{position}
use Rattle.nat_mapping.specs.declared.row.Row.{Row}
use Rattle.nat_mapping.specs.Rows.{Mappings, is_of, mapping_of, row_id, row_of}
use Rattle.nat_mapping.proofs.Mapped.{none_of, none_passes}
use Rattle.nat_mapping.proofs.table.Table.search.Goals as goal

pub returns-clause-unused : goal.returns-clause-unused
returns-clause-unused c =
    let key = c.args.key.now in
    let rows = c.args.self.now.rows in
    let named = c.search_in.ensures.row ∙ ap (λ (rs : List Row). row_of key (map mapping_of rs)) c.deref.ensures.value
    ∙ ap (λ (t : Mappings). row_of key t.rows) c.self.view_is in
    none_of row_id (position (is_of key) rows) c.search_in.result.row named (λ none. none_passes (is_of key) rows none)

use Rattle.std.proofs.Common.{◌<◌, length, ◌≡◌, rules, ap, sym, ◌∙◌}
use Rattle.std.specs.Prelude.{option_map}
use Rattle.std.specs.List.{position}
use Rattle.nat_mapping.specs.declared.row.Row.{Row}
use Rattle.nat_mapping.specs.Rows.{Mappings, are_apart, is_of, mapping_of, row_id}
use Rattle.nat_mapping.proofs.Mapped.{position-map, none_of, none_passes, place_within, some_of}
use Rattle.nat_mapping.proofs.table.Table.find_out.Goals as goal

at_is : (c : goal.After-map) → c.out_at.result ≡ position (is_of c.args.key.now) c.args.self.now.rows
at_is c =
    c.out_at.ensures ∙ ap (position (λ (r : Row). is_of c.args.key.now (mapping_of r))) c.deref.ensures.value
    ∙ sym (position-map mapping_of (is_of c.args.key.now) c.self.inside.rows.items)
    ∙ ap (λ (t : Mappings). position (is_of c.args.key.now) t.rows) c.self.view_is

named : (c : goal.After-map) → c.map.result ≡ option_map row_id c.out_at.result
named c = search rules

pub returns-clause-found : goal.returns-clause-found
returns-clause-found c = named c ∙ ap (option_map row_id) (at_is c)

pub returns-clause-unused : goal.returns-clause-unused
returns-clause-unused c =
    none_of row_id c.out_at.result c.map.result (named c)
    (λ none. none_passes (is_of c.args.key.now) c.args.self.now.rows (sym (at_is c) ∙ none))

pub returns-clause-apart : goal.returns-clause-apart
returns-clause-apart c = ap (λ (t : Mappings). are_apart t.rows) (sym c.self.view_is) ∙ c.self.invariant.0

pub returns-clause-live : goal.returns-clause-live
returns-clause-live c =
    some_of row_id (λ id. id.0 < length c.args.self.now.rows) c.out_at.result c.map.result (named c)
    (λ at found. place_within (is_of c.args.key.now) c.args.self.now.rows at (sym (at_is c) ∙ found))

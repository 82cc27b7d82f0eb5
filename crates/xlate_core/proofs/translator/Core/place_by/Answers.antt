use Rattle.std.proofs.Common.{Option, sym, ap, ◌∙◌}
use Rattle.nat_mapping.specs.declared.table.RowId.{RowId}
use Rattle.nat_mapping.specs.Rows.{holding_of, searched}
use Rattle.xlate_core.proofs.Positions.{found_row, granted_there, granted_anew}
use Rattle.xlate_core.proofs.translator.Core.place_by.Goals as goal

pub kept_place-requires-clause-there : goal.kept_place-requires-clause-there
kept_place-requires-clause-there c =
    (found_row c.args.flow.now.key c.args.self.now.rows c.in-Some.id (sym c.in-Some.is ∙ c.requires.row)).1

pub kept_place-requires-clause-before : goal.kept_place-requires-clause-before
kept_place-requires-clause-before c =
    let f = c.args.flow.now in
    c.requires.before ∙ ap (λ (o : Option RowId). holding_of f.who.owner (searched o c.args.self.now.rows)) c.in-Some.is

pub new_place-requires-clause-holding : goal.new_place-requires-clause-holding
new_place-requires-clause-holding c =
    let f = c.args.flow.now in
    c.requires.before ∙ ap (λ (o : Option RowId). holding_of f.who.owner (searched o c.args.self.now.rows)) c.in-None.is

pub returns-in-Some : goal.returns-in-Some
returns-in-Some c =
    let f = c.args.flow.now in
    let s = c.args.self.now in
    let is = sym c.in-Some.is ∙ c.requires.row in
    let (r, lt, here, found) = found_row f.key s.rows c.in-Some.id is in
    c.kept_place.ensures r here ∙ granted_there s f c.in-Some.id r is here

pub returns-in-None : goal.returns-in-None
returns-in-None c =
    c.new_place.ensures ∙ granted_anew c.args.self.now c.args.flow.now (sym c.in-None.is ∙ c.requires.row)

use Rattle.std.proofs.Common.{sym, ◌∙◌}
use Rattle.std.proofs.lemmas.Result.{on_ok_weaker}
use Rattle.xlate_core.proofs.Positions.{found_row, unfound}
use Rattle.xlate_core.proofs.ValidForwards.{only_known, only_new}
use Rattle.xlate_core.proofs.translator.Core.keep_new.Goals as goal

pub returns-in-Some : goal.returns-in-Some
returns-in-Some c =
    let f = c.args.flow.now in
    let s = c.args.self.now in
    let (r, lt, here, found) = found_row f.key s.rows c.in-Some.field-0 (sym c.in-Some.is ∙ c.requires.row) in
    sym (only_known s f c.args.grant.now r found c.requires.grant)

pub returns-in-None : goal.returns-in-None
returns-in-None c =
    let f = c.args.flow.now in
    let s = c.args.self.now in
    let none = unfound f.key s.rows (sym c.in-None.is ∙ c.requires.row) in
    on_ok_weaker c.add_row.result (λ put. put ∙ sym (only_new s f c.args.grant.now none)) c.add_row.ensures

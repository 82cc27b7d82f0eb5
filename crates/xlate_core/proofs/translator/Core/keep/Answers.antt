use Rattle.std.proofs.Common.{sym, ◌∙◌}
use Rattle.std.proofs.lemmas.Result.{on_ok_weaker}
use Rattle.xlate_core.proofs.Positions.{found_row}
use Rattle.xlate_core.proofs.ValidForwards.{after_known}
use Rattle.xlate_core.proofs.translator.Core.keep.Goals as goal

pub refresh-requires : goal.refresh-requires
refresh-requires c = sym c.in-Some.is ∙ c.requires.row

pub add_row-requires-clause-row : goal.add_row-requires-clause-row
add_row-requires-clause-row c = sym c.in-None.is ∙ c.requires.row

pub returns-in-Some : goal.returns-in-Some
returns-in-Some c =
    let f = c.args.flow.now in
    let s = c.args.self.now in
    let (r, lt, here, found) = found_row f.key s.rows c.in-Some.id (sym c.in-Some.is ∙ c.requires.row) in
    on_ok_weaker c.refresh.result (λ put. put ∙ sym (after_known s f c.args.grant.now r found c.requires.grant)) c.refresh.ensures

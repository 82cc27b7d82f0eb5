use Rattle.std.proofs.Common.{refl, sym, ap, ◌∙◌}
use Rattle.std.proofs.lemmas.Result.{on_ok_weaker}
use Rattle.nat_mapping.specs.Rows.{is_of, row_at}
use Rattle.xlate_core.specs.Grant.{peer_of}
use Rattle.xlate_core.specs.Rows.{touched}
use Rattle.xlate_core.specs.State.{State}
use Rattle.xlate_core.proofs.Positions.{found_row, place_stays, unfound}
use Rattle.xlate_core.proofs.ValidForwards.{after_known, only_known, only_new}
use Rattle.xlate_core.proofs.translator.Core.refresh_old.Goals as goal

pub returns-in-Some : goal.returns-in-Some
returns-in-Some c =
    let f = c.args.flow.now in
    let old = c.args.self.now in record {
      granted = λ s g same row grants.
          let (r, lt, here, found) = found_row f.key s.rows c.in-Some.id (sym c.in-Some.is ∙ row) in
          let is = same ∙ only_known s f g r found grants in
          on_ok_weaker c.refresh.result (λ put.
          put ∙ ap (λ (x : State). let y : State = record x { rows = touched (is_of f.key) (peer_of x f) x.rows } in y) is
          ∙ sym (after_known s f g r found grants)) c.refresh.ensures;
      places = λ proto ext. on_ok_weaker c.refresh.result (λ put.
          ap (λ (x : State). row_at proto ext x.rows) put ∙ place_stays proto ext (is_of f.key) (peer_of old f) old.rows)
          c.refresh.ensures;
    }

pub returns-in-None : goal.returns-in-None
returns-in-None c = record {
  granted = λ s g same row grants.
      same ∙ only_new s c.args.flow.now g (unfound c.args.flow.now.key s.rows (sym c.in-None.is ∙ row));
  places = λ proto ext. refl;
}

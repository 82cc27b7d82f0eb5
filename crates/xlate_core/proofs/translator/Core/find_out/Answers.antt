use Rattle.std.proofs.Common.{◌≡◌, Some, None, IfNone, IfSome, subst}
use Rattle.std.specs.Prelude.{slice_get}
use Rattle.nat_mapping.specs.Rows.{Mapping}
use Rattle.xlate_core.specs.Rows.{find_out}
use Rattle.xlate_core.specs.State.{State}
use Rattle.xlate_core.proofs.Positions.{found_key, unfound_key}
use Rattle.xlate_core.proofs.translator.Core.find_out.Goals as goal

pub returns-clause-row : goal.returns-clause-row
returns-clause-row c =
    let key = c.args.key.now in
    subst (λ (s : State). IfSome c.find_out.result (λ id.
    (row : Mapping) × (slice_get s.rows id.0 ≡ Some row) × (find_out key s.rows ≡ Some row)))
    c.self.view_is (found_key key c.self.inside.table.rows c.find_out.result c.find_out.ensures.found)

pub returns-clause-none : goal.returns-clause-none
returns-clause-none c =
    let key = c.args.key.now in
    subst (λ (s : State). IfNone c.find_out.result (find_out key s.rows ≡ None))
    c.self.view_is (unfound_key key c.self.inside.table.rows c.find_out.result c.find_out.ensures.found)

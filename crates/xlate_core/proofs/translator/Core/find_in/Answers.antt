use Rattle.std.proofs.Common.{◌≡◌, Some, None, IfNone, IfSome, subst}
use Rattle.std.specs.Prelude.{slice_get}
use Rattle.nat_mapping.specs.Rows.{Mapping}
use Rattle.xlate_core.specs.Rows.{find_in}
use Rattle.xlate_core.specs.State.{State}
use Rattle.xlate_core.proofs.Positions.{found_at, unfound_at}
use Rattle.xlate_core.proofs.translator.Core.find_in.Goals as goal

pub returns-clause-row : goal.returns-clause-row
returns-clause-row c =
    let proto = c.args.proto in
    let ext = c.args.ext in
    subst (λ (s : State). IfSome c.find_in.result (λ id.
    (row : Mapping) × (slice_get s.rows id.0 ≡ Some row) × (find_in proto ext s.rows ≡ Some row)))
    c.self.view_is (found_at proto ext c.self.inside.table.rows c.find_in.result c.find_in.ensures.found)

pub returns-clause-none : goal.returns-clause-none
returns-clause-none c =
    let proto = c.args.proto in
    let ext = c.args.ext in
    subst (λ (s : State). IfNone c.find_in.result (find_in proto ext s.rows ≡ None))
    c.self.view_is (unfound_at proto ext c.self.inside.table.rows c.find_in.result c.find_in.ensures.found)

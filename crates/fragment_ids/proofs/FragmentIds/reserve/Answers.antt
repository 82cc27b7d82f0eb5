use Rattle.std.proofs.Common.{◌≡◌, ◌||◌, Bool, true, not, sym, ap, ◌∙◌}
use Rattle.std.specs.Prelude.{is_some, nat_lt}
use Rattle.std.specs.List.{list_any, position}
use Rattle.fragment_ids.specs.Ids.{is_for}
use Rattle.fragment_ids.proofs.Places.{known}
use Rattle.fragment_ids.proofs.FragmentIds.reserve.Goals as goal

pub returns-else-is_none-clause-ok : goal.returns-else-is_none-clause-ok
returns-else-is_none-clause-ok c =
    let there : is_some (position (is_for c.args.to) c.self.inside.counts.items) ≡ true =
    ap (λ counts. is_some (position (is_for c.args.to) counts)) (sym c.deref.ensures.value) ∙ ap is_some (sym c.place_of.ensures)
    ∙ c.is_none.ensures ∙ ap not c.if-is_none.false in
    ap (λ (b : Bool). b || nat_lt 0 c.args.self.now.spare) (ap (λ ids. list_any (is_for c.args.to) ids.counts) (sym c.self.view_is)
    ∙ known c.args.to c.self.inside.counts.items there)

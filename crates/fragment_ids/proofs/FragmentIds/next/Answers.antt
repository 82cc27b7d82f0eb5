use Rattle.std.proofs.Common.{◌≡◌, Some, None, sym, ap, ◌∙◌}
use Rattle.std.specs.List.{position}
use Rattle.fragment_ids.specs.Ids.{is_for, next_id}
use Rattle.fragment_ids.proofs.Places.{next_found, missed}
use Rattle.fragment_ids.proofs.FragmentIds.next.Goals as goal

pub returns-in-Some : goal.returns-in-Some
returns-in-Some c =
    let counts = c.self.inside.counts.items in
    let found : position (is_for c.args.to) counts ≡ Some c.in-Some.at =
    ap (position (is_for c.args.to)) (sym c.deref.ensures.value) ∙ sym c.place_of.ensures ∙ c.in-Some.is in
    ap (λ count. count.cuts) c.index.ensures ∙ sym (next_found c.args.to counts c.in-Some.at c.index.result.now found)
    ∙ ap (λ ids. next_id c.args.to ids.counts) c.self.view_is

pub returns-in-None : goal.returns-in-None
returns-in-None c =
    let none : position (is_for c.args.to) c.self.inside.counts.items ≡ None =
    ap (position (is_for c.args.to)) (sym c.deref.ensures.value) ∙ sym c.place_of.ensures ∙ c.in-None.is in
    sym (missed c.args.to c.self.inside.counts.items none).next ∙ ap (λ ids. next_id c.args.to ids.counts) c.self.view_is

use Rattle.std.proofs.Common.{◌≡◌, ◌<◌, ◌||◌, Bool, Some, None, set, ◌+◌, ◌%◌, ◌^◌, sym, ap, ◌∙◌, arith}
use Rattle.std.specs.Prelude.{nat_lt}
use Rattle.std.specs.List.{list_any, position}
use Rattle.std.proofs.lemmas.Bool.{ltb-true}
use Rattle.fragment_ids.specs.declared.Count.{Count}
use Rattle.fragment_ids.specs.Ids.{is_for, next_id, counted}
use Rattle.fragment_ids.proofs.Places.{counted_found, missed}
use Rattle.fragment_ids.proofs.CountLaws.{next_after}
use Rattle.fragment_ids.proofs.FragmentIds.count.Goals as goal

pub push_reserved-requires : goal.push_reserved-requires
push_reserved-requires c =
    let none : position (is_for c.args.to) c.self.inside.counts.items ≡ None =
    ap (position (is_for c.args.to)) (sym c.deref.ensures.value) ∙ sym c.place_of.ensures ∙ c.in-None.is in
    let unknown = (missed c.args.to c.self.inside.counts.items none).unknown in
    let room : 0 < c.args.self.now.spare =
    ltb-true 0 c.args.self.now.spare (sym (ap (λ (b : Bool). b || nat_lt 0 c.args.self.now.spare)
    (ap (λ ids. list_any (is_for c.args.to) ids.counts) (sym c.self.view_is) ∙ unknown)) ∙ c.requires) in
    omega (arith, room, ap (λ ids. ids.spare) c.self.view_is)

pub returns-in-Some-clause-counted : goal.returns-in-Some-clause-counted
returns-in-Some-clause-counted c =
    let found : position (is_for c.args.to) c.self.inside.counts.items ≡ Some c.in-Some.at =
    ap (position (is_for c.args.to)) (sym c.deref.ensures.value) ∙ sym c.place_of.ensures ∙ c.in-Some.is in
    let at = c.in-Some.at in
    let old = c.index_mut-count.result.now in
    let counts = c.self.inside.counts.items in
    ap (λ (it : Count). set counts at record { to = it.to; cuts = (it.cuts + 1) % 2 ^ 32 }) c.index_mut-count.ensures.value
    ∙ sym (counted_found c.args.to counts at old found)
    ∙ ap (λ ids. counted c.args.to ids.counts) c.self.view_is

pub returns-in-Some-clause-each : goal.returns-in-Some-clause-each
returns-in-Some-clause-each c = λ s.
    ap (next_id s) (returns-in-Some-clause-counted c) ∙ next_after s c.args.to c.args.self.now.counts

pub returns-in-None-clause-counted : goal.returns-in-None-clause-counted
returns-in-None-clause-counted c =
    let none : position (is_for c.args.to) c.self.inside.counts.items ≡ None =
    ap (position (is_for c.args.to)) (sym c.deref.ensures.value) ∙ sym c.place_of.ensures ∙ c.in-None.is in
    c.push_reserved.ensures.items ∙ sym (missed c.args.to c.self.inside.counts.items none).counted
    ∙ ap (λ ids. counted c.args.to ids.counts) c.self.view_is

pub returns-in-None-clause-each : goal.returns-in-None-clause-each
returns-in-None-clause-each c = λ s.
    ap (next_id s) (returns-in-None-clause-counted c) ∙ next_after s c.args.to c.args.self.now.counts

use Rattle.std.proofs.Common.{sym, ap, ◌∙◌}
use Rattle.std.specs.BTreeMap.{get}
use Rattle.lease_log.specs.Index.{place_cmp, place_of}
use Rattle.lease_log.proofs.IndexSteps.{none_to_close, other_to_close, lease_found}
use Rattle.lease_log.proofs.telling.lease_at.Goals as goal

pub returns-in-None-clause-none : goal.returns-in-None-clause-none
returns-in-None-clause-none c =
    let find = get place_cmp c.args.places.now in
    none_to_close c.args.block c.requires
    (ap find (sym c.place_of.ensures) ∙ sym c.position.ensures ∙ c.in-None.is)

pub bounds-leases-at : goal.bounds-leases-at
bounds-leases-at c =
    let find = get place_cmp c.args.places.now in
    (c.requires.finds (place_of c.args.block) c.in-Some.at
    (ap find (sym c.place_of.ensures) ∙ sym c.position.ensures ∙ c.in-Some.is)).within

pub returns-then-may_end-clause-some : goal.returns-then-may_end-clause-some
returns-then-may_end-clause-some c =
    let find = get place_cmp c.args.places.now in
    lease_found c.args.block c.in-Some.at _ c.requires
    (ap find (sym c.place_of.ensures) ∙ sym c.position.ensures ∙ c.in-Some.is) (sym c.may_end.ensures ∙ c.if-may_end.true)

pub returns-else-may_end-clause-none : goal.returns-else-may_end-clause-none
returns-else-may_end-clause-none c =
    let find = get place_cmp c.args.places.now in
    other_to_close c.args.block c.in-Some.at _ c.requires
    (ap find (sym c.place_of.ensures) ∙ sym c.position.ensures ∙ c.in-Some.is) (sym c.may_end.ensures ∙ c.if-may_end.false)

use Rattle.std.proofs.Common.{sym, ap, ◌∙◌, subst, refl, set, get_or, List}
use Rattle.std.specs.BTreeMap.{get}
use Rattle.aftr_base.specs.Row.{ended}
use Rattle.aftr_base.specs.declared.row.LeaseRow.{LeaseRow}
use Rattle.lease_log.specs.Index.{place_cmp, IsIndexed}
use Rattle.lease_log.proofs.IndexSteps.{ended_there, found_after, indexed_less}
use Rattle.lease_log.proofs.telling.close_block.Goals as goal

pub returns-clause-leases : goal.returns-clause-leases
returns-clause-leases c =
    let b = c.args.block in
    c.set.ensures
    ∙ ap (λ (l : List LeaseRow). set c.args.leases.now c.args.at (ended b.since.0 (get_or l c.args.at _))) c.as_slice.ensures
    ∙ ended_there _ c.requires.indexed c.requires.at

pub returns-clause-indexed : goal.returns-clause-indexed
returns-clause-indexed c =
    let b = c.args.block in
    let find' = get place_cmp c.remove.new.self in
    let same = c.set.ensures
    ∙ ap (λ (l : List LeaseRow). set c.args.leases.now c.args.at (ended b.since.0 (get_or l c.args.at _))) c.as_slice.ensures
    ∙ ended_there _ c.requires.indexed c.requires.at in
    subst (λ (l : List LeaseRow). IsIndexed l find') (sym same)
    (indexed_less c.requires.indexed c.requires.at
    (found_after c.args.places.now c.remove.new.self c.remove.ensures.updates c.place_of.ensures refl))

use Rattle.std.proofs.Common.{sym, ap, subst, refl, ℕ, List}
use Rattle.std.specs.Prelude.{Some}
use Rattle.std.specs.BTreeMap.{get}
use Rattle.aftr_base.specs.declared.row.LeaseRow.{LeaseRow}
use Rattle.lease_log.specs.Index.{place_cmp, IsIndexed}
use Rattle.lease_log.proofs.IndexSteps.{found_after, indexed_more, indexed_still}
use Rattle.lease_log.proofs.telling.open_block.Goals as goal

pub returns-in-Ok-clause-indexed : goal.returns-in-Ok-clause-indexed
returns-in-Ok-clause-indexed c =
    let find' = get place_cmp c.insert.new.self in
    let at = ap (λ (n : ℕ). Some n) c.len.ensures in
    let added = found_after c.args.places.now c.insert.new.self c.in_ok-insert.ensures.updates c.place_of-place.ensures at in
    subst (λ (l : List LeaseRow). IsIndexed l find') (sym c.in-Ok.ensures.ok)
    (indexed_more c.args.block c.requires.indexed added c.requires.block c.requires.ports c.requires.free)

pub returns-in-Err-clause-indexed : goal.returns-in-Err-clause-indexed
returns-in-Err-clause-indexed c =
    let find'' = get place_cmp c.remove.new.self in
    let at = ap (λ (n : ℕ). Some n) c.len.ensures in
    let added = found_after c.args.places.now c.insert.new.self c.in_ok-insert.ensures.updates c.place_of-place.ensures at in
    let taken = found_after c.insert.new.self c.remove.new.self c.remove.ensures.updates c.place_of-place.ensures refl in
    subst (λ (l : List LeaseRow). IsIndexed l find'') (sym c.in-Err.ensures.err)
    (indexed_still c.args.block c.requires.indexed added taken c.requires.ports c.requires.free)

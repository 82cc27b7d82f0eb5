use Rattle.std.proofs.Common.{ap, ◌∙◌, sym, subst, Bool, List, map}
use Rattle.std.specs.Prelude.{Ok}
use Rattle.aftr_base.specs.Telling.{after_block, lease_ended, may_close}
use Rattle.aftr_base.specs.declared.row.LeaseRow.{LeaseRow}
use Rattle.aftr_base.specs.declared.told.Told.{Told}
use Rattle.lease_log.specs.Index.{IsLeaseAt}
use Rattle.lease_log.proofs.IndexSteps.{may_end_there}
use Rattle.lease_log.proofs.Requiring.{require-true}
use Rattle.lease_log.proofs.telling.apply_block.Goals as goal

pub returns-in-Some-clause-told : goal.returns-in-Some-clause-told
returns-in-Some-clause-told c =
    let t = c.args.told.now in
    let b = c.args.block in
    let at = subst (λ (l : List LeaseRow). IsLeaseAt l b c.in-Some.at) c.as_slice.ensures c.in-Some.ensures.some in
    let yes = may_end_there at in
    let closed : Told = record t { leases = map (lease_ended b.owner b.addr b.first b.last b.since) t.leases } in
    ap (λ (o : Bool). after_block t o b.owner b.addr b.first b.last b.since) c.if-opens.false
    ∙ require-true (may_close t b.owner b.addr b.first b.last b.since.0) (Ok closed) yes
    ∙ ap (λ (l : List LeaseRow). Ok record t { leases = l }) (sym c.close_block.ensures.leases)

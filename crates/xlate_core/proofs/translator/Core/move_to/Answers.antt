use Rattle.std.proofs.Common.{◌<◌, List, refl, ap, ap₂, ◌∙◌, sym, subst, arith}
use Rattle.std.proofs.lemmas.Bool.{and_right}
use Rattle.frag_reasm.specs.declared.pieces.PartialDatagram.{PartialDatagram}
use Rattle.ingress.specs.Gathering.{AreKept}
use Rattle.ingress.proofs.Kept.{kept_live}
use Rattle.nat_mapping.specs.Rows.{Mapping, expired}
use Rattle.xlate_core.specs.contracts.translator.Core.{the_view}
use Rattle.xlate_core.specs.State.{State}
use Rattle.xlate_core.specs.Expiry.{has_idle}
use Rattle.xlate_core.specs.Valid.{AreGranted}
use Rattle.xlate_core.proofs.Clock.{raised}
use Rattle.xlate_core.proofs.IdleLeases.{moved_quietly, stays_used}
use Rattle.xlate_core.proofs.ValidExpiry.{granted_ended, granted_left}
use Rattle.xlate_core.proofs.translator.Core.move_to.Goals as goal

pub invariant_of-self : goal.invariant_of-self
invariant_of-self c =
    let was = c.self.inside in
    let rows = c.expire-went.new.self.rows in
    let gone = c.expire-went.ensures.rows in
    let none = stays_used was.all_used c.expire-went.result c.args.at.0 was.table.rows rows was.blocks.rows gone
    c.expire-went.ensures.gone c.if-not-went.true c.if-self.true c.self.invariant.2 in (
      c.self.invariant.0,
      c.requires,
      and_right was.all_used (has_idle rows was.blocks.rows) none,
      subst (λ (rs : List Mapping). AreGranted rs was.blocks.rows) (sym gone)
          (granted_left c.args.at.0 was.table.rows was.blocks.rows c.self.invariant.3),
      subst AreKept (sym c.expire.ensures) (kept_live c.args.at.0 was.kept c.self.invariant.4),
    )

-- what the rows that stay are granted once idle leases ended
pub invariant_of-self-in_err-self-inside : goal.invariant_of-self-in_err-self-inside
invariant_of-self-in_err-self-inside c =
    let was = c.self.inside in
    let rows = c.expire-went.new.self.rows in
    let left = subst (λ (rs : List Mapping). AreGranted rs was.blocks.rows) (sym c.expire-went.ensures.rows)
    (granted_left c.args.at.0 was.table.rows was.blocks.rows c.self.invariant.3) in (
      c.self.invariant.0,
      c.requires,
      refl,
      granted_ended c.args.at.0 rows was.blocks.rows c.close_idle.new.blocks.rows c.close_idle.ensures.ended left,
      subst AreKept (sym c.expire.ensures) (kept_live c.args.at.0 was.kept c.self.invariant.4),
    )

pub invariant_of-self-2 : goal.invariant_of-self-2
invariant_of-self-2 c =
    let was = c.self.inside in
    let rows = c.expire-went.new.self.rows in
    let left = subst (λ (rs : List Mapping). AreGranted rs was.blocks.rows) (sym c.expire-went.ensures.rows)
    (granted_left c.args.at.0 was.table.rows was.blocks.rows c.self.invariant.3) in (
      c.self.invariant.0,
      c.requires,
      c.in_ok-self-inside.ensures.none,
      granted_ended c.args.at.0 rows was.blocks.rows c.close_idle.new.blocks.rows c.close_idle.ensures.ended left,
      subst AreKept (sym c.expire.ensures) (kept_live c.args.at.0 was.kept c.self.invariant.4),
    )

pub returns-then-not-went : goal.returns-then-not-went
returns-then-not-went c =
    let s = c.args.self.now in
    let at = c.args.at.0 in
    let was = c.self.inside in
    let rows = c.expire-went.new.self.rows in
    let gone = c.expire-went.ensures.rows in
    let none = stays_used was.all_used c.expire-went.result at was.table.rows rows was.blocks.rows gone
    c.expire-went.ensures.gone c.if-not-went.true c.if-self.true c.self.invariant.2 in
    let lt : s.clock < at = omega (arith, c.if-at-self.false, ap (λ (x : State). x.clock) c.self.view_is) in
    let to = raised at (the_view was) in
    let kept = c.expire.new.self in
    let is = ap₂ (λ (rs : List Mapping) (ks : List PartialDatagram). let x : State = record to { rows = rs; kept = ks } in x) gone c.expire.ensures
    ∙ ap (raised at) c.self.view_is in
    moved_quietly at s (let x : State = record to { rows = rows; kept = kept } in x) c.args.log.now lt is
    (ap (λ (x : State). has_idle (expired at x.rows) x.leases) (sym c.self.view_is)
    ∙ ap (λ (rs : List Mapping). has_idle rs was.blocks.rows) (sym gone) ∙ none)

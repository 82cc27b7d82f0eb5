use Rattle.std.proofs.Common.{◌≤◌, ◌+◌, ap, sym, ◌∙◌, arith, length, subst, ◌++◌, ◌∷◌, [], List, ℕ}
use Rattle.std.specs.Prelude.{vec_capacity}
use Rattle.aftr_base.specs.declared.event.LogEvent.{LogEvent}
use Rattle.lease_log.specs.Batch.{Batch, IsWithinLimits}
use Rattle.lease_log.specs.Prepared.{room_for, size_of, with_record}
use Rattle.lease_log.specs.Sound.{HasSoundPlan}
use Rattle.lease_log.proofs.BatchLaws.{event_put, short}
use Rattle.lease_log.proofs.batch.LogBatch.add.Goals as goal

pub len-requires : goal.len-requires
len-requires c = omega (arith, short c.self.inside.at.0 c.self.inside.events.items c.self.inside.sets c.self.inside.body c.self.invariant)

pub invariant_of-self-2 : goal.invariant_of-self-2
invariant_of-self-2 c =
    let e = c.args.event.now in
    let more = c.put_event.new.out in
    let sets = c.self.inside.sets in
    let limits : IsWithinLimits (c.self.inside.events.items ++ e ∷ []) =
    subst (λ (b : Batch). IsWithinLimits (b.events ++ e ∷ [])) (sym c.self.view_is) c.requires.limits in
    let sound : HasSoundPlan c.in_ok-copy.copy = subst HasSoundPlan (sym c.in_ok-copy.ensures.same) c.requires.plan in
    let room : room_for (size_of sets) + length more ≤ vec_capacity c.make_room.new.body =
    omega (arith, c.in_ok-make_room.ensures.ok, c.len.ensures, c.len-2.ensures) in
    event_put c.self.invariant limits (c.in_ok-copy.ensures.fits sound) c.in_ok-copy.ensures.same c.new-record.ensures
    c.in_ok-put_event.ensures.ok room
    (c.put_last.ensures ∙ ap (λ (l : List LogEvent). l ++ c.in_ok-copy.copy ∷ []) c.in_ok-reserve.ensures.items)
    (c.in_ok-put.ensures.ok ∙ ap (λ (l : List ℕ). with_record e l sets) c.as_slice.ensures)

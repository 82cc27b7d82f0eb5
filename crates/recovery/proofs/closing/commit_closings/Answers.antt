use Rattle.std.proofs.Common.{◌≡◌, inr, ◌<◌, ◌≤◌, ◌+◌, List, length, refl, sym, ap, ◌∙◌, arith}
use Rattle.aftr_base.specs.declared.row.LeaseRow.{LeaseRow}
use Rattle.std.proofs.lemmas.List.{nil_from_length}
use Rattle.std.proofs.lemmas.Result.{err_from_is_err_and}
use Rattle.lease_log.specs.Batch.{Batch, batch_body}
use Rattle.recovery.specs.Closings.{lease_closings}
use Rattle.recovery.specs.Frames.{log_at_tail}
use Rattle.recovery.proofs.UnderWay.{nothing_closed, first_under_way, way_append, way_closed, way_stopped, way_refused, way_on}
use Rattle.recovery.proofs.UnderWay.{way_smaller, way_so_far}
use Rattle.recovery.proofs.Counting.{few_closings, first_left, gathered, lack_of}
use Rattle.recovery.proofs.closing.commit_closings.Goals as goal

pub returns-in_err-add_plan_closing-clause-stops : goal.returns-in_err-add_plan_closing-clause-stops
returns-in_err-add_plan_closing-clause-stops g c = λ tells. nothing_closed (c.requires.tells tells) (c.requires.settled tells)

pub loop-passed-init : goal.loop-passed-init
loop-passed-init g c = record {
  way = first_under_way {was = log_at_tail c.args.told.now c.args.journal.now} c.requires.tells c.requires.settled c.requires.batch
      c.in_ok-add_plan_closing.ensures c.as_slice-rest.ensures;
  count = ap (λ (b : Batch). b.count) c.in_ok-add_plan_closing.ensures ∙ ap (λ (b : Batch). b.count) c.requires.batch;
  left = first_left c.args.told.now c.args.batch.now c.in_ok-add_plan_closing.ensures c.as_slice-rest.ensures;
  journal = c.requires.journal;
  later = omega arith;
  outlet = refl;
}

pub returns-in_err-passed-clause-refused : goal.returns-in_err-passed-clause-refused
returns-in_err-passed-clause-refused g c = λ tells.
    let left = c.from_residual-in_err-passed in
    let no_memory = err_from_is_err_and left.result left.ensures.1 in
    rw (no_memory.1, no_memory.2) (inr (way_so_far c.requires.tells c.loop-passed.invariant.way tells))

pub returns-then-closings-eq0-clause-closed : goal.returns-then-closings-eq0-clause-closed
returns-then-closings-eq0-clause-closed g c =
    let none = nil_from_length c.add_lease_closings.new.batch.events (sym c.len-closings.ensures ∙ c.if-closings-eq0.true) in
    way_closed c.requires.tells c.requires.sound c.loop-passed.invariant.way c.in_ok-passed.ensures none c.loop-passed.invariant.count

pub commit-requires-clause-follows : goal.commit-requires-clause-follows
commit-requires-clause-follows g c = way_append c.requires.tells c.requires.sound c.loop-passed.invariant.way c.in_ok-passed.ensures

pub returns-in-Err-clause-refused : goal.returns-in-Err-clause-refused
returns-in-Err-clause-refused g c =
    let some : 0 < length c.add_lease_closings.new.batch.events = omega (arith, c.len-closings.ensures, c.if-closings-eq0.false) in
    way_refused c.requires.tells c.requires.sound c.loop-passed.invariant.way c.in_ok-passed.ensures c.in-Err.bad some
    c.in-Err.ensures.refused c.in-Err.ensures.unwritten

pub returns-in-Err-clause-stops : goal.returns-in-Err-clause-stops
returns-in-Err-clause-stops g c =
    way_stopped c.requires.tells c.requires.sound c.loop-passed.invariant.way c.in_ok-passed.ensures c.commit.ensures.stops

pub loop-passed-smaller : goal.loop-passed-smaller
loop-passed-smaller g c =
    let some : 0 < length c.add_lease_closings.new.batch.events = omega (arith, c.len-closings.ensures, c.if-closings-eq0.false) in
    way_smaller c.requires.tells c.requires.sound c.loop-passed.invariant.way c.in_ok-passed.ensures some c.restart.ensures
    c.behind-rest.ensures

pub loop-passed-preserved : goal.loop-passed-preserved
loop-passed-preserved g c =
    let inv = c.loop-passed.invariant in
    let taken = c.add_lease_closings.new.batch in
    let count : c.loop-passed.count + c.len-closings.result ≡ taken.count + length taken.events =
    omega (arith, c.len-closings.ensures, inv.count, ap (λ (b : Batch). b.count) c.in_ok-passed.ensures.same) in
    let moved : c.commit.new.journal.at + 1 ≡ c.loop-passed.journal.at + 1 + length (batch_body taken) =
    omega (arith, c.in-Ok.ensures.moved) in
    let later : g.P.Plant.disk_faults c.args.plant.now ≤ g.P.Plant.disk_faults c.commit.new.plant =
    omega (arith, inv.later, c.commit.ensures.disk_count) in
    record {
      way = way_on c.requires.tells c.requires.sound inv.way c.in_ok-passed.ensures c.commit.ensures.stops c.in-Ok.ensures.done count moved
          c.in-Ok.ensures.room c.restart.ensures c.behind-rest.ensures;
      count = ap (λ (b : Batch). b.count) c.restart.ensures;
      left = omega (
        arith,
        inv.left,
        c.len-closings.ensures,
        gathered c.in_ok-passed.ensures,
        ap (λ (b : Batch). length b.events) c.restart.ensures,
        ap (λ (ls : List LeaseRow). length (lease_closings c.args.told.now.horizon ls)) c.behind-rest.ensures,
      );
      journal = c.in-Ok.ensures.journal;
      later = later;
      outlet = c.commit.ensures.outlet ∙ inv.outlet;
    }

-- ---- how many records there are

pub overflow_add-count : goal.overflow_add-count
overflow_add-count g c =
    let few = c.requires.few in
    omega (
      arith,
      c.loop-passed.invariant.left,
      c.len-closings.ensures,
      gathered c.in_ok-passed.ensures,
      few_closings c.args.told.now,
      few.records,
      few.rows,
      c.tail-read.ensures,
      c.tail-read.type_inv,
    )

pub returns-then-closings-eq0-clause-few : goal.returns-then-closings-eq0-clause-few
returns-then-closings-eq0-clause-few g c =
    let few = c.requires.few in
    omega (
      arith,
      c.loop-passed.invariant.left,
      few_closings c.args.told.now,
      few.records,
      few.rows,
      c.tail-read.ensures,
      c.tail-read.type_inv,
    )

pub returns-in-Err-clause-full : goal.returns-in-Err-clause-full
returns-in-Err-clause-full g c = lack_of _ _ c.args.limit c.in-Err.bad c.in-Err.ensures.refused

use Rattle.std.proofs.Common.{◌≤◌, ◌+◌, length, arith}
use Rattle.std.proofs.lemmas.List.{drop_more}
use Rattle.recovery.proofs.Taking.{taken_more}
use Rattle.recovery.proofs.closing.add_lease_closings.Goals as goal

pub loop-at-preserved : goal.loop-at-preserved
loop-at-preserved c =
    let few : length c.loop-at.batch.events + 1 ≤ 1024 =
    omega (arith, c.loop-at.invariant.few, c.len.ensures, c.if-len-eq-FRAME.false) in
    taken_more {horizon = c.args.horizon} {passed = c.loop-at.at} _ c.loop-at.invariant few
    (drop_more c.args.leases.now c.loop-at.at _ c.loop-at-test.true) c.in_ok-add_lease_closing.ensures

use Rattle.std.proofs.Common.{rules}
use Rattle.nat_events.proofs.ViewLaws.{set_told, set_refused, set_other, set_none}
use Rattle.nat_events.proofs.message.read_set.Goals as goal

pub returns-in_err-read_body-in-Some-clause-not_ours : goal.returns-in_err-read_body-in-Some-clause-not_ours
returns-in_err-read_body-in-Some-clause-not_ours c =
    λ bad. set_refused c.args.set c.args.at c.in-Some.id c.args.view.now.sets c.in-Some.body.now c.in-Some.ensures c.if-id-set.true
    (c.in_err-read_body-in-Some.ensures.not_ours (search rules))

pub returns-in_ok-read_body-in-Some-clause-ok : goal.returns-in_ok-read_body-in-Some-clause-ok
returns-in_ok-read_body-in-Some-clause-ok c =
    set_told c.args.set c.args.at c.in-Some.id c.args.view.now.sets c.in-Some.body.now c.args.out.now c.read_body.new.out
    c.in-Some.ensures c.if-id-set.true c.in_ok-read_body-in-Some.ensures.ok

pub returns-in_default-clause-ok : goal.returns-in_default-clause-ok
returns-in_default-clause-ok c =
    set_other c.args.set c.args.at c.in-Some.id c.args.view.now.sets c.in-Some.body.now c.args.out.now c.in-Some.ensures
    c.if-id-set.false

pub returns-in_default-2-clause-ok : goal.returns-in_default-2-clause-ok
returns-in_default-2-clause-ok c = set_none c.args.set c.args.at c.args.view.now.sets c.args.out.now (rw c.in_default.is at c.set_at.ensures)

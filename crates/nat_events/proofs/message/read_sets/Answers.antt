use Rattle.nat_events.proofs.ViewLaws.{sets_told, sets_refused}
use Rattle.nat_events.proofs.message.read_sets.Goals as goal

pub returns-in-Some-clause-not_ours : goal.returns-in-Some-clause-not_ours
returns-in-Some-clause-not_ours c =
    λ bad. sets_refused c.args.view.now.sets c.in_ok-at.at c.in_ok-at-2.at c.in_ok-at-3.at c.args.out.now c.read_set.new.out
    c.read_set-2.new.out c.read_set-3.new.out _ c.in_ok-at.ensures.ok c.in_ok-at-2.ensures.ok c.in_ok-at-3.ensures.ok
    c.in-Some.ensures

pub returns-in-None-clause-ok : goal.returns-in-None-clause-ok
returns-in-None-clause-ok c =
    sets_told c.args.view.now.sets c.in_ok-at.at c.in_ok-at-2.at c.in_ok-at-3.at c.args.out.now c.read_set.new.out
    c.read_set-2.new.out c.read_set-3.new.out c.in_ok-at.ensures.ok c.in_ok-at-2.ensures.ok c.in_ok-at-3.ensures.ok
    c.in-None.ensures

use Rattle.std.proofs.Common.{◌≡◌, rules}
use Rattle.ipfix_reader.proofs.ReadingLaws.{shorter}
use Rattle.ipfix_reader.proofs.SetLaws.{sought_start, sought_more, sought_here, sought_none}
use Rattle.ipfix_reader.proofs.view.MessageView.set_at.Goals as goal

pub loop-first-init : goal.loop-first-init
loop-first-init c = sought_start c.args.self.now c.args.k c.sets-rest.result.now c.sets-rest.ensures.fits c.sets-rest.ensures.value

pub returns-then-left-eq0 : goal.returns-then-left-eq0
returns-then-left-eq0 c =
    let here : c.loop-first.left ≡ 0 = search rules in
    sought_here c.args.self.now.sets c.args.k c.loop-first.left c.loop-first.rest.now _ c.in-Some.first.behind.now c.loop-first.invariant
    c.in-Some.ensures.found here

pub loop-first-smaller : goal.loop-first-smaller
loop-first-smaller c = shorter c.loop-first.rest.now _ c.in-Some.first.behind.now c.in-Some.ensures.found

pub loop-first-preserved : goal.loop-first-preserved
loop-first-preserved c =
    sought_more c.args.self.now.sets c.args.k c.loop-first.left c.loop-first.rest.now _ c.in-Some.first.behind.now c.loop-first.invariant
    c.in-Some.ensures.found (search rules)

pub returns : goal.returns
returns c =
    sought_none c.args.self.now.sets c.args.k c.loop-first.left c.loop-first.rest.now c.loop-first.invariant c.in_default.ensures.none

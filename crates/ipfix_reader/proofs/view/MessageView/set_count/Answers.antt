use Rattle.ipfix_reader.proofs.ReadingLaws.{shorter}
use Rattle.ipfix_reader.proofs.SetLaws.{counted_none, counted_more, counted_all}
use Rattle.ipfix_reader.proofs.view.MessageView.set_count.Goals as goal

pub loop-first-init : goal.loop-first-init
loop-first-init c = counted_none c.args.self.now c.sets-rest.result.now c.sets-rest.ensures.fits c.sets-rest.ensures.value

pub loop-first-smaller : goal.loop-first-smaller
loop-first-smaller c = shorter c.loop-first.rest.now _ c.in-Some.first.behind.now c.in-Some.ensures.found

pub loop-first-preserved : goal.loop-first-preserved
loop-first-preserved c =
    counted_more c.args.self.now.sets c.loop-first.count c.loop-first.rest.now _ c.in-Some.first.behind.now c.loop-first.invariant
    c.in-Some.ensures.found

pub returns : goal.returns
returns c =
    counted_all c.args.self.now.sets c.loop-first.count c.loop-first.rest.now c.loop-first.invariant c.in_default.ensures.none

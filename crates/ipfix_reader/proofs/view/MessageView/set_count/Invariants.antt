use Rattle.std.proofs.Common.{length}
use Rattle.ipfix_reader.proofs.SetLaws.{Counted}
use Rattle.ipfix_reader.proofs.view.MessageView.set_count.Given as goal

abbrev pub invariant-loop-first : goal.invariant-loop-first
invariant-loop-first l = Counted l.self.sets l.count l.rest

abbrev pub decreases-loop-first : goal.decreases-loop-first
decreases-loop-first l = length l.rest

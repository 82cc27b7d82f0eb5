use Rattle.std.proofs.Common.{length}
use Rattle.ipfix_reader.proofs.SetLaws.{Sought}
use Rattle.ipfix_reader.proofs.view.MessageView.set_at.Given as goal

abbrev pub invariant-loop-first : goal.invariant-loop-first
invariant-loop-first l = Sought l.self.sets l.k l.left l.rest

abbrev pub decreases-loop-first : goal.decreases-loop-first
decreases-loop-first l = length l.rest

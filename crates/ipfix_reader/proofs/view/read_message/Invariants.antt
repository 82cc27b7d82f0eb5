use Rattle.std.proofs.Common.{length}
use Rattle.ipfix_reader.proofs.ReadingLaws.{Reached}
use Rattle.ipfix_reader.proofs.view.read_message.Given as goal

abbrev pub invariant-loop-rest : goal.invariant-loop-rest
invariant-loop-rest l = Reached l.bytes l.rest

abbrev pub decreases-loop-rest : goal.decreases-loop-rest
decreases-loop-rest l = length l.rest

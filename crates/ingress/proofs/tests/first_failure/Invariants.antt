use Rattle.ingress.specs.Gathering.{AreKept}
use Rattle.ingress.proofs.tests.first_failure.Given as goal

abbrev pub invariant-loop-number : goal.invariant-loop-number
invariant-loop-number g l = AreKept l.pieces

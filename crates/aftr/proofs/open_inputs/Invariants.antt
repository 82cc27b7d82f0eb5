use Rattle.std.proofs.Common.{◌≡◌, length}
use Rattle.aftr.proofs.open_inputs.Given as goal

abbrev pub invariant-loop-number : goal.invariant-loop-number
invariant-loop-number g l = length l.inputs.items ≡ l.number

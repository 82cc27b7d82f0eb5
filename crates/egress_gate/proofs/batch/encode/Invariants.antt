use Rattle.std.proofs.Common.{◌≡◌, ◌++◌, take}
use Rattle.egress_gate.specs.Output.{output}
use Rattle.egress_gate.proofs.batch.encode.Given as goal

-- the items so far are written
abbrev pub invariant-loop-item : goal.invariant-loop-item
invariant-loop-item l = l.out ≡ l.fn.out ++ output (take l.item-index l.items)

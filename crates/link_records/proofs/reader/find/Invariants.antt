use Rattle.std.proofs.Common.{◌≡◌, ◌++◌, ◌-◌, ◌≤◌, length}
use Rattle.link_records.specs.Front.{longest_frame}
use Rattle.link_records.specs.Window.{held}
use Rattle.link_records.proofs.reader.find.Given as goal

abbrev pub invariant-loop-head : goal.invariant-loop-head
invariant-loop-head g l =
    (g.I.Source.tells → held l.window ++ g.I.Source.rest l.input ≡ held l.fn.window ++ g.I.Source.rest l.fn.input)
    × (g.I.Source.faults l.fn.input ≤ g.I.Source.faults l.input)

abbrev pub decreases-loop-head : goal.decreases-loop-head
decreases-loop-head g l = longest_frame - length (held l.window)

use Rattle.std.proofs.Common.{◌≡◌, ◌+◌, ◌-◌, ◌*◌, ◌++◌, length}
use Rattle.aftr_engine.specs.report.Lines.{groups}
use Rattle.aftr_engine.proofs.report.push_groups.Given as goal

abbrev pub invariant-loop-place : goal.invariant-loop-place
invariant-loop-place l = record {
  bytes : l.line.bytes ++ groups (8 - l.place) l.bits ≡ l.fn.line.bytes ++ groups 8 l.bits;
  room : length l.line.bytes ≡ length l.fn.line.bytes + 5 * l.place;
}

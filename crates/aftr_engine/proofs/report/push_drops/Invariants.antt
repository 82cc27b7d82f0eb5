use Rattle.std.proofs.Common.{◌≡◌, ◌≤◌, ◌+◌, ◌*◌, ◌++◌, take, length}
use Rattle.aftr_engine.specs.report.Lines.{drop_lines}
use Rattle.aftr_engine.proofs.report.push_drops.Given as goal

abbrev pub invariant-loop-place : goal.invariant-loop-place
invariant-loop-place l = record {
  bytes : l.lines.bytes ≡ l.fn.lines.bytes ++ drop_lines (take l.place l.causes) (take l.place l.counts);
  room : length l.lines.bytes ≤ length l.fn.lines.bytes + 44 * l.place;
}

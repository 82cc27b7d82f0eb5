use Rattle.std.proofs.Common.{◌≡◌, ◌≤◌, ◌+◌, ◌*◌, ◌∷◌, length, map, take, decimal}
use Rattle.std.specs.List.{join_with_byte}
use Rattle.aftr_engine.proofs.report.line_of.Given as goal

abbrev pub invariant-loop-number : goal.invariant-loop-number
invariant-loop-number l = record {
  bytes : l.line.bytes ≡ join_with_byte 32 (l.head ∷ l.name ∷ map decimal (take l.number-index l.numbers));
  room : length l.line.bytes ≤ 23 + 21 * l.number-index;
}

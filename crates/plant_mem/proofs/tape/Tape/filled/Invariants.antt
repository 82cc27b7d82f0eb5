use Rattle.std.proofs.Common.{◌≡◌, List, ℕ, take, length}
use Rattle.plant_mem.proofs.LeftFiles.{FilledSoFar}
use Rattle.plant_mem.proofs.tape.Tape.filled.Given as goal

abbrev pub invariant-loop-step : goal.invariant-loop-step
invariant-loop-step l = record {
  size : length l.image.items ≡ length l.file;
  filled : (start bytes : List ℕ) → FilledSoFar start bytes l.byte (take l.step-index l.step-items) l.file l.image.items;
}

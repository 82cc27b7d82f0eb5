use Rattle.std.proofs.Common.{◌≡◌, ◌<◌, ◌≤◌, ℕ, length, get_or}
use Rattle.plant_mem.proofs.tape.fill.Given as goal

abbrev pub invariant-loop-place : goal.invariant-loop-place
invariant-loop-place l = record {
  size : length l.image.items ≡ length l.initial.image.items;
  inside : (q : ℕ) → l.start ≤ q → q < l.place → get_or l.image.items q 0 ≡ l.byte;
  outside : (q : ℕ) → ((l.start ≤ q) × (q < l.end) → ⊥) → get_or l.image.items q 0 ≡ get_or l.initial.image.items q 0;
}

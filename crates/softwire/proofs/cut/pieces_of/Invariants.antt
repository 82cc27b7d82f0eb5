use Rattle.std.proofs.Common.{◌≡◌, map}
use Rattle.std.specs.List.{range_with_len}
use Rattle.softwire.specs.Cut.{ip4_piece}
use Rattle.softwire.proofs.cut.pieces_of.Given as goal

-- the pieces so far
abbrev pub invariant-loop-i : goal.invariant-loop-i
invariant-loop-i l = l.pieces ≡ map (ip4_piece l.fields l.room l.payload) (range_with_len 0 l.i)

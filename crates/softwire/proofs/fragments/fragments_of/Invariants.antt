use Rattle.std.proofs.Common.{◌≡◌, map}
use Rattle.std.specs.List.{range_with_len}
use Rattle.softwire.specs.Cut.{fragment}
use Rattle.softwire.proofs.fragments.fragments_of.Given as goal

-- the fragments so far
abbrev pub invariant-loop-i : goal.invariant-loop-i
invariant-loop-i l =
    l.pieces ≡ map (fragment l.carrier.aftr l.carrier.softwire l.carrier.class l.carrier.id l.room l.inner) (range_with_len 0 l.i)

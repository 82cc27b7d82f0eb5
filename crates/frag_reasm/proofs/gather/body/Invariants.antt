use Rattle.std.proofs.Common.{◌≡◌, ◌-◌, ◌++◌, List, ℕ, Some, option_map, length}
use Rattle.frag_reasm.specs.Whole.{held, bytes_from, body_of}
use Rattle.frag_reasm.proofs.Gathering.{with_one}
use Rattle.frag_reasm.proofs.gather.body.Given as goal

-- the body is what was taken and what the walk takes from here on
abbrev pub invariant-loop-piece : goal.invariant-loop-piece
invariant-loop-piece l = record {
  rest : (bytes : List ℕ) → body_of (with_one l.held (held l.new)) ≡ Some bytes
      → option_map (λ more. l.body ++ more) (bytes_from (l._piece-end - l._piece) l.at (with_one l.held (held l.new))) ≡ Some bytes;
  end : l._piece-end ≡ length (with_one l.held (held l.new));
}

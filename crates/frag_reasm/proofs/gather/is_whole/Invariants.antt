use Rattle.std.proofs.Common.{◌≡◌, ◌-◌, length}
use Rattle.std.specs.Prelude.{is_some}
use Rattle.frag_reasm.specs.Whole.{held, bytes_from, body_of}
use Rattle.frag_reasm.proofs.Gathering.{with_one}
use Rattle.frag_reasm.proofs.gather.is_whole.Given as goal

-- the walk from here on decides
abbrev pub invariant-loop-piece : goal.invariant-loop-piece
invariant-loop-piece l = record {
  decides : is_some (bytes_from (l._piece-end - l._piece) l.at (with_one l.held (held l.new))) ≡ is_some (body_of (with_one l.held
      (held l.new)));
  end : l._piece-end ≡ length (with_one l.held (held l.new));
}

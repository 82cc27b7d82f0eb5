use Rattle.std.proofs.Common.{◌≡◌, ◌+◌, ◌-◌, ℕ, suc, List, length, sym, ap, ◌∙◌, arith}
use Rattle.std.specs.Prelude.{is_some}
use Rattle.frag_reasm.specs.declared.piece.HeldPiece.{HeldPiece}
use Rattle.frag_reasm.specs.Whole.{held, end_of, bytes_from}
use Rattle.frag_reasm.proofs.Gathering.{with_one, length-with_one, walk_spent, walk_gap, walk_last, walk_on, some_behind}
use Rattle.frag_reasm.proofs.gather.is_whole.Goals as goal

pub loop-piece-init : goal.loop-piece-init
loop-piece-init c =
    let all : List HeldPiece = with_one c.args.held.now (held c.args.new) in
    record {
      decides = ap (λ (n : ℕ). is_some (bytes_from n 0 all)) (omega (arith, length-with_one c.args.held.now (held c.args.new)));
      end = sym (length-with_one c.args.held.now (held c.args.new));
    }

pub loop-piece-preserved : goal.loop-piece-preserved
loop-piece-preserved c =
    let all : List HeldPiece = with_one c.args.held.now (held c.args.new) in
    let p : HeldPiece = held c.in-Some.piece in
    let left : ℕ = length c.args.held.now + 1 - (c.loop-piece._piece + 1) in
    let more : length c.args.held.now + 1 - c.loop-piece._piece ≡ suc left = omega arith in
    record {
      decides =
          ap (λ (n : ℕ). is_some (bytes_from left n all)) c.end-at.ensures
          ∙ sym (ap is_some (walk_on all _ left c.loop-piece.at p more (sym c.in-Some.ensures) c.if-piece.false)
          ∙ some_behind p.bytes (bytes_from left (end_of p) all))
          ∙ c.loop-piece.invariant.decides;
      end = c.loop-piece.invariant.end;
    }

pub returns-in-None : goal.returns-in-None
returns-in-None c =
    ap is_some (sym (walk_gap (with_one c.args.held.now (held c.args.new)) _ c.loop-piece.at (sym c.in-None.ensures)))
    ∙ c.loop-piece.invariant.decides

pub returns-then-piece : goal.returns-then-piece
returns-then-piece c =
    let left : ℕ = length c.args.held.now + 1 - (c.loop-piece._piece + 1) in
    ap is_some (sym (walk_last (with_one c.args.held.now (held c.args.new)) _ left c.loop-piece.at (held c.in-Some.piece) (omega arith)
    (sym c.in-Some.ensures) c.if-piece.true))
    ∙ c.loop-piece.invariant.decides

pub returns : goal.returns
returns c =
    ap is_some (sym (walk_spent (with_one c.args.held.now (held c.args.new)) _ c.loop-piece.at (omega arith)))
    ∙ c.loop-piece.invariant.decides

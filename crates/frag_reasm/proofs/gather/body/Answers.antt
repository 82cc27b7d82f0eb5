use Rattle.std.proofs.Common.{◌≡◌, ◌+◌, ◌-◌, ◌++◌, ℕ, List, length, Option, Some, None, option_map, sym, ap, ◌∙◌, arith}
use Rattle.frag_reasm.specs.declared.piece.HeldPiece.{HeldPiece}
use Rattle.frag_reasm.specs.Whole.{held, end_of, bytes_from}
use Rattle.frag_reasm.proofs.Gathering.{with_one, length-with_one, walk_spent, walk_gap, walk_last, walk_on, behind_both, nothing_before}
use Rattle.aftr_base.proofs.Founds.{some_inj}
use Rattle.frag_reasm.proofs.gather.body.Goals as goal

-- bytes and those behind them
abbrev behind : List ℕ → Option (List ℕ) → Option (List ℕ)
behind front o = option_map (λ more. front ++ more) o

pub loop-piece-init : goal.loop-piece-init
loop-piece-init c =
    let all : List HeldPiece = with_one c.args.held.now (held c.args.new) in
    let same : length c.args.held.now + 1 - 0 ≡ length all = omega (arith, length-with_one c.args.held.now (held c.args.new)) in
    record {
      rest = λ bytes whole.
          ap (λ (l : List ℕ). behind l (bytes_from (length c.args.held.now + 1 - 0) 0 all)) c.new-body.ensures
          ∙ nothing_before (bytes_from (length c.args.held.now + 1 - 0) 0 all)
          ∙ ap (λ (n : ℕ). bytes_from n 0 all) same ∙ whole;
      end = sym (length-with_one c.args.held.now (held c.args.new));
    }

pub loop-piece-preserved : goal.loop-piece-preserved
loop-piece-preserved c =
    let all : List HeldPiece = with_one c.args.held.now (held c.args.new) in
    let p : HeldPiece = held c.in-Some.piece in
    let left : ℕ = length c.args.held.now + 1 - (c.loop-piece._piece + 1) in
    record {
      rest = λ bytes whole.
          ap (λ (n : ℕ). behind c.extend_from_slice.new.self (bytes_from left n all)) c.end-at.ensures
          ∙ ap (λ (l : List ℕ). behind l (bytes_from left (end_of p) all)) c.in_ok-extend_from_slice-in-Some.ensures.ok
          ∙ sym (behind_both c.loop-piece.body p.bytes (bytes_from left (end_of p) all))
          ∙ sym (ap (behind c.loop-piece.body) (walk_on all _ left c.loop-piece.at p (omega arith)
          (sym c.in-Some.ensures) c.if-piece.false))
          ∙ c.loop-piece.invariant.rest bytes whole;
      end = c.loop-piece.invariant.end;
    }

pub returns-in-None : goal.returns-in-None
returns-in-None c = λ bytes whole.
    let gap = walk_gap (with_one c.args.held.now (held c.args.new)) (length c.args.held.now + 1 - c.loop-piece._piece) c.loop-piece.at
    (sym c.in-None.ensures) in
    let none : None ≡ Some bytes = sym (ap (behind c.loop-piece.body) gap) ∙ c.loop-piece.invariant.rest bytes whole in
    cc

pub returns-then-piece : goal.returns-then-piece
returns-then-piece c = λ bytes whole.
    let left : ℕ = length c.args.held.now + 1 - (c.loop-piece._piece + 1) in
    c.in_ok-extend_from_slice-in-Some.ensures.ok
    ∙ some_inj _ bytes (sym (ap (behind c.loop-piece.body) (walk_last (with_one c.args.held.now (held c.args.new)) _ left c.loop-piece.at
    (held c.in-Some.piece) (omega arith) (sym c.in-Some.ensures) c.if-piece.true))
    ∙ c.loop-piece.invariant.rest bytes whole)

pub returns : goal.returns
returns c = λ bytes whole.
    let spent = walk_spent (with_one c.args.held.now (held c.args.new))
    (length c.args.held.now + 1 - c.loop-piece._piece) c.loop-piece.at (omega arith) in
    let none : None ≡ Some bytes = sym (ap (behind c.loop-piece.body) spent) ∙ c.loop-piece.invariant.rest bytes whole in
    cc

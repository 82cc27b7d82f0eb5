use Rattle.std.proofs.Common.{◌∙◌, ap, sym, option_map, Some, ◌∷◌, []}
use Rattle.std.specs.Prelude.{◌==◌}
use Rattle.frag_reasm.specs.Whole.{held}
use Rattle.frag_reasm.specs.declared.piece.HeldPiece.{HeldPiece}
use Rattle.frag_reasm.proofs.Gathering.{find_front, find_behind, find_alone}
use Rattle.frag_reasm.proofs.gather.piece_at.Goals as goal

pub returns-in-Some : goal.returns-in-Some
returns-in-Some c =
    ap (λ (p : HeldPiece). Some p) c.as_piece.ensures
    ∙ sym (find_front (λ (p : HeldPiece). p.offset == c.args.at) c.args.held.now (held c.args.new ∷ []) c.in-Some.kept.now
    (sym c.in-Some.ensures))

pub returns-in-None : goal.returns-in-None
returns-in-None c =
    ap (option_map held) c.then_some.ensures ∙ find_alone c.args.new c.args.at _ c.from.ensures
    ∙ sym (find_behind (λ (p : HeldPiece). p.offset == c.args.at) c.args.held.now (held c.args.new ∷ []) (sym c.in-None.ensures))

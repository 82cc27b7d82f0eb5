use Rattle.std.proofs.Common.{◌++◌, ◌∷◌, [], List, sym, ap, ◌∙◌}
use Rattle.std.specs.Prelude.{is_some}
use Rattle.frag_reasm.specs.declared.piece.HeldPiece.{HeldPiece}
use Rattle.frag_reasm.specs.Whole.{held, body_of}
use Rattle.frag_reasm.specs.Offers.{held_of}
use Rattle.frag_reasm.proofs.Offering.{whole_right, gap_right}
use Rattle.frag_reasm.proofs.pieces.Pieces.join.Goals as goal

pub returns-then-is_whole-clause-whole : goal.returns-then-is_whole-clause-whole
returns-then-is_whole-clause-whole c =
    whole_right (held_of c.args.key c.args.self.now ++ held c.args.piece ∷ []) c.in_ok-answer.answer c.requires.apart
    (sym c.if-is_whole.true ∙ c.is_whole.ensures
    ∙ ap (λ (ps : List HeldPiece). is_some (body_of (ps ++ held c.args.piece ∷ []))) c.held.ensures.value)
    c.in_ok-answer.ensures

pub returns-clause-held : goal.returns-clause-held
returns-clause-held c = λ same.
    gap_right (held_of c.args.key c.args.self.now ++ held c.args.piece ∷ []) c.requires.apart
    (sym c.if-is_whole.false ∙ c.is_whole.ensures
    ∙ ap (λ (ps : List HeldPiece). is_some (body_of (ps ++ held c.args.piece ∷ []))) c.held.ensures.value)

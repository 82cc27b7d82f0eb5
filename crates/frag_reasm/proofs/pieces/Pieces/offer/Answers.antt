use Rattle.std.proofs.Common.{◌++◌, ◌∷◌, [], List, Bool, inr, sym, ap, ◌∙◌, subst}
use Rattle.std.specs.Prelude.{if◌then◌else◌}
use Rattle.std.specs.List.{list_any}
use Rattle.frag_reasm.specs.declared.piece.HeldPiece.{HeldPiece}
use Rattle.frag_reasm.specs.declared.pieces.Offer.{Offer}
use Rattle.frag_reasm.specs.Whole.{held, contradicts, AreApart, Cuts, IsIncomplete}
use Rattle.frag_reasm.specs.Offers.{held_of, gathered, IfWhole}
use Rattle.frag_reasm.proofs.Apart.{apart_push}
use Rattle.frag_reasm.proofs.Offering.{not_bad_bytes, alone_cuts, alone_answer, held_answer}
use Rattle.frag_reasm.proofs.InOrder.{any_order}
use Rattle.frag_reasm.proofs.pieces.Pieces.offer.Goals as goal

pub returns-then-is_atomic-clause-whole : goal.returns-then-is_atomic-clause-whole
returns-then-is_atomic-clause-whole c =
    let p : HeldPiece = held c.args.piece in
    let others : List HeldPiece = held_of c.args.key c.args.self.now ++ p ∷ [] in
    subst (λ (r : Offer). IfWhole r (Cuts (gathered c.args.key p c.args.self.now))) (sym c.unwrap_or.ensures)
    (alone_answer c.alone.result p.head p.bytes (Cuts (gathered c.args.key p c.args.self.now)) c.alone.ensures
    (subst (λ (b : Bool). Cuts (if b then p ∷ [] else others) p.head p.bytes) c.if-is_atomic.ensures
    (alone_cuts c.args.key p (sym c.if-is_bad.ensures) (sym c.if-is_atomic.ensures))))

pub join-requires : goal.join-requires
join-requires c = record {
  apart = apart_push (held_of c.args.key c.args.self.now) (held c.args.piece)
      (subst AreApart c.held-2.ensures.value c.held-2.ensures.apart)
      (not_bad_bytes (held c.args.piece) (sym c.if-is_bad.ensures))
      (ap (list_any (contradicts (held c.args.piece))) (sym c.held-2.ensures.value) ∙ sym c.if-is_contradicted.ensures);
}

pub returns-clause-held : goal.returns-clause-held
returns-clause-held c = λ same.
    let p : HeldPiece = held c.args.piece in
    let others : List HeldPiece = held_of c.args.key c.args.self.now ++ p ∷ [] in
    inr (subst (λ (b : Bool). IsIncomplete (if b then p ∷ [] else others)) c.if-is_atomic.ensures
    (held_answer c.join.result (IsIncomplete others) c.join.ensures.held (sym c.unwrap_or-2.ensures ∙ same)))

pub returns-then-is_bad-clause-any_order : goal.returns-then-is_bad-clause-any_order
returns-then-is_bad-clause-any_order c = any_order

pub returns-then-is_atomic-clause-any_order : goal.returns-then-is_atomic-clause-any_order
returns-then-is_atomic-clause-any_order c = any_order

pub returns-then-is_held-clause-any_order : goal.returns-then-is_held-clause-any_order
returns-then-is_held-clause-any_order c = any_order

pub returns-then-is_full-clause-any_order : goal.returns-then-is_full-clause-any_order
returns-then-is_full-clause-any_order c = any_order

pub returns-then-end_limit-end-clause-any_order : goal.returns-then-end_limit-end-clause-any_order
returns-then-end_limit-end-clause-any_order c = any_order

pub returns-then-is_contradicted-clause-any_order : goal.returns-then-is_contradicted-clause-any_order
returns-then-is_contradicted-clause-any_order c = any_order

pub returns-clause-any_order : goal.returns-clause-any_order
returns-clause-any_order c = any_order

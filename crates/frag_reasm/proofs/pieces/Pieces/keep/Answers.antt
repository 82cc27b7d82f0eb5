use Rattle.std.proofs.Common.{◌≡◌, ◌++◌, ◌∷◌, [], ℕ, ◌⊎◌, inr, subst, Some, List, get_or, set, inl, refl, sym, ap, ◌∙◌}
use Rattle.std.proofs.lemmas.Result.{on_ok_weaker}
use Rattle.frag_reasm.specs.declared.piece.HeldPiece.{HeldPiece}
use Rattle.frag_reasm.specs.declared.pieces.PartialDatagram.{PartialDatagram}
use Rattle.frag_reasm.proofs.Keeping.{longer, kept_found, kept_missed, held_found}
use Rattle.frag_reasm.proofs.Members.{one_behind}
use Rattle.frag_reasm.proofs.Apart.{apart_bytes, apart_front}
use Rattle.frag_reasm.proofs.Sound.{sound_there}
use Rattle.frag_reasm.proofs.Offering.{two_ways}
use Rattle.frag_reasm.specs.Offers.{is_of, held_of}
use Rattle.frag_reasm.specs.Whole.{AreApart}
use Rattle.frag_reasm.specs.declared.key.PieceKey.{PieceKey}
use Rattle.std.specs.List.{position}
use Rattle.frag_reasm.proofs.pieces.Pieces.keep.Goals as goal

pub returns-in-Some-clause-ok : goal.returns-in-Some-clause-ok
returns-in-Some-clause-ok c =
    let there : PartialDatagram = c.index_mut-datagram.result.now in
    on_ok_weaker c.push.result
    (λ put.
    ap (λ (ps : List HeldPiece). set c.self.inside.datagrams.items c.in-Some.at (record there { pieces = ps })) put
    ∙ ap (λ (d : PartialDatagram). set c.self.inside.datagrams.items c.in-Some.at
    (longer c.args.piece d)) c.index_mut-datagram.ensures.value
    ∙ ap (λ (ds : List PartialDatagram). set ds c.in-Some.at (longer c.args.piece (get_or ds c.in-Some.at there))) c.self.view_is
    ∙ sym (kept_found c.args.key c.args.piece c.args.now c.args.self.now c.in-Some.at there (sym c.in-Some.ensures)))
    c.push.ensures.ok

pub returns-in-None-clause-ok : goal.returns-in-None-clause-ok
returns-in-None-clause-ok c =
    on_ok_weaker c.begin.result
    (λ put. put ∙ sym (kept_missed c.args.key c.args.piece c.args.now c.args.self.now (sym c.in-None.ensures)))
    c.begin.ensures.ok

-- the datagram that was found has the piece behind its own, or for want of memory its own alone
longer_apart : (key : PieceKey) (p : HeldPiece) (ds : List PartialDatagram) (at : ℕ) (there : PartialDatagram) (ps : List HeldPiece)
    → position (is_of key) ds ≡ Some at → there ≡ get_or ds at there → AreApart (held_of key ds ++ p ∷ [])
    → (ps ≡ there.pieces ++ p ∷ []) ⊎ (ps ≡ there.pieces) → AreApart ps
longer_apart key p ds at there ps found here apart put =
    let same : held_of key ds ≡ there.pieces = held_found key ds at there found ∙ sym (ap (λ (d : PartialDatagram). d.pieces) here) in
    elim put [
      | inl more ↦ subst AreApart (ap (λ (qs : List HeldPiece). qs ++ p ∷ []) same ∙ sym more) apart
      | inr kept ↦ subst AreApart (same ∙ sym kept) (apart_front (held_of key ds) p apart)
    ]

pub invariant_of-self : goal.invariant_of-self
invariant_of-self c =
    let there : PartialDatagram = c.index_mut-datagram.result.now in
    sound_there c.self.inside.datagrams.items c.in-Some.at (record there { pieces = c.push.new.self }) c.self.invariant
    (longer_apart c.args.key c.args.piece c.args.self.now c.in-Some.at there c.push.new.self (sym c.in-Some.ensures)
    (c.index_mut-datagram.ensures.value ∙ ap (λ (ds : List PartialDatagram). get_or ds c.in-Some.at there) c.self.view_is) c.requires.apart
    (two_ways c.push.result (c.push.new.self ≡ there.pieces ++ c.args.piece ∷ [])
    (c.push.new.self ≡ there.pieces) c.push.ensures.ok c.push.ensures.err))

pub begin-requires : goal.begin-requires
begin-requires c = record {
  bytes = apart_bytes (held_of c.args.key c.args.self.now ++ c.args.piece ∷ []) c.args.piece c.requires.apart
      (one_behind (held_of c.args.key c.args.self.now) (c.args.piece ∷ []) c.args.piece (inl refl));
}

-- What is held of a datagram after a piece of it was kept.
use Rattle.std.proofs.Common.{◌≡◌, inl, inr, Bool, true, false, cond, not, List, [], ◌∷◌, ◌++◌, refl, sym, ap, ◌∙◌}
use Rattle.std.specs.List.{list_any}
use Rattle.std.proofs.lemmas.Bool.{and_from, or_left, or_right, or_parts, eq-eqb, cases_Bool}
use Rattle.aftr_base.specs.Value.{subscriber_eq}
use Rattle.aftr_base.specs.declared.value.Moment.{Moment}
use Rattle.aftr_base.specs.declared.value.Subscriber.{Subscriber}
use Rattle.frag_reasm.specs.declared.key.PieceKey.{PieceKey}
use Rattle.frag_reasm.specs.declared.key.PieceKey.TheVariants.{Six, Inner, Public}
use Rattle.frag_reasm.specs.declared.piece.HeldPiece.{HeldPiece}
use Rattle.frag_reasm.specs.declared.pieces.PartialDatagram.{PartialDatagram}
use Rattle.frag_reasm.specs.Keys.{key_eq}
use Rattle.frag_reasm.specs.Offers.{is_of, new_datagram, held_of, without, kept_with}
use Rattle.frag_reasm.proofs.Keeping.{longer, kept_here, kept_later, kept_nowhere, held_first, held_later}

subscriber_same : (s : Subscriber) → subscriber_eq s s ≡ true
subscriber_same s = and_from _ _ (eq-eqb s.0.bits.0 s.0.bits.0 refl) (eq-eqb s.0.len s.0.len refl)

pub key_same : (key : PieceKey) → key_eq key key ≡ true
key_same (Six s a b i) =
    and_from _ _ (and_from _ _ (and_from _ _ (subscriber_same s) (eq-eqb a.0 a.0 refl)) (eq-eqb b.0 b.0 refl)) (eq-eqb i i refl)
key_same (Inner s w a b i p) =
    and_from _ _ (and_from _ _ (and_from _ _ (and_from _ _ (and_from _ _ (subscriber_same s) (eq-eqb w.0 w.0 refl))
    (eq-eqb a.0 a.0 refl)) (eq-eqb b.0 b.0 refl))
    (eq-eqb i i refl)) (eq-eqb p p refl)
key_same (Public a b i p) =
    and_from _ _ (and_from _ _ (and_from _ _ (eq-eqb a.0 a.0 refl) (eq-eqb b.0 b.0 refl)) (eq-eqb i i refl)) (eq-eqb p p refl)

module _ (key : PieceKey) (p : HeldPiece) (now : Moment) where
  -- its pieces, and the new one behind them
  pub held_kept : (ds : List PartialDatagram) → held_of key (kept_with key p now ds) ≡ held_of key ds ++ p ∷ []
  held_kept [] =
      ap (held_of key) (kept_nowhere key p now) ∙ held_first key (new_datagram key p now) [] (key_same key)
  held_kept (d ∷ ds) = elim (cases_Bool (is_of key d)) [
    | inl here ↦
        ap (held_of key) (kept_here key p now d ds here) ∙ held_first key (longer p d) ds here
        ∙ ap (λ (ps : List HeldPiece). ps ++ p ∷ []) (sym (held_first key d ds here))
    | inr later ↦
        ap (held_of key) (kept_later key p now d ds later) ∙ held_later key d (kept_with key p now ds) later ∙ held_kept ds
        ∙ ap (λ (ps : List HeldPiece). ps ++ p ∷ []) (sym (held_later key d ds later))
  ]

  pub known_kept : (ds : List PartialDatagram) → list_any (is_of key) (kept_with key p now ds) ≡ true
  known_kept [] = ap (list_any (is_of key)) (kept_nowhere key p now) ∙ or_left (key_eq key key) false (key_same key)
  known_kept (d ∷ ds) = elim (cases_Bool (is_of key d)) [
    | inl here ↦ ap (list_any (is_of key)) (kept_here key p now d ds here) ∙ or_left (is_of key d) (list_any (is_of key) ds) here
    | inr later ↦ ap (list_any (is_of key)) (kept_later key p now d ds later)
        ∙ or_right (is_of key d) (list_any (is_of key) (kept_with key p now ds)) (known_kept ds)
  ]

  gone : (d : PartialDatagram) (ds : List PartialDatagram) → is_of key d ≡ true → without key (d ∷ ds) ≡ without key ds
  gone d ds here = ap (λ (b : Bool). cond (not b) (d ∷ without key ds) (without key ds)) here

  left : (d : PartialDatagram) (ds : List PartialDatagram) → is_of key d ≡ false → without key (d ∷ ds) ≡ d ∷ without key ds
  left d ds later = ap (λ (b : Bool). cond (not b) (d ∷ without key ds) (without key ds)) later

  -- the other datagrams stay
  pub others_kept : (ds : List PartialDatagram) → without key (kept_with key p now ds) ≡ without key ds
  others_kept [] = ap (without key) (kept_nowhere key p now) ∙ gone (new_datagram key p now) [] (key_same key)
  others_kept (d ∷ ds) = elim (cases_Bool (is_of key d)) [
    | inl here ↦ ap (without key) (kept_here key p now d ds here) ∙ gone (longer p d) ds here ∙ sym (gone d ds here)
    | inr later ↦
        ap (without key) (kept_later key p now d ds later) ∙ left d (kept_with key p now ds) later
        ∙ ap (λ (rest : List PartialDatagram). d ∷ rest) (others_kept ds) ∙ sym (left d ds later)
  ]

-- ---- a datagram of which nothing is held

pub others_all : (key : PieceKey) (ds : List PartialDatagram) → list_any (is_of key) ds ≡ false → without key ds ≡ ds
others_all key [] h = refl
others_all key (d ∷ ds) h =
    let parts = or_parts (is_of key d) (list_any (is_of key) ds) h in
    ap (λ (b : Bool). cond (not b) (d ∷ without key ds) (without key ds)) parts.0
    ∙ ap (λ (rest : List PartialDatagram). d ∷ rest) (others_all key ds parts.1)

pub held_none : (key : PieceKey) (ds : List PartialDatagram) → list_any (is_of key) ds ≡ false → held_of key ds ≡ []
held_none key [] h = refl
held_none key (d ∷ ds) h =
    let parts = or_parts (is_of key d) (list_any (is_of key) ds) h in
    held_later key d ds parts.0 ∙ held_none key ds parts.1

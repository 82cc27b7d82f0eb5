-- Pieces that don't contradict each other.
use Rattle.std.proofs.Common.{◌≡◌, inl, inr, ℕ, ◌+◌, ◌<◌, ◌≤◌, true, false, List, [], ◌∷◌, ◌++◌, length, sym, ap, ◌∙◌, subst, arith}
use Rattle.std.specs.Prelude.{count_by, nat_lt, ◌||◌}
use Rattle.std.specs.List.{AllByRecursion, list_any}
use Rattle.std.proofs.lemmas.Bool.{both_ways, cases_Bool, ltb-false, lt-ltb, and_parts, and_from, or_cases, or_parts, or_left, or_right}
use Rattle.std.proofs.lemmas.Bool.{false_from_ne_true}
use Rattle.frag_reasm.specs.declared.piece.HeldPiece.{HeldPiece}
use Rattle.frag_reasm.specs.Whole.{IsOneOf, covers, end_of, shares_a_byte, is_past, contradicts, AreApart}
use Rattle.frag_reasm.proofs.Members.{at_one, covers_gives, count_yes, count_no, count_none}

-- ---- two pieces

pub shares_from : (p q : HeldPiece) → p.offset < end_of q → q.offset < end_of p → shares_a_byte p q ≡ true
shares_from p q one other = and_from _ _ (lt-ltb p.offset (end_of q) one) (lt-ltb q.offset (end_of p) other)

past_from : (p q : HeldPiece) → q.last ≡ true → end_of q < end_of p → is_past p q ≡ true
past_from p q last more = and_from _ _ last (lt-ltb (end_of q) (end_of p) more)

pub contradict_share : (p q : HeldPiece) → shares_a_byte p q ≡ true → contradicts p q ≡ true
contradict_share p q h = or_left (shares_a_byte p q || is_past p q) (is_past q p) (or_left (shares_a_byte p q) (is_past p q) h)

contradict_past : (p q : HeldPiece) → is_past p q ≡ true → contradicts p q ≡ true
contradict_past p q h = or_left (shares_a_byte p q || is_past p q) (is_past q p) (or_right (shares_a_byte p q) (is_past p q) h)

pub contradict_both : (p q : HeldPiece) → contradicts p q ≡ true → contradicts q p ≡ true
contradict_both p q h = elim (or_cases (shares_a_byte p q || is_past p q) (is_past q p) h) [
  | inl first ↦ elim (or_cases (shares_a_byte p q) (is_past p q) first) [
    | inl share ↦ let parts = and_parts (nat_lt p.offset (end_of q)) (nat_lt q.offset (end_of p)) share in
        contradict_share q p (and_from _ _ parts.1 parts.0)
    | inr past ↦ or_right (shares_a_byte q p || is_past q p) (is_past p q) past
  ]
  | inr past ↦ contradict_past q p past
]

-- no byte is in both
pub apart_covers : (i : ℕ) (p q : HeldPiece) → contradicts p q ≡ false → covers i p ≡ true → covers i q ≡ false
apart_covers i p q apart here = false_from_ne_true _ (λ there.
    let one = covers_gives i p here in
    let other = covers_gives i q there in
    both_ways (contradicts p q) apart (contradict_share p q (shares_from p q (omega (arith, one, other)) (omega (arith, one, other)))))

-- ---- many

pub apart_bytes : (ps : List HeldPiece) (p : HeldPiece) → AreApart ps → IsOneOf p ps → 0 < length p.bytes
apart_bytes [] p apart h = absurd h
apart_bytes (x ∷ ps) p apart (inl same) = subst (λ (q : HeldPiece). 0 < length q.bytes) (sym same) apart.0
apart_bytes (x ∷ ps) p apart (inr later) = apart_bytes ps p apart.2 later

-- two that contradict each other are one
pub apart_same : (ps : List HeldPiece) (p q : HeldPiece) → AreApart ps → IsOneOf p ps → IsOneOf q ps → contradicts p q ≡ true → p ≡ q
apart_same [] p q apart hp hq h = absurd hp
apart_same (x ∷ ps) p q apart (inl same) (inl same') h = same ∙ sym same'
apart_same (x ∷ ps) p q apart (inl same) (inr later) h =
    absurd (both_ways (contradicts x q) (at_one (λ y. contradicts x y ≡ false) ps q apart.1 later) (ap
    (λ y. contradicts y q) (sym same) ∙ h))
apart_same (x ∷ ps) p q apart (inr later) (inl same) h =
    absurd (both_ways (contradicts x p) (at_one (λ y. contradicts x y ≡ false) ps p apart.1 later)
    (ap (λ y. contradicts y p) (sym same) ∙ contradict_both p q h))
apart_same (x ∷ ps) p q apart (inr hp) (inr hq) h = apart_same ps p q apart.2 hp hq h

-- none ends behind a last one
pub apart_ends : (ps : List HeldPiece) (p q : HeldPiece) → AreApart ps → IsOneOf p ps → IsOneOf q ps → q.last ≡ true → end_of p ≤ end_of q
apart_ends ps p q apart hp hq last = elim (cases_Bool (nat_lt (end_of q) (end_of p))) [
  | inl more ↦
      let same : p ≡ q = apart_same ps p q apart hp hq (contradict_past p q (and_from _ _ last more)) in
      omega (arith, ap end_of same)
  | inr most ↦ ltb-false (end_of q) (end_of p) most
]

-- a byte that is in one is in no other
pub apart_count : (i : ℕ) (ps : List HeldPiece) (c : HeldPiece) → AreApart ps → IsOneOf c ps → covers i c ≡ true
    → count_by (covers i) ps ≡ 1
apart_count i [] c apart h here = absurd h
apart_count i (x ∷ ps) c apart (inl same) here =
    let there : covers i x ≡ true = ap (covers i) (sym same) ∙ here in
    count_yes (covers i) x ps there
    ∙ ap (λ n. 1 + n) (count_none (covers i) ps (λ q later. apart_covers i x q (at_one
    (λ y. contradicts x y ≡ false) ps q apart.1 later) there))
apart_count i (x ∷ ps) c apart (inr later) here =
    count_no (covers i) x ps (false_from_ne_true _ (λ there.
    both_ways (covers i c) (apart_covers i x c (at_one (λ y. contradicts x y ≡ false) ps c apart.1 later) there) here))
    ∙ apart_count i ps c apart.2 later here

push_all : (x p : HeldPiece) (ps : List HeldPiece) → AllByRecursion (λ q. contradicts x q ≡ false) ps → contradicts x p ≡ false
    → AllByRecursion (λ q. contradicts x q ≡ false) (ps ++ p ∷ [])
push_all x p [] all h = (h, tt)
push_all x p (q ∷ ps) all h = (all.0, push_all x p ps all.1 h)

-- one more that contradicts none of them
pub apart_push : (ps : List HeldPiece) (p : HeldPiece) → AreApart ps → 0 < length p.bytes → list_any (contradicts p) ps ≡ false
    → AreApart (ps ++ p ∷ [])
apart_push [] p apart bytes none = (bytes, tt, tt)
apart_push (x ∷ ps) p apart bytes none =
    let parts = or_parts (contradicts p x) (list_any (contradicts p) ps) none in (
      apart.0,
      push_all x p ps apart.1 (false_from_ne_true _ (λ h. both_ways (contradicts p x) parts.0 (contradict_both x p h))),
      apart_push ps p apart.2 bytes parts.1,
    )

front_all : (x p : HeldPiece) (ps : List HeldPiece) → AllByRecursion (λ q. contradicts x q ≡ false) (ps ++ p ∷ [])
    → AllByRecursion (λ q. contradicts x q ≡ false) ps
front_all x p [] all = tt
front_all x p (q ∷ ps) all = (all.0, front_all x p ps all.1)

-- and one fewer
pub apart_front : (ps : List HeldPiece) (p : HeldPiece) → AreApart (ps ++ p ∷ []) → AreApart ps
apart_front [] p apart = tt
apart_front (x ∷ ps) p apart = (apart.0, front_all x p ps apart.1, apart_front ps p apart.2)

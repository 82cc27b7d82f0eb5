-- What an offered piece is answered, in the terms of a datagram that was cut.
use Rattle.std.proofs.Common.{◌≡◌, ◌⊎◌, inl, inr, ℕ, ◌<◌, Bool, true, false, cond, List, [], ◌∷◌, length, Option, Some, None, refl, sym}
use Rattle.std.proofs.Common.{ap, ◌∙◌, subst, arith}
use Rattle.std.specs.Prelude.{Result, Ok, Err, IfOk, OnOk, OnErr, is_some, ◌==◌, ◌&&◌, not, ◌%◌}
use Rattle.std.specs.Option.{option_map_or}
use Rattle.std.specs.Result.{result_unwrap_or}
use Rattle.std.proofs.lemmas.Bool.{and_parts, or_parts, eqb-true, eqb-false, eq-eqb}
use Rattle.aftr_base.specs.declared.memory.NoMemory.{NoMemory as WantsMemory}
use Rattle.frag_reasm.specs.declared.key.PieceKey.{PieceKey}
use Rattle.frag_reasm.specs.declared.piece.HeldPiece.{HeldPiece}
use Rattle.frag_reasm.specs.declared.pieces.Offer.{Offer}
use Rattle.frag_reasm.specs.declared.pieces.Offer.TheVariants.{Whole, Held, NoMemory}
use Rattle.frag_reasm.specs.Keys.{is_six}
use Rattle.frag_reasm.specs.Whole.{is_bad, piece_at, body_of, head_of, AreApart, Cuts, IsIncomplete}
use Rattle.frag_reasm.specs.Offers.{is_atomic, IfWhole}
use Rattle.frag_reasm.proofs.Members.{cases_Option}
use Rattle.frag_reasm.proofs.Apart.{apart_bytes}
use Rattle.frag_reasm.proofs.Gathering.{walk_last}
use Rattle.frag_reasm.proofs.Walks.{cuts_of}
use Rattle.frag_reasm.proofs.Tilings.{body_there}

-- ---- many pieces

pub whole_right : (all : List HeldPiece) (answer : Offer) → AreApart all → true ≡ is_some (body_of all)
    → ((bytes : List ℕ) → body_of all ≡ Some bytes → answer ≡ Whole (head_of all) bytes) → IfWhole answer (Cuts all)
whole_right all answer apart whole says = elim (cases_Option (body_of all)) [
  | inl none ↦ let no : true ≡ false = whole ∙ ap is_some none in cc
  | inr (bytes, there) ↦ subst (λ (a : Offer). IfWhole a (Cuts all)) (sym (says bytes there)) (cuts_of all bytes apart there)
]

pub gap_right : (all : List HeldPiece) → AreApart all → false ≡ is_some (body_of all) → IsIncomplete all
gap_right all apart gap = λ head body cuts.
    let yes_there : false ≡ true = gap ∙ ap is_some (body_there all head body cuts (λ p one. apart_bytes all p apart one)) in
    cc

-- ---- one piece alone

pub not_bad_bytes : (p : HeldPiece) → is_bad p ≡ false → 0 < length p.bytes
not_bad_bytes p good =
    let some_bytes = eqb-false (length p.bytes) 0 (or_parts (length p.bytes == 0) (not p.last && not (length p.bytes % 8 == 0)) good).0 in
    omega arith

pub alone_cuts : (key : PieceKey) (p : HeldPiece) → is_bad p ≡ false → is_atomic key p ≡ true → Cuts (p ∷ []) p.head p.bytes
alone_cuts key p good atomic =
    let parts = and_parts (is_six key && p.offset == 0) p.last atomic in
    let first : p.offset ≡ 0 = eqb-true p.offset 0 (and_parts (is_six key) (p.offset == 0) parts.0).1 in
    let found : piece_at 0 (p ∷ []) ≡ Some p = ap (λ (b : Bool). cond b (Some p) None) (eq-eqb p.offset 0 first) in
    subst (λ (head : List ℕ). Cuts (p ∷ []) head p.bytes) (ap (λ (o : Option HeldPiece). option_map_or
    (λ (q : HeldPiece). q.head) o []) found)
    (cuts_of (p ∷ []) p.bytes (not_bad_bytes p good, tt, tt) (walk_last (p ∷ []) 1 0 0 p refl found parts.1))

-- ---- want of memory

pub alone_answer : (r : Result Offer WantsMemory) (head bytes : List ℕ) (P : List ℕ → List ℕ → Type 0)
    → IfOk r (λ answer. answer ≡ Whole head bytes)
    → P head bytes → IfWhole (result_unwrap_or r NoMemory) P
alone_answer (Ok answer) head bytes P says holds = subst (λ (a : Offer). IfWhole a P) (sym says) holds
alone_answer (Err e) head bytes P says holds = tt

pub held_answer : (r : Result Offer WantsMemory) (Q : Type 0) → IfOk r (λ answer. answer ≡ Held → Q)
    → result_unwrap_or r NoMemory ≡ Held → Q
held_answer (Ok answer) Q says same = says same
held_answer (Err e) Q says same = cc

pub two_ways : {A E : Type 0} (r : Result A E) (P Q : Type 0) → OnOk r P → OnErr r Q → P ⊎ Q
two_ways (Ok x) P Q p q = inl p
two_ways (Err e) P Q p q = inr q

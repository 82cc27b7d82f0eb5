-- The held pieces came in records, and what they make whole did too.
use Rattle.std.proofs.Common.{◌≡◌, inl, inr, ℕ, zero, suc, ◌+◌, ◌≤◌, Bool, true, false, cond, ◌&&◌, List, [], ◌∷◌, ◌++◌, length}
use Rattle.std.proofs.Common.{filter, option_map, Option, Some, None, refl, sym, ap, ◌∙◌, subst, arith, length-append}
use Rattle.std.specs.Prelude.{◌==◌, nat_lt, Result, Ok, Err, IfOk, IfSome, if◌then◌else◌}
use Rattle.std.specs.List.{AllByRecursion, list_any}
use Rattle.std.specs.Option.{option_map_or}
use Rattle.std.proofs.lemmas.Bool.{and_parts, cases_Bool, eqb-true, ltb-false}
use Rattle.aftr_base.proofs.Founds.{some_inj, found_passes}
use Rattle.aftr_base.specs.Bytes.{IsBytes}
use Rattle.aftr_base.specs.declared.value.Moment.{Moment}
use Rattle.frag_reasm.specs.declared.key.PieceKey.{PieceKey}
use Rattle.frag_reasm.specs.declared.key.PieceKey.TheVariants.{Six, Inner, Public}
use Rattle.frag_reasm.specs.declared.piece.HeldPiece.{HeldPiece}
use Rattle.frag_reasm.specs.declared.pieces.PartialDatagram.{PartialDatagram}
use Rattle.frag_reasm.specs.declared.pieces.Offer.{Offer}
use Rattle.frag_reasm.specs.declared.pieces.Offer.TheVariants.{Whole, Held, Overlap, TooMany, TooLong, Bad, NoMemory}
use Rattle.frag_reasm.specs.Keys.{key_eq, is_six, end_limit}
use Rattle.frag_reasm.specs.Whole.{is_bad, end_of, same_piece, contradicts, piece_at, bytes_from, body_of, head_of}
use Rattle.frag_reasm.specs.Offers.{Offered, Does, IfWhole, is_of, held_of, pieces_with, kept_with, is_atomic, is_full, told, offered, live}
use Rattle.frag_reasm.proofs.Members.{cases_Option, one_found, at_one}
use Rattle.frag_reasm.proofs.Gathering.{walk_spent, walk_gap, walk_last, walk_on}
use Rattle.frag_reasm.proofs.Keeping.{kept_here, kept_later, kept_nowhere, held_first, held_later}
use Rattle.ingress.specs.Gathering.{IsPiece, IsKept, IsPlainHead, AreKept, IsGathered, answer_to, gathered}
use Rattle.ingress.specs.declared.gather.Gathered.{Gathered}

-- ---- lists of bytes

pub bytes_both : (xs ys : List ℕ) → IsBytes xs → IsBytes ys → IsBytes (xs ++ ys)
bytes_both [] ys f g k = g k
bytes_both (x ∷ xs) ys f g zero = f zero
bytes_both (x ∷ xs) ys f g (suc k) = bytes_both xs ys (λ j. f (suc j)) g k

-- ---- the held pieces

-- keys of one datagram are of one family
same_family : (k l : PieceKey) → key_eq k l ≡ true → is_six k ≡ is_six l
same_family (Six s a b i) (Six t c d j) e = refl
same_family (Six s a b i) (Inner t v c d j q) e = cc
same_family (Six s a b i) (Public c d j q) e = cc
same_family (Inner s w a b i p) (Six t c d j) e = cc
same_family (Inner s w a b i p) (Inner t v c d j q) e = refl
same_family (Inner s w a b i p) (Public c d j q) e = refl
same_family (Public a b i p) (Six t c d j) e = cc
same_family (Public a b i p) (Inner t v c d j q) e = refl
same_family (Public a b i p) (Public c d j q) e = refl

kept_as : (k l : PieceKey) (p : HeldPiece) → is_six k ≡ is_six l → IsKept l p → IsKept k p
kept_as k l p same is = record {
  piece = record { head = λ four. is.piece.head (sym same ∙ four); bytes = is.piece.bytes };
  ends = subst (λ (b : Bool). end_of p ≤ (if b then 65535 else 65515)) (sym same) is.ends;
}

all_as : (k l : PieceKey) (ps : List HeldPiece) → is_six k ≡ is_six l → AllByRecursion (IsKept l) ps → AllByRecursion (IsKept k) ps
all_as k l [] same all = tt
all_as k l (p ∷ ps) same all = (kept_as k l p same all.0, all_as k l ps same all.1)

all_push : (key : PieceKey) (ps : List HeldPiece) (p : HeldPiece) → AllByRecursion (IsKept key) ps → IsKept key p
    → AllByRecursion (IsKept key) (ps ++ p ∷ [])
all_push key [] p all one = (one, tt)
all_push key (q ∷ ps) p all one = (all.0, all_push key ps p all.1 one)

filter_by : (d : PartialDatagram) (rest : List PartialDatagram) (b : Bool) → AllByRecursion (IsKept d.key) d.pieces → AreKept rest
    → AreKept (cond b (d ∷ rest) rest)
filter_by d rest true one all = (one, all)
filter_by d rest false one all = all

-- those that are left
pub kept_filter : (test : PartialDatagram → Bool) (ds : List PartialDatagram) → AreKept ds → AreKept (filter test ds)
kept_filter test [] all = tt
kept_filter test (d ∷ ds) all = filter_by d (filter test ds) (test d) all.0 (kept_filter test ds all.1)

-- those that aren't given up
pub kept_live : (now : ℕ) (ds : List PartialDatagram) → AreKept ds → AreKept (live now ds)
kept_live now ds all = kept_filter _ ds all

module _ (key : PieceKey) where
  -- those of one datagram
  held_kept : (ds : List PartialDatagram) → AreKept ds → AllByRecursion (IsKept key) (held_of key ds)
  held_kept [] all = tt
  held_kept (d ∷ ds) all = elim (cases_Bool (is_of key d)) [
    | inl here ↦
        subst (AllByRecursion (IsKept key)) (sym (held_first key d ds here))
        (all_as key d.key d.pieces (same_family key d.key here) all.0)
    | inr later ↦ subst (AllByRecursion (IsKept key)) (sym (held_later key d ds later)) (held_kept ds all.1)
  ]

  module _ (p : HeldPiece) (now : Moment) (is : IsKept key p) where
    -- a piece more
    with_kept : (ds : List PartialDatagram) → AreKept ds → AreKept (kept_with key p now ds)
    with_kept [] all = subst AreKept (sym (kept_nowhere key p now)) ((is, tt), tt)
    with_kept (d ∷ ds) all = elim (cases_Bool (is_of key d)) [
      | inl here ↦ subst AreKept (sym (kept_here key p now d ds here))
          (all_push d.key d.pieces p all.0 (kept_as d.key key p (sym (same_family key d.key here)) is), all.1)
      | inr later ↦ subst AreKept (sym (kept_later key p now d ds later)) (all.0, with_kept ds all.1)
    ]

-- ---- what they make whole

-- the bytes from an offset on, and the piece that they begin with
record IsWalk (key : PieceKey) (ps : List HeldPiece) (at : ℕ) (body : List ℕ) : Type 0 where
  ends : at + length body ≤ end_limit key
  bytes : IsBytes body
  begins : (p : HeldPiece) × (piece_at at ps ≡ Some p)

module _ (key : PieceKey) (ps : List HeldPiece) (all : AllByRecursion (IsKept key) ps) where
  found_kept : (at : ℕ) (p : HeldPiece) → piece_at at ps ≡ Some p → (p.offset ≡ at) × IsKept key p
  found_kept at p found =
      let test = λ (q : HeldPiece). q.offset == at in
      (eqb-true p.offset at (found_passes test ps p found), at_one (IsKept key) ps p all (one_found test ps p found))

  walk_end : (at : ℕ) (p : HeldPiece) (body : List ℕ) → piece_at at ps ≡ Some p → p.bytes ≡ body → IsWalk key ps at body
  walk_end at p body found same =
      let (there, is) = found_kept at p found in
      record {
        ends = omega (arith, there, is.ends, ap length same);
        bytes = subst IsBytes same is.piece.bytes;
        begins = (p, found);
      }

  walk_more : (at : ℕ) (p : HeldPiece) (more body : List ℕ) → piece_at at ps ≡ Some p → IsWalk key ps (end_of p) more
      → p.bytes ++ more ≡ body → IsWalk key ps at body
  walk_more at p more body found next same =
      let (there, is) = found_kept at p found in
      record {
        ends = omega (arith, there, next.ends, ap length same, length-append p.bytes more);
        bytes = subst IsBytes same (bytes_both p.bytes more is.piece.bytes next.bytes);
        begins = (p, found);
      }

  mapped : (p : HeldPiece) (o : Option (List ℕ)) (body : List ℕ) → option_map (λ more. p.bytes ++ more) o ≡ Some body
      → (more : List ℕ) × (o ≡ Some more) × (p.bytes ++ more ≡ body)
  mapped p None body h = cc
  mapped p (Some more) body h = (more, refl, some_inj (p.bytes ++ more) body h)

  walk : (n at : ℕ) (body : List ℕ) → bytes_from n at ps ≡ Some body → IsWalk key ps at body
  walk zero at body h = let none : bytes_from zero at ps ≡ None = walk_spent ps zero at refl in cc
  walk (suc n) at body h = elim (cases_Option (piece_at at ps)) [
    | inl gap ↦ let none : bytes_from (suc n) at ps ≡ None = walk_gap ps (suc n) at gap in cc
    | inr (p, found) ↦ elim (cases_Bool p.last) [
      | inl last ↦ walk_end at p body found (some_inj p.bytes body (sym (walk_last ps (suc n) n at p refl found last) ∙ h))
      | inr on ↦
          let (more, there, same) = mapped p (bytes_from n (end_of p) ps) body (sym (walk_on ps (suc n) n at p refl found on) ∙ h) in
          walk_more at p more body found (walk n (end_of p) more there) same
    ]
  ]

  limited : (body : List ℕ) → 0 + length body ≤ end_limit key → is_six key ≡ false → 20 + length body ≤ 65535
  limited body ends four =
      let within = subst (λ (b : Bool). length body ≤ (if b then 65535 else 65515)) four (omega (arith, ends)) in omega (arith, within)

  whole_kept : (body : List ℕ) → body_of ps ≡ Some body → IsGathered key (gathered (head_of ps) body)
  whole_kept body h =
      let is = walk (length ps) 0 body h in
      let (p, found) = is.begins in
      let head : p.head ≡ head_of ps = sym (ap (λ (o : Option HeldPiece). option_map_or (λ (q : HeldPiece). q.head) o []) found) in
      record {
        head = λ four. subst IsPlainHead head ((found_kept 0 p found).1.piece.head four);
        bytes = is.bytes;
        short = limited body is.ends;
      }

-- ---- an offered piece

if_by : {X : Type 0} (P : X → Type 0) (b : Bool) (x y : X) → (b ≡ true → P x) → (b ≡ false → P y) → P (if b then x else y)
if_by P true x y f g = f refl
if_by P false x y f g = g refl

-- what is held after it came so, and so did what it makes whole
pub record IsOffered (key : PieceKey) (o : Offered) : Type 0 where
  pub kept : AreKept o.kept
  pub whole : IfWhole o.answer (λ head bytes. IsGathered key (gathered head bytes))

pub no_family : (key : PieceKey) → is_six key ≡ true → is_six key ≡ false → ⊥
no_family key six four = let no : true ≡ false = sym six ∙ four in cc

six_alone : (key : PieceKey) (p : HeldPiece) → is_atomic key p ≡ true → is_six key ≡ false → ⊥
six_alone key p alone four =
    no_family key (and_parts (is_six key) (p.offset == 0) (and_parts (is_six key && p.offset == 0) p.last alone).0).0 four

module _ (key : PieceKey) (p : HeldPiece) (now : Moment) (kept : List PartialDatagram) (all : AreKept kept) (is : IsPiece key p) where
  stays : (answer : Offer) → IfWhole answer (λ head bytes. IsGathered key (gathered head bytes))
      → IsOffered key (record { answer = answer; kept = kept })
  stays answer whole = record { kept = all; whole = whole }

  atomic_kept : is_atomic key p ≡ true → IsGathered key (gathered p.head p.bytes)
  atomic_kept alone = record {
    head = is.head;
    bytes = is.bytes;
    short = λ four. absurd (six_alone key p alone four);
  }

  told_kept : (o : Option (List ℕ)) → body_of (pieces_with key p kept) ≡ o → end_of p ≤ end_limit key
      → IsOffered key (told key p now kept o)
  told_kept None h fits = record { kept = with_kept key p now (record { piece = is; ends = fits }) kept all; whole = tt }
  told_kept (Some body) h fits =
      let one : IsKept key p = record { piece = is; ends = fits } in
      record {
        kept = kept_filter _ kept all;
        whole = whole_kept key (pieces_with key p kept) (all_push key (held_of key kept) p (held_kept key kept all) one) body h;
      }

  -- the cases of an offer
  pub offered_kept : IsOffered key (offered key p now kept)
  offered_kept =
      let P : Offered → Type 0 = IsOffered key in
      if_by P (is_bad p) _ _ (λ bad. stays Bad tt) (λ good.
      if_by P (is_atomic key p) _ _ (λ alone. stays (Whole p.head p.bytes) (atomic_kept alone)) (λ cut.
      if_by P (list_any (same_piece p) (held_of key kept)) _ _ (λ again. stays Held tt) (λ new.
      if_by P (is_full key kept) _ _ (λ full. stays TooMany tt) (λ room.
      if_by P (nat_lt (end_limit key) (end_of p)) _ _ (λ long. stays TooLong tt) (λ short.
      if_by P (list_any (contradicts p) (held_of key kept)) _ _
      (λ shares. record { kept = kept_filter _ kept all; whole = tt })
      (λ apart. told_kept (body_of (pieces_with key p kept)) refl (ltb-false (end_limit key) (end_of p) short)))))))

-- ---- what a call does

pub did_kept : (o : Offer) (old new : List PartialDatagram) (did : Offered) → Does o old new did → AreKept old → AreKept did.kept
    → AreKept new
did_kept NoMemory old new did d all ok = subst AreKept (sym d) all
did_kept (Whole head bytes) old new did d all ok = subst AreKept (sym (ap (λ (x : Offered). x.kept) d)) ok
did_kept Held old new did d all ok = subst AreKept (sym (ap (λ (x : Offered). x.kept) d)) ok
did_kept Overlap old new did d all ok = subst AreKept (sym (ap (λ (x : Offered). x.kept) d)) ok
did_kept TooMany old new did d all ok = subst AreKept (sym (ap (λ (x : Offered). x.kept) d)) ok
did_kept TooLong old new did d all ok = subst AreKept (sym (ap (λ (x : Offered). x.kept) d)) ok
did_kept Bad old new did d all ok = subst AreKept (sym (ap (λ (x : Offered). x.kept) d)) ok

pub did_whole : (P : List ℕ → List ℕ → Type 0) (o : Offer) (old new : List PartialDatagram) (did : Offered) → Does o old new did
    → IfWhole did.answer P → IfWhole o P
did_whole P NoMemory old new did d h = tt
did_whole P (Whole head bytes) old new did d h = subst (λ (x : Offered). IfWhole x.answer P) (sym d) h
did_whole P Held old new did d h = tt
did_whole P Overlap old new did d h = tt
did_whole P TooMany old new did d h = tt
did_whole P TooLong old new did d h = tt
did_whole P Bad old new did d h = tt

pub answered : (P : Gathered → Type 0) (o : Offer) → IfWhole o (λ head bytes. P (gathered head bytes))
    → IfOk (answer_to o) (λ brought. IfSome brought P)
answered P NoMemory h = tt
answered P (Whole head bytes) h = h
answered P Held h = tt
answered P Overlap h = tt
answered P TooMany h = tt
answered P TooLong h = tt
answered P Bad h = tt

pub if_weaker : {A B : Type 0} (P Q : A → Type 0) → ((x : A) → P x → Q x) → (r : Result (Option A) B)
    → IfOk r (λ brought. IfSome brought P) → IfOk r (λ brought. IfSome brought Q)
if_weaker P Q f (Ok (Some x)) h = f x h
if_weaker P Q f (Ok None) h = tt
if_weaker P Q f (Err e) h = tt

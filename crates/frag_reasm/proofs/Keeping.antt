-- Where a piece that is kept goes.
use Rattle.std.proofs.Common.{◌≡◌, ℕ, zero, suc, ◌<◌, ◌≤◌, Bool, true, false, cond, List, [], ◌∷◌, ◌++◌, length, get_or, set, Some, None}
use Rattle.std.proofs.Common.{refl, ap, ◌∙◌, arith, ltb}
use Rattle.std.specs.Prelude.{if◌then◌else◌}
use Rattle.std.specs.List.{position, position_or_len, find}
use Rattle.std.specs.Option.{option_map_or}
use Rattle.std.proofs.lemmas.Bool.{ltb-false}
use Rattle.std.proofs.lemmas.List.Quantifiers.{position-Some}
use Rattle.std.proofs.lemmas.List.Sums.{fails_before_first}
use Rattle.aftr_base.specs.declared.value.Moment.{Moment}
use Rattle.frag_reasm.specs.declared.key.PieceKey.{PieceKey}
use Rattle.frag_reasm.specs.declared.piece.HeldPiece.{HeldPiece}
use Rattle.frag_reasm.specs.declared.pieces.PartialDatagram.{PartialDatagram}
use Rattle.frag_reasm.specs.Offers.{is_of, new_datagram, held_of, kept_with}

-- a datagram with one more piece
abbrev pub longer : HeldPiece → PartialDatagram → PartialDatagram
longer p d = record d { pieces = d.pieces ++ p ∷ [] }

module _ (key : PieceKey) (p : HeldPiece) (now : Moment) where
  pub kept_here : (d : PartialDatagram) (ds : List PartialDatagram) → is_of key d ≡ true → kept_with key p now (d ∷ ds) ≡ longer p d ∷ ds
  unfolding kept_with
  kept_here d ds e = ap (λ (b : Bool). if b then longer p d ∷ ds else d ∷ kept_with key p now ds) e

  pub kept_later : (d : PartialDatagram) (ds : List PartialDatagram) → is_of key d ≡ false
      → kept_with key p now (d ∷ ds) ≡ d ∷ kept_with key p now ds
  unfolding kept_with
  kept_later d ds e = ap (λ (b : Bool). if b then longer p d ∷ ds else d ∷ kept_with key p now ds) e

  pub kept_nowhere : kept_with key p now [] ≡ new_datagram key p now ∷ []
  unfolding kept_with
  kept_nowhere = refl

  kept_there : (ds : List PartialDatagram) (i : ℕ) (d : PartialDatagram) → i < length ds → is_of key (get_or ds i d) ≡ true
      → ((k : ℕ) → k < i → is_of key (get_or ds k d) ≡ false) → kept_with key p now ds ≡ set ds i (longer p (get_or ds i d))
  kept_there [] i d lt here before = absurd (omega arith)
  kept_there (e ∷ ds) zero d lt here before = kept_here e ds here
  kept_there (e ∷ ds) (suc i) d lt here before =
      kept_later e ds (before 0 (omega arith))
      ∙ ap (λ (rest : List PartialDatagram). e ∷ rest) (kept_there ds i d (omega arith) here (λ k less. before (suc k) (omega arith)))

  -- the datagram that a search found gets the piece
  pub kept_found : (ds : List PartialDatagram) (i : ℕ) (d : PartialDatagram) → position (is_of key) ds ≡ Some i
      → kept_with key p now ds ≡ set ds i (longer p (get_or ds i d))
  kept_found ds i d h =
      let found = position-Some (is_of key) ds i d h in
      kept_there ds i d found.0 found.1 found.2

  kept_behind : (ds : List PartialDatagram) (d : PartialDatagram) → ((k : ℕ) → k < length ds → is_of key (get_or ds k d) ≡ false)
      → kept_with key p now ds ≡ ds ++ new_datagram key p now ∷ []
  kept_behind [] d none = kept_nowhere
  kept_behind (e ∷ ds) d none =
      kept_later e ds (none 0 (omega arith))
      ∙ ap (λ (rest : List PartialDatagram). e ∷ rest) (kept_behind ds d (λ k less. none (suc k) (omega arith)))

  none_by : (b : Bool) (n : ℕ) → cond b (Some n) None ≡ None → b ≡ false
  none_by true n h = cc
  none_by false n h = refl

  -- and where there is none, a new one does
  pub kept_missed : (ds : List PartialDatagram) → position (is_of key) ds ≡ None
      → kept_with key p now ds ≡ ds ++ new_datagram key p now ∷ []
  kept_missed ds h =
      let past : length ds ≤ position_or_len (is_of key) ds = ltb-false _ _ (none_by (ltb (position_or_len (is_of key) ds)
      (length ds)) (position_or_len (is_of key) ds) h) in
      kept_behind ds (new_datagram key p now) (λ k less. fails_before_first (is_of key) ds k (new_datagram key p now) (omega arith))

-- ---- the pieces of a datagram that a search found

pub held_first : (key : PieceKey) (d : PartialDatagram) (ds : List PartialDatagram) → is_of key d ≡ true → held_of key (d ∷ ds) ≡ d.pieces
held_first key d ds e =
    ap (λ (b : Bool). option_map_or (λ (x : PartialDatagram). x.pieces) (cond b (Some d) (find (is_of key) ds)) []) e

pub held_later : (key : PieceKey) (d : PartialDatagram) (ds : List PartialDatagram) → is_of key d ≡ false
    → held_of key (d ∷ ds) ≡ held_of key ds
held_later key d ds e =
    ap (λ (b : Bool). option_map_or (λ (x : PartialDatagram). x.pieces) (cond b (Some d) (find (is_of key) ds)) []) e

held_there : (key : PieceKey) (ds : List PartialDatagram) (i : ℕ) (d : PartialDatagram) → i < length ds → is_of key (get_or ds i d) ≡ true
    → ((k : ℕ) → k < i → is_of key (get_or ds k d) ≡ false) → held_of key ds ≡ (get_or ds i d).pieces
held_there key [] i d lt here before = absurd (omega arith)
held_there key (e ∷ ds) zero d lt here before = held_first key e ds here
held_there key (e ∷ ds) (suc i) d lt here before =
    held_later key e ds (before 0 (omega arith)) ∙ held_there key ds i d (omega arith) here (λ k less. before (suc k) (omega arith))

pub held_found : (key : PieceKey) (ds : List PartialDatagram) (i : ℕ) (d : PartialDatagram) → position (is_of key) ds ≡ Some i
    → held_of key ds ≡ (get_or ds i d).pieces
held_found key ds i d h =
    let found = position-Some (is_of key) ds i d h in
    held_there key ds i d found.0 found.1 found.2

-- A datagram's pieces may come in any order, and each as often as it likes.
use Rattle.std.specs.Prelude.{◌≡◌, ◌⊎◌, ◌≤◌, ℕ, false, List, [], ◌∷◌, ◌++◌, length}
use Rattle.std.specs.List.{list_any}
use Rattle.aftr_base.specs.declared.value.Moment.{Moment}
use Rattle.frag_reasm.specs.declared.key.PieceKey.{PieceKey}
use Rattle.frag_reasm.specs.declared.piece.HeldPiece.{HeldPiece}
use Rattle.frag_reasm.specs.declared.pieces.PartialDatagram.{PartialDatagram}
use Rattle.frag_reasm.specs.declared.pieces.Offer.TheVariants.{Whole, Held}
use Rattle.frag_reasm.specs.Keys.{end_limit}
use Rattle.frag_reasm.specs.Whole.{is_bad, IsOneOf, Cuts}
use Rattle.frag_reasm.specs.Offers.{is_of, is_full, offered}

-- a piece that comes, and when
pub record Arrival : Type 0 where
  pub piece : HeldPiece
  pub at : Moment

abbrev pub pieces_in : List Arrival → List HeldPiece
pieces_in [] = []
pieces_in (a ∷ later) = a.piece ∷ pieces_in later

-- the held datagrams after pieces of one came in turn
abbrev pub after : PieceKey → List Arrival → List PartialDatagram → List PartialDatagram
after key [] kept = kept
after key (a ∷ later) kept = after key later (offered key a.piece a.at kept).kept

-- the datagram is cut into the pieces, which are such as RFC 791 3.2 and RFC 8200 4.5 ask for, and within the limits
pub record IsCutInto (key : PieceKey) (ps : List HeldPiece) (head body : List ℕ) : Type 0 where
  pub cuts : Cuts ps head body
  pub good : (p : HeldPiece) → IsOneOf p ps → is_bad p ≡ false
  pub few : length ps ≤ 128
  pub fits : length body ≤ end_limit key

-- none of the datagram's pieces is held, and it doesn't pass a limit of datagrams
pub record HasRoom (key : PieceKey) (kept : List PartialDatagram) : Type 0 where
  pub unknown : list_any (is_of key) kept ≡ false
  pub room : is_full key kept ≡ false

-- some came, and not all of them
pub record IsComing (ps : List HeldPiece) (came : List HeldPiece) : Type 0 where
  pub each : (p : HeldPiece) → IsOneOf p came → IsOneOf p ps
  pub missing : (r : HeldPiece) × IsOneOf r ps × (¬ IsOneOf r came)

-- the piece that comes next is one of them, and with it all came
pub record Completes (ps : List HeldPiece) (came : List HeldPiece) (next : HeldPiece) : Type 0 where
  pub one : IsOneOf next ps
  pub all : (p : HeldPiece) → IsOneOf p ps → IsOneOf p came ⊎ (p ≡ next)

-- Whatever pieces of the datagram came, in whatever order and however often: while one is missing each is held, and the
-- one that was missing makes the datagram whole, as it was cut, and leaves what was held before.
pub record AnyOrder : Type 0 where
  pub held : (key : PieceKey) (ps : List HeldPiece) (head body : List ℕ) (kept : List PartialDatagram) (came : List Arrival)
      (next : Arrival)
      → IsCutInto key ps head body → HasRoom key kept → IsComing ps (pieces_in came ++ next.piece ∷ [])
      → (offered key next.piece next.at (after key came kept)).answer ≡ Held
  pub whole : (key : PieceKey) (ps : List HeldPiece) (head body : List ℕ) (kept : List PartialDatagram) (came : List Arrival)
      (next : Arrival)
      → IsCutInto key ps head body → HasRoom key kept → IsComing ps (pieces_in came) → Completes ps (pieces_in came) next.piece
      → offered key next.piece next.at (after key came kept) ≡ record { answer = Whole head body; kept = kept }

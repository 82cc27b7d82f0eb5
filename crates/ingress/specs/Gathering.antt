-- What becomes of an offered piece (RFC 791 3.2, RFC 8200 4.5, RFC 5722 4), and what is known of the pieces that are held.
use Rattle.std.specs.Prelude.{◌≡◌, ◌≤◌, ℕ, ◌+◌, false, List, [], length, Option, Some, None, Result, Ok, Err}
use Rattle.std.specs.List.{AllByRecursion}
use Rattle.aftr_base.specs.Bytes.{IsBytes}
use Rattle.aftr_base.specs.Value.{moment}
use Rattle.aftr_base.specs.declared.event.DropCause.{DropCause}
use Rattle.aftr_base.specs.declared.event.DropCause.TheVariants.{BadPacket, PieceTooMany, PieceTooLong, PieceOverlap}
use Rattle.frag_reasm.specs.Keys.{is_six, end_limit}
use Rattle.frag_reasm.specs.Offers.{offered}
use Rattle.frag_reasm.specs.Whole.{end_of}
use Rattle.frag_reasm.specs.declared.key.PieceKey.{PieceKey}
use Rattle.frag_reasm.specs.declared.piece.HeldPiece.{HeldPiece}
use Rattle.frag_reasm.specs.declared.pieces.Offer.{Offer}
use Rattle.frag_reasm.specs.declared.pieces.Offer.TheVariants.{Whole, Held, Overlap, TooMany, TooLong, Bad, NoMemory}
use Rattle.frag_reasm.specs.declared.pieces.PartialDatagram.{PartialDatagram}
use Rattle.wire_ip4.specs.Grammar.{IsHeader, header_bytes, header_of}
use Rattle.ingress.specs.Arrival.{Arrival, as_answer}
use Rattle.ingress.specs.declared.gather.Gathered.{Gathered}
use Rattle.ingress.specs.declared.refusal.Refusal.{Refusal}
use Rattle.ingress.specs.declared.refusal.Refusal.TheVariants.{NoMemory as WantsMemory}

abbrev pub gathered : List ℕ → List ℕ → Gathered
gathered head bytes = record { head = head; bytes = bytes }

-- A held piece brings nothing. Want of memory isn't among the answers of a definition.
abbrev pub brought_by : Offer → Result (Option Gathered) DropCause
brought_by (Whole head bytes) = Ok (Some (gathered head bytes))
brought_by Held = Ok None
brought_by Overlap = Err PieceOverlap
brought_by TooMany = Err PieceTooMany
brought_by TooLong = Err PieceTooLong
brought_by Bad = Err BadPacket
brought_by NoMemory = Ok None

-- the same of what a call answers
abbrev pub answer_to : Offer → Result (Option Gathered) Refusal
answer_to NoMemory = Err WantsMemory
answer_to offer = as_answer (brought_by offer)

-- a piece is offered at this moment
abbrev pub taken : PieceKey → HeldPiece → ℕ → List PartialDatagram → Arrival Gathered
taken key p now kept = let did = offered key p (moment now) kept in record { kept = did.kept; brought = brought_by did.answer }

-- ---- the pieces that are held

-- the bytes are an IPv4 header without options
pub record IsPlainHead (head : List ℕ) : Type 0 where
  pub header : IsHeader (header_of head)
  pub plain : (header_of head).options ≡ []
  pub spelled : head ≡ header_bytes (header_of head)

-- a piece as it comes: one of an IPv4 packet stands behind a header without options
pub record IsPiece (key : PieceKey) (p : HeldPiece) : Type 0 where
  pub head : is_six key ≡ false → IsPlainHead p.head
  pub bytes : IsBytes p.bytes

-- and as it is held: it ends within the longest datagram
pub record IsKept (key : PieceKey) (p : HeldPiece) : Type 0 where
  pub piece : IsPiece key p
  pub ends : end_of p ≤ end_limit key

-- each held piece is such
abbrev pub AreKept : List PartialDatagram → Type 0
AreKept kept = AllByRecursion (λ (d : PartialDatagram). AllByRecursion (IsKept d.key) d.pieces) kept

-- what they make whole: an IPv4 packet has its header, and fits its total length
pub record IsGathered (key : PieceKey) (g : Gathered) : Type 0 where
  pub head : is_six key ≡ false → IsPlainHead g.head
  pub bytes : IsBytes g.bytes
  pub short : is_six key ≡ false → 20 + length g.bytes ≤ 65535

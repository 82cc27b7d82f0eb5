-- What an offered piece, an expiry and a clearing do to the datagrams of which pieces are held.
use Rattle.std.specs.Prelude.{◌≡◌, ◌⊎◌, IsTrue, ℕ, ◌+◌, Bool, not, ◌&&◌, ◌||◌, ◌==◌, nat_le, nat_lt, List, [], ◌∷◌, ◌++◌, length}
use Rattle.std.specs.Prelude.{filter, find}
use Rattle.std.specs.Prelude.{Option, Some, None, if◌then◌else◌}
use Rattle.std.specs.List.{list_any, AllByRecursion}
use Rattle.std.specs.Option.{option_map_or}
use Rattle.aftr_base.specs.declared.value.Moment.{Moment}
use Rattle.frag_reasm.specs.declared.key.PieceKey.{PieceKey}
use Rattle.frag_reasm.specs.declared.piece.HeldPiece.{HeldPiece}
use Rattle.frag_reasm.specs.declared.pieces.PartialDatagram.{PartialDatagram}
use Rattle.frag_reasm.specs.declared.pieces.Offer.{Offer}
use Rattle.frag_reasm.specs.declared.pieces.Offer.TheVariants.{Whole, Held, Overlap, TooMany, TooLong, Bad, NoMemory}
use Rattle.frag_reasm.specs.Keys.{key_eq, is_six, same_holder, key_limit, end_limit}
use Rattle.frag_reasm.specs.Whole.{end_of, is_bad, same_piece, contradicts, body_of, head_of, AreApart, IsIncomplete}

abbrev pub is_of : PieceKey → PartialDatagram → Bool
is_of key d = key_eq key d.key

-- the held pieces of a datagram, in order of arrival
abbrev pub held_of : PieceKey → List PartialDatagram → List HeldPiece
held_of key kept = option_map_or (λ (d : PartialDatagram). d.pieces) (find (is_of key) kept) []

abbrev pub without : PieceKey → List PartialDatagram → List PartialDatagram
without key kept = filter (λ d. not (is_of key d)) kept

-- and with a new one behind them
abbrev pub pieces_with : PieceKey → HeldPiece → List PartialDatagram → List HeldPiece
pieces_with key p kept = held_of key kept ++ p ∷ []

abbrev pub new_datagram : PieceKey → HeldPiece → Moment → PartialDatagram
new_datagram key p now = record { key = key; since = now; pieces = p ∷ [] }

-- The piece stands behind those of its datagram. A new datagram stands behind the others, and begins at the moment.
unfoldable pub kept_with : PieceKey → HeldPiece → Moment → List PartialDatagram → List PartialDatagram
kept_with key p now [] = new_datagram key p now ∷ []
kept_with key p now (d ∷ ds) =
    if is_of key d then record d { pieces = d.pieces ++ p ∷ [] } ∷ ds else d ∷ kept_with key p now ds

-- An IPv6 packet with a Fragment header that isn't cut: it is whole by itself (RFC 8200 4.5, RFC 6946).
abbrev pub is_atomic : PieceKey → HeldPiece → Bool
is_atomic key p = is_six key && p.offset == 0 && p.last

-- The datagram has 128 pieces, or it is new and its subscriber or the public side has its limit of datagrams.
abbrev pub is_full : PieceKey → List PartialDatagram → Bool
is_full key kept =
    nat_le 128 (length (held_of key kept))
    || (not (list_any (is_of key) kept) && nat_le (key_limit key) (length (filter (λ (d : PartialDatagram). same_holder key d.key) kept)))

pub record Offered : Type 0 where
  pub answer : Offer
  pub kept : List PartialDatagram

-- the piece makes its datagram whole, or else it is kept
abbrev pub told : PieceKey → HeldPiece → Moment → List PartialDatagram → Option (List ℕ) → Offered
told key p now kept None = record { answer = Held; kept = kept_with key p now kept }
told key p now kept (Some body) = record { answer = Whole (head_of (pieces_with key p kept)) body; kept = without key kept }

abbrev pub joined : PieceKey → HeldPiece → Moment → List PartialDatagram → Offered
joined key p now kept = told key p now kept (body_of (pieces_with key p kept))

-- A piece is offered: the first case that applies.
abbrev pub offered : PieceKey → HeldPiece → Moment → List PartialDatagram → Offered
offered key p now kept =
    if is_bad p then record { answer = Bad; kept = kept }
    else if is_atomic key p then record { answer = Whole p.head p.bytes; kept = kept }
    else if list_any (same_piece p) (held_of key kept) then record { answer = Held; kept = kept }
    else if is_full key kept then record { answer = TooMany; kept = kept }
    else if nat_lt (end_limit key) (end_of p) then record { answer = TooLong; kept = kept }
    else if list_any (contradicts p) (held_of key kept) then record { answer = Overlap; kept = without key kept }
    else joined key p now kept

-- the pieces that the offered one is put together with
abbrev pub gathered : PieceKey → HeldPiece → List PartialDatagram → List HeldPiece
gathered key p kept = if is_atomic key p then p ∷ [] else pieces_with key p kept

abbrev pub IfWhole : Offer → (List ℕ → List ℕ → Type 0) → Type 0
IfWhole (Whole head bytes) P = P head bytes
IfWhole Held P = Unit {0}
IfWhole Overlap P = Unit {0}
IfWhole TooMany P = Unit {0}
IfWhole TooLong P = Unit {0}
IfWhole Bad P = Unit {0}
IfWhole NoMemory P = Unit {0}

-- The same piece was held already, or the pieces, the new one among them, cut no datagram yet.
abbrev pub IsWaiting : HeldPiece → List HeldPiece → List HeldPiece → Type 0
IsWaiting p before now = IsTrue (list_any (same_piece p) before) ⊎ IsIncomplete now

-- what a call did, where it didn't want memory; where it did, nothing changed
abbrev pub Does : Offer → List PartialDatagram → List PartialDatagram → Offered → Type 0
Does NoMemory old new did = new ≡ old
Does answer old new did = record { answer = answer; kept = new } ≡ did

-- each datagram is held in pieces that have bytes and don't contradict each other
abbrev pub IsSound : List PartialDatagram → Type 0
IsSound kept = AllByRecursion (λ (d : PartialDatagram). AreApart d.pieces) kept

-- A datagram is given up 60 seconds after its first held piece came (RFC 8200 4.5).
abbrev pub live : ℕ → List PartialDatagram → List PartialDatagram
live now kept = filter (λ (d : PartialDatagram). nat_lt now (d.since.0 + 60000)) kept

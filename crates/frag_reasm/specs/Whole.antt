-- Pieces, what they contradict, and what they make whole (RFC 791 3.2, RFC 8200 4.5, RFC 5722 4).
use Rattle.std.specs.Prelude.{◌≡◌, ◌⊎◌, ℕ, zero, suc, ◌+◌, ◌%◌, ◌<◌, Bool, true, false, not, ◌&&◌, ◌||◌, ◌==◌, nat_le, nat_lt, List, []}
use Rattle.std.specs.Prelude.{◌∷◌, ◌++◌, length, find}
use Rattle.std.specs.Prelude.{count_by, Option, Some, None, option_map, option_and_then, bytes_eq, if◌then◌else◌}
use Rattle.std.specs.List.{AllByRecursion}
use Rattle.std.specs.Option.{option_map_or}
use Rattle.frag_reasm.specs.declared.piece.Piece.{Piece}
use Rattle.frag_reasm.specs.declared.piece.HeldPiece.{HeldPiece}

-- the same of a piece as it is offered
abbrev pub held : Piece → HeldPiece
held p = record { head = p.head.now; offset = p.offset; last = p.last; bytes = p.bytes.now }

-- where its bytes end in the datagram
abbrev pub end_of : HeldPiece → ℕ
end_of p = p.offset + length p.bytes

-- No bytes, or a piece that isn't the last and whose length isn't a multiple of 8 (RFC 791 3.2, RFC 8200 4.5).
abbrev pub is_bad : HeldPiece → Bool
is_bad p = length p.bytes == 0 || (not p.last && not (length p.bytes % 8 == 0))

abbrev pub same_flag : Bool → Bool → Bool
same_flag true b = b
same_flag false b = not b

-- the same bytes at the same place, and the last or not as the other
abbrev pub same_piece : HeldPiece → HeldPiece → Bool
same_piece p q = p.offset == q.offset && same_flag p.last q.last && bytes_eq p.bytes q.bytes

abbrev pub shares_a_byte : HeldPiece → HeldPiece → Bool
shares_a_byte p q = nat_lt p.offset (end_of q) && nat_lt q.offset (end_of p)

-- p ends behind q, which is the last
abbrev pub is_past : HeldPiece → HeldPiece → Bool
is_past p q = q.last && nat_lt (end_of q) (end_of p)

-- Two pieces that can't belong to one datagram: they share a byte (RFC 5722 4), or one ends behind the last one. Two
-- last ones that end apart are of the second kind.
abbrev pub contradicts : HeldPiece → HeldPiece → Bool
contradicts p q = shares_a_byte p q || is_past p q || is_past q p

-- ---- what pieces make

-- the first piece whose bytes begin at the offset
abbrev pub piece_at : ℕ → List HeldPiece → Option HeldPiece
piece_at at ps = find (λ (p : HeldPiece). p.offset == at) ps

-- the bytes from an offset to the end of the last piece, where the pieces leave no gap; at most n pieces are taken
unfoldable pub bytes_from : ℕ → ℕ → List HeldPiece → Option (List ℕ)
bytes_from zero at ps = None
bytes_from (suc n) at ps =
    option_and_then (λ (p : HeldPiece). if p.last then Some p.bytes else option_map (λ more. p.bytes ++ more) (bytes_from n (end_of p) ps))
    (piece_at at ps)

-- the body that the pieces make, and the header of the one at offset 0
abbrev pub body_of : List HeldPiece → Option (List ℕ)
body_of ps = bytes_from (length ps) 0 ps

abbrev pub head_of : List HeldPiece → List ℕ
head_of ps = option_map_or (λ (p : HeldPiece). p.head) (piece_at 0 ps) []

-- ---- what a cut datagram is, in whatever order its pieces came

-- the piece is one of these
abbrev pub IsOneOf : HeldPiece → List HeldPiece → Type 0
IsOneOf p [] = ⊥
IsOneOf p (q ∷ qs) = (p ≡ q) ⊎ IsOneOf p qs

-- the bytes stand in the body, behind this many others
abbrev pub StandsAt : ℕ → List ℕ → List ℕ → Type 0
StandsAt at bytes body = (before : List ℕ) × (after : List ℕ) × (body ≡ before ++ bytes ++ after) × (length before ≡ at)

-- one of the piece's bytes is the datagram's i-th, from 0
abbrev pub covers : ℕ → HeldPiece → Bool
covers i p = nat_le p.offset i && nat_lt i (end_of p)

-- The pieces are a datagram that was cut: the bytes of each stand in its body at the piece's offset, each byte of the
-- body is in one piece and in no other, and a piece is the last one exactly where it ends with the body.
pub record Cuts (ps : List HeldPiece) (head body : List ℕ) : Type 0 where
  pub agrees : (p : HeldPiece) → IsOneOf p ps → StandsAt p.offset p.bytes body
  pub once : (i : ℕ) → i < length body → count_by (covers i) ps ≡ 1
  pub last : (p : HeldPiece) × IsOneOf p ps × (p.last ≡ true)
  pub ends : (p : HeldPiece) → IsOneOf p ps → p.last ≡ true → end_of p ≡ length body
  pub first : (p : HeldPiece) → IsOneOf p ps → p.offset ≡ 0 → p.head ≡ head

-- each has bytes, and no two contradict each other
abbrev pub AreApart : List HeldPiece → Type 0
AreApart [] = Unit {0}
AreApart (p ∷ ps) = (0 < length p.bytes) × AllByRecursion (λ q. contradicts p q ≡ false) ps × AreApart ps

-- no datagram is cut into these pieces
abbrev pub IsIncomplete : List HeldPiece → Type 0
IsIncomplete ps = (head body : List ℕ) → ¬ Cuts ps head body

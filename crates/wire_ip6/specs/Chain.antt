-- The chain of extension headers before a tunnelled packet (RFC 8200 4; RFC 2473 3.3).
use Rattle.std.specs.Prelude.{◌≡◌, ◌↔◌, ℕ, zero, suc, ◌+◌, ◌*◌, ◌/◌, ◌%◌, Bool, false, not, ◌&&◌, ◌||◌, ◌==◌, nat_lt, IsTrue, List, [], ◌∷◌}
use Rattle.std.specs.Prelude.{◌++◌, length, drop, if◌then◌else◌}
use Rattle.aftr_base.specs.Bytes.{u8_at}
use Rattle.wire_ip6.specs.Grammar.{frag_of, SpellsPiece}
use Rattle.wire_ip6.specs.declared.fields.FragHead.{FragHead}
use Rattle.wire_ip6.specs.declared.chain.Chain.{Chain}
use Rattle.wire_ip6.specs.declared.chain.Chain.TheVariants.{Inner, Piece, NotTunnel, Broken}

-- what a chain of extension headers ends in
pub data Behind : Type 0 where
  InnerPacket : List ℕ → Behind
  InnerPiece : FragHead → List ℕ → Behind
  OtherHeader : Behind
  CutShort : Behind

-- the same of what the code answers
abbrev pub chain_in : Chain → Behind
chain_in (Inner bytes) = InnerPacket bytes.now
chain_in (Piece h bytes) = InnerPiece h bytes.now
chain_in NotTunnel = OtherHeader
chain_in Broken = CutShort

-- ---- the answer

-- Hop-by-Hop (0) and Destination Options (60) headers are passed over
abbrev pub is_passed : ℕ → Bool
is_passed next = next == 0 || next == 60

-- the length of such a header at the front (RFC 8200 4.3, 4.6)
abbrev pub extension_len : List ℕ → ℕ
extension_len bytes = 8 + 8 * u8_at 1 bytes

-- a Fragment header (44) begins a piece, where the packet isn't whole already
abbrev pub is_piece : ℕ → Bool → Bool
is_piece last whole = last == 44 && not whole

-- what the chain ends in, behind the headers that are passed over: IPv4 (4) is the tunnelled packet
abbrev pub end_of : ℕ → List ℕ → Bool → Behind
end_of last rest whole =
    if last == 4 then InnerPacket rest
    else if not (is_piece last whole) then OtherHeader
    else if nat_lt (length rest) 8 then CutShort
    else InnerPiece (frag_of rest) (drop 8 rest)

-- the same of a chain that passes over fewer headers than n
unfoldable pub chain_within : ℕ → ℕ → List ℕ → Bool → Behind
chain_within zero next bytes whole = CutShort
chain_within (suc n) next bytes whole =
    if not (is_passed next) then end_of next bytes whole
    else if nat_lt (length bytes) (extension_len bytes) then CutShort
    else chain_within n (u8_at 0 bytes) (drop (extension_len bytes) bytes) whole

-- The chain that begins with the header numbered next. Each header takes bytes, so no more are passed
-- over than there are bytes.
abbrev pub chain_of : ℕ → List ℕ → Bool → Behind
chain_of next bytes whole = chain_within (suc (length bytes)) next bytes whole

-- ---- the grammar

-- The headers that are passed over, each as the number of the header behind it and its bytes from the
-- third on, and then the rest spell the bytes, and `last` numbers what the rest begins with.
abbrev pub IsChain : ℕ → List ℕ → List (ℕ × List ℕ) → ℕ → List ℕ → Type 0
IsChain next bytes [] last rest = (next ≡ last) × (bytes ≡ rest)
IsChain next bytes (h ∷ hs) last rest =
    IsTrue (is_passed next) × (length h.1 % 8 ≡ 6)
    × ((after : List ℕ) × (bytes ≡ h.0 ∷ length h.1 / 8 ∷ (h.1 ++ after)) × IsChain h.0 after hs last rest)

-- some headers that are passed over lead there
abbrev pub LeadsTo : ℕ → List ℕ → ℕ → List ℕ → Type 0
LeadsTo next bytes last rest = (headers : List (ℕ × List ℕ)) × IsChain next bytes headers last rest

-- the answer is a tunnelled packet exactly where the chain leads to it
abbrev pub TellsInner : ℕ → List ℕ → Behind → Type 0
TellsInner next bytes answer = (rest : List ℕ) → (answer ≡ InnerPacket rest) ↔ LeadsTo next bytes 4 rest

-- the chain leads to a Fragment header and this piece
abbrev pub LeadsToPiece : ℕ → List ℕ → FragHead → List ℕ → Type 0
LeadsToPiece next bytes h rest = (piece : List ℕ) × LeadsTo next bytes 44 piece × SpellsPiece piece h rest

-- the answer is a piece exactly where the chain leads to it and the packet isn't whole
abbrev pub TellsPieces : ℕ → List ℕ → Bool → Behind → Type 0
TellsPieces next bytes whole answer =
    (h : FragHead) (rest : List ℕ) → (answer ≡ InnerPiece h rest) ↔ ((whole ≡ false) × LeadsToPiece next bytes h rest)

-- a header that is neither passed over nor the beginning of a tunnelled packet or a piece of one
abbrev pub is_other : ℕ → Bool → Bool
is_other last whole = not (is_passed last || last == 4 || is_piece last whole)

-- the answer is another header exactly where the chain leads to one
abbrev pub TellsOthers : ℕ → List ℕ → Bool → Behind → Type 0
TellsOthers next bytes whole answer =
    (answer ≡ OtherHeader) ↔ ((last : ℕ) × (rest : List ℕ) × LeadsTo next bytes last rest × IsTrue (is_other last whole))

-- the header at the front is longer than the bytes
abbrev pub is_cut_short : ℕ → List ℕ → Bool → Bool
is_cut_short last rest whole =
    (is_passed last && nat_lt (length rest) (extension_len rest)) || (is_piece last whole && nat_lt (length rest) 8)

-- the answer is that the chain is cut short exactly where it leads to a header that is
abbrev pub TellsShort : ℕ → List ℕ → Bool → Behind → Type 0
TellsShort next bytes whole answer =
    (answer ≡ CutShort) ↔ ((last : ℕ) × (rest : List ℕ) × LeadsTo next bytes last rest × IsTrue (is_cut_short last rest whole))

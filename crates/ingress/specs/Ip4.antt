-- IPv4 packets and their pieces (RFC 791 3.2).
use Rattle.std.specs.Prelude.{ℕ, ◌+◌, ◌*◌, false, not, ◌==◌, List, length, Result, Ok, if◌then◌else◌}
use Rattle.aftr_base.specs.Attempt.{◌>>=◌, ◌>>◌, require, refused_as}
use Rattle.aftr_base.specs.declared.event.DropCause.{DropCause}
use Rattle.aftr_base.specs.declared.event.DropCause.TheVariants.{BadPacket, Options}
use Rattle.frag_reasm.specs.declared.key.PieceKey.{PieceKey}
use Rattle.frag_reasm.specs.declared.piece.HeldPiece.{HeldPiece}
use Rattle.frag_reasm.specs.declared.pieces.PartialDatagram.{PartialDatagram}
use Rattle.wire_ip4.specs.Grammar.{Header, fields_of, header_bytes, header_with, is_piece, packet_of as ip4_packet}
use Rattle.wire_ip4.specs.declared.fields.Ip4Fields.{Ip4Fields}
use Rattle.ingress.specs.Arrival.{Arrival, brings, then_receive}
use Rattle.ingress.specs.Gathering.{taken}
use Rattle.ingress.specs.declared.gather.Gathered.{Gathered}

-- an IPv4 packet without options, and its payload
abbrev pub plain_ip4 : List ℕ → Result (Header × List ℕ) DropCause
plain_ip4 bytes = do
  packet ← refused_as (ip4_packet bytes) BadPacket
  require (length packet.0.options == 0) Options
  Ok packet

-- a packet as a piece: its offset counts units of 8 bytes
abbrev pub piece_in : Header × List ℕ → HeldPiece
piece_in packet =
    let f = packet.0.fields in
    record { head = header_bytes packet.0; offset = 8 * f.offset; last = not f.more; bytes = packet.1 }

-- The header of the first piece, made that of the whole: the total length is the whole's, nothing tells of pieces, the
-- reserved flag bit is 0, and the checksum is computed anew.
abbrev pub whole_fields : Gathered → Ip4Fields
whole_fields g = record (fields_of g.head) { total = 20 + length g.bytes; more = false; offset = 0 }

abbrev pub whole_packet : Gathered → Header × List ℕ
whole_packet g = (header_with (whole_fields g), g.bytes)

-- what the piece makes whole
abbrev pub joined : PieceKey → ℕ → List PartialDatagram → HeldPiece → Arrival (Header × List ℕ)
joined key now kept p = then_receive (taken key p now kept) (λ kept' g. brings kept' (whole_packet g))

-- a packet, or what it makes whole as a piece
abbrev pub whole_of : PieceKey → ℕ → List PartialDatagram → Header × List ℕ → Arrival (Header × List ℕ)
whole_of key now kept packet = if is_piece packet.0 then joined key now kept (piece_in packet) else brings kept packet

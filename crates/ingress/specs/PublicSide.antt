-- A record from the public side (RFC 6333 6.2), and reassembly before it is translated (RFC 4787 11).
use Rattle.std.specs.Prelude.{ℕ, Bool, List, Result, Ok}
use Rattle.std.specs.List.{list_any}
use Rattle.aftr_base.specs.Attempt.{◌>>=◌, ◌>>◌, require}
use Rattle.aftr_base.specs.Value.{is_under4}
use Rattle.aftr_base.specs.declared.value.Ip4.{Ip4}
use Rattle.aftr_base.specs.declared.event.DropCause.{DropCause}
use Rattle.aftr_base.specs.declared.event.DropCause.TheVariants.{NotUs}
use Rattle.cfg_text.specs.declared.config.Config.{Config}
use Rattle.frag_reasm.specs.declared.key.PieceKey.{PieceKey}
use Rattle.frag_reasm.specs.declared.key.PieceKey.TheVariants.{Public}
use Rattle.frag_reasm.specs.declared.pieces.PartialDatagram.{PartialDatagram}
use Rattle.wire_ip4.specs.Grammar.{Header}
use Rattle.wire_ip4.specs.declared.fields.Ip4Fields.{Ip4Fields}
use Rattle.ingress.specs.Arrival.{Arrival, tried, then_receive}
use Rattle.ingress.specs.Ip4.{plain_ip4, whole_of}

-- an address of the pool
abbrev pub is_ours : Config → Ip4 → Bool
is_ours c a = list_any (λ p. is_under4 p a) c.pool

-- a packet without options to an address of the pool
abbrev pub addressed_to_us : Config → List ℕ → Result (Header × List ℕ) DropCause
addressed_to_us c bytes = do
  packet ← plain_ip4 bytes
  require (is_ours c packet.0.fields.dst) NotUs
  Ok packet

abbrev pub public_key : Ip4Fields → PieceKey
public_key f = Public f.src f.dst f.id f.proto

-- The packet of a record from the public side, at this moment, where these pieces are held. Opaque where nobody unfolds it.
unfoldable pub public_arrival : Config → ℕ → List PartialDatagram → List ℕ → Arrival (Header × List ℕ)
public_arrival c now kept bytes =
    then_receive (tried kept (addressed_to_us c bytes)) (λ kept' packet. whole_of (public_key packet.0.fields) now kept' packet)

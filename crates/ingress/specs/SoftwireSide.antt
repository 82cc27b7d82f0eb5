-- A record from the softwire side: decapsulation (RFC 2473 3.3, RFC 6333 5), and reassembly before it (RFC 6333 5.3).
use Rattle.std.specs.Prelude.{ℕ, ◌*◌, not, true, List, [], ◌∷◌, Result, Ok, Err, ok_or}
use Rattle.aftr_base.specs.Attempt.{◌>>=◌}
use Rattle.aftr_base.specs.Bytes.{u8_at}
use Rattle.aftr_base.specs.declared.event.DropCause.{DropCause}
use Rattle.aftr_base.specs.declared.event.DropCause.TheVariants.{BadPacket, NotUs, NotTunnel, UnknownSubscriber}
use Rattle.cfg_text.specs.declared.config.Config.{Config}
use Rattle.frag_reasm.specs.declared.key.PieceKey.{PieceKey}
use Rattle.frag_reasm.specs.declared.key.PieceKey.TheVariants.{Six, Inner}
use Rattle.frag_reasm.specs.declared.piece.HeldPiece.{HeldPiece}
use Rattle.frag_reasm.specs.declared.pieces.PartialDatagram.{PartialDatagram}
use Rattle.softwire.specs.declared.from_tunnel.DecapBad.{DecapBad}
use Rattle.softwire.specs.declared.from_tunnel.DecapBad.TheVariants.{Packet, NotUs as NotOurs, NotTunnel as NoTunnel}
use Rattle.softwire.specs.Tunnel.{Carried, decapsulated}
use Rattle.subscriber_table.specs.Under.{subscriber_of}
use Rattle.wire_ip4.specs.Grammar.{Header}
use Rattle.wire_ip4.specs.declared.fields.Ip4Fields.{Ip4Fields}
use Rattle.wire_ip6.specs.Chain.{Behind, InnerPacket, InnerPiece, OtherHeader, CutShort, chain_of}
use Rattle.wire_ip6.specs.declared.fields.FragHead.{FragHead}
use Rattle.ingress.specs.Arrival.{Arrival, brings, refuses, tried, then_receive}
use Rattle.ingress.specs.Gathering.{taken}
use Rattle.ingress.specs.Ip4.{plain_ip4, whole_of}
use Rattle.ingress.specs.declared.gather.Gathered.{Gathered}
use Rattle.ingress.specs.declared.received.Received.{Received}
use Rattle.ingress.specs.declared.received.Sender.{Sender}

-- ---- who sent it

-- no softwire packet for this end of it
abbrev pub drop_for : DecapBad → DropCause
drop_for Packet = BadPacket
drop_for NotOurs = NotUs
drop_for NoTunnel = NotTunnel

abbrev pub or_drop : Result Carried DecapBad → Result Carried DropCause
or_drop (Ok tunnel) = Ok tunnel
or_drop (Err bad) = Err (drop_for bad)

abbrev pub carried_to : Config → List ℕ → Result Carried DropCause
carried_to c bytes = or_drop (decapsulated c.aftr bytes)

-- the sender, and what its packet carries
abbrev pub tunnelled : Config → List ℕ → Result (Sender × Behind) DropCause
tunnelled c bytes = do
  tunnel ← carried_to c bytes
  owner ← ok_or (subscriber_of c tunnel.softwire) UnknownSubscriber
  let who : Sender = record { softwire = tunnel.softwire; owner = owner }
  Ok (who, tunnel.behind)

-- ---- the tunnelled packet, once its IPv6 fragments are whole

abbrev pub fragment_key : Config → Sender → FragHead → PieceKey
fragment_key c who h = Six who.owner who.softwire c.aftr h.id

-- a fragment as a piece: its offset counts units of 8 bytes
abbrev pub fragment : FragHead → List ℕ → HeldPiece
fragment h bytes = record { head = h.next ∷ []; offset = 8 * h.offset; last = not h.more; bytes = bytes }

-- the packet behind the extension headers, where no second Fragment header is among them
abbrev pub inner_of : Behind → Result (List ℕ) DropCause
inner_of (InnerPacket bytes) = Ok bytes
inner_of (InnerPiece h bytes) = Err NotTunnel
inner_of OtherHeader = Err NotTunnel
inner_of CutShort = Err BadPacket

-- the same of a packet that was put together, whose first header the first fragment numbers
abbrev pub inner_in : Gathered → Result (List ℕ) DropCause
inner_in g = inner_of (chain_of (u8_at 0 g.head) g.bytes true)

abbrev pub reassembled : PieceKey → ℕ → List PartialDatagram → HeldPiece → Arrival (List ℕ)
reassembled key now kept p = then_receive (taken key p now kept) (λ kept' g. tried kept' (inner_in g))

abbrev pub unwrapped : Config → ℕ → Sender → List PartialDatagram → Behind → Arrival (List ℕ)
unwrapped c now who kept (InnerPacket bytes) = brings kept bytes
unwrapped c now who kept (InnerPiece h bytes) = reassembled (fragment_key c who h) now kept (fragment h bytes)
unwrapped c now who kept OtherHeader = refuses kept NotTunnel
unwrapped c now who kept CutShort = refuses kept BadPacket

-- ---- the IPv4 packet in it

abbrev pub inner_key : Sender → Ip4Fields → PieceKey
inner_key who f = Inner who.owner who.softwire f.src f.dst f.id f.proto

abbrev pub inner_arrival : Sender → ℕ → List PartialDatagram → List ℕ → Arrival (Header × List ℕ)
inner_arrival who now kept bytes =
    then_receive (tried kept (plain_ip4 bytes)) (λ kept' packet. whole_of (inner_key who packet.0.fields) now kept' packet)

abbrev pub received : Sender → Header × List ℕ → Received
received who packet = record { who = who; packet = packet }

abbrev pub received_from : Sender → Arrival (Header × List ℕ) → Arrival Received
received_from who a = then_receive a (λ kept packet. brings kept (received who packet))

-- what the sender's packet brings
abbrev pub sent_arrival : Config → ℕ → List PartialDatagram → Sender × Behind → Arrival Received
sent_arrival c now kept got = received_from got.0 (then_receive (unwrapped c now got.0 kept got.1) (inner_arrival got.0 now))

-- The packet of a record from the softwire side, at this moment, where these pieces are held. Opaque where nobody unfolds it.
unfoldable pub softwire_arrival : Config → ℕ → List PartialDatagram → List ℕ → Arrival Received
softwire_arrival c now kept bytes = then_receive (tried kept (tunnelled c bytes)) (sent_arrival c now)

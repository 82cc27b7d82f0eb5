-- What arrivals have in common: what is brought is whole, and of the subscriber that its softwire is of.
use Rattle.std.proofs.Common.{◌≡◌, ℕ, zero, suc, ◌+◌, ◌/◌, ◌^◌, Bool, true, false, not, length, take, drop, List}
use Rattle.std.proofs.Common.{Option, Some, None, ok_or, refl, ◌∙◌, subst}
use Rattle.std.specs.Prelude.{Result, Ok, Err, ◌==◌, nat_le, nat_lt, if◌then◌else◌}
use Rattle.aftr_base.specs.Attempt.{◌>>=◌, ◌>>◌, require, refused_as}
use Rattle.aftr_base.specs.Bytes.{IsBytes, u8_at, u16_at, u32_at}
use Rattle.aftr_base.specs.Value.{moment}
use Rattle.aftr_base.specs.declared.event.DropCause.TheVariants.{NotUs, UnknownSubscriber}
use Rattle.cfg_text.specs.declared.config.Config.{Config}
use Rattle.frag_reasm.specs.Keys.{is_six}
use Rattle.frag_reasm.specs.Offers.{IfWhole, offered}
use Rattle.frag_reasm.specs.declared.key.PieceKey.{PieceKey}
use Rattle.frag_reasm.specs.declared.piece.HeldPiece.{HeldPiece}
use Rattle.frag_reasm.specs.declared.pieces.Offer.{Offer}
use Rattle.frag_reasm.specs.declared.pieces.Offer.TheVariants.{Whole, Held, Overlap, TooMany, TooLong, Bad, NoMemory}
use Rattle.frag_reasm.specs.declared.pieces.PartialDatagram.{PartialDatagram}
use Rattle.aftr_base.specs.declared.value.Ip6.{Ip6}
use Rattle.aftr_base.specs.declared.value.Subscriber.{Subscriber}
use Rattle.softwire.specs.declared.from_tunnel.DecapBad.{DecapBad}
use Rattle.softwire.specs.declared.from_tunnel.DecapBad.TheVariants.{Packet, NotUs as NotOurs}
use Rattle.softwire.specs.Tunnel.{Carried, decapsulated, tunnel_of}
use Rattle.subscriber_table.specs.Under.{subscriber_of}
use Rattle.wire_ip4.specs.Grammar.{Header, is_piece}
use Rattle.wire_ip4.proofs.Attempts.{followed, passed}
use Rattle.wire_ip4.proofs.Pieces.{bytes_of_front, bytes_of_rest}
use Rattle.wire_ip6.specs.Chain.{Behind, InnerPacket, InnerPiece, OtherHeader, CutShort, chain_of, chain_within, end_of}
use Rattle.wire_ip6.specs.Chain.{extension_len, is_passed, is_piece as is_fragment}
use Rattle.wire_ip6.specs.Grammar.{fields_of, frag_of, packet_of}
use Rattle.wire_ip6.specs.declared.fields.FragHead.{FragHead}
use Rattle.wire_ip6.specs.declared.fields.Ip6Bad.TheVariants.{Short, Version, PayloadLen}
use Rattle.wire_ip6.specs.declared.fields.Ip6Fields.{Ip6Fields}
use Rattle.ingress.specs.Arrival.{Arrival, brings, tried}
use Rattle.ingress.specs.Gathering.{AreKept, IsGathered, IsPiece, brought_by, gathered, taken}
use Rattle.ingress.specs.Ip4.{joined, piece_in, plain_ip4, whole_of, whole_packet}
use Rattle.ingress.specs.Laws.{Has, IsReceived, PublicBringsUncut, PublicBringsWhole, SoftwireBringsUncut, SoftwireBringsWhole}
use Rattle.ingress.specs.Packet.{IsUncut, IsWhole}
use Rattle.ingress.specs.PublicSide.{addressed_to_us, is_ours, public_arrival, public_key}
use Rattle.ingress.specs.SoftwireSide.{carried_to, fragment, fragment_key, inner_arrival, inner_in, inner_key, inner_of, or_drop}
use Rattle.ingress.specs.SoftwireSide.{received, received_from, sent_arrival, softwire_arrival, tunnelled, unwrapped}
use Rattle.ingress.specs.declared.gather.Gathered.{Gathered}
use Rattle.ingress.specs.declared.received.Sender.{Sender}
use Rattle.ingress.proofs.Kept.{offered_kept}
use Rattle.ingress.proofs.Packets.{gave_anyway, ok_same, piece_read, uncut_joined, uncut_read, whole_joined, whole_read}
use Rattle.ingress.proofs.Steps.{has_brought, has_either, has_refused, has_then, has_tried}

was_there : {A E : Type 0} (o : Option A) (e : E) (y : A) → ok_or o e ≡ Ok y → o ≡ Some y
was_there (Some x) e y h = cc
was_there None e y h = cc

-- ---- whatever the record is

abbrev Any : List PartialDatagram → Type 0
Any kept = Unit {0}

abbrev Anything : {A : Type 0} → A → Type 0
Anything x = Unit {0}

has_anything : {A : Type 0} (a : Arrival A) → Has Any Anything a
has_anything a = record { kept = tt; brings = λ x e. tt }

uncut_whole_of : (key : PieceKey) (now : ℕ) (kept : List PartialDatagram) (bytes : List ℕ) (packet : Header × List ℕ)
    → plain_ip4 bytes ≡ Ok packet → Has Any IsUncut (whole_of key now kept packet)
uncut_whole_of key now kept bytes packet read =
    has_either Any IsUncut (is_piece packet.0) (joined key now kept (piece_in packet)) (brings kept packet)
    (λ cut. has_then Any Anything IsUncut _ (λ kept' g all is. has_brought Any IsUncut kept' (whole_packet g) tt (uncut_joined g))
    (taken key (piece_in packet) now kept) (has_anything _))
    (λ whole. has_brought Any IsUncut kept packet tt (uncut_read bytes packet read whole))

uncut_inner : (who : Sender) (now : ℕ) (kept : List PartialDatagram) (bytes : List ℕ) → Has Any IsUncut (inner_arrival who now kept bytes)
uncut_inner who now kept bytes =
    has_then Any (λ packet. plain_ip4 bytes ≡ Ok packet) IsUncut _
    (λ kept' packet all read. uncut_whole_of (inner_key who packet.0.fields) now kept' bytes packet read)
    (tried kept (plain_ip4 bytes)) (has_tried Any _ kept (plain_ip4 bytes) tt (λ packet read. read))

-- ---- where it is bytes, and the held pieces came in such records

gathered_by : (P : Gathered → Type 0) (o : Offer) → IfWhole o (λ head bytes. P (gathered head bytes)) → (g : Gathered)
    → brought_by o ≡ Ok (Some g) → P g
gathered_by P (Whole head bytes) is g e = let same : gathered head bytes ≡ g = cc in subst P same is
gathered_by P Held is g e = cc
gathered_by P Overlap is g e = cc
gathered_by P TooMany is g e = cc
gathered_by P TooLong is g e = cc
gathered_by P Bad is g e = cc
gathered_by P NoMemory is g e = cc

whole_taken : (key : PieceKey) (p : HeldPiece) (now : ℕ) (kept : List PartialDatagram) → AreKept kept → IsPiece key p
    → Has AreKept (IsGathered key) (taken key p now kept)
whole_taken key p now kept all is =
    let did = offered_kept key p (moment now) kept all is in
    record { kept = did.kept; brings = gathered_by (IsGathered key) (offered key p (moment now) kept).answer did.whole }

whole_whole_of : (key : PieceKey) (now : ℕ) (kept : List PartialDatagram) (bytes : List ℕ) (packet : Header × List ℕ)
    → is_six key ≡ false → AreKept kept → IsBytes bytes → plain_ip4 bytes ≡ Ok packet → Has AreKept IsWhole (whole_of key now kept packet)
whole_whole_of key now kept bytes packet four all fits read =
    has_either AreKept IsWhole (is_piece packet.0) (joined key now kept (piece_in packet)) (brings kept packet)
    (λ cut. has_then AreKept (IsGathered key) IsWhole _
    (λ kept' g all' is. has_brought AreKept IsWhole kept' (whole_packet g) all' (whole_joined g (is.head four) (is.short four)))
    (taken key (piece_in packet) now kept) (whole_taken key (piece_in packet) now kept all (piece_read bytes packet read fits key)))
    (λ whole. has_brought AreKept IsWhole kept packet all (whole_read bytes packet read whole fits))

whole_inner : (who : Sender) (now : ℕ) (kept : List PartialDatagram) (bytes : List ℕ) → AreKept kept → IsBytes bytes
    → Has AreKept IsWhole (inner_arrival who now kept bytes)
whole_inner who now kept bytes all fits =
    has_then AreKept (λ packet. plain_ip4 bytes ≡ Ok packet) IsWhole _
    (λ kept' packet all' read. whole_whole_of (inner_key who packet.0.fields) now kept' bytes packet refl all' fits read)
    (tried kept (plain_ip4 bytes)) (has_tried AreKept _ kept (plain_ip4 bytes) all (λ packet read. read))

-- ---- the bytes behind a chain of headers

abbrev AreBehind : Behind → Type 0
AreBehind (InnerPacket bytes) = IsBytes bytes
AreBehind (InnerPiece h bytes) = IsBytes bytes
AreBehind OtherHeader = Unit {0}
AreBehind CutShort = Unit {0}

behind_either : (b : Bool) (x y : Behind) → AreBehind x → AreBehind y → AreBehind (if b then x else y)
behind_either true x y f g = f
behind_either false x y f g = g

behind_end : (last : ℕ) (rest : List ℕ) (whole : Bool) → IsBytes rest → AreBehind (end_of last rest whole)
behind_end last rest whole fits =
    behind_either (last == 4) _ _ fits
    (behind_either (not (is_fragment last whole)) _ _ tt
    (behind_either (nat_lt (length rest) 8) CutShort (InnerPiece (frag_of rest) (drop 8 rest)) tt (bytes_of_rest rest 8 fits)))

behind_within : (n next : ℕ) (bytes : List ℕ) (whole : Bool) → IsBytes bytes → AreBehind (chain_within n next bytes whole)
unfolding chain_within
behind_within zero next bytes whole fits = tt
behind_within (suc n) next bytes whole fits =
    behind_either (not (is_passed next)) _ _ (behind_end next bytes whole fits)
    (behind_either (nat_lt (length bytes) (extension_len bytes)) _ _ tt
    (behind_within n (u8_at 0 bytes) (drop (extension_len bytes) bytes) whole (bytes_of_rest bytes (extension_len bytes) fits)))

inner_bytes : (behind : Behind) → AreBehind behind → (bytes : List ℕ) → inner_of behind ≡ Ok bytes → IsBytes bytes
inner_bytes (InnerPacket inner) are bytes e = let same : inner ≡ bytes = cc in subst IsBytes same are
inner_bytes (InnerPiece h inner) are bytes e = cc
inner_bytes OtherHeader are bytes e = cc
inner_bytes CutShort are bytes e = cc

-- ---- what a softwire carries

carried_by : (r : Result Carried DecapBad) (t : Carried) → or_drop r ≡ Ok t → r ≡ Ok t
carried_by (Ok x) t e = cc
carried_by (Err bad) t e = cc

abbrev carried : Ip6 → Behind → Carried
carried softwire behind = record { softwire = softwire; behind = behind }

tunnel_by : (softwire : Ip6) (behind : Behind) (t : Carried) → AreBehind behind → tunnel_of softwire behind ≡ Ok t → AreBehind t.behind
tunnel_by softwire (InnerPacket bytes) t are e =
    subst (λ (x : Carried). AreBehind x.behind) (ok_same (carried softwire (InnerPacket bytes)) t e) are
tunnel_by softwire (InnerPiece h bytes) t are e =
    subst (λ (x : Carried). AreBehind x.behind) (ok_same (carried softwire (InnerPiece h bytes)) t e) are
tunnel_by softwire OtherHeader t are e = cc
tunnel_by softwire CutShort t are e = cc

abbrev ip6_in : List ℕ → Ip6Fields × List ℕ
ip6_in bytes = (fields_of bytes, take (u16_at 4 bytes) (drop 40 bytes))

payload_bytes : (bytes : List ℕ) (packet : Ip6Fields × List ℕ) → IsBytes bytes → packet_of bytes ≡ Ok packet → IsBytes packet.1
payload_bytes bytes packet fits e =
    let one = passed (nat_le 40 (length bytes)) Short _ packet e in
    let two = passed (u32_at 0 bytes / 2 ^ 28 == 6) Version _ packet one.1 in
    let three = passed (nat_le (40 + u16_at 4 bytes) (length bytes)) PayloadLen _ packet two.1 in
    subst (λ (p : Ip6Fields × List ℕ). IsBytes p.1) (ok_same (ip6_in bytes) packet three.1)
    (bytes_of_front (drop 40 bytes) (u16_at 4 bytes) (bytes_of_rest bytes 40 fits))

tunnel_behind : (aftr : Ip6) (bytes : List ℕ) (t : Carried) → IsBytes bytes → decapsulated aftr bytes ≡ Ok t → AreBehind t.behind
tunnel_behind aftr bytes t fits e =
    let (packet, read, next) = followed (refused_as (packet_of bytes) Packet) (λ (p : Ip6Fields × List ℕ).
    require (p.0.dst.0 == aftr.0) NotOurs >> tunnel_of p.0.src (chain_of p.0.next p.1 false)) t e in
    let ours = passed (packet.0.dst.0 == aftr.0) NotOurs _ t next in
    let payload = payload_bytes bytes packet fits (gave_anyway (packet_of bytes) Packet packet read) in
    tunnel_by packet.0.src (chain_of packet.0.next packet.1 false) t
    (behind_within (suc (length packet.1)) packet.0.next packet.1 false payload) ours.1

-- a subscriber of this configuration sent it
abbrev IsOwned : Config → Sender × Behind → Type 0
IsOwned c got = subscriber_of c got.0.softwire ≡ Some got.0.owner

abbrev sent_by : Carried → Subscriber → Sender × Behind
sent_by tunnel owner = let who : Sender = record { softwire = tunnel.softwire; owner = owner } in (who, tunnel.behind)

record IsSent (c : Config) (bytes : List ℕ) (got : Sender × Behind) : Type 0 where
  owned : IsOwned c got
  behind : IsBytes bytes → AreBehind got.1

sent_from : (c : Config) (bytes : List ℕ) (got : Sender × Behind) → tunnelled c bytes ≡ Ok got → IsSent c bytes got
sent_from c bytes got e =
    let (tunnel, carries, next) = followed (carried_to c bytes) (λ (t : Carried).
    ok_or (subscriber_of c t.softwire) UnknownSubscriber >>= (λ owner. Ok (sent_by t owner))) got e in
    let (owner, known, same) = followed (ok_or (subscriber_of c tunnel.softwire) UnknownSubscriber) (λ owner. Ok (sent_by tunnel owner))
    got next in
    subst (IsSent c bytes) (ok_same (sent_by tunnel owner) got same) (record {
      owned = was_there (subscriber_of c tunnel.softwire) UnknownSubscriber owner known;
      behind = λ fits. tunnel_behind c.aftr bytes tunnel fits (carried_by (decapsulated c.aftr bytes) tunnel carries);
    })

-- ---- from the softwire side

fragment_comes : (c : Config) (who : Sender) (h : FragHead) (bytes : List ℕ) → IsBytes bytes
    → IsPiece (fragment_key c who h) (fragment h bytes)
fragment_comes c who h bytes fits = record { head = λ four. let no : true ≡ false = four in absurd cc; bytes = fits }

whole_unwrapped : (c : Config) (now : ℕ) (who : Sender) (kept : List PartialDatagram) (behind : Behind) → AreKept kept → AreBehind behind
    → Has AreKept IsBytes (unwrapped c now who kept behind)
whole_unwrapped c now who kept (InnerPacket bytes) all are = has_brought AreKept IsBytes kept bytes all are
whole_unwrapped c now who kept (InnerPiece h bytes) all are =
    let key = fragment_key c who h in
    has_then AreKept (IsGathered key) IsBytes _
    (λ kept' g all' is. has_tried AreKept IsBytes kept' (inner_in g) all'
    (inner_bytes (chain_of (u8_at 0 g.head) g.bytes true)
    (behind_within (suc (length g.bytes)) (u8_at 0 g.head) g.bytes true is.bytes)))
    (taken key (fragment h bytes) now kept) (whole_taken key (fragment h bytes) now kept all (fragment_comes c who h bytes are))
whole_unwrapped c now who kept OtherHeader all are = has_refused AreKept IsBytes kept _ all
whole_unwrapped c now who kept CutShort all are = has_refused AreKept IsBytes kept _ all

has_received : (c : Config) (K : List PartialDatagram → Type 0) (P : Header × List ℕ → Type 0) (who : Sender)
    (a : Arrival (Header × List ℕ))
    → subscriber_of c who.softwire ≡ Some who.owner → Has K P a → Has K (IsReceived c P) (received_from who a)
has_received c K P who a owned has =
    has_then K P (IsReceived c P) _
    (λ kept packet all is. has_brought K (IsReceived c P) kept (received who packet) all (record { packet = is; owner = owned })) a has

pub softwire_brings_uncut : SoftwireBringsUncut
unfolding softwire_arrival
softwire_brings_uncut c now kept bytes =
    (has_then Any (IsOwned c) (IsReceived c IsUncut) (sent_arrival c now)
    (λ kept' got all owned. has_received c Any IsUncut got.0 _ owned
    (has_then Any Anything IsUncut (inner_arrival got.0 now) (λ kept'' inner all' any. uncut_inner got.0 now kept'' inner)
    (unwrapped c now got.0 kept' got.1) (has_anything _)))
    (tried kept (tunnelled c bytes))
    (has_tried Any (IsOwned c) kept (tunnelled c bytes) tt (λ got e. (sent_from c bytes got e).owned))).brings

pub softwire_brings_whole : SoftwireBringsWhole
unfolding softwire_arrival
softwire_brings_whole c now kept bytes all fits =
    has_then AreKept (IsSent c bytes) (IsReceived c IsWhole) (sent_arrival c now)
    (λ kept' got all' is. has_received c AreKept IsWhole got.0 _ is.owned
    (has_then AreKept IsBytes IsWhole (inner_arrival got.0 now)
    (λ kept'' inner all'' fits'. whole_inner got.0 now kept'' inner all'' fits')
    (unwrapped c now got.0 kept' got.1) (whole_unwrapped c now got.0 kept' got.1 all' (is.behind fits))))
    (tried kept (tunnelled c bytes))
    (has_tried AreKept (IsSent c bytes) kept (tunnelled c bytes) all (sent_from c bytes))

-- ---- from the public side

plain_to_us : (c : Config) (bytes : List ℕ) (packet : Header × List ℕ) → addressed_to_us c bytes ≡ Ok packet → plain_ip4 bytes ≡ Ok packet
plain_to_us c bytes packet e =
    let (read, is, next) = followed (plain_ip4 bytes) (λ (p : Header × List ℕ).
    require (is_ours c p.0.fields.dst) NotUs >> Ok p) packet e in
    let ours = passed (is_ours c read.0.fields.dst) NotUs _ packet next in
    is ∙ ours.1

pub public_brings_uncut : PublicBringsUncut
unfolding public_arrival
public_brings_uncut c now kept bytes =
    (has_then Any (λ packet. plain_ip4 bytes ≡ Ok packet) IsUncut _
    (λ kept' packet all read. uncut_whole_of (public_key packet.0.fields) now kept' bytes packet read)
    (tried kept (addressed_to_us c bytes)) (has_tried Any _ kept (addressed_to_us c bytes) tt (plain_to_us c bytes))).brings

pub public_brings_whole : PublicBringsWhole
unfolding public_arrival
public_brings_whole c now kept bytes all fits =
    has_then AreKept (λ packet. plain_ip4 bytes ≡ Ok packet) IsWhole _
    (λ kept' packet all' read. whole_whole_of (public_key packet.0.fields) now kept' bytes packet refl all' fits read)
    (tried kept (addressed_to_us c bytes)) (has_tried AreKept _ kept (addressed_to_us c bytes) all (plain_to_us c bytes))

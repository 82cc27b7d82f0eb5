-- What arrivals have in common.
use Rattle.std.specs.Prelude.{◌≡◌, ℕ, List, Some, Ok}
use Rattle.aftr_base.specs.Bytes.{IsBytes}
use Rattle.cfg_text.specs.declared.config.Config.{Config}
use Rattle.frag_reasm.specs.declared.pieces.PartialDatagram.{PartialDatagram}
use Rattle.subscriber_table.specs.Under.{subscriber_of}
use Rattle.wire_ip4.specs.Grammar.{Header}
use Rattle.ingress.specs.Arrival.{Arrival}
use Rattle.ingress.specs.Gathering.{AreKept}
use Rattle.ingress.specs.Packet.{IsUncut, IsWhole}
use Rattle.ingress.specs.PublicSide.{public_arrival}
use Rattle.ingress.specs.SoftwireSide.{softwire_arrival}
use Rattle.ingress.specs.declared.received.Received.{Received}

-- a packet of this kind, of the subscriber that its softwire is of
pub record IsReceived (c : Config) (IsPacket : Header × List ℕ → Type 0) (r : Received) : Type 0 where
  pub packet : IsPacket r.packet
  pub owner : subscriber_of c r.who.softwire ≡ Some r.who.owner

-- what it brings is of this kind
abbrev pub Brings : {A : Type 0} → (A → Type 0) → Arrival A → Type 0
Brings P a = (x : _) → a.brought ≡ Ok (Some x) → P x

-- Whatever the record is, what it brings is no piece and is of the subscriber that its softwire is of.
abbrev pub SoftwireBringsUncut : Type 0
SoftwireBringsUncut = (c : Config) (now : ℕ) (kept : List PartialDatagram) (bytes : List ℕ)
    → Brings (IsReceived c IsUncut) (softwire_arrival c now kept bytes)

abbrev pub PublicBringsUncut : Type 0
PublicBringsUncut = (c : Config) (now : ℕ) (kept : List PartialDatagram) (bytes : List ℕ) → Brings IsUncut (public_arrival c now kept bytes)

-- K holds of the pieces that are held, and P of what is brought
pub record Has {A : Type 0} (K : List PartialDatagram → Type 0) (P : A → Type 0) (a : Arrival A) : Type 0 where
  pub kept : K a.kept
  pub brings : Brings P a

-- And where the record is bytes and the held pieces came in such records, it stands in some bytes, and the pieces that are
-- held then came in such records too.
abbrev pub SoftwireBringsWhole : Type 0
SoftwireBringsWhole = (c : Config) (now : ℕ) (kept : List PartialDatagram) (bytes : List ℕ) → AreKept kept → IsBytes bytes
    → Has AreKept (IsReceived c IsWhole) (softwire_arrival c now kept bytes)

abbrev pub PublicBringsWhole : Type 0
PublicBringsWhole = (c : Config) (now : ℕ) (kept : List PartialDatagram) (bytes : List ℕ) → AreKept kept → IsBytes bytes
    → Has AreKept IsWhole (public_arrival c now kept bytes)

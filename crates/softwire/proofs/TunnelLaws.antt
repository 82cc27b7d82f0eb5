-- What is put into a softwire comes out at its other end.
use Rattle.std.proofs.Common.{◌≡◌, ℕ, Bool, true, false, List, [], length, refl, sym, ap, ◌∙◌, eq-eqb}
use Rattle.std.specs.Prelude.{◌==◌, Result, Ok}
use Rattle.std.proofs.lemmas.List.{append-nil}
use Rattle.aftr_base.specs.Attempt.{◌>>=◌, ◌>>◌, require, refused_as}
use Rattle.aftr_base.specs.declared.value.Ip6.{Ip6}
use Rattle.wire_ip6.specs.declared.fields.Ip6Fields.{Ip6Fields}
use Rattle.wire_ip6.specs.declared.fields.Ip6Bad.{Ip6Bad}
use Rattle.wire_ip6.specs.Grammar.{header_bytes, packet_of, ReadsBack}
use Rattle.wire_ip6.specs.Chain.{Behind, InnerPacket, chain_of}
use Rattle.wire_ip6.proofs.ChainLaws.{chain_end}
use Rattle.softwire.specs.declared.from_tunnel.DecapBad.{DecapBad}
use Rattle.softwire.specs.declared.from_tunnel.DecapBad.TheVariants.{Packet, NotUs}
use Rattle.softwire.specs.Tunnel.{Carried, decapsulated, tunnel_of, tunnel_fields, tunnel_packet, IsReadAs, Arrives}

-- the packet is read as it was written: nothing stands beyond it
pub read_as : (aftr softwire : Ip6) (class : ℕ) (inner : List ℕ)
    → ReadsBack (tunnel_fields aftr softwire class 4 (length inner)) (header_bytes (tunnel_fields aftr softwire class 4 (length inner)))
    → IsReadAs aftr softwire class inner
read_as aftr softwire class inner back =
    ap packet_of (sym (append-nil (tunnel_packet aftr softwire class 4 inner))) ∙ back inner [] refl

-- the steps of decapsulation after the packet was read, and after its two tests
abbrev judged : Bool → Behind → Ip6 → Result Carried DecapBad
judged ours behind from = require ours NotUs >> tunnel_of from behind

abbrev after_read : Ip6 → Result (Ip6Fields × List ℕ) Ip6Bad → Result Carried DecapBad
after_read aftr read =
    refused_as read Packet >>= (λ packet. judged (packet.0.dst.0 == aftr.0) (chain_of packet.0.next packet.1 false) packet.0.src)

-- what is answered for a packet that was read and is for this end
pub answered : (aftr : Ip6) (bytes : List ℕ) (packet : Ip6Fields × List ℕ) (f : Ip6Fields) (payload : List ℕ)
    → Ok packet ≡ packet_of bytes → f ≡ packet.0 → payload ≡ packet.1 → (f.dst.0 == aftr.0) ≡ true
    → tunnel_of f.src (chain_of f.next payload false) ≡ decapsulated aftr bytes
answered aftr bytes packet f payload read fields rest ours =
    (λ i. judged (sym ours i) (chain_of f.next payload false) f.src)
    ∙ (λ i. judged ((fields i).dst.0 == aftr.0) (chain_of (fields i).next (rest i) false) (fields i).src)
    ∙ ap (after_read aftr) read

-- what a packet of this end carries at the other
pub arrives_as : (aftr softwire : Ip6) (class next : ℕ) (bytes : List ℕ) (behind : Behind)
    → packet_of (tunnel_packet aftr softwire class next bytes) ≡ Ok (tunnel_fields aftr softwire class next (length bytes), bytes)
    → chain_of next bytes false ≡ behind
    → decapsulated softwire (tunnel_packet aftr softwire class next bytes) ≡ tunnel_of aftr behind
arrives_as aftr softwire class next bytes behind read ended =
    let ours : (softwire.0 == softwire.0) ≡ true = eq-eqb softwire.0 softwire.0 refl in
    ap (after_read softwire) read ∙ λ i. judged (ours i) (ended i) aftr

-- and it carries what was put in
pub arrives : (aftr softwire : Ip6) (class : ℕ) (inner : List ℕ) → IsReadAs aftr softwire class inner → Arrives aftr softwire class inner
arrives aftr softwire class inner read =
    arrives_as aftr softwire class 4 inner (InnerPacket inner) read (chain_end 4 inner false refl)

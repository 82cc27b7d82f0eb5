-- What is told of a packet that is cut.
use Rattle.std.proofs.Common.{◌≡◌, ℕ, ◌≤◌, List, [], ◌++◌, length, subst, arith}
use Rattle.std.specs.Prelude.{Ok}
use Rattle.wire_ip4.specs.Grammar.{Header, IsHeader, header_bytes, packet_of, SpellsPacket}
use Rattle.softwire.specs.Cut.{room_of}
use Rattle.softwire.specs.Reading.{CutTells}
use Rattle.softwire.proofs.Cuts.{same_read, whole_long}
use Rattle.softwire.proofs.PieceReads.{pieces_read_back, pieces_show, whole_shows}
use Rattle.softwire.proofs.Lengths.{packet_alone, packets_within, packets_short}

pub tells : (mtu : ℕ) (h : Header) (payload : List ℕ) → 28 ≤ mtu → IsHeader h → h.options ≡ [] → length payload ≤ 65515
    → CutTells mtu h payload
tells mtu h payload room is bare short =
    let n = room_of mtu 20 in
    let units : 8 ≤ n = omega arith in
    record {
      fits = packet_alone mtu h payload;
      whole = whole_shows h payload is bare;
      read_back = pieces_read_back h.fields is.fields n (omega arith) payload short;
      pieces = pieces_show h.fields is.fields n units payload short;
      within = packets_within mtu h payload (omega arith) bare;
      short = packets_short mtu h payload (omega arith) short bare;
    }

-- of a packet that bytes are, whatever its checksum
pub told_of : (mtu : ℕ) (packet : List ℕ) → 28 ≤ mtu → length packet ≤ 65535 → (h : Header) (payload : List ℕ) → IsHeader h
    → h.options ≡ [] → packet ≡ header_bytes h ++ payload → CutTells mtu h payload
told_of mtu packet room short h payload is bare spelled =
    tells mtu h payload room is bare (omega (arith, short, whole_long h payload packet bare spelled))

-- of a packet that bytes spell
told_spelled : (mtu : ℕ) (bytes : List ℕ) (h : Header) (payload : List ℕ) → 28 ≤ mtu → SpellsPacket bytes h payload → h.options ≡ []
    → CutTells mtu h payload
told_spelled mtu bytes h payload room s bare =
    tells mtu h payload room s.header bare (omega (arith, s.header.fields.total, s.total))

-- and of what is read there
pub told : (mtu : ℕ) (bytes : List ℕ) (x : Header × List ℕ) → 28 ≤ mtu → Ok x ≡ packet_of bytes → SpellsPacket bytes x.0 x.1
    → (h : Header) (payload : List ℕ) → packet_of bytes ≡ Ok (h, payload) → h.options ≡ [] → CutTells mtu h payload
told mtu bytes x room read s h payload again bare =
    told_spelled mtu bytes h payload room
    (subst (λ (y : Header × List ℕ). SpellsPacket bytes y.0 y.1) (same_read (packet_of bytes) x (h, payload) read again) s) bare

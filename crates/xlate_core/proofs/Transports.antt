-- What is known of the bytes that were read as a transport.
use Rattle.std.proofs.Common.{◌≡◌, ℕ, ◌+◌, ◌-◌, ◌*◌, ◌/◌, ◌≤◌, Bool, true, false, cond, ◌&&◌, ◌==◌, List, ◌++◌, length, Some, Ok, Err, nat_le, drop}
use Rattle.std.proofs.Common.{refl, sym, ap, ◌∙◌, subst, arith, length-append}
use Rattle.std.proofs.lemmas.Bool.{eqb-true, leb-true}
use Rattle.std.proofs.lemmas.List.{length-take, length-drop}
use Rattle.aftr_base.specs.Attempt.{refused_as}
use Rattle.aftr_base.specs.Bytes.{be16, u8_at, u16_at}
use Rattle.aftr_base.specs.Checksum.{is_sound}
use Rattle.aftr_base.specs.declared.value.Ext.{Ext}
use Rattle.aftr_base.specs.declared.value.Proto.{Proto}
use Rattle.aftr_base.specs.declared.value.Proto.TheVariants.{Tcp, Udp, Icmp}
use Rattle.aftr_base.specs.declared.event.DropCause.TheVariants.{BadPacket, NoProtocol}
use Rattle.wire_icmp.specs.Grammar.{message_of}
use Rattle.wire_icmp.specs.Quoted.{is_echo}
use Rattle.wire_l4.specs.Grammar.{Segment, Echo, Transport, Ports, Query, echo_of, segment_at, segment_bytes, sum_bytes, tcp_of, transport_bytes}
use Rattle.wire_l4.specs.Grammar.{transport_in, transport_of, udp_of}
use Rattle.wire_l4.specs.Places.{port_at, proto_of, replaced}
use Rattle.xlate_core.specs.Datagram.{flags_of}
use Rattle.xlate_core.specs.Packet.{proto_from, query_from, transport_from}
use Rattle.xlate_core.proofs.Attempts.{gave_anyway, step_gave, test_passed, ok_inj}

pub udp_read : (bytes : List ℕ) (s : Segment) → udp_of bytes ≡ Ok s → (segment_at 6 bytes ≡ s) × (8 ≤ length bytes)
udp_read bytes s h =
    let (long, inside) = test_passed (nat_le 8 (length bytes)) _ _ s h in
    let one = (test_passed (nat_le 8 (u16_at 4 bytes) && nat_le (u16_at 4 bytes) (length bytes)) _ _ s inside).1 in
    (ok_inj (segment_at 6 bytes) s _ refl one, leb-true 8 (length bytes) long)

pub tcp_read : (bytes : List ℕ) (s : Segment) → tcp_of bytes ≡ Ok s → (segment_at 16 bytes ≡ s) × (20 ≤ length bytes)
tcp_read bytes s h =
    let offset = u8_at 12 bytes / 16 in
    let (long, inside) = test_passed (nat_le 20 (length bytes)) _ _ s h in
    let one = (test_passed (nat_le 5 offset && nat_le (4 * offset) (length bytes)) _ _ s inside).1 in
    (ok_inj (segment_at 16 bytes) s _ refl one, leb-true 20 (length bytes) long)

pub proto_in : (proto : Proto) (bytes : List ℕ) → proto_of (transport_in proto bytes) ≡ proto
proto_in Udp bytes = refl
proto_in Tcp bytes = refl
proto_in Icmp bytes = refl

-- ---- how long a transport is

pub length_segment : (s : Segment) → length (segment_bytes s) ≡ 4 + length s.fixed + length (sum_bytes s.sum) + length s.rest
unfolding be16
length_segment s = omega (arith, length-append (s.fixed ++ sum_bytes s.sum) s.rest, length-append s.fixed (sum_bytes s.sum))

length_word : (n : ℕ) → length (sum_bytes (Some n)) ≡ 2
unfolding be16
length_word n = refl

length_read : (at : ℕ) (bytes : List ℕ) → 4 ≤ at → at + 2 ≤ length bytes
    → length (segment_bytes (segment_at at bytes)) ≡ length bytes
length_read at bytes least most =
    let whole = length_segment (segment_at at bytes) in
    let sum : length (sum_bytes (segment_at at bytes).sum) ≡ 2 = length_word (u16_at at bytes) in
    omega (arith, whole, sum, length-take (at - 4) (drop 4 bytes), length-drop 4 bytes, length-drop (at + 2) bytes, least, most)

pub length_echo : (e : Echo) → length (transport_bytes (Query e)) ≡ 6 + length e.rest
unfolding be16
length_echo e = omega arith

-- ---- what was read

-- what a packet of this protocol number has behind its header: a transport with ports, or an echo message
pub data HasBody (number : ℕ) (t : Transport) : Type 0 where
  IsPorts : (proto : Proto) (s : Segment) → t ≡ Ports proto s → (number == 1) ≡ false → HasBody number t
  IsQuery : (e : Echo) → t ≡ Query e → number ≡ 1 → is_echo e.kind ≡ true → HasBody number t

-- a transport that was read from all these bytes
pub record IsRead (number : ℕ) (bytes : List ℕ) (t : Transport) : Type 0 where
  pub size : length (transport_bytes t) ≡ length bytes
  pub body : HasBody number t

ports_read : (n : ℕ) (proto : Proto) (at : ℕ) (bytes : List ℕ) (t : Transport) → (n == 1) ≡ false → 4 ≤ at → at + 2 ≤ length bytes
    → Ports proto (segment_at at bytes) ≡ t → IsRead n bytes t
ports_read n proto at bytes t other least most is = subst (IsRead n bytes) is (record {
  size = length_read at bytes least most;
  body = IsPorts proto (segment_at at bytes) refl other;
})

read_udp : (n : ℕ) (bytes : List ℕ) (t : Transport) → (n == 1) ≡ false → transport_of Udp bytes ≡ Ok t → IsRead n bytes t
read_udp n bytes t other h =
    let (s, opens, same) = step_gave (udp_of bytes) _ t h in
    let (is, long) = udp_read bytes s opens in
    ports_read n Udp 6 bytes t other (omega arith) long (ap (Ports Udp) is ∙ ok_inj (Ports Udp s) t _ refl same)

read_tcp : (n : ℕ) (bytes : List ℕ) (t : Transport) → (n == 1) ≡ false → transport_of Tcp bytes ≡ Ok t → IsRead n bytes t
read_tcp n bytes t other h =
    let (s, opens, same) = step_gave (tcp_of bytes) _ t h in
    let (is, long) = tcp_read bytes s opens in
    ports_read n Tcp 16 bytes t other (omega arith) (omega (arith, long)) (ap (Ports Tcp) is ∙ ok_inj (Ports Tcp s) t _ refl same)

read_echo : (n : ℕ) (bytes : List ℕ) (t : Transport) → n ≡ 1 → query_from bytes ≡ Ok t → IsRead n bytes t
read_echo n bytes t one h =
    let (m, whole, next) = step_gave (refused_as (message_of bytes) BadPacket) _ t h in
    let (echo, same) = test_passed (is_echo m.kind) _ _ t next in
    let inside = gave_anyway (message_of bytes) BadPacket m whole in
    let (long, next') = test_passed (nat_le 8 (length bytes)) _ _ m inside in
    let made = (test_passed (is_sound bytes) _ _ m next').1 in
    let read = ok_inj (echo_of bytes) m _ refl made in
    let is : Query (echo_of bytes) ≡ t = ap Query read ∙ ok_inj (Query m) t _ refl same in
    subst (IsRead n bytes) is (record {
      size = omega (arith, length_echo (echo_of bytes), length-drop 6 bytes, leb-true 8 (length bytes) long);
      body = IsQuery (echo_of bytes) refl one (subst (λ (x : Echo). is_echo x.kind ≡ true) (sym read) echo);
    })

-- whether it is ICMP's, by its number
abbrev IsNumbered : ℕ → Proto → Type 0
IsNumbered n Icmp = n ≡ 1
IsNumbered n Udp = (n == 1) ≡ false
IsNumbered n Tcp = (n == 1) ≡ false

numbered_by : (n : ℕ) (a b c : Bool) (proto : Proto) → (n == 17) ≡ a → (n == 6) ≡ b → (n == 1) ≡ c
    → cond a (Ok Udp) (cond b (Ok Tcp) (cond c (Ok Icmp) (Err NoProtocol))) ≡ Ok proto → IsNumbered n proto
numbered_by n true b c Udp e f g h = subst (λ (k : ℕ). (k == 1) ≡ false) (sym (eqb-true n 17 e)) refl
numbered_by n true b c Tcp e f g h = cc
numbered_by n true b c Icmp e f g h = cc
numbered_by n false true c Tcp e f g h = subst (λ (k : ℕ). (k == 1) ≡ false) (sym (eqb-true n 6 f)) refl
numbered_by n false true c Udp e f g h = cc
numbered_by n false true c Icmp e f g h = cc
numbered_by n false false true Icmp e f g h = eqb-true n 1 g
numbered_by n false false true Udp e f g h = cc
numbered_by n false false true Tcp e f g h = cc
numbered_by n false false false proto e f g h = cc

pub numbered : (n : ℕ) (proto : Proto) → proto_from n ≡ Ok proto → IsNumbered n proto
numbered n proto h = numbered_by n (n == 17) (n == 6) (n == 1) proto refl refl refl h

pub is_read : (n : ℕ) (proto : Proto) (bytes : List ℕ) (t : Transport) → proto_from n ≡ Ok proto → transport_from proto bytes ≡ Ok t
    → IsRead n bytes t
is_read n Udp bytes t known h = read_udp n bytes t (numbered n Udp known) (gave_anyway (transport_of Udp bytes) BadPacket t h)
is_read n Tcp bytes t known h = read_tcp n bytes t (numbered n Tcp known) (gave_anyway (transport_of Tcp bytes) BadPacket t h)
is_read n Icmp bytes t known h = read_echo n bytes t (numbered n Icmp known) h

-- what was read is what stands there
pub read_in : (proto : Proto) (bytes : List ℕ) (t : Transport) → transport_of proto bytes ≡ Ok t → transport_in proto bytes ≡ t
read_in Udp bytes t h =
    let (s, opens, same) = step_gave (udp_of bytes) _ t h in
    ap (Ports Udp) (udp_read bytes s opens).0 ∙ ok_inj (Ports Udp s) t _ refl same
read_in Tcp bytes t h =
    let (s, opens, same) = step_gave (tcp_of bytes) _ t h in
    ap (Ports Tcp) (tcp_read bytes s opens).0 ∙ ok_inj (Ports Tcp s) t _ refl same
read_in Icmp bytes t h =
    let same = (test_passed (nat_le 8 (length bytes)) _ _ t h).1 in
    ok_inj (Query (echo_of bytes)) t _ refl same

-- ---- with one place replaced

pub proto_kept : (source : Bool) (old new : Ext) (t : Transport) → proto_of (replaced source old new t) ≡ proto_of t
proto_kept source old new (Ports p s) = refl
proto_kept source old new (Query e) = refl

pub flags_kept : (source : Bool) (old new : Ext) (t : Transport) → flags_of (replaced source old new t) ≡ flags_of t
flags_kept source old new (Ports Tcp s) = refl
flags_kept source old new (Ports Udp s) = refl
flags_kept source old new (Ports Icmp s) = refl
flags_kept source old new (Query e) = refl

pub source_put : (old new : Ext) (t : Transport) → port_at true (replaced true old new t) ≡ new.port
source_put old new (Ports p s) = refl
source_put old new (Query e) = refl

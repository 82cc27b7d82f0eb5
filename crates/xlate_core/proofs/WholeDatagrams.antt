-- What a datagram is that was received, and how long it is as it goes on.
use Rattle.std.proofs.Common.{◌≡◌, ℕ, ◌+◌, ◌≤◌, Bool, true, false, cond, not, ◌&&◌, ◌||◌, List, [], ◌∷◌, ◌++◌, length}
use Rattle.std.proofs.Common.{Option, Some, None, option_map, ok_or, Ok, nat_le, nat_lt, refl, sym, ap, ◌∙◌, subst, arith, length-append}
use Rattle.std.proofs.lemmas.Bool.{and_parts, leb-true, ltb-false, not-true, or_parts}
use Rattle.std.specs.Prelude.{if◌then◌else◌}
use Rattle.aftr_base.specs.Bytes.{be16, be32, be128}
use Rattle.aftr_base.specs.Checksum.{adjusted}
use Rattle.aftr_base.specs.declared.value.Ip6.{Ip6}
use Rattle.aftr_base.specs.declared.value.Ext.{Ext}
use Rattle.aftr_base.specs.declared.value.Proto.{Proto}
use Rattle.aftr_base.specs.declared.event.DropCause.TheVariants.{BadPacket}
use Rattle.cfg_text.specs.declared.config.Config.{Config}
use Rattle.softwire.specs.Tunnel.{tunnel_packet}
use Rattle.wire_ip4.specs.Grammar.{Header, header_bytes}
use Rattle.icmp_xlate.specs.Errors.{ErrorPacket, error_of}
use Rattle.wire_l4.specs.Grammar.{Segment, Echo, Transport, Ports, Query, sum_bytes, transport_bytes}
use Rattle.wire_l4.specs.Places.{replaced, segment_sum}
use Rattle.ingress.specs.Packet.{IsUncut}
use Rattle.ingress.specs.PublicSide.{is_ours}
use Rattle.xlate_core.specs.Datagram.{Datagram, datagram_bytes, hairpinned, translated, place_on}
use Rattle.xlate_core.specs.declared.packet.Content.TheVariants.{Carries, Reports}
use Rattle.xlate_core.specs.Content.{content_of, datagram_content, error_content, is_report}
use Rattle.xlate_core.specs.Packet.{proto_from, has_route, is_routable, transport_from}
use Rattle.xlate_core.specs.Outbound.{outward}
use Rattle.xlate_core.specs.Inbound.{inward}
use Rattle.xlate_core.proofs.Transports.{HasBody, IsRead, is_read, length_echo, length_segment}
use Rattle.xlate_core.proofs.Attempts.{step_gave, test_passed, ok_inj}

-- ---- the datagram in it

length_sum : (o : Option ℕ) (f : ℕ → ℕ) → length (sum_bytes (option_map f o)) ≡ length (sum_bytes o)
unfolding be16
length_sum None f = refl
length_sum (Some n) f = refl

-- a datagram that came whole, in a packet without options that may be forwarded
pub record IsWhole (d : Datagram) : Type 0 where
  pub options : d.header.options ≡ []
  pub more : d.header.fields.more ≡ false
  pub offset : d.header.fields.offset ≡ 0
  pub ttl : 2 ≤ d.header.fields.ttl
  pub body : HasBody d.header.fields.proto d.body
  pub total : d.header.fields.total ≡ 20 + length (transport_bytes d.body)
  pub short : d.header.fields.total ≤ 65535

carries_inj : (x y : Datagram) → Carries x ≡ Carries y → x ≡ y
carries_inj x y h = cc

abbrev datagram_with : Header → Transport → Datagram
datagram_with h t = record { header = h; body = t }

-- what a header can tell, and a TTL for a further hop
pub record MayGoOn (h : Header) : Type 0 where
  pub ttl : 2 ≤ h.fields.ttl
  pub short : h.fields.total ≤ 65535

read_whole : (p : Header × List ℕ) (t : Transport) → IsUncut p → MayGoOn p.0 → IsRead p.0.fields.proto p.1 t → IsWhole (datagram_with p.0 t)
read_whole p t packet may is =
    let pieces = or_parts p.0.fields.more (nat_lt 0 p.0.fields.offset) packet.whole in
    record {
      options = packet.plain;
      more = pieces.0;
      offset = omega (arith, ltb-false 0 p.0.fields.offset pieces.1);
      ttl = may.ttl;
      body = is.body;
      total = omega (arith, packet.total, is.size);
      short = may.short;
    }

is_whole : (p : Header × List ℕ) (proto : Proto) (d : Datagram) → IsUncut p → MayGoOn p.0
    → proto_from p.0.fields.proto ≡ Ok proto → datagram_content proto p ≡ Ok (Carries d) → IsWhole d × (p.0 ≡ d.header)
is_whole p proto d packet may known h =
    let (t, holds, same) = step_gave (transport_from proto p.1) _ (Carries d) h in
    let made = datagram_with p.0 t in
    let is : made ≡ d = carries_inj made d (ok_inj (Carries made) (Carries d) _ refl same) in
    let whole = read_whole p t packet may (is_read p.0.fields.proto proto p.1 t known holds) in
    (subst IsWhole is whole, ap (λ (x : Datagram). x.header) is)

-- ---- what a packet brings

carries_by : (o : Option ErrorPacket) (d : Datagram) → ok_or (option_map Reports o) BadPacket ≡ Ok (Carries d) → ⊥
carries_by None d h = cc
carries_by (Some e) d h = cc

content_by : (p : Header × List ℕ) (proto : Proto) (report : Bool) (d : Datagram)
    → (if report then error_content p else datagram_content proto p) ≡ Ok (Carries d) → datagram_content proto p ≡ Ok (Carries d)
content_by p proto true d h = absurd (carries_by (error_of p) d h)
content_by p proto false d h = h

-- a datagram
pub carries_whole : (p : Header × List ℕ) (d : Datagram) → IsUncut p → content_of p ≡ Ok (Carries d)
    → IsWhole d × (p.0 ≡ d.header)
carries_whole p d packet h =
    let (total, rest) = test_passed (nat_le p.0.fields.total 65535) _ _ (Carries d) h in
    let (proto, known, next) = step_gave (proto_from p.0.fields.proto) _ (Carries d) rest in
    let (ttl, next') = test_passed (nat_le 2 p.0.fields.ttl) _ _ (Carries d) next in
    let may : MayGoOn p.0 = record { ttl = leb-true 2 p.0.fields.ttl ttl; short = leb-true p.0.fields.total 65535 total } in
    is_whole p proto d packet may known (content_by p proto (is_report proto p.1) d next')

-- ---- either way

-- what a subscriber sends: it has a route
pub record IsOutward (d : Datagram) : Type 0 where
  pub whole : IsWhole d
  pub routed : has_route d.header ≡ true

pub is_outward : (c : Config) (p : Header × List ℕ) (d : Datagram) → IsUncut p → outward c p ≡ Ok (Carries d) → IsOutward d
is_outward c p d packet h =
    let f = p.0.fields in
    let (routed, next) = test_passed (has_route p.0) _ _ (Carries d) h in
    let (x, holds, next') = step_gave (content_of p) _ (Carries d) next in
    let same = (test_passed (is_ours c f.dst || nat_le f.total c.public_mtu || not f.dont_cut) _ _ (Carries d) next').1 in
    let (whole, kept) = carries_whole p d packet (holds ∙ same) in
    record { whole = whole; routed = subst (λ (k : Header). has_route k ≡ true) kept routed }

-- what the public side sends: from a routed address outside the pool
pub record IsInward (c : Config) (d : Datagram) : Type 0 where
  pub whole : IsWhole d
  pub routed : is_routable d.header.fields.src ≡ true
  pub foreign : is_ours c d.header.fields.src ≡ false

pub is_inward : (c : Config) (p : Header × List ℕ) (d : Datagram) → IsUncut p → inward c p ≡ Ok (Carries d) → IsInward c d
is_inward c p d packet h =
    let f = p.0.fields in
    let (from, holds) = test_passed (is_routable f.src && not (is_ours c f.src)) _ _ (Carries d) h in
    let both = and_parts (is_routable f.src) (not (is_ours c f.src)) from in
    let (whole, same) = carries_whole p d packet holds in
    record {
      whole = whole;
      routed = subst (λ (k : Header). is_routable k.fields.src ≡ true) same both.0;
      foreign = subst (λ (k : Header). is_ours c k.fields.src ≡ false) same (not-true (is_ours c f.src) both.1);
    }

-- ---- as it goes on

pub length_header : (h : Header) (rest : List ℕ) → length (header_bytes h ++ rest) ≡ 20 + length h.options + length rest
unfolding be16 be32
length_header h rest = omega (arith, length-append h.options rest)

-- the transport stays as long as it was
pub length_replaced : (source : Bool) (old new : Ext) (t : Transport)
    → length (transport_bytes (replaced source old new t)) ≡ length (transport_bytes t)
length_replaced source old new (Ports p s) =
    let after : Segment = record s {
      src = cond source new.port s.src;
      dst = cond source s.dst new.port;
      sum = option_map (segment_sum p old new) s.sum;
    } in
    let before : length (transport_bytes (Ports p s)) ≡ 4 + length s.fixed + length (sum_bytes s.sum) + length s.rest = length_segment s in
    omega (arith, before, length_sum s.sum (segment_sum p old new), length_segment after)
length_replaced source old new (Query e) =
    let after : Echo = record e { id = new.port; sum = adjusted e.sum (old.port ∷ []) (new.port ∷ []) } in
    length_echo after ∙ sym (length_echo e)

-- and a datagram without options as long as its total length says
pub length_translated : (source : Bool) (new : Ext) (d : Datagram) → IsWhole d
    → length (datagram_bytes (translated source new d)) ≡ d.header.fields.total
length_translated source new d is =
    let t = translated source new d in
    let none : length d.header.options ≡ 0 = ap length is.options in
    omega (arith, length_header t.header (transport_bytes t.body), length_replaced source (place_on source d) new d.body, none, is.total)

pub length_hairpinned : (src dst : Ext) (d : Datagram) → IsWhole d → length (datagram_bytes (hairpinned src dst d)) ≡ d.header.fields.total
length_hairpinned src dst d is =
    let out = translated true src d in
    let t = hairpinned src dst d in
    let none : length d.header.options ≡ 0 = ap length is.options in
    omega (
      arith,
      length_header t.header (transport_bytes t.body),
      length_replaced false (place_on false out) dst out.body,
      length_replaced true (place_on true d) src d.body,
      none,
      is.total,
    )

-- what stands behind the header
pub length_body : (source : Bool) (new : Ext) (d : Datagram) → IsWhole d → length (transport_bytes (translated source new d).body) ≤ 65515
length_body source new d is = omega (arith, length_replaced source (place_on source d) new d.body, is.total, is.short)

-- a packet to a softwire is 40 bytes longer than what is in it
pub length_tunnelled : (aftr softwire : Ip6) (class next : ℕ) (bytes : List ℕ)
    → length (tunnel_packet aftr softwire class next bytes) ≡ 40 + length bytes
unfolding be16 be32 be128
length_tunnelled aftr softwire class next bytes = omega arith

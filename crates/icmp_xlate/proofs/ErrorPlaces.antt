-- Which place an error that went on shows, in its first 56 bytes (RFC 792, RFC 5508 4).
use Rattle.std.proofs.Common.{◌≡◌, ℕ, ◌+◌, ◌-◌, ◌^◌, ◌<◌, Bool, true, false, ◌||◌, ◌==◌, List, [], ◌∷◌, ◌++◌, take, drop, option_map}
use Rattle.std.proofs.Common.{refl, sym, ap, ◌∙◌, arith}
use Rattle.std.specs.Prelude.{slice_range, if◌then◌else◌}
use Rattle.std.specs.Int.{w16, w32, from_be_bytes}
use Rattle.std.proofs.lemmas.List.{get_or-take, drop-take, take-take}
use Rattle.std.proofs.lemmas.Bool.{both_ways}
use Rattle.std.proofs.lemmas.Nat.{from_be_bytes-to_be_bytes_2, from_be_bytes-to_be_bytes_4}
use Rattle.aftr_base.specs.Bytes.{u8_at, u16_at, u32_at, be16, be32}
use Rattle.aftr_base.specs.Checksum.{adjusted}
use Rattle.aftr_base.specs.declared.value.Ext.{Ext}
use Rattle.aftr_base.specs.declared.value.Ip4.{Ip4}
use Rattle.aftr_base.specs.declared.value.Proto.{Proto}
use Rattle.wire_ip4.specs.Grammar.{Header, header_bytes}
use Rattle.wire_l4.specs.Grammar.{Segment, Echo, Transport, Ports, Query}
use Rattle.wire_l4.specs.Places.{replaced, segment_sum}
use Rattle.wire_icmp.specs.declared.view.IcmpKind.TheVariants.{EchoRequest, EchoReply, Fault, Other}
use Rattle.wire_icmp.specs.Grammar.{kind_of}
use Rattle.wire_icmp.specs.Quoted.{report_bytes}
use Rattle.icmp_xlate.specs.Errors.{ErrorPacket, error_bytes, error_place, forwarded_error, turned_error}
use Rattle.icmp_xlate.proofs.ErrorLengths.{HasFront, IsPorts, IsQuery}
pub use Rattle.icmp_xlate.proofs.ErrorLengths.{IsError, is_error, length_forwarded, length_turned}

-- ---- the bytes of an error

-- without options, and with this transport in what it quotes
abbrev bare_bytes : ErrorPacket → Transport → List ℕ
bare_bytes e t =
    header_bytes (record e.header { options = [] })
    ++ report_bytes (record e.report { quoted = record { header = record e.report.quoted.header { options = [] }; front = t } })

is_bare : (e : ErrorPacket) (t : Transport) → e.header.options ≡ [] → e.report.quoted.header.options ≡ [] → e.report.quoted.front ≡ t
    → error_bytes e ≡ bare_bytes e t
is_bare e t outer inner same = λ i.
    header_bytes (record e.header { options = outer i })
    ++ report_bytes (record e.report { quoted = record { header = record e.report.quoted.header { options = inner i }; front = same i } })

address_read : (h : Header) (rest : List ℕ) → h.fields.src.0 < 2 ^ 32 → u32_at 12 (header_bytes h ++ rest) ≡ h.fields.src.0
unfolding be16 be32
address_read h rest lt = from_be_bytes-to_be_bytes_4 h.fields.src.0 lt

proto_read : (h : Header) (rest : List ℕ) → u8_at 9 (header_bytes h ++ rest) ≡ h.fields.proto
unfolding be16 be32
proto_read h rest = refl

kind_read : (e : ErrorPacket) (t : Transport) → u8_at 20 (bare_bytes e t) ≡ e.report.kind
unfolding be16 be32
kind_read e t = refl

number_read : (e : ErrorPacket) (t : Transport) → u8_at 37 (bare_bytes e t) ≡ e.report.quoted.header.fields.proto
unfolding be16 be32
number_read e t = refl

port_read : (e : ErrorPacket) (p : Proto) (s : Segment) → s.dst < 2 ^ 16 → u16_at 50 (bare_bytes e (Ports p s)) ≡ s.dst
unfolding be16 be32
port_read e p s lt = from_be_bytes-to_be_bytes_2 s.dst lt

identifier_read : (e : ErrorPacket) (q : Echo) → q.id < 2 ^ 16 → u16_at 52 (bare_bytes e (Query q)) ≡ q.id
unfolding be16 be32
identifier_read e q lt = from_be_bytes-to_be_bytes_2 q.id lt

-- ---- the place that it shows

-- Its source address and, where it is about a segment or a datagram, the port that these went to; that it is an error, and the
-- number of the protocol that it is about.
pub record ShowsPlace (e : ErrorPacket) (new : Ext) (bytes : List ℕ) : Type 0 where
  pub address : u32_at 12 bytes ≡ new.addr.0
  pub proto : u8_at 9 bytes ≡ 1
  pub kind : u8_at 20 bytes ≡ e.report.kind
  pub number : u8_at 37 bytes ≡ e.report.quoted.header.fields.proto
  pub port : (u8_at 37 bytes == 1) ≡ false → u16_at 50 bytes ≡ new.port

-- where it is about an echo message, the identifier of that
abbrev pub ShowsIdentifier : Ext → List ℕ → Type 0
ShowsIdentifier new bytes = (u8_at 37 bytes == 1) ≡ true → u16_at 52 bytes ≡ new.port

-- an error as it went on, in which a place replaced its source
record WentOn (e x : ErrorPacket) (new : Ext) : Type 0 where
  outer : x.header.options ≡ []
  inner : x.report.quoted.header.options ≡ []
  proto : x.header.fields.proto ≡ 1
  src : x.header.fields.src ≡ new.addr
  kind : x.report.kind ≡ e.report.kind
  number : x.report.quoted.header.fields.proto ≡ e.report.quoted.header.fields.proto

went_out : (new : Ext) (e : ErrorPacket) → IsError e → WentOn e (forwarded_error true new e) new
went_out new e is = record { outer = is.bare; inner = is.quoted_bare; proto = is.proto; src = refl; kind = refl; number = refl }

went_back : (new dst : Ext) (e : ErrorPacket) → IsError e → WentOn e (turned_error new dst e) new
went_back new dst e is = record { outer = is.bare; inner = is.quoted_bare; proto = is.proto; src = refl; kind = refl; number = refl }

module _ {e x : ErrorPacket} {new : Ext} (on : WentOn e x new) (t : Transport) (same : x.report.quoted.front ≡ t) where
  number_there : u8_at 37 (error_bytes x) ≡ e.report.quoted.header.fields.proto
  number_there = ap (u8_at 37) (is_bare x t on.outer on.inner same) ∙ number_read x t ∙ on.number

  -- whether it is about an echo message
  query_there : (b : Bool) → (e.report.quoted.header.fields.proto == 1) ≡ b → (u8_at 37 (error_bytes x) == 1) ≡ b
  query_there b known = ap (λ (n : ℕ). n == 1) number_there ∙ known

  port_there : (at n : ℕ) → u16_at at (bare_bytes x t) ≡ n → u16_at at (error_bytes x) ≡ n
  port_there at n there = ap (u16_at at) (is_bare x t on.outer on.inner same) ∙ there

  shows : new.addr.0 < 2 ^ 32 → ((u8_at 37 (error_bytes x) == 1) ≡ false → u16_at 50 (error_bytes x) ≡ new.port)
      → ShowsPlace e new (error_bytes x)
  shows addr port =
      let src = ap (λ (a : Ip4). a.0) on.src in
      record {
        address = address_read x.header (report_bytes x.report) (omega (arith, src, addr)) ∙ src;
        proto = proto_read x.header (report_bytes x.report) ∙ on.proto;
        kind = ap (u8_at 20) (is_bare x t on.outer on.inner same) ∙ kind_read x t ∙ on.kind;
        number = number_there;
        port = port;
      }

-- ---- an error that went out from a place

-- a segment whose destination that became
abbrev segment_out : Proto → Segment → Ext → Ext → Segment
segment_out p s old new = record s { dst = new.port; sum = option_map (segment_sum p old new) s.sum }

module _ (new : Ext) (e : ErrorPacket) (is : IsError e) (addr : new.addr.0 < 2 ^ 32) (port : new.port < 2 ^ 16) where
  replaced_out : (t : Transport) → e.report.quoted.front ≡ t
      → (forwarded_error true new e).report.quoted.front ≡ replaced false (error_place true e) new t
  replaced_out t same = ap (replaced false (error_place true e) new) same

  out_of : HasFront e.report.quoted.header.fields.proto e.report.quoted.front → ShowsPlace e new (error_bytes (forwarded_error true new e))
  out_of (IsPorts p s same known other) =
      let x = forwarded_error true new e in
      let after = segment_out p s (error_place true e) new in
      let on = went_out new e is in
      shows on (Ports p after) (replaced_out (Ports p s) same) addr
      (λ h. port_there on (Ports p after) (replaced_out (Ports p s) same) 50 new.port (port_read x p after port))
  out_of (IsQuery q same one) =
      let after = replaced false (error_place true e) new (Query q) in
      let on = went_out new e is in
      shows on after (replaced_out (Query q) same) addr
      (λ h. absurd (both_ways _ h (query_there on after (replaced_out (Query q) same) true one)))

  pub shows_out : ShowsPlace e new (error_bytes (forwarded_error true new e))
  shows_out = out_of is.front

  identifier_of : HasFront e.report.quoted.header.fields.proto e.report.quoted.front
      → ShowsIdentifier new (error_bytes (forwarded_error true new e))
  identifier_of (IsPorts p s same known other) =
      let after = replaced false (error_place true e) new (Ports p s) in
      λ h. absurd (both_ways _ (query_there (went_out new e is) after (replaced_out (Ports p s) same) false other) h)
  identifier_of (IsQuery q same one) =
      let x = forwarded_error true new e in
      let after : Echo = record q { id = new.port; sum = adjusted q.sum ((error_place true e).port ∷ []) (new.port ∷ []) } in
      λ h. port_there (went_out new e is) (Query after) (replaced_out (Query q) same) 52 new.port (identifier_read x after port)

  pub identifier_out : ShowsIdentifier new (error_bytes (forwarded_error true new e))
  identifier_out = identifier_of is.front

  -- ---- and one that turned back to another subscriber

  module _ (dst : Ext) where
    replaced_back : (t : Transport) → e.report.quoted.front ≡ t
        → (turned_error new dst e).report.quoted.front
        ≡ replaced true (error_place false (forwarded_error true new e)) dst (replaced false (error_place true e) new t)
    replaced_back t same = ap (replaced true (error_place false (forwarded_error true new e)) dst) (replaced_out t same)

    back_of : HasFront e.report.quoted.header.fields.proto e.report.quoted.front → ShowsPlace e new (error_bytes (turned_error new dst e))
    back_of (IsPorts p s same known other) =
        let x = turned_error new dst e in
        let out = segment_out p s (error_place true e) new in
        let back = error_place false (forwarded_error true new e) in
        let after : Segment = record out { src = dst.port; sum = option_map (segment_sum p back dst) out.sum } in
        let on = went_back new dst e is in
        shows on (Ports p after) (replaced_back (Ports p s) same) addr
        (λ h. port_there on (Ports p after) (replaced_back (Ports p s) same) 50 new.port (port_read x p after port))
    back_of (IsQuery q same one) =
        let back = error_place false (forwarded_error true new e) in
        let after = replaced true back dst (replaced false (error_place true e) new (Query q)) in
        let on = went_back new dst e is in
        shows on after (replaced_back (Query q) same) addr
        (λ h. absurd (both_ways _ h (query_there on after (replaced_back (Query q) same) true one)))

    pub shows_back : ShowsPlace e new (error_bytes (turned_error new dst e))
    shows_back = back_of is.front

-- ---- in the first 56 bytes alone

byte_in : (i : ℕ) (bytes : List ℕ) → i < 56 → u8_at i (take 56 bytes) ≡ u8_at i bytes
byte_in i bytes lt = get_or-take 56 bytes i 0 lt

part_in : (i n m : ℕ) (bytes : List ℕ) → i + n + m ≡ 56 → slice_range (take 56 bytes) i (i + n) ≡ slice_range bytes i (i + n)
part_in i n m bytes fits =
    let size : i + n - i ≡ n = omega arith in
    let whole : 56 ≡ i + (n + m) = omega (arith, fits) in
    ap (λ (k : ℕ). take k (drop i (take 56 bytes))) size
    ∙ ap (λ (k : ℕ). take n (drop i (take k bytes))) whole
    ∙ ap (take n) (drop-take i (n + m) bytes) ∙ take-take n (n + m) (drop i bytes) (omega arith)
    ∙ ap (λ (k : ℕ). take k (drop i bytes)) (sym size)

pub shows_in_front : {e : ErrorPacket} {new : Ext} (bytes : List ℕ) → ShowsPlace e new bytes → ShowsPlace e new (take 56 bytes)
shows_in_front bytes h =
    let about = byte_in 37 bytes (omega arith) in
    record {
      address = ap (from_be_bytes w32) (part_in 12 4 40 bytes refl) ∙ h.address;
      proto = byte_in 9 bytes (omega arith) ∙ h.proto;
      kind = byte_in 20 bytes (omega arith) ∙ h.kind;
      number = about ∙ h.number;
      port = λ other. ap (from_be_bytes w16) (part_in 50 2 4 bytes refl) ∙ h.port (ap (λ (n : ℕ). n == 1) (sym about) ∙ other);
    }

pub identifier_in_front : (new : Ext) (bytes : List ℕ) → ShowsIdentifier new bytes → ShowsIdentifier new (take 56 bytes)
identifier_in_front new bytes h = λ one.
    ap (from_be_bytes w16) (part_in 52 2 2 bytes refl) ∙ h (ap (λ (n : ℕ). n == 1) (sym (byte_in 37 bytes (omega arith))) ∙ one)

pub shows_whole : {e : ErrorPacket} {new : Ext} (bytes : List ℕ) → ShowsPlace e new (take 56 bytes) → ShowsPlace e new bytes
shows_whole bytes h =
    let about = byte_in 37 bytes (omega arith) in
    record {
      address = ap (from_be_bytes w32) (sym (part_in 12 4 40 bytes refl)) ∙ h.address;
      proto = sym (byte_in 9 bytes (omega arith)) ∙ h.proto;
      kind = sym (byte_in 20 bytes (omega arith)) ∙ h.kind;
      number = sym about ∙ h.number;
      port = λ other. ap (from_be_bytes w16) (sym (part_in 50 2 4 bytes refl)) ∙ h.port (ap (λ (n : ℕ). n == 1) about ∙ other);
    }

pub identifier_whole : (new : Ext) (bytes : List ℕ) → ShowsIdentifier new (take 56 bytes) → ShowsIdentifier new bytes
identifier_whole new bytes h = λ one.
    ap (from_be_bytes w16) (sym (part_in 52 2 2 bytes refl)) ∙ h (ap (λ (n : ℕ). n == 1) (byte_in 37 bytes (omega arith)) ∙ one)

-- ---- which errors and which protocols there are

-- the types of errors
pub error_kinds : (n : ℕ) → kind_of n ≡ Fault → (n == 3 || n == 11 || n == 12) ≡ true
error_kinds n is = by_kind (n == 8) (n == 0) (n == 3 || n == 11 || n == 12) is
  where
    by_kind : (request reply fault : Bool)
        → (if request then EchoRequest else if reply then EchoReply else if fault then Fault else Other) ≡ Fault → fault ≡ true
    by_kind true reply fault is = absurd cc
    by_kind false true fault is = absurd cc
    by_kind false false true is = refl
    by_kind false false false is = absurd cc

-- one that isn't about an echo message is about a TCP segment or a UDP datagram
ports_of : (number : ℕ) (t : Transport) → HasFront number t → (number == 1) ≡ false → (number == 6 || number == 17) ≡ true
ports_of number t (IsPorts p s same known also) other = known
ports_of number t (IsQuery q same one) other = absurd (both_ways _ other one)

pub about_ports : (e : ErrorPacket) → IsError e → let n = e.report.quoted.header.fields.proto in (n == 1) ≡ false
    → (n == 6 || n == 17) ≡ true
about_ports e is other = ports_of e.report.quoted.header.fields.proto e.report.quoted.front is.front other

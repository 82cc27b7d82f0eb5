-- What was read of an error, whatever its bytes are, and how long it is.
use Rattle.std.proofs.Common.{◌≡◌, ℕ, ◌+◌, ◌-◌, ◌/◌, ◌≤◌, Bool, true, false, not, ◌&&◌, ◌||◌, ◌==◌, List, [], ◌++◌, length, take, drop}
use Rattle.std.proofs.Common.{Option, Some, None, Result, Ok, Err, nat_le, refl, ap, subst, ◌∙◌, arith, length-append, length-drop, length-take}
use Rattle.std.specs.Prelude.{nat_lt, option_map, option_and_then, if◌then◌else◌}
use Rattle.std.specs.Result.{result_ok}
use Rattle.std.proofs.lemmas.Bool.{eqb-true, leb-true, ltb-false}
use Rattle.std.proofs.lemmas.List.{nil_from_length}
use Rattle.aftr_base.specs.Bytes.{u8_at, u16_at, be16, be32}
use Rattle.aftr_base.specs.Checksum.{is_sound}
use Rattle.aftr_base.specs.declared.value.Ext.{Ext}
use Rattle.aftr_base.specs.declared.value.Proto.{Proto}
use Rattle.aftr_base.specs.declared.value.Proto.TheVariants.{Tcp, Udp}
use Rattle.wire_ip4.specs.declared.fields.Ip4Bad.{Ip4Bad}
use Rattle.wire_ip4.specs.declared.fields.Ip4Bad.TheVariants.{Short, Version, HeaderLen}
use Rattle.wire_ip4.specs.Grammar.{Header, header_bytes, header_of, front_of, len_of}
use Rattle.wire_ip4.proofs.Attempts.{both, passed}
use Rattle.wire_ip4.proofs.HeaderRead.{length_written}
use Rattle.wire_l4.specs.Grammar.{Segment, Echo, Transport, Ports, Query, echo_bytes, echo_of, segment_at, segment_bytes, sum_bytes, transport_bytes}
use Rattle.wire_l4.specs.Places.{replaced, segment_sum}
use Rattle.wire_icmp.specs.declared.view.IcmpBad.{IcmpBad}
use Rattle.wire_icmp.specs.declared.view.IcmpBad.TheVariants.{Short as FewBytes, Sum}
use Rattle.wire_icmp.specs.declared.view.IcmpKind.TheVariants.{Fault}
use Rattle.wire_icmp.specs.Grammar.{kind_of, message_of}
use Rattle.wire_icmp.specs.Quoted.{Quoted, Report, cut_segment, is_echo, quoted_behind, quoted_bytes, quoted_of, quoted_segment, quoted_transport}
use Rattle.wire_icmp.specs.Quoted.{quoted_place, report_bytes, report_of, report_with}
use Rattle.wire_icmp.proofs.Reports.{mapped}
use Rattle.icmp_xlate.specs.Errors.{ErrorPacket, error_bytes, error_of, forwarded_error, turned_error}
use Rattle.icmp_xlate.specs.Translated.{translated}

-- ---- a transport

-- the front of one behind a header of this protocol number
pub data HasFront (number : ℕ) (t : Transport) : Type 0 where
  IsPorts : (p : Proto) (s : Segment) → t ≡ Ports p s → (number == 6 || number == 17) ≡ true → (number == 1) ≡ false → HasFront number t
  IsQuery : (q : Echo) → t ≡ Query q → (number == 1) ≡ true → HasFront number t

-- in these bytes
record IsFront (number : ℕ) (bytes : List ℕ) (t : Transport) : Type 0 where
  front : HasFront number t
  size : length (transport_bytes t) ≡ length bytes

length_segment : (s : Segment) → length (segment_bytes s) ≡ 4 + length s.fixed + length (sum_bytes s.sum) + length s.rest
unfolding be16
length_segment s = omega (arith, length-append (s.fixed ++ sum_bytes s.sum) s.rest, length-append s.fixed (sum_bytes s.sum))

length_sum : (n : ℕ) → length (sum_bytes (Some n)) ≡ 2
unfolding be16
length_sum n = refl

length_at : (at : ℕ) (bytes : List ℕ) → 4 ≤ at → at + 2 ≤ length bytes → length (segment_bytes (segment_at at bytes)) ≡ length bytes
length_at at bytes least most =
    let whole = length_segment (segment_at at bytes) in
    let sum : length (sum_bytes (segment_at at bytes).sum) ≡ 2 = length_sum (u16_at at bytes) in
    omega (arith, whole, sum, length-take (at - 4) (drop 4 bytes), length-drop 4 bytes, length-drop (at + 2) bytes, least, most)

length_cut : (bytes : List ℕ) → 4 ≤ length bytes → length (segment_bytes (cut_segment bytes)) ≡ length bytes
length_cut bytes least = omega (arith, length_segment (cut_segment bytes), length-drop 4 bytes, least)

length_quoted : (bytes : List ℕ) (b : Bool) → nat_lt (length bytes) 18 ≡ b → 4 ≤ length bytes
    → length (segment_bytes (if b then cut_segment bytes else segment_at 16 bytes)) ≡ length bytes
length_quoted bytes true is least = length_cut bytes least
length_quoted bytes false is least = length_at 16 bytes (omega arith) (omega (arith, ltb-false (length bytes) 18 is))

length_echo : (bytes : List ℕ) → 6 ≤ length bytes → length (echo_bytes (echo_of bytes)) ≡ length bytes
unfolding be16
length_echo bytes least = omega (arith, length-drop 6 bytes, least)

other_than : (n k : ℕ) → n ≡ k → (k == 1) ≡ false → (n == 1) ≡ false
other_than n k e is = ap (λ (m : ℕ). m == 1) e ∙ is

-- what holds of each transport that may be picked holds of the one that is
by_protocol : (P : Transport → Type 0) (short udp tcp echo : Bool) (u t e x : Transport)
    → (short ≡ false → udp ≡ true → P u) → (short ≡ false → tcp ≡ true → P t) → (short ≡ false → echo ≡ true → P e)
    → (if short then None else if udp then Some u else if tcp then Some t else if echo then Some e else None) ≡ Some x → P x
by_protocol P true udp tcp echo u t e x hu ht he is = absurd cc
by_protocol P false true tcp echo u t e x hu ht he is = let same : u ≡ x = cc in subst P same (hu refl refl)
by_protocol P false false true echo u t e x hu ht he is = let same : t ≡ x = cc in subst P same (ht refl refl)
by_protocol P false false false true u t e x hu ht he is = let same : e ≡ x = cc in subst P same (he refl refl)
by_protocol P false false false false u t e x hu ht he is = absurd cc

front_read : (number : ℕ) (bytes : List ℕ) (t : Transport) → quoted_transport number bytes ≡ Some t → IsFront number bytes t
front_read number bytes t is =
    let long : nat_lt (length bytes) 8 ≡ false → 8 ≤ length bytes = ltb-false (length bytes) 8 in
    by_protocol (IsFront number bytes) (nat_lt (length bytes) 8) (number == 17) (number == 6) (number == 1 && is_echo (u8_at 0 bytes))
    (Ports Udp (segment_at 6 bytes)) (Ports Tcp (quoted_segment bytes)) (Query (echo_of bytes)) t
    (λ some known. record {
      front = let n = eqb-true number 17 known in
          IsPorts Udp (segment_at 6 bytes) refl (ap (λ (m : ℕ). m == 6 || m == 17) n) (other_than number 17 n refl);
      size = length_at 6 bytes (omega arith) (omega (arith, long some));
    })
    (λ some known. record {
      front = let n = eqb-true number 6 known in
          IsPorts Tcp (quoted_segment bytes) refl (ap (λ (m : ℕ). m == 6 || m == 17) n) (other_than number 6 n refl);
      size = length_quoted bytes (nat_lt (length bytes) 18) refl (omega (arith, long some));
    })
    (λ some known. record {
      front = IsQuery (echo_of bytes) refl (both (number == 1) (is_echo (u8_at 0 bytes)) known).0;
      size = length_echo bytes (omega (arith, long some));
    })
    is

-- ---- a quoted packet

-- the lengths of a front that was read
record HasSizes (bytes : List ℕ) (x : Header × List ℕ) : Type 0 where
  options : 20 + length x.0.options ≡ len_of bytes
  rest : len_of bytes + length x.1 ≡ length bytes

ok_same : (y z : Header × List ℕ) → ◌≡◌ {A = Result (Header × List ℕ) Ip4Bad} (Ok y) (Ok z) → y ≡ z
ok_same y z e = cc

front_sizes : (bytes : List ℕ) (x : Header × List ℕ) → front_of bytes ≡ Ok x → HasSizes bytes x
front_sizes bytes x ok =
    let one = passed (nat_le 20 (length bytes)) Short _ x ok in
    let two = passed (u8_at 0 bytes / 16 == 4) Version _ x one.1 in
    let three = passed (nat_le 20 (len_of bytes) && nat_le (len_of bytes) (length bytes)) HeaderLen _ x two.1 in
    let ends = both (nat_le 20 (len_of bytes)) (nat_le (len_of bytes) (length bytes)) three.0 in
    let least = leb-true 20 (len_of bytes) ends.0 in
    let most = leb-true (len_of bytes) (length bytes) ends.1 in
    subst (HasSizes bytes) (ok_same (header_of bytes, drop (len_of bytes) bytes) x three.1) (record {
      options = omega (arith, length-drop 20 (take (len_of bytes) bytes), length-take (len_of bytes) bytes, least, most);
      rest = omega (arith, length-drop (len_of bytes) bytes, most);
    })

-- a packet without options in these bytes
record IsQuoted (bytes : List ℕ) (q : Quoted) : Type 0 where
  bare : q.header.options ≡ []
  front : HasFront q.header.fields.proto q.front
  size : length (quoted_bytes q) ≡ length bytes

abbrev quoted_with : Header → Transport → Quoted
quoted_with h t = record { header = h; front = t }

tested : (a b : Bool) (h : Header) (o : Option Transport) (q : Quoted) → (if a && b then option_map (quoted_with h) o else None) ≡ Some q
    → (a ≡ true) × ((t : Transport) × (o ≡ Some t) × (quoted_with h t ≡ q))
tested true true h (Some t) q is = (refl, (t, refl, cc))
tested true true h None q is = absurd cc
tested true false h o q is = absurd cc
tested false b h o q is = absurd cc

behind_read : (bytes : List ℕ) (x : Header × List ℕ) (q : Quoted) → front_of bytes ≡ Ok x → quoted_behind x ≡ Some q → IsQuoted bytes q
behind_read bytes x q ok is =
    let h = x.0 in
    let (plain, some) = tested (length h.options == 0) (h.fields.offset == 0) h (quoted_transport h.fields.proto x.1) q is in
    let (t, read, made) = some in
    let none = eqb-true (length h.options) 0 plain in
    let front = front_read h.fields.proto x.1 t read in
    let sizes = front_sizes bytes x ok in
    subst (IsQuoted bytes) made (record {
      bare = nil_from_length h.options none;
      front = front.front;
      size = omega (
        arith,
        length-append (header_bytes h) (transport_bytes t),
        length_written h,
        sizes.options,
        sizes.rest,
        front.size,
        none,
      );
    })

quoted_read : (bytes : List ℕ) (r : Result (Header × List ℕ) Ip4Bad) (q : Quoted) → front_of bytes ≡ r
    → option_and_then quoted_behind (result_ok r) ≡ Some q → IsQuoted bytes q
quoted_read bytes (Ok x) q ok is = behind_read bytes x q ok is
quoted_read bytes (Err e) q ok is = absurd cc

-- ---- an error

-- An error without options that was read in its packet, and the packet without options that it quotes.
pub record IsError (e : ErrorPacket) : Type 0 where
  pub bare : e.header.options ≡ []
  pub proto : e.header.fields.proto ≡ 1
  pub total : length (error_bytes e) ≡ e.header.fields.total
  pub kind : kind_of e.report.kind ≡ Fault
  pub quoted_bare : e.report.quoted.header.options ≡ []
  pub front : HasFront e.report.quoted.header.fields.proto e.report.quoted.front

length_report : (r : Report) → length (report_bytes r) ≡ 8 + length (quoted_bytes r.quoted)
unfolding be16 be32
length_report r = omega arith

message_read : (bytes : List ℕ) (m : Echo) → message_of bytes ≡ Ok m → (echo_of bytes ≡ m) × (8 ≤ length bytes)
message_read bytes m ok =
    let one = passed (nat_le 8 (length bytes)) FewBytes _ m ok in
    let two = passed (is_sound bytes) Sum _ m one.1 in
    (ok_same (echo_of bytes) m two.1, leb-true 8 (length bytes) one.0)
  where
    ok_same : (y z : Echo) → ◌≡◌ {A = Result Echo IcmpBad} (Ok y) (Ok z) → y ≡ z
    ok_same y z e = cc

abbrev error_with : Header → Report → ErrorPacket
error_with h r = record { header = h; report = r }

-- the error in a packet of ICMP without options, whose payload is an error's message
pub is_error : (packet : Header × List ℕ) (m : Echo) (e : ErrorPacket) → packet.0.options ≡ [] → packet.0.fields.proto ≡ 1
    → packet.0.fields.total ≡ 20 + length packet.1 → message_of packet.1 ≡ Ok m → kind_of m.kind ≡ Fault → error_of packet ≡ Some e
    → IsError e
is_error packet m e bare proto total message kind is =
    let h = packet.0 in
    let payload = packet.1 in
    let (r, report, made) = mapped (error_with h) (report_of payload) e is in
    let (q, quoted, same) = mapped (report_with payload) (quoted_of (drop 8 payload)) r report in
    let (echo, long) = message_read payload m message in
    let read = quoted_read (drop 8 payload) _ q refl quoted in
    let x : Report = report_with payload q in
    let whole : IsError (error_with h x) = record {
      bare = bare;
      proto = proto;
      total = omega (
        arith,
        length-append (header_bytes h) (report_bytes x),
        length_written h,
        ap length bare,
        length_report x,
        read.size,
        length-drop 8 payload,
        long,
        total,
      );
      kind = ap (λ (y : Echo). kind_of y.kind) echo ∙ kind;
      quoted_bare = read.bare;
      front = read.front;
    } in
    subst IsError made (subst (λ (y : Report). IsError (error_with h y)) same whole)

-- ---- how long it is as it goes on

sum_size : (f : ℕ → ℕ) (o : Option ℕ) → length (sum_bytes (option_map f o)) ≡ length (sum_bytes o)
unfolding be16
sum_size f None = refl
sum_size f (Some n) = refl

front_size : (source : Bool) (old new : Ext) (t : Transport) → length (transport_bytes (replaced source old new t)) ≡ length (transport_bytes t)
unfolding be16
front_size source old new (Ports p s) =
    let sum = option_map (segment_sum p old new) s.sum in
    omega (arith, length_segment (record s { sum = sum }), length_segment s, sum_size (segment_sum p old new) s.sum)
front_size source old new (Query q) = refl

report_size : (source : Bool) (new : Ext) (r : Report) → length (report_bytes (translated source new r)) ≡ length (report_bytes r)
report_size source new r =
    let q = r.quoted in
    let x = translated source new r in
    omega (
      arith,
      length_report x,
      length_report r,
      length-append (header_bytes x.quoted.header) (transport_bytes x.quoted.front),
      length-append (header_bytes q.header) (transport_bytes q.front),
      length_written x.quoted.header,
      length_written q.header,
      front_size source (quoted_place source q) new q.front,
    )

error_size : (e x : ErrorPacket) → length x.header.options ≡ length e.header.options
    → length (report_bytes x.report) ≡ length (report_bytes e.report) → length (error_bytes x) ≡ length (error_bytes e)
error_size e x options report =
    omega (
      arith,
      length-append (header_bytes x.header) (report_bytes x.report),
      length-append (header_bytes e.header) (report_bytes e.report),
      length_written x.header,
      length_written e.header,
      options,
      report,
    )

pub length_forwarded : (source : Bool) (new : Ext) (e : ErrorPacket) → IsError e
    → length (error_bytes (forwarded_error source new e)) ≡ e.header.fields.total
length_forwarded source new e is = error_size e (forwarded_error source new e) refl (report_size (not source) new e.report) ∙ is.total

pub length_turned : (src dst : Ext) (e : ErrorPacket) → IsError e → length (error_bytes (turned_error src dst e)) ≡ e.header.fields.total
length_turned src dst e is =
    error_size e (turned_error src dst e) refl (report_size true dst (translated false src e.report) ∙ report_size false src e.report)
    ∙ is.total

-- A quoted transport is read as it is spelled.
use Rattle.std.proofs.Common.{◌≡◌, ℕ, ◌+◌, ◌-◌, ◌≤◌, ◌<◌, ◌^◌, Bool, true, false, List, [], ◌++◌, length, take, drop, Option, Some, None}
use Rattle.std.proofs.Common.{refl, sym, ap, subst, ◌∙◌, arith, eq-eqb, length-append, length-drop, append_assoc}
use Rattle.std.specs.Prelude.{◌&&◌, ◌==◌, nat_lt, if◌then◌else◌}
use Rattle.std.proofs.lemmas.Bool.{eqb-true, ltb-true, ltb-false, lt-ltb, le-ltb, ne_eqb}
use Rattle.std.proofs.lemmas.List.{append-nil, take_at, drop_at, drop-drop}
use Rattle.aftr_base.specs.Bytes.{u8_at, u16_at, be16, IsBytes}
use Rattle.aftr_base.specs.declared.value.Proto.TheVariants.{Tcp, Udp, Icmp}
use Rattle.aftr_base.proofs.OctetLaws.{u16_spelled}
use Rattle.wire_ip4.proofs.Attempts.{both, and_true}
use Rattle.wire_ip4.proofs.Pieces.{two_more}
use Rattle.wire_l4.specs.Grammar.{Segment, segment_at, segment_bytes, Echo, echo_of, echo_bytes, Transport, Ports, Query, transport_bytes}
use Rattle.wire_l4.proofs.Words.{word_back, word_fits, length-part, length-be16}
use Rattle.wire_l4.proofs.Segments.{segment_again, in_row}
use Rattle.wire_l4.proofs.Replacing.{echo_again}
use Rattle.wire_icmp.specs.Quoted.{cut_segment, quoted_segment, quoted_transport, is_echo, IsQuoted, QuotesUdp, QuotesTcp, QuotesEcho}
use Rattle.wire_icmp.proofs.Messages.{echo_read, echo_long}

-- ---- what is read is spelled so

abbrev IsFront : ℕ → List ℕ → Transport → Type 0
IsFront proto bytes t = (bytes ≡ transport_bytes t) × IsQuoted proto t

-- the ports and what follows them, to the end
cut_again : (bytes : List ℕ) → IsBytes bytes → 8 ≤ length bytes → bytes ≡ segment_bytes (cut_segment bytes)
cut_again bytes fits some =
    let ports : be16 (u16_at 0 bytes) ++ (be16 (u16_at 2 bytes) ++ drop 4 bytes) ≡ bytes =
    ap (λ (l : List ℕ). be16 (u16_at 0 bytes) ++ l) (two_more bytes 2 fits (omega arith)) ∙ two_more bytes 0 fits (omega arith) in
    sym (simp (append-nil, append_assoc) ports)

module _ (bytes : List ℕ) (fits : IsBytes bytes) (some : 8 ≤ length bytes) where
  udp_again : (proto : ℕ) → proto ≡ 17 → IsFront proto bytes (Ports Udp (segment_at 6 bytes))
  udp_again proto number = (
    segment_again {at = 6} (record { fits = fits; low = omega arith; room = some }),
    record {
      number = number;
      src = word_fits 0 bytes fits;
      dst = word_fits 2 bytes fits;
      len = omega (arith, length-part 4 6 bytes (omega arith) (omega arith));
      sum = (u16_at 6 bytes, refl, word_fits 6 bytes fits);
    },
  )

  tcp_again : (proto : ℕ) (b : Bool) → proto ≡ 6 → (b ≡ true → length bytes < 18) → (b ≡ false → 18 ≤ length bytes)
      → IsFront proto bytes (Ports Tcp (if b then cut_segment bytes else segment_at 16 bytes))
  tcp_again proto true number cut whole = (
    cut_again bytes fits some,
    record {
      number = number;
      src = word_fits 0 bytes fits;
      dst = word_fits 2 bytes fits;
      sum = (omega (arith, length-drop 4 bytes), omega (arith, cut refl, length-drop 4 bytes), refl);
    },
  )
  tcp_again proto false number cut whole = (
    segment_again {at = 16} (record { fits = fits; low = omega arith; room = whole refl }),
    record {
      number = number;
      src = word_fits 0 bytes fits;
      dst = word_fits 2 bytes fits;
      sum = (omega (arith, whole refl, length-part 4 16 bytes (omega arith) (omega (arith, whole refl))), word_fits 16 bytes fits);
    },
  )

  echo_quoted : (proto : ℕ) → (proto == 1 && is_echo (u8_at 0 bytes)) ≡ true → IsFront proto bytes (Query (echo_of bytes))
  echo_quoted proto tests =
      let (one, kind) = both (proto == 1) (is_echo (u8_at 0 bytes)) tests in (
        echo_again bytes fits some,
        record {
          number = eqb-true proto 1 one;
          kind = kind;
          code = fits 1;
          sum = word_fits 2 bytes fits;
          id = word_fits 4 bytes fits;
          words = omega (arith, length-drop 6 bytes);
        },
      )

-- what holds of each transport that may be picked holds of the one that is
by_protocol : (P : Transport → Type 0) (short udp tcp echo : Bool) (u t e x : Transport)
    → (short ≡ false → udp ≡ true → P u) → (short ≡ false → tcp ≡ true → P t) → (short ≡ false → echo ≡ true → P e)
    → (if short then None else if udp then Some u else if tcp then Some t else if echo then Some e else None) ≡ Some x → P x
by_protocol P true udp tcp echo u t e x hu ht he is = absurd cc
by_protocol P false true tcp echo u t e x hu ht he is = let same : u ≡ x = cc in subst P same (hu refl refl)
by_protocol P false false true echo u t e x hu ht he is = let same : t ≡ x = cc in subst P same (ht refl refl)
by_protocol P false false false true u t e x hu ht he is = let same : e ≡ x = cc in subst P same (he refl refl)
by_protocol P false false false false u t e x hu ht he is = absurd cc

pub front_spelled : (proto : ℕ) (bytes : List ℕ) (t : Transport) → IsBytes bytes → quoted_transport proto bytes ≡ Some t
    → IsFront proto bytes t
front_spelled proto bytes t fits is =
    let size = length bytes in
    let some : nat_lt size 8 ≡ false → 8 ≤ size = ltb-false size 8 in
    by_protocol (IsFront proto bytes) (nat_lt size 8) (proto == 17) (proto == 6) (proto == 1 && is_echo (u8_at 0 bytes))
    (Ports Udp (segment_at 6 bytes)) (Ports Tcp (quoted_segment bytes)) (Query (echo_of bytes)) t
    (λ long number. udp_again bytes fits (some long) proto (eqb-true proto 17 number))
    (λ long number. tcp_again bytes fits (some long) proto (nat_lt size 18) (eqb-true proto 6 number) (ltb-true size 18)
    (ltb-false size 18))
    (λ long tests. echo_quoted bytes fits (some long) proto tests)
    is

-- ---- what is spelled so is read

-- the fields of a segment that has a checksum
segment_read : (at n : ℕ) (s : Segment) → s.sum ≡ Some n → n < 2 ^ 16 → s.src < 2 ^ 16 → s.dst < 2 ^ 16 → 4 + length s.fixed ≡ at
    → segment_at at (segment_bytes s) ≡ s
segment_read at n s there small src dst len =
    let t : Segment = record s { sum = Some n } in
    let same : s ≡ t = λ i. record s { sum = there i } in
    ap (λ (u : Segment). segment_at at (segment_bytes u)) same ∙ with_sum_read at n s small src dst len ∙ sym same
  where
    with_sum_read : (at n : ℕ) (s : Segment) → n < 2 ^ 16 → s.src < 2 ^ 16 → s.dst < 2 ^ 16 → 4 + length s.fixed ≡ at
        → segment_at at (segment_bytes (record s { sum = Some n })) ≡ record s { sum = Some n }
    with_sum_read at n s small src dst len =
        let bytes : List ℕ = segment_bytes (record s { sum = Some n }) in
        let row : be16 s.src ++ (be16 s.dst ++ (s.fixed ++ (be16 n ++ s.rest))) ≡ bytes =
        in_row (be16 s.src) (be16 s.dst) s.fixed (be16 n) s.rest in
        let ports : List ℕ = be16 s.src ++ be16 s.dst in
        let behind : List ℕ = be16 n ++ s.rest in
        let four : length ports ≡ 4 = omega (arith, length-append (be16 s.src) (be16 s.dst), length-be16 s.src, length-be16 s.dst) in
        let after_ports : drop 4 bytes ≡ s.fixed ++ behind =
        ap (drop 4) (sym row ∙ sym (append_assoc (be16 s.src) (be16 s.dst) (s.fixed ++ behind)))
        ∙ drop_at ports (s.fixed ++ behind) 4 four in
        let after_fixed : drop at bytes ≡ behind =
        ap (λ (k : ℕ). drop k bytes) (sym len ∙ omega arith) ∙ sym (drop-drop (length s.fixed) 4 bytes)
        ∙ ap (drop (length s.fixed)) after_ports ∙ drop_at s.fixed behind (length s.fixed) refl in
        let size : at - 4 ≡ length s.fixed = omega (arith, len) in
        let is_src : u16_at 0 bytes ≡ s.src = u16_spelled 0 s.src bytes (be16 s.dst ++ (s.fixed ++ behind)) src (sym row) in
        let is_dst : u16_at 2 bytes ≡ s.dst =
        u16_spelled 2 s.dst bytes (s.fixed ++ behind) dst (ap (drop 2) (sym row) ∙ drop_at (be16 s.src) _ 2 (length-be16 s.src)) in
        let is_fixed : take (at - 4) (drop 4 bytes) ≡ s.fixed =
        ap (λ (k : ℕ). take k (drop 4 bytes)) size ∙ ap (take (length s.fixed)) after_ports
        ∙ take_at s.fixed behind (length s.fixed) refl in
        let is_sum : u16_at at bytes ≡ n = u16_spelled at n bytes s.rest small after_fixed in
        let is_rest : drop (at + 2) bytes ≡ s.rest =
        sym (drop-drop 2 at bytes) ∙ ap (drop 2) after_fixed ∙ drop_at (be16 n) s.rest 2 (length-be16 n) in
        λ i. record { src = is_src i; dst = is_dst i; fixed = is_fixed i; sum = Some (is_sum i); rest = is_rest i }

-- a segment that was cut before its checksum
cut_read : (src dst : ℕ) (fixed rest : List ℕ) → src < 2 ^ 16 → dst < 2 ^ 16 → rest ≡ []
    → let s : Segment = record { src = src; dst = dst; fixed = fixed; sum = None; rest = rest } in
    (cut_segment (segment_bytes s) ≡ s) × (length (segment_bytes s) ≡ 4 + length fixed)
unfolding be16
cut_read src dst fixed rest p q none =
    let tail : (fixed ++ []) ++ rest ≡ fixed = rw none (simp append-nil) in (
      λ i. record { src = word_back src p i; dst = word_back dst q i; fixed = tail i; sum = None; rest = sym none i },
      omega (arith, ap length tail),
    )

pub long_segment : (n : ℕ) (s : Segment) → s.sum ≡ Some n → length (segment_bytes s) ≡ 6 + length s.fixed + length s.rest
unfolding be16
long_segment n s there =
    ap (λ (o : Option ℕ). length (segment_bytes (record s { sum = o }))) there ∙ simp (length-append) (omega arith)

-- the choice by these tests
abbrev choice : (short udp tcp echo : Bool) (u t e : Transport) → Option Transport
choice short udp tcp echo u t e = if short then None else if udp then Some u else if tcp then Some t else if echo then Some e else None

picks_udp : (short udp tcp echo : Bool) (u t e : Transport) → short ≡ false → udp ≡ true → choice short udp tcp echo u t e ≡ Some u
picks_udp short udp tcp echo u t e p q = rw (p, q) refl

picks_tcp : (short udp tcp echo : Bool) (u t e : Transport) → short ≡ false → udp ≡ false → tcp ≡ true
    → choice short udp tcp echo u t e ≡ Some t
picks_tcp short udp tcp echo u t e p q r = rw (p, q, r) refl

picks_echo : (short udp tcp echo : Bool) (u t e : Transport) → short ≡ false → udp ≡ false → tcp ≡ false → echo ≡ true
    → choice short udp tcp echo u t e ≡ Some e
picks_echo short udp tcp echo u t e p q r s = rw (p, q, r, s) refl

udp_read : (proto : ℕ) (s : Segment) → QuotesUdp proto s → quoted_transport proto (segment_bytes s) ≡ Some (Ports Udp s)
udp_read proto s h =
    let (n, there, small) = h.sum in
    let bytes = segment_bytes s in
    let long : 8 ≤ length bytes = omega (arith, long_segment n s there, h.len) in
    picks_udp (nat_lt (length bytes) 8) (proto == 17) (proto == 6) (proto == 1 && is_echo (u8_at 0 bytes))
    (Ports Udp (segment_at 6 bytes)) (Ports Tcp (quoted_segment bytes)) (Query (echo_of bytes))
    (le-ltb (length bytes) 8 long) (eq-eqb proto 17 h.number)
    ∙ ap (λ (t : Segment). Some (Ports Udp t)) (segment_read 6 n s there small h.src h.dst (omega (arith, h.len)))

tcp_chosen : (proto : ℕ) (s : Segment) → proto ≡ 6 → 8 ≤ length (segment_bytes s) → quoted_segment (segment_bytes s) ≡ s
    → quoted_transport proto (segment_bytes s) ≡ Some (Ports Tcp s)
tcp_chosen proto s number long again =
    let bytes = segment_bytes s in
    picks_tcp (nat_lt (length bytes) 8) (proto == 17) (proto == 6) (proto == 1 && is_echo (u8_at 0 bytes))
    (Ports Udp (segment_at 6 bytes)) (Ports Tcp (quoted_segment bytes)) (Query (echo_of bytes))
    (le-ltb (length bytes) 8 long) (ne_eqb proto 17 (λ e. omega (arith, e, number))) (eq-eqb proto 6 number)
    ∙ ap (λ (t : Segment). Some (Ports Tcp t)) again

tcp_read : (proto src dst : ℕ) (fixed : List ℕ) (sum : Option ℕ) (rest : List ℕ)
    → let s : Segment = record { src = src; dst = dst; fixed = fixed; sum = sum; rest = rest } in
    QuotesTcp proto s → quoted_transport proto (segment_bytes s) ≡ Some (Ports Tcp s)
tcp_read proto src dst fixed None rest h =
    let s : Segment = record { src = src; dst = dst; fixed = fixed; sum = None; rest = rest } in
    let bytes = segment_bytes s in
    let (again, len) = cut_read src dst fixed rest h.src h.dst h.sum.2 in
    let cut : nat_lt (length bytes) 18 ≡ true = lt-ltb (length bytes) 18 (omega (arith, len, h.sum.1)) in
    tcp_chosen proto s h.number (omega (arith, len, h.sum.0))
    (ap (λ (b : Bool). if b then cut_segment bytes else segment_at 16 bytes) cut ∙ again)
tcp_read proto src dst fixed (Some n) rest h =
    let s : Segment = record { src = src; dst = dst; fixed = fixed; sum = Some n; rest = rest } in
    let bytes = segment_bytes s in
    let len = long_segment n s refl in
    let whole : nat_lt (length bytes) 18 ≡ false = le-ltb (length bytes) 18 (omega (arith, len, h.sum.0)) in
    tcp_chosen proto s h.number (omega (arith, len, h.sum.0))
    (ap (λ (b : Bool). if b then cut_segment bytes else segment_at 16 bytes) whole
    ∙ segment_read 16 n s refl h.sum.1 h.src h.dst (omega (arith, h.sum.0)))

echo_front_read : (proto : ℕ) (e : Echo) → QuotesEcho proto e → quoted_transport proto (echo_bytes e) ≡ Some (Query e)
echo_front_read proto e h =
    let bytes = echo_bytes e in
    picks_echo (nat_lt (length bytes) 8) (proto == 17) (proto == 6) (proto == 1 && is_echo (u8_at 0 bytes))
    (Ports Udp (segment_at 6 bytes)) (Ports Tcp (quoted_segment bytes)) (Query (echo_of bytes))
    (le-ltb (length bytes) 8 (echo_long e h.words))
    (ne_eqb proto 17 (λ x. omega (arith, x, h.number))) (ne_eqb proto 6 (λ x. omega (arith, x, h.number)))
    (and_true (eq-eqb proto 1 h.number) h.kind)
    ∙ ap (λ (m : Echo). Some (Query m)) (echo_read e h.sum h.id)

pub front_read : (proto : ℕ) (t : Transport) → IsQuoted proto t → quoted_transport proto (transport_bytes t) ≡ Some t
front_read proto (Ports Udp s) h = udp_read proto s h
front_read proto (Ports Tcp s) h = tcp_read proto s.src s.dst s.fixed s.sum s.rest h
front_read proto (Ports Icmp s) h = absurd h
front_read proto (Query e) h = echo_front_read proto e h

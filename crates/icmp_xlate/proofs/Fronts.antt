-- The front of a transport that an error quotes, read, and with a place replaced.
use Rattle.std.proofs.Common.{◌≡◌, ℕ, ◌+◌, ◌≤◌, ◌<◌, ◌^◌, Bool, true, false, List, [], ◌∷◌, ◌++◌, length, take, drop, Option, Some, None}
use Rattle.std.proofs.Common.{refl, sym, ap, ◌∙◌, arith, append_assoc}
use Rattle.std.specs.Prelude.{◌≢◌, ◌&&◌, ◌==◌, nat_lt, option_map, option_to_list, if◌then◌else◌}
use Rattle.std.proofs.lemmas.Bool.{ne_eqb, lt-ltb, le-ltb}
use Rattle.std.proofs.lemmas.List.{append-nil}
use Rattle.aftr_base.specs.Bytes.{u8_at, u16_at, be16, IsBytes}
use Rattle.aftr_base.specs.Value.{place}
use Rattle.aftr_base.specs.declared.value.Ext.{Ext}
use Rattle.aftr_base.specs.declared.value.Ip4.{Ip4}
use Rattle.aftr_base.specs.declared.value.Proto.TheVariants.{Tcp, Udp, Icmp}
use Rattle.wire_ip4.specs.Grammar.{Header}
use Rattle.wire_ip4.specs.Forwarded.{address_on}
use Rattle.wire_ip4.proofs.Pieces.{two_more}
use Rattle.wire_l4.specs.Grammar.{Segment, segment_at, segment_bytes, echo_of, Transport, Ports, Query}
use Rattle.wire_l4.specs.Places.{port_at, replaced, segment_sum}
use Rattle.wire_l4.proofs.Words.{word_again}
use Rattle.wire_l4.proofs.Segments.{with_port, place_set, HasSumAt}
use Rattle.wire_l4.proofs.Replacing.{choice_fits, adjusted_fits, segment_sum_fits}
use Rattle.wire_icmp.specs.Quoted.{Quoted, cut_segment, quoted_segment, quoted_transport, is_echo, IsQuoted, ReachesSum, quoted_place}
use Rattle.icmp_xlate.specs.Translated.{readdressed, segment_with, quoted_with, sum_in, words_with}

-- ---- which transport was read

picked : (short : Bool) (x y : Transport) → short ≡ false → (if short then None else Some x) ≡ Some y → x ≡ y
picked true x y e is = absurd cc
picked false x y e is = cc

pub udp_read : (bytes : List ℕ) (t : Transport) → 8 ≤ length bytes → quoted_transport 17 bytes ≡ Some t → Ports Udp (segment_at 6 bytes) ≡ t
udp_read bytes t long is = picked (nat_lt (length bytes) 8) (Ports Udp (segment_at 6 bytes)) t (le-ltb (length bytes) 8 long) is

pub tcp_read : (bytes : List ℕ) (t : Transport) → 8 ≤ length bytes → quoted_transport 6 bytes ≡ Some t
    → Ports Tcp (quoted_segment bytes) ≡ t
tcp_read bytes t long is = picked (nat_lt (length bytes) 8) (Ports Tcp (quoted_segment bytes)) t (le-ltb (length bytes) 8 long) is

last : (short udp tcp echo : Bool) (u p e t : Transport) → udp ≡ false → tcp ≡ false
    → (if short then None else if udp then Some u else if tcp then Some p else if echo then Some e else None) ≡ Some t → e ≡ t
last true udp tcp echo u p e t x y is = absurd cc
last false true tcp echo u p e t x y is = absurd cc
last false false true echo u p e t x y is = absurd cc
last false false false true u p e t x y is = cc
last false false false false u p e t x y is = absurd cc

pub echo_read : (number : ℕ) (bytes : List ℕ) (t : Transport) → number ≢ 17 → number ≢ 6 → quoted_transport number bytes ≡ Some t
    → Query (echo_of bytes) ≡ t
echo_read number bytes t no_udp no_tcp is =
    last (nat_lt (length bytes) 8) (number == 17) (number == 6) (number == 1 && is_echo (u8_at 0 bytes))
    (Ports Udp (segment_at 6 bytes)) (Ports Tcp (quoted_segment bytes)) (Query (echo_of bytes)) t
    (ne_eqb number 17 no_udp) (ne_eqb number 6 no_tcp) is

-- ---- a place of a segment that may be cut

pub is_cut : (bytes : List ℕ) → length bytes < 18 → quoted_segment bytes ≡ cut_segment bytes
is_cut bytes short = ap (λ (b : Bool). if b then cut_segment bytes else segment_at 16 bytes) (lt-ltb (length bytes) 18 short)

pub is_whole : (bytes : List ℕ) → 18 ≤ length bytes → quoted_segment bytes ≡ segment_at 16 bytes
is_whole bytes long = ap (λ (b : Bool). if b then cut_segment bytes else segment_at 16 bytes) (le-ltb (length bytes) 18 long)

module _ (bytes : List ℕ) (fits : IsBytes bytes) (some : 8 ≤ length bytes) where
  cut_set : (source : Bool) (i port : ℕ) → i ≡ (if source then 0 else 2)
      → take i bytes ++ be16 port ++ drop (i + 2) bytes ≡ segment_bytes (with_port source port (cut_segment bytes))
  cut_set true i port e =
      let behind : be16 (u16_at 2 bytes) ++ drop 4 bytes ≡ drop 2 bytes = two_more bytes 2 fits (omega arith) in
      rw e (ap (λ (l : List ℕ). be16 port ++ l) (sym behind) ∙ sym (simp (append-nil, append_assoc)))
  cut_set false i port e =
      let before : take 2 bytes ≡ be16 (u16_at 0 bytes) = sym (word_again 0 bytes fits (omega arith)) in
      rw e (ap (λ (l : List ℕ). l ++ be16 port ++ drop 4 bytes) before ∙ sym (simp append-nil))

  pub short_set : (source : Bool) (i : ℕ) (old new : Ext) → length bytes < 18 → i ≡ (if source then 0 else 2)
      → take i bytes ++ be16 new.port ++ drop (i + 2) bytes ≡ segment_bytes (segment_with source old new (quoted_segment bytes))
  short_set source i old new short e =
      cut_set source i new.port e
      ∙ ap (λ (s : Segment). segment_bytes (segment_with source old new s)) (sym (is_cut bytes short))

  pub whole_set : (source : Bool) (i sum : ℕ) (old new : Ext) (mid : List ℕ) → 18 ≤ length bytes → i ≡ (if source then 0 else 2)
      → sum ≡ segment_sum Tcp old new (u16_at 16 bytes)
      → mid ≡ take i bytes ++ be16 new.port ++ drop (i + 2) bytes
      → take 16 mid ++ be16 sum ++ drop 18 mid ≡ segment_bytes (segment_with source old new (quoted_segment bytes))
  whole_set source i sum old new mid long e summed made =
      let h : HasSumAt 16 bytes = record { fits = fits; low = omega arith; room = long } in
      ap (λ (n : ℕ). take 16 mid ++ be16 n ++ drop 18 mid) summed
      ∙ place_set h source new.port (segment_sum Tcp old new (u16_at 16 bytes)) e made
      ∙ ap (λ (s : Segment). segment_bytes (segment_with source old new s)) (sym (is_whole bytes long))

-- ---- the transport is one still

reaches : (f : ℕ → ℕ) → ((n : ℕ) → f n < 2 ^ 16) → (o : Option ℕ) (fixed rest : List ℕ) → ReachesSum o fixed rest
    → ReachesSum (option_map f o) fixed rest
reaches f fits None fixed rest h = h
reaches f fits (Some n) fixed rest h = (h.0, fits n)

pub is_replaced : (proto : ℕ) (source : Bool) (old new : Ext) (t : Transport) → new.port < 2 ^ 16 → IsQuoted proto t
    → IsQuoted proto (replaced source old new t)
is_replaced proto source old new (Ports Udp s) p h =
    let (n, there, small) = h.sum in
    record {
      number = h.number;
      src = choice_fits source new.port s.src p h.src;
      dst = choice_fits source s.dst new.port h.dst p;
      len = h.len;
      sum = (segment_sum Udp old new n, ap (option_map (segment_sum Udp old new)) there, segment_sum_fits Udp old new n);
    }
is_replaced proto source old new (Ports Tcp s) p h = record {
  number = h.number;
  src = choice_fits source new.port s.src p h.src;
  dst = choice_fits source s.dst new.port h.dst p;
  sum = reaches (segment_sum Tcp old new) (segment_sum_fits Tcp old new) s.sum s.fixed s.rest h.sum;
}
is_replaced proto source old new (Ports Icmp s) p h = absurd h
is_replaced proto source old new (Query e) p h = record {
  number = h.number;
  kind = h.kind;
  code = h.code;
  sum = adjusted_fits e.sum (old.port ∷ []) (new.port ∷ []);
  id = p;
  words = h.words;
}

-- ---- its place is the new one, and it has as many words

port_replaced : (source : Bool) (old new : Ext) (t : Transport) → port_at source (replaced source old new t) ≡ new.port
port_replaced true old new (Ports p s) = refl
port_replaced false old new (Ports p s) = refl
port_replaced source old new (Query e) = refl

address_replaced : (source : Bool) (addr : Ip4) (h : Header) → address_on source (readdressed source addr h) ≡ addr
address_replaced true addr h = refl
address_replaced false addr h = refl

pub place_replaced : (source : Bool) (new : Ext) (q : Quoted) → quoted_place source (quoted_with source new q) ≡ new
place_replaced source new q =
    λ i. place (address_replaced source new.addr q.header i) (port_replaced source (quoted_place source q) new q.front i)

mapped_count : (f : ℕ → ℕ) (o : Option ℕ) → length (option_to_list (option_map f o)) ≡ length (option_to_list o)
mapped_count f None = refl
mapped_count f (Some n) = refl

sums_count : (source : Bool) (old new : Ext) (t : Transport)
    → length (option_to_list (sum_in (replaced source old new t))) ≡ length (option_to_list (sum_in t))
sums_count source old new (Ports p s) = mapped_count (segment_sum p old new) s.sum
sums_count source old new (Query e) = refl

pub words_count : (source : Bool) (new : Ext) (a b : Ext) (q : Quoted)
    → length (words_with a (quoted_with source new q)) ≡ length (words_with b q)
words_count source new a b q = omega (arith, sums_count source (quoted_place source q) new q.front)

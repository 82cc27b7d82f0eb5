-- A place that was replaced in bytes is read there.
use Rattle.std.proofs.Common.{◌≡◌, ℕ, ◌+◌, ◌%◌, ◌≤◌, ◌<◌, ◌^◌, Bool, true, false, List, [], ◌∷◌, ◌++◌, length, take, drop, Ok, Some}
use Rattle.std.proofs.Common.{refl, ap, ◌∙◌, arith}
use Rattle.std.specs.Prelude.{nat_le, ◌&&◌, ◌==◌, if◌then◌else◌}
use Rattle.std.proofs.lemmas.Bool.{leb-true, le-leb}
use Rattle.std.proofs.lemmas.List.{drop_more, drop-drop}
use Rattle.aftr_base.specs.Attempt.{◌>>◌, ◌>>=◌, require}
use Rattle.aftr_base.specs.Bytes.{u8_at, u16_at, be16, IsBytes}
use Rattle.aftr_base.specs.Checksum.{adjusted, adjusted_udp}
use Rattle.aftr_base.specs.declared.value.Ext.{Ext}
use Rattle.aftr_base.specs.declared.value.Proto.{Proto}
use Rattle.aftr_base.specs.declared.value.Proto.TheVariants.{Tcp, Udp, Icmp}
use Rattle.wire_l4.specs.declared.L4Bad.TheVariants.{Short, Len, Offset}
use Rattle.wire_l4.specs.Grammar.{Segment, SpellsUdp, SpellsTcp, segment_at, segment_bytes, udp_of, tcp_of, Echo, echo_of, echo_bytes}
use Rattle.wire_l4.specs.Grammar.{Transport, Ports, Query, transport_bytes, transport_in, transport_of}
use Rattle.wire_l4.specs.Places.{place_words, replaced, segment_sum}
use Rattle.wire_l4.proofs.Words.{word_back, word_kept}
use Rattle.wire_l4.proofs.Segments.{with_port}
use Rattle.wire_l4.proofs.UdpGrammar.{udp_spelled, udp_accepted}
use Rattle.wire_l4.proofs.TcpGrammar.{tcp_spelled, tcp_accepted}

-- ---- an echo message

-- the checksum and then the identifier are written behind the bytes before them
pub echo_set : (id sum : ℕ) (bytes mid : List ℕ) → 8 ≤ length bytes → mid ≡ take 2 bytes ++ be16 sum ++ drop (2 + 2) bytes
    → take 4 mid ++ be16 id ++ drop (4 + 2) mid ≡ echo_bytes (record (echo_of bytes) { id = id; sum = sum })
unfolding be16
echo_set id sum bytes mid whole made =
    let b : ℕ = u8_at 0 bytes in
    let c : ℕ = u8_at 1 bytes in
    let first : take 2 bytes ≡ take 2 (b ∷ drop 1 bytes) = ap (λ (t : List ℕ). take 2 t) (drop_more bytes 0 0 (omega arith)) in
    let front : take 2 bytes ≡ b ∷ c ∷ [] = first ∙ ap (λ (t : List ℕ). take 2 (b ∷ t)) (drop_more bytes 1 0 (omega arith)) in
    ap (λ (t : List ℕ). take 4 t ++ be16 id ++ drop 6 t) (made ∙ ap (λ (t : List ℕ). t ++ be16 sum ++ drop 4 bytes) front)
    ∙ ap (λ (t : List ℕ). b ∷ c ∷ (be16 sum ++ be16 id ++ t)) (drop-drop 2 4 bytes)

pub echo_again : (bytes : List ℕ) → IsBytes bytes → 8 ≤ length bytes → bytes ≡ echo_bytes (echo_of bytes)
echo_again bytes fits whole =
    word_kept 4 bytes fits (omega arith)
    ∙ echo_set (u16_at 4 bytes) (u16_at 2 bytes) bytes bytes whole (word_kept 2 bytes fits (omega arith))

echo_read : (e : Echo) → e.sum < 2 ^ 16 → e.id < 2 ^ 16 → echo_of (echo_bytes e) ≡ e
unfolding be16
echo_read e p q = λ i. record e { sum = word_back e.sum p i; id = word_back e.id q i }

-- ---- what is written fits

pub choice_fits : (b : Bool) (x y : ℕ) → x < 2 ^ 16 → y < 2 ^ 16 → (if b then x else y) < 2 ^ 16
choice_fits true x y p q = p
choice_fits false x y p q = q

remainder_fits : (b : Bool) (n : ℕ) → (if b then 65535 else n % 65535) < 2 ^ 16
remainder_fits true n = omega arith
remainder_fits false n = omega arith

pub adjusted_fits : (field : ℕ) (old new : List ℕ) → adjusted field old new < 2 ^ 16
adjusted_fits field old new = remainder_fits _ _

adjusted_udp_fits : (field : ℕ) (old new : List ℕ) → adjusted_udp field old new < 2 ^ 16
adjusted_udp_fits field old new =
    let n : ℕ = adjusted field old new in
    let never_zero = choice_fits (n == 0) 65535 n (omega arith) (adjusted_fits field old new) in
    choice_fits (field == 0) 0 (if n == 0 then 65535 else n) (omega arith) never_zero

pub segment_sum_fits : (proto : Proto) (a b : Ext) (field : ℕ) → segment_sum proto a b field < 2 ^ 16
segment_sum_fits Udp a b field = adjusted_udp_fits field (place_words a) (place_words b)
segment_sum_fits Tcp a b field = adjusted_fits field (place_words a) (place_words b)
segment_sum_fits Icmp a b field = adjusted_fits field (place_words a) (place_words b)

-- ---- what was accepted is accepted with another port on one side

module _ (source : Bool) (port sum : ℕ) (old new : List ℕ) (p : port < 2 ^ 16) (q : sum < 2 ^ 16) (same : length new ≡ length old) where
  udp_kept : SpellsUdp old (segment_at 6 old)
      → let s : Segment = record (with_port source port (segment_at 6 old)) { sum = Some sum } in new ≡ segment_bytes s → udp_of new ≡ Ok s
  udp_kept h made = udp_accepted new _ (record {
    spelled = made;
    src = choice_fits source port (u16_at 0 old) p h.src;
    dst = choice_fits source (u16_at 2 old) port h.dst p;
    len = (h.len.0, h.len.1, omega (arith, same, h.len.2));
    sum = (sum, refl, q);
  })

  tcp_kept : SpellsTcp old (segment_at 16 old)
      → let s : Segment = record (with_port source port (segment_at 16 old)) { sum = Some sum } in new ≡ segment_bytes s → tcp_of new ≡ Ok s
  tcp_kept h made = tcp_accepted new _ (record {
    spelled = made;
    src = choice_fits source port (u16_at 0 old) p h.src;
    dst = choice_fits source (u16_at 2 old) port h.dst p;
    middle = (h.middle.0, h.middle.1, h.middle.2, h.middle.3, omega (arith, same, h.middle.4));
    sum = (sum, refl, q);
  })

-- a reading that ended well passed its tests
tests : {A B E : Type 0} (a b c : Bool) (x y : E) (v : A) (f : A → B) (t : B)
    → ((require a x >> (require (b && c) y >> Ok v)) >>= λ u. Ok (f u)) ≡ Ok t → (a ≡ true) × (b ≡ true) × (c ≡ true) × (f v ≡ t)
tests true true true x y v f t e = (refl, refl, refl, cc)
tests true true false x y v f t e = absurd cc
tests true false c x y v f t e = absurd cc
tests false b c x y v f t e = absurd cc

one_test : {A E : Type 0} (a : Bool) (x : E) (v t : A) → (require a x >> Ok v) ≡ Ok t → (a ≡ true) × (v ≡ t)
one_test true x v t e = (refl, cc)
one_test false x v t e = absurd cc

-- ---- so the replaced transport is read back

-- bytes in which a place was replaced
pub record WasPlaced (proto : Proto) (source : Bool) (a b : Ext) (old new : List ℕ) : Type 0 where
  pub fits : IsBytes old
  pub addr : b.addr.0 < 2 ^ 32
  pub port : b.port < 2 ^ 16
  pub same : length new ≡ length old
  pub made : new ≡ transport_bytes (replaced source a b (transport_in proto old))

module _ (source : Bool) (a b : Ext) (old new : List ℕ) (t : Transport) where
  udp_back : WasPlaced Udp source a b old new → transport_of Udp old ≡ Ok t → transport_of Udp new ≡ Ok (replaced source a b t)
  udp_back w read =
      let (whole, least, most, is) = tests _ _ _ Short Len (segment_at 6 old) (λ (s : Segment). Ports Udp s) t read in
      let spelled = udp_spelled old w.fits (leb-true 8 (length old) whole) (leb-true 8 _ least) (leb-true _ (length old) most) in
      let sum : ℕ = segment_sum Udp a b (u16_at 6 old) in
      let kept = udp_kept source b.port sum old new w.port (segment_sum_fits Udp a b (u16_at 6 old)) w.same spelled w.made in
      ap (λ r. r >>= λ (s : Segment). Ok (Ports Udp s)) kept ∙ ap (λ (u : Transport). Ok (replaced source a b u)) is

  tcp_back : WasPlaced Tcp source a b old new → transport_of Tcp old ≡ Ok t → transport_of Tcp new ≡ Ok (replaced source a b t)
  tcp_back w read =
      let (whole, least, most, is) = tests _ _ _ Short Offset (segment_at 16 old) (λ (s : Segment). Ports Tcp s) t read in
      let spelled = tcp_spelled old w.fits (leb-true 20 (length old) whole) (leb-true 5 _ least) (leb-true _ (length old) most) in
      let sum : ℕ = segment_sum Tcp a b (u16_at 16 old) in
      let kept = tcp_kept source b.port sum old new w.port (segment_sum_fits Tcp a b (u16_at 16 old)) w.same spelled w.made in
      ap (λ r. r >>= λ (s : Segment). Ok (Ports Tcp s)) kept ∙ ap (λ (u : Transport). Ok (replaced source a b u)) is

  echo_back : WasPlaced Icmp source a b old new → transport_of Icmp old ≡ Ok t → transport_of Icmp new ≡ Ok (replaced source a b t)
  echo_back w read =
      let (whole, is) = one_test (nat_le 8 (length old)) Short (Query (echo_of old)) t read in
      let e : Echo = record (echo_of old) { id = b.port; sum = adjusted (u16_at 2 old) (a.port ∷ []) (b.port ∷ []) } in
      let again : echo_of new ≡ e = ap echo_of w.made ∙ echo_read e (adjusted_fits (u16_at 2 old) (a.port ∷ []) (b.port ∷ [])) w.port in
      let room : nat_le 8 (length new) ≡ true = le-leb 8 (length new) (omega (arith, w.same, leb-true 8 (length old) whole)) in
      (λ i. require (room i) Short >> Ok (Query (again i))) ∙ ap (λ (u : Transport). Ok (replaced source a b u)) is

pub placed_back : {proto : Proto} {source : Bool} {a b : Ext} {old new : List ℕ} → WasPlaced proto source a b old new
    → (t : Transport) → transport_of proto old ≡ Ok t → transport_of proto new ≡ Ok (replaced source a b t)
placed_back {proto = Udp} {source = source} {a = a} {b = b} {old = old} {new = new} w t read = udp_back source a b old new t w read
placed_back {proto = Tcp} {source = source} {a = a} {b = b} {old = old} {new = new} w t read = tcp_back source a b old new t w read
placed_back {proto = Icmp} {source = source} {a = a} {b = b} {old = old} {new = new} w t read = echo_back source a b old new t w read

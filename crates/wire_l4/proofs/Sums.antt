-- What a checksum covers stays congruent where a place is replaced.
use Rattle.std.proofs.Common.{◌≡◌, ℕ, zero, suc, ◌+◌, ◌-◌, ◌*◌, ◌/◌, ◌%◌, ◌≤◌, ◌<◌, ◌^◌}
use Rattle.std.proofs.Common.{Bool, true, false, List, [], ◌∷◌, ◌++◌, length, Some}
use Rattle.std.proofs.Common.{refl, sym, ap, ◌∙◌, arith, append_assoc}
use Rattle.std.specs.Prelude.{sum, ◌==◌, ◌≢◌, if◌then◌else◌}
use Rattle.std.specs.List.{AllByRecursion}
use Rattle.std.proofs.Math.Nat.{mod-add-mod}
use Rattle.std.proofs.lemmas.Bool.{ne_eqb}
use Rattle.std.proofs.lemmas.List.Sums.{sum_by-cons}
use Rattle.aftr_base.specs.Bytes.{u16_at, be16}
use Rattle.aftr_base.specs.Checksum.{adjusted, adjusted_udp, words_of, address_words}
use Rattle.aftr_base.specs.declared.value.Ext.{Ext}
use Rattle.aftr_base.proofs.ChecksumLaws.{adjust_is_congruent}
use Rattle.wire_l4.specs.Grammar.{Segment, segment_at, segment_bytes, Echo, echo_bytes, echo_of, header_len, transport_in}
use Rattle.wire_l4.specs.Places.{place_words, port_at, segment_sum, covered, HasChecksum}
use Rattle.wire_l4.proofs.Replacing.{WasPlaced, choice_fits, adjusted_fits, segment_sum_fits, echo_again}
use Rattle.aftr_base.specs.declared.value.Proto.{Proto}
use Rattle.aftr_base.specs.declared.value.Proto.TheVariants.{Tcp, Udp, Icmp}
use Rattle.wire_l4.proofs.Words.{word_fits, length-part}
use Rattle.wire_l4.proofs.Segments.{HasSumAt, with_port, segment_again, in_row}

-- ---- sums of words

word_counts : (n : ℕ) (xs : List ℕ) → n < 2 ^ 16 → sum (words_of (be16 n ++ xs)) ≡ n + sum (words_of xs)
unfolding be16
word_counts n xs fits =
    let whole : 256 * (n / 256 % 256) + n % 256 ≡ n = omega arith in
    sum_by-cons (λ (m : ℕ). m) (256 * (n / 256 % 256) + n % 256) (words_of xs) ∙ ap (λ (m : ℕ). m + sum (words_of xs)) whole

even_counts : (k : ℕ) (p q : List ℕ) → length p ≡ 2 * k → sum (words_of (p ++ q)) ≡ sum (words_of p) + sum (words_of q)
even_counts k [] q e = omega arith
even_counts k (a ∷ []) q e = absurd (omega (arith, e))
even_counts k (a ∷ b ∷ p) q e =
    let rest = even_counts (k - 1) p q (omega (arith, e)) in
    omega (arith, rest, sum_by-cons (λ (m : ℕ). m) (256 * a + b) (words_of (p ++ q)), sum_by-cons (λ (m : ℕ). m) (256 * a + b) (words_of p))

segment_counts : (k n : ℕ) (s : Segment) → length s.fixed ≡ 2 * k → s.src < 2 ^ 16 → s.dst < 2 ^ 16 → n < 2 ^ 16
    → sum (words_of (segment_bytes (record s { sum = Some n }))) ≡ s.src + s.dst + n + (sum (words_of s.fixed) + sum (words_of s.rest))
segment_counts k n s e p q r =
    let behind : List ℕ = be16 n ++ s.rest in
    let middle = even_counts k s.fixed behind e in
    let ports = word_counts s.dst (s.fixed ++ behind) q in
    ap (λ (t : List ℕ). sum (words_of t)) (sym (in_row (be16 s.src) (be16 s.dst) s.fixed (be16 n) s.rest))
    ∙ omega (arith, word_counts s.src (be16 s.dst ++ (s.fixed ++ behind)) p, ports, middle, word_counts n s.rest r)

echo_counts : (e : Echo) → e.sum < 2 ^ 16 → e.id < 2 ^ 16
    → sum (words_of (echo_bytes e)) ≡ 256 * e.kind + e.code + e.sum + e.id + sum (words_of e.rest)
echo_counts e p q =
    let behind : List ℕ = be16 e.id ++ e.rest in
    let first = sum_by-cons (λ (m : ℕ). m) (256 * e.kind + e.code) (words_of (be16 e.sum ++ behind)) in
    ap (λ (t : List ℕ). sum (words_of (e.kind ∷ e.code ∷ t))) (append_assoc (be16 e.sum) (be16 e.id) e.rest)
    ∙ omega (arith, first, word_counts e.sum behind p, word_counts e.id e.rest q)

-- ---- the update

place_small : (b : Ext) → b.addr.0 < 2 ^ 32 → b.port < 2 ^ 16 → AllByRecursion (λ m. m ≤ 65535) (place_words b)
place_small b p q = (omega arith, (omega arith, (omega arith, tt)))

adjusted_sum : (field : ℕ) (a b : Ext) → b.addr.0 < 2 ^ 32 → b.port < 2 ^ 16
    → (adjusted field (place_words a) (place_words b) + sum (place_words b)) % 65535 ≡ (field + sum (place_words a)) % 65535
adjusted_sum field a b p q = adjust_is_congruent field (place_words a) (place_words b) (place_small b p q) refl

with_all_ones : (n c : ℕ) → ((if n == 0 then 65535 else n) + c) % 65535 ≡ (n + c) % 65535
with_all_ones zero c = omega arith
with_all_ones (suc n) c = ap (λ (b : Bool). ((if b then 65535 else suc n) + c) % 65535) (ne_eqb (suc n) 0 (λ e. omega (arith, e)))

adjusted_udp_sum : (field : ℕ) (a b : Ext) → b.addr.0 < 2 ^ 32 → b.port < 2 ^ 16 → field ≢ 0
    → (adjusted_udp field (place_words a) (place_words b) + sum (place_words b)) % 65535 ≡ (field + sum (place_words a)) % 65535
adjusted_udp_sum field a b p q some =
    let n : ℕ = adjusted field (place_words a) (place_words b) in
    ap (λ (t : Bool). ((if t then 0 else if n == 0 then 65535 else n) + sum (place_words b)) % 65535) (ne_eqb field 0 some)
    ∙ with_all_ones n (sum (place_words b))
    ∙ adjusted_sum field a b p q

congruent : (x y c u v : ℕ) → x % 65535 ≡ y % 65535 → u ≡ x + c → v ≡ y + c → u % 65535 ≡ v % 65535
congruent x y c u v h eu ev = rw (eu, ev) (sym (mod-add-mod x 65535 c) ∙ ap (λ (n : ℕ). (n + c) % 65535) h ∙ mod-add-mod y 65535 c)

-- ---- ports

ports_before : (source : Bool) (src dst port : ℕ)
    → (if source then src else dst) ≡ port → src + dst ≡ port + (if source then dst else src)
ports_before true src dst port e = omega (arith, e)
ports_before false src dst port e = omega (arith, e)

ports_after : (source : Bool) (src dst port : ℕ)
    → (if source then port else src) + (if source then dst else port) ≡ port + (if source then dst else src)
ports_after true src dst port = omega arith
ports_after false src dst port = omega arith

place_total : (e : Ext) → sum (place_words e) ≡ sum (address_words e.addr.0) + e.port
place_total e = omega arith

module _ {proto : Proto} {source : Bool} {a b : Ext} {old new : List ℕ} (w : WasPlaced proto source a b old new) where
  -- of 2 k bytes between the ports and the checksum
  segment_sound : (k : ℕ) → HasSumAt (4 + 2 * k) old → let at : ℕ = 4 + 2 * k in let n : ℕ = segment_sum proto a b (u16_at at old) in
      (if source then u16_at 0 old else u16_at 2 old) ≡ a.port
      → new ≡ segment_bytes (record (with_port source b.port (segment_at at old)) { sum = Some n })
      → (n + sum (place_words b)) % 65535 ≡ (u16_at at old + sum (place_words a)) % 65535
      → (sum (address_words b.addr.0) + sum (words_of new)) % 65535 ≡ (sum (address_words a.addr.0) + sum (words_of old)) % 65535
  segment_sound k h there made same =
      let at : ℕ = 4 + 2 * k in
      let n : ℕ = segment_sum proto a b (u16_at at old) in
      let s : Segment = segment_at at old in
      let src : ℕ = u16_at 0 old in
      let dst : ℕ = u16_at 2 old in
      let src_fits = word_fits 0 old w.fits in
      let dst_fits = word_fits 2 old w.fits in
      let rest : ℕ = sum (words_of s.fixed) + sum (words_of s.rest) in
      let other : ℕ = if source then dst else src in
      let len : length s.fixed ≡ 2 * k = omega (arith, length-part 4 at old h.low (omega (arith, h.room))) in
      let before : sum (words_of old) ≡ src + dst + u16_at at old + rest =
      ap (λ (t : List ℕ). sum (words_of t)) (segment_again h)
      ∙ segment_counts k (u16_at at old) s len src_fits dst_fits (word_fits at old w.fits) in
      let now_src = choice_fits source b.port src w.port src_fits in
      let now_dst = choice_fits source dst b.port dst_fits w.port in
      let after : sum (words_of new) ≡ (if source then b.port else src) + (if source then dst else b.port) + n + rest =
      ap (λ (t : List ℕ). sum (words_of t)) made
      ∙ segment_counts k n (with_port source b.port s) len now_src now_dst (segment_sum_fits proto a b (u16_at at old)) in
      let ports = ports_before source src dst a.port there in
      let now_ports = ports_after source src dst b.port in
      congruent (n + sum (place_words b)) (u16_at at old + sum (place_words a)) (other + rest) _ _ same
      (omega (arith, after, now_ports, place_total b)) (omega (arith, before, ports, place_total a))

  echo_sound : 8 ≤ length old → u16_at 4 old ≡ a.port
      → new ≡ echo_bytes (record (echo_of old) { id = b.port; sum = adjusted (u16_at 2 old) (a.port ∷ []) (b.port ∷ []) })
      → sum (words_of new) % 65535 ≡ sum (words_of old) % 65535
  echo_sound whole there made =
      let e : Echo = echo_of old in
      let n : ℕ = adjusted e.sum (a.port ∷ []) (b.port ∷ []) in
      let e_now : Echo = record e { id = b.port; sum = n } in
      let count = λ (t : List ℕ). sum (words_of t) in
      let before = ap count (echo_again old w.fits whole) ∙ echo_counts e (word_fits 2 old w.fits) (word_fits 4 old w.fits) in
      let after = ap count made ∙ echo_counts e_now (adjusted_fits e.sum (a.port ∷ []) (b.port ∷ [])) w.port in
      let same = adjust_is_congruent e.sum (a.port ∷ []) (b.port ∷ []) (omega arith, tt) refl in
      let rest : ℕ = 256 * e.kind + e.code + sum (words_of e.rest) in
      congruent (n + (0 + b.port)) (e.sum + (0 + a.port)) rest _ _ same (omega (arith, after)) (omega (arith, before, there))

-- ---- so the checksum stays right

pub placed_sound : {proto : Proto} {source : Bool} {a b : Ext} {old new : List ℕ}
    → WasPlaced proto source a b old new → header_len proto ≤ length old → port_at source (transport_in proto old) ≡ a.port
    → HasChecksum proto old → covered proto b new % 65535 ≡ covered proto a old % 65535
placed_sound {proto = Udp} {a = a} {b = b} {old = old} w whole there some =
    let h : HasSumAt 6 old = record { fits = w.fits; low = omega arith; room = whole } in
    segment_sound w 1 h there w.made (adjusted_udp_sum (u16_at 6 old) a b w.addr w.port some)
placed_sound {proto = Tcp} {a = a} {b = b} {old = old} w whole there some =
    let h : HasSumAt 16 old = record { fits = w.fits; low = omega arith; room = omega arith } in
    segment_sound w 6 h there w.made (adjusted_sum (u16_at 16 old) a b w.addr w.port)
placed_sound {proto = Icmp} w whole there some = echo_sound w whole there w.made

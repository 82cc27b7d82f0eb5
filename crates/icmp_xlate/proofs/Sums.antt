-- A checksum that was right stays right where a place is replaced.
use Rattle.std.proofs.Common.{◌≡◌, ℕ, zero, suc, ◌+◌, ◌-◌, ◌*◌, ◌/◌, ◌%◌, ◌≤◌, ◌<◌, ◌^◌, Bool, true, false, not, List}
use Rattle.std.proofs.Common.{[], ◌∷◌, ◌++◌, length}
use Rattle.std.proofs.Common.{Option, Some, None, eqb, refl, sym, ap, subst, ◌∙◌, arith, append_assoc}
use Rattle.std.specs.Prelude.{sum, option_to_list}
use Rattle.std.specs.List.{AllByRecursion}
use Rattle.std.proofs.lemmas.Bool.{ne_eqb}
use Rattle.std.proofs.lemmas.List.{append-nil}
use Rattle.std.proofs.lemmas.List.Sums.{sum_by-cons}
use Rattle.aftr_base.specs.Bytes.{be16, be32}
use Rattle.aftr_base.specs.Checksum.{address_words, ones_sum, sum16, words_of}
use Rattle.aftr_base.specs.declared.value.Ext.{Ext}
use Rattle.aftr_base.specs.declared.value.Ip4.{Ip4}
use Rattle.aftr_base.specs.declared.value.Proto.TheVariants.{Tcp, Udp, Icmp}
use Rattle.aftr_base.proofs.ChecksumLaws.{adjust_is_congruent}
use Rattle.wire_ip4.specs.Grammar.{Header, IsHeader, header_len, header_bytes}
use Rattle.wire_ip4.specs.Forwarded.{address_on, ttl_word}
use Rattle.wire_ip4.proofs.HeaderRead.{word_of, word_read}
use Rattle.wire_l4.specs.Grammar.{Segment, segment_bytes, Echo, echo_bytes, Transport, Ports, Query, transport_bytes}
use Rattle.wire_l4.specs.Places.{port_at, replaced}
use Rattle.wire_l4.proofs.Segments.{in_row}
use Rattle.wire_icmp.specs.Quoted.{Quoted, IsQuoted, QuotesTcp, ReachesSum, SpellsQuoted, quoted_bytes, quoted_place}
use Rattle.wire_icmp.specs.Quoted.{Report, report_bytes, SpellsReport}
use Rattle.icmp_xlate.specs.Translated.{readdressed, sum_in, quoted_with, quoted_words, words_with, translated}
use Rattle.icmp_xlate.proofs.Fronts.{place_replaced, words_count}
use Rattle.icmp_xlate.proofs.Quotes.{is_translated}

-- ---- sums of words

pub word_counts : (n : ℕ) (xs : List ℕ) → n < 2 ^ 16 → sum (words_of (be16 n ++ xs)) ≡ n + sum (words_of xs)
unfolding be16
word_counts n xs fits =
    let whole : 256 * (n / 256 % 256) + n % 256 ≡ n = omega arith in
    sum_by-cons (λ (m : ℕ). m) (256 * (n / 256 % 256) + n % 256) (words_of xs) ∙ ap (λ (m : ℕ). m + sum (words_of xs)) whole

quad_counts : (n : ℕ) (xs : List ℕ) → n < 2 ^ 32 → sum (words_of (be32 n ++ xs)) ≡ n / 65536 + n % 65536 + sum (words_of xs)
unfolding be32
quad_counts n xs fits =
    let a : ℕ = 256 * (n / 16777216 % 256) + n / 65536 % 256 in
    let b : ℕ = 256 * (n / 256 % 256) + n % 256 in
    let high : a ≡ n / 65536 = omega arith in
    let low : b ≡ n % 65536 = omega arith in
    let first = sum_by-cons (λ (m : ℕ). m) a (b ∷ words_of xs) in
    let second = sum_by-cons (λ (m : ℕ). m) b (words_of xs) in
    omega (arith, first, second, high, low)

pub pair_counts : (a b : ℕ) (xs : List ℕ) → sum (words_of (a ∷ b ∷ xs)) ≡ 256 * a + b + sum (words_of xs)
pair_counts a b xs = sum_by-cons (λ (m : ℕ). m) (256 * a + b) (words_of xs)

even_counts : (k : ℕ) (p q : List ℕ) → length p ≡ 2 * k → sum (words_of (p ++ q)) ≡ sum (words_of p) + sum (words_of q)
even_counts k [] q e = omega arith
even_counts k (a ∷ []) q e = absurd (omega (arith, e))
even_counts k (a ∷ b ∷ p) q e =
    let rest = even_counts (k - 1) p q (omega (arith, e)) in
    omega (arith, rest, pair_counts a b (p ++ q), pair_counts a b p)

-- ---- of a header without options, and what follows it

abbrev flags_in : Header → ℕ
flags_in h = word_of h.reserved h.fields.dont_cut h.fields.more h.fields.offset

-- the words that no new address changes, but for the address on the other side
abbrev others : Header → ℕ
others h = 256 * (64 + header_len h / 4) + h.fields.tos + h.fields.total + h.fields.id + flags_in h + ttl_word h

abbrev words_at : Ip4 → ℕ
words_at a = a.0 / 65536 + a.0 % 65536

-- from its third byte on, before these bytes
abbrev behind_two : Header → List ℕ → List ℕ
behind_two h rest =
    be16 h.fields.total ++ (be16 h.fields.id ++ (be16 (flags_in h)
    ++ h.fields.ttl ∷ h.fields.proto ∷ (be16 h.sum ++ (be32 h.fields.src.0 ++ (be32 h.fields.dst.0 ++ rest)))))

in_parts : (h : Header) → header_bytes h ≡ (64 + header_len h / 4) ∷ h.fields.tos ∷ behind_two h h.options
in_parts h = simp append_assoc

moved_in : (a b c e f g o rest : List ℕ) (x y : ℕ)
    → (a ++ (b ++ (c ++ x ∷ y ∷ (e ++ (f ++ (g ++ o)))))) ++ rest ≡ a ++ (b ++ (c ++ x ∷ y ∷ (e ++ (f ++ (g ++ (o ++ rest))))))
moved_in a b c e f g o rest x y =
    append_assoc a (b ++ (c ++ x ∷ y ∷ (e ++ (f ++ (g ++ o))))) rest
    ∙ ap (λ (l : List ℕ). a ++ l) (append_assoc b (c ++ x ∷ y ∷ (e ++ (f ++ (g ++ o)))) rest
    ∙ ap (λ (l : List ℕ). b ++ l) (append_assoc c (x ∷ y ∷ (e ++ (f ++ (g ++ o)))) rest
    ∙ ap (λ (l : List ℕ). c ++ x ∷ y ∷ l) (append_assoc e (f ++ (g ++ o)) rest
    ∙ ap (λ (l : List ℕ). e ++ l) (append_assoc f (g ++ o) rest ∙ ap (λ (l : List ℕ). f ++ l) (append_assoc g o rest)))))

parted : (h : Header) (rest : List ℕ) → h.options ≡ []
    → header_bytes h ++ rest ≡ (64 + header_len h / 4) ∷ h.fields.tos ∷ behind_two h rest
parted h rest bare =
    ap (λ (l : List ℕ). l ++ rest) (in_parts h)
    ∙ ap (λ (l : List ℕ). (64 + header_len h / 4) ∷ h.fields.tos ∷ l) (moved_in (be16 h.fields.total) (be16 h.fields.id) (be16 (flags_in h))
    (be16 h.sum) (be32 h.fields.src.0) (be32 h.fields.dst.0) h.options rest h.fields.ttl h.fields.proto
    ∙ ap (λ (o : List ℕ). behind_two h (o ++ rest)) bare)

header_counts : (h : Header) (rest : List ℕ) → IsHeader h → h.options ≡ []
    → sum (words_of (header_bytes h ++ rest)) ≡ others h + h.sum + words_at h.fields.src + words_at h.fields.dst + sum (words_of rest)
header_counts h rest is bare =
    let f = h.fields in
    let flags = (word_read h.reserved f.dont_cut f.more f.offset is.fields.offset).small in
    let from_dst : List ℕ = be32 f.dst.0 ++ rest in
    let from_src : List ℕ = be32 f.src.0 ++ from_dst in
    let from_sum : List ℕ = be16 h.sum ++ from_src in
    let from_ttl : List ℕ = f.ttl ∷ f.proto ∷ from_sum in
    let from_cut : List ℕ = be16 (flags_in h) ++ from_ttl in
    let from_id : List ℕ = be16 f.id ++ from_cut in
    ap (λ (l : List ℕ). sum (words_of l)) (parted h rest bare)
    ∙ omega (
      arith,
      pair_counts (64 + header_len h / 4) f.tos (be16 f.total ++ from_id),
      word_counts f.total from_id is.fields.total,
      word_counts f.id from_cut is.fields.id,
      word_counts (flags_in h) from_ttl flags,
      pair_counts f.ttl f.proto from_sum,
      word_counts h.sum from_src is.sum,
      quad_counts f.src.0 from_dst is.fields.src,
      quad_counts f.dst.0 rest is.fields.dst,
    )

-- the words of the address that stays
abbrev stays : Bool → Header → ℕ
stays source h = words_at (address_on (not source) h)

side_counts : (source : Bool) (h : Header) (rest : List ℕ) → IsHeader h → h.options ≡ []
    → sum (words_of (header_bytes h ++ rest))
    ≡ others h + stays source h + h.sum + sum (address_words (address_on source h).0) + sum (words_of rest)
side_counts true h rest is bare = header_counts h rest is bare ∙ omega arith
side_counts false h rest is bare = header_counts h rest is bare ∙ omega arith

stays_there : (source : Bool) (addr : Ip4) (h : Header) → stays source (readdressed source addr h) ≡ stays source h
stays_there true addr h = refl
stays_there false addr h = refl

-- ---- of a transport

-- the words that no new port changes
abbrev kept_in : Bool → Transport → ℕ
kept_in source (Ports p s) = port_at (not source) (Ports p s) + sum (words_of s.fixed) + sum (words_of s.rest)
kept_in source (Query e) = 256 * e.kind + e.code + sum (words_of e.rest)

segment_counts : (k n : ℕ) (s : Segment) → length s.fixed ≡ 2 * k → s.src < 2 ^ 16 → s.dst < 2 ^ 16 → n < 2 ^ 16
    → sum (words_of (segment_bytes (record s { sum = Some n }))) ≡ s.src + s.dst + n + sum (words_of s.fixed) + sum (words_of s.rest)
segment_counts k n s e p q r =
    let behind : List ℕ = be16 n ++ s.rest in
    ap (λ (t : List ℕ). sum (words_of t)) (sym (in_row (be16 s.src) (be16 s.dst) s.fixed (be16 n) s.rest))
    ∙ omega (
      arith,
      word_counts s.src (be16 s.dst ++ (s.fixed ++ behind)) p,
      word_counts s.dst (s.fixed ++ behind) q,
      even_counts k s.fixed behind e,
      word_counts n s.rest r,
    )

cut_counts : (s : Segment) → s.src < 2 ^ 16 → s.dst < 2 ^ 16 → s.rest ≡ []
    → sum (words_of (segment_bytes (record s { sum = None }))) ≡ s.src + s.dst + sum (words_of s.fixed)
cut_counts s p q none =
    let plain : segment_bytes (record s { sum = None }) ≡ be16 s.src ++ (be16 s.dst ++ s.fixed) =
    rw none (simp (append-nil, append_assoc)) in
    ap (λ (t : List ℕ). sum (words_of t)) plain
    ∙ omega (arith, word_counts s.src (be16 s.dst ++ s.fixed) p, word_counts s.dst s.fixed q)

echo_counts : (e : Echo) → e.sum < 2 ^ 16 → e.id < 2 ^ 16
    → sum (words_of (echo_bytes e)) ≡ 256 * e.kind + e.code + e.sum + e.id + sum (words_of e.rest)
echo_counts e p q =
    let behind : List ℕ = be16 e.id ++ e.rest in
    ap (λ (t : List ℕ). sum (words_of (e.kind ∷ e.code ∷ t))) (append_assoc (be16 e.sum) (be16 e.id) e.rest)
    ∙ omega (arith, pair_counts e.kind e.code (be16 e.sum ++ behind), word_counts e.sum behind p, word_counts e.id e.rest q)

ports_sum : (source : Bool) (s : Segment) → port_at (not source) (Ports Tcp s) + port_at source (Ports Tcp s) ≡ s.src + s.dst
ports_sum true s = omega arith
ports_sum false s = omega arith

udp_counts : (n : ℕ) (s : Segment) → s.sum ≡ Some n → length s.fixed ≡ 2 → s.src < 2 ^ 16 → s.dst < 2 ^ 16 → n < 2 ^ 16
    → sum (words_of (segment_bytes s)) ≡ s.src + s.dst + sum (option_to_list s.sum) + sum (words_of s.fixed) + sum (words_of s.rest)
udp_counts n s there len p q small =
    let one : sum (option_to_list s.sum) ≡ n = ap (λ (o : Option ℕ). sum (option_to_list o)) there ∙ omega arith in
    ap (λ (o : Option ℕ). sum (words_of (segment_bytes (record s { sum = o })))) there
    ∙ omega (arith, segment_counts 1 n s (omega (arith, len)) p q small, one)

tcp_counts : (proto src dst : ℕ) (fixed : List ℕ) (o : Option ℕ) (rest : List ℕ)
    → let s : Segment = record { src = src; dst = dst; fixed = fixed; sum = o; rest = rest } in QuotesTcp proto s
    → sum (words_of (segment_bytes s)) ≡ src + dst + sum (option_to_list o) + sum (words_of fixed) + sum (words_of rest)
tcp_counts proto src dst fixed None rest h =
    let none : sum (words_of rest) ≡ 0 = ap (λ (l : List ℕ). sum (words_of l)) h.sum.2 ∙ omega arith in
    cut_counts (record { src = src; dst = dst; fixed = fixed; sum = None; rest = rest }) h.src h.dst h.sum.2 ∙ omega (arith, none)
tcp_counts proto src dst fixed (Some n) rest h =
    segment_counts 6 n (record { src = src; dst = dst; fixed = fixed; sum = Some n; rest = rest }) (omega (arith, h.sum.0)) h.src h.dst
    h.sum.1
    ∙ omega arith

front_counts : (proto : ℕ) (source : Bool) (t : Transport) → IsQuoted proto t
    → sum (words_of (transport_bytes t)) ≡ kept_in source t + port_at source t + sum (option_to_list (sum_in t))
front_counts proto source (Ports Udp s) h =
    let (n, there, small) = h.sum in
    udp_counts n s there h.len h.src h.dst small ∙ omega (arith, ports_sum source s)
front_counts proto source (Ports Tcp s) h =
    tcp_counts proto s.src s.dst s.fixed s.sum s.rest h ∙ omega (arith, ports_sum source s)
front_counts proto source (Ports Icmp s) h = absurd h
front_counts proto source (Query e) h = echo_counts e h.sum h.id ∙ omega arith

kept_there : (source : Bool) (old new : Ext) (t : Transport) → kept_in source (replaced source old new t) ≡ kept_in source t
kept_there true old new (Ports p s) = refl
kept_there false old new (Ports p s) = refl
kept_there source old new (Query e) = refl

-- ---- of an error

words_sum : (a b c d : ℕ) (l : List ℕ) → sum (a ∷ b ∷ c ∷ d ∷ l) ≡ a + b + c + d + sum l
words_sum a b c d l =
    omega (
      arith,
      sum_by-cons (λ (m : ℕ). m) a (b ∷ c ∷ d ∷ l),
      sum_by-cons (λ (m : ℕ). m) b (c ∷ d ∷ l),
      sum_by-cons (λ (m : ℕ). m) c (d ∷ l),
      sum_by-cons (λ (m : ℕ). m) d l,
    )

-- the words of an error that no new place changes
abbrev kept : Bool → Report → ℕ
kept source r =
    256 * r.kind + r.code + r.word / 65536 + r.word % 65536 + others r.quoted.header + stays source r.quoted.header
    + kept_in source r.quoted.front

report_counts : (source : Bool) (bytes : List ℕ) (r : Report) → SpellsReport bytes r
    → sum (words_of (report_bytes r)) ≡ kept source r + (r.sum + sum (quoted_words source r.quoted))
report_counts source bytes r s =
    let h = r.quoted.header in
    let t = r.quoted.front in
    let a = (address_on source h).0 in
    omega (
      arith,
      pair_counts r.kind r.code (be16 r.sum ++ (be32 r.word ++ quoted_bytes r.quoted)),
      word_counts r.sum (be32 r.word ++ quoted_bytes r.quoted) s.sum,
      quad_counts r.word (quoted_bytes r.quoted) s.word,
      side_counts source h (transport_bytes t) s.quotes.header s.quotes.plain,
      front_counts h.fields.proto source t s.quotes.front,
      words_sum h.sum (a / 65536) (a % 65536) (port_at source t) (option_to_list (sum_in t)),
    )

-- ---- what sums up to all ones

all_ones : (n : ℕ) → 1 ≤ n → n % 65535 ≡ 0 → ones_sum n ≡ 65535
all_ones zero some e = absurd (omega arith)
all_ones (suc n) some e = let test : eqb (suc n) 0 ≡ false = ne_eqb (suc n) 0 (λ h. omega (arith, h)) in rw test (omega arith)

ones_all : (n : ℕ) → ones_sum n ≡ 65535 → n % 65535 ≡ 0
ones_all zero e = absurd (omega (arith, e))
ones_all (suc n) e =
    let test : eqb (suc n) 0 ≡ false = ne_eqb (suc n) 0 (λ h. omega (arith, h)) in
    let folded = rw test at e in omega (arith, folded)

-- a checksum that was computed completes its sum
pub completed : (n : ℕ) → 1 ≤ n → ones_sum (n + (65535 - ones_sum n)) ≡ 65535
completed zero some = absurd (omega arith)
completed (suc n) some =
    let test : eqb (suc n) 0 ≡ false = ne_eqb (suc n) 0 (λ h. omega (arith, h)) in
    let folded : ones_sum (suc n) ≡ (suc n - 1) % 65535 + 1 = rw test refl in
    all_ones (suc n + (65535 - ones_sum (suc n))) (omega arith) (omega (arith, folded))

-- a sum stays all ones where a part of it became a congruent one
along : (rest old new before after : ℕ) → before ≡ rest + old → after ≡ rest + new → new % 65535 ≡ old % 65535 → 1 ≤ after
    → ones_sum before ≡ 65535 → ones_sum after ≡ 65535
along rest old new before after p q same some full = all_ones after some (let none = ones_all before full in omega arith)

-- ---- an error

option_small : (proto : ℕ) (t : Transport) → IsQuoted proto t → AllByRecursion (λ m. m ≤ 65535) (option_to_list (sum_in t))
option_small proto (Ports Udp s) h =
    let (n, there, small) = h.sum in
    subst (λ (o : Option ℕ). AllByRecursion (λ m. m ≤ 65535) (option_to_list o)) (sym there) (omega arith, tt)
option_small proto (Ports Tcp s) h = tcp_small s.sum s.fixed s.rest h.sum
  where
    tcp_small : (o : Option ℕ) (fixed rest : List ℕ) → ReachesSum o fixed rest → AllByRecursion (λ m. m ≤ 65535) (option_to_list o)
    tcp_small None fixed rest h = tt
    tcp_small (Some n) fixed rest h = (omega (arith, h.1), tt)
option_small proto (Ports Icmp s) h = absurd h
option_small proto (Query e) h = (omega (arith, h.sum), tt)

words_small : (new : Ext) (bytes : List ℕ) (q : Quoted) → new.addr.0 < 2 ^ 32 → new.port < 2 ^ 16 → SpellsQuoted bytes q
    → AllByRecursion (λ m. m ≤ 65535) (words_with new q)
words_small new bytes q addr port s =
    (omega (arith, s.header.sum), (omega arith, (omega arith, (omega arith, option_small q.header.fields.proto q.front s.front))))

kept_along : (source : Bool) (new : Ext) (r : Report) → kept source (translated source new r) ≡ kept source r
kept_along source new r =
    omega (
      arith,
      stays_there source new.addr r.quoted.header,
      kept_there source (quoted_place source r.quoted) new r.quoted.front,
    )

pub report_sound : (source : Bool) (new : Ext) (bytes : List ℕ) (r : Report) → new.addr.0 < 2 ^ 32 → new.port < 2 ^ 16
    → SpellsReport bytes r → sum16 (report_bytes r) ≡ 65535 → sum16 (report_bytes (translated source new r)) ≡ 65535
report_sound source new bytes r addr port s sound =
    let r' = translated source new r in
    let q' = quoted_with source new r.quoted in
    let old = quoted_words source r.quoted in
    let words = quoted_words source q' in
    let s' = is_translated source new bytes r addr port s in
    let small : AllByRecursion (λ m. m ≤ 65535) words =
    subst (λ (e : Ext). AllByRecursion (λ m. m ≤ 65535) (words_with e q')) (sym (place_replaced source new r.quoted))
    (words_small new (quoted_bytes q') q' addr port s'.quotes) in
    let same = adjust_is_congruent r.sum old words small
    (sym (words_count source new (quoted_place source q') (quoted_place source r.quoted) r.quoted)) in
    let before = report_counts source bytes r s in
    let after = report_counts source (report_bytes r') r' s' in
    along (kept source r) (r.sum + sum old) (r'.sum + sum words) (sum (words_of (report_bytes r))) (sum (words_of (report_bytes r')))
    before (omega (arith, after, kept_along source new r)) same (omega (arith, after)) sound

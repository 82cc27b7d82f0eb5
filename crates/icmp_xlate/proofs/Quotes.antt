-- A quoted packet, and the error that quotes it, with a place replaced.
use Rattle.std.proofs.Common.{◌≡◌, ℕ, ◌-◌, ◌≤◌, ◌<◌, ◌^◌, Bool, List, [], ◌∷◌, ◌++◌, length, get_or, take, drop, Option}
use Rattle.std.proofs.Common.{Some, refl, sym, ap, ◌∙◌, arith}
use Rattle.std.specs.Prelude.{option_to_list}
use Rattle.std.proofs.lemmas.List.{append-nil, length-drop, drop_all}
use Rattle.std.proofs.lemmas.Nat.{from_be_bytes-to_be_bytes_2}
use borrow.Rule.Slice.PartMut.{put_mid}
use Rattle.aftr_base.specs.Bytes.{u8_at, u16_at, be16, be32}
use Rattle.aftr_base.specs.declared.value.Ext.{Ext}
use Rattle.wire_ip4.specs.Grammar.{header_bytes}
use Rattle.wire_ip4.proofs.GrammarLaws.{all_after}
use Rattle.wire_ip4.proofs.HeaderRead.{sum_read as header_sum_read}
use Rattle.wire_l4.specs.Grammar.{transport_bytes}
use Rattle.wire_l4.specs.Places.{place_words, replaced}
use Rattle.wire_l4.proofs.Replacing.{adjusted_fits}
use Rattle.wire_icmp.specs.Quoted.{Quoted, quoted_bytes, quoted_transport, quoted_place, SpellsQuoted}
use Rattle.wire_icmp.specs.Quoted.{Report, report_bytes, SpellsReport}
use Rattle.wire_icmp.proofs.Fronts.{front_read}
use Rattle.icmp_xlate.specs.Translated.{quoted_with, quoted_words, readdressed, sum_in, words_with, translated}
use Rattle.icmp_xlate.proofs.Headers.{head_taken, head_dropped, is_readdressed, number_read}
use Rattle.icmp_xlate.proofs.Fronts.{is_replaced}

-- a write into all that follows an offset
pub put_behind : (n : ℕ) (xs ys : List ℕ) → n ≤ length xs → put_mid n (length xs - n) xs ys ≡ take n xs ++ ys
put_behind n xs ys le =
    let none : drop (length xs - n) (drop n xs) ≡ [] = drop_all (length xs - n) (drop n xs) (omega (arith, length-drop n xs)) in
    rw (none, append-nil) refl

-- ---- a quoted packet

pub is_quoted_with : (source : Bool) (new : Ext) (bytes : List ℕ) (q : Quoted) → new.addr.0 < 2 ^ 32 → new.port < 2 ^ 16
    → SpellsQuoted bytes q → SpellsQuoted (quoted_bytes (quoted_with source new q)) (quoted_with source new q)
is_quoted_with source new bytes q addr port s = record {
  header = is_readdressed source new.addr q.header s.header addr;
  plain = s.plain;
  first = s.first;
  front = is_replaced q.header.fields.proto source (quoted_place source q) new q.front port s.front;
  spelled = refl;
}

-- the protocol's number and the transport behind the header
pub number_quoted : (bytes : List ℕ) (q : Quoted) → SpellsQuoted bytes q → u8_at 9 bytes ≡ q.header.fields.proto
number_quoted bytes q s = ap (u8_at 9) s.spelled ∙ number_read q.header (transport_bytes q.front)

pub front_quoted : (bytes : List ℕ) (q : Quoted) → SpellsQuoted bytes q
    → quoted_transport q.header.fields.proto (drop 20 bytes) ≡ Some q.front
front_quoted bytes q s =
    ap (λ (l : List ℕ). quoted_transport q.header.fields.proto (drop 20 l)) s.spelled
    ∙ ap (quoted_transport q.header.fields.proto) (head_dropped q.header (transport_bytes q.front) s.plain)
    ∙ front_read q.header.fields.proto q.front s.front

-- ---- an error

pub behind_front : (r : Report) → drop 8 (report_bytes r) ≡ quoted_bytes r.quoted
unfolding be16 be32
behind_front r = refl

-- with another packet, and then with another checksum
pub quote_put : (r : Report) (q : Quoted) → take 8 (report_bytes r) ++ quoted_bytes q ≡ report_bytes (record r { quoted = q })
unfolding be16 be32
quote_put r q = refl

pub sum_put : (r : Report) (sum : ℕ) → let old = report_bytes r in
    take 2 old ++ be16 sum ++ drop 4 old ≡ report_bytes (record r { sum = sum })
unfolding be16 be32
sum_put r sum = refl

pub sum_read : (r : Report) → r.sum < 2 ^ 16 → u16_at 2 (report_bytes r) ≡ r.sum
unfolding be16 be32
sum_read r small = from_be_bytes-to_be_bytes_2 r.sum small

pub is_translated : (source : Bool) (new : Ext) (bytes : List ℕ) (r : Report) → new.addr.0 < 2 ^ 32 → new.port < 2 ^ 16
    → SpellsReport bytes r → SpellsReport (report_bytes (translated source new r)) (translated source new r)
is_translated source new bytes r addr port s = record {
  kind = s.kind;
  code = s.code;
  sum = adjusted_fits r.sum (quoted_words source r.quoted) (quoted_words source (quoted_with source new r.quoted));
  word = s.word;
  quotes = is_quoted_with source new (quoted_bytes r.quoted) r.quoted addr port s.quotes;
  spelled = refl;
}

-- ---- the words that are read

-- the protocol's number and the transport, as they are read
pub front_there : (bytes : List ℕ) (q : Quoted) → SpellsQuoted bytes q
    → quoted_transport (u8_at 9 bytes) (take (length bytes - 20) (drop 20 bytes)) ≡ Some q.front
front_there bytes q s = (λ i. quoted_transport (number_quoted bytes q s i) (all_after 20 bytes i)) ∙ front_quoted bytes q s

-- four words, one by one
pub four_words : (word : ℕ) (place : Ext) (ws l0 l1 l2 l3 l4 : List ℕ) → ws ≡ place_words place → l0 ≡ [] → l1 ≡ l0 ++ word ∷ []
    → l2 ≡ l1 ++ get_or ws 0 0 ∷ [] → l3 ≡ l2 ++ get_or ws 1 0 ∷ [] → l4 ≡ l3 ++ get_or ws 2 0 ∷ [] → l4 ≡ word ∷ place_words place
four_words word place ws l0 l1 l2 l3 l4 are e0 e1 e2 e3 e4 =
    let one = e1 ∙ ap (λ (l : List ℕ). l ++ word ∷ []) e0 in
    let two = e2 ∙ ap (λ (l : List ℕ). l ++ get_or ws 0 0 ∷ []) one in
    let three = e3 ∙ ap (λ (l : List ℕ). l ++ get_or ws 1 0 ∷ []) two in
    e4 ∙ ap (λ (l : List ℕ). l ++ get_or ws 2 0 ∷ []) three
    ∙ ap (λ (w : List ℕ). word ∷ get_or w 0 0 ∷ get_or w 1 0 ∷ get_or w 2 0 ∷ []) are

pub words_read : (bytes items four : List ℕ) (q : Quoted) (place : Ext) (o : Option ℕ) → SpellsQuoted bytes q
    → four ≡ u16_at 10 bytes ∷ place_words place → o ≡ sum_in q.front → items ≡ four ++ option_to_list o → items ≡ words_with place q
words_read bytes items four q place o s are same e =
    let word : u16_at 10 bytes ≡ q.header.sum = ap (u16_at 10) s.spelled ∙ header_sum_read q.header (transport_bytes q.front) s.header in
    e ∙ (λ i. are i ++ option_to_list (same i)) ∙ (λ i. word i ∷ (place_words place ++ option_to_list (sum_in q.front)))

-- ---- a quoted packet that is written

module _ (source : Bool) (old new : Ext) (bytes mid : List ℕ) (q : Quoted) (s : SpellsQuoted bytes q)
    (made : mid ≡ header_bytes (readdressed source new.addr q.header) ++ transport_bytes q.front) where
  pub front_after : quoted_transport (u8_at 9 bytes) (take (length mid - 20) (drop 20 mid)) ≡ Some q.front
  front_after =
      (λ i. quoted_transport (number_quoted bytes q s i) (all_after 20 mid i))
      ∙ ap (λ (l : List ℕ). quoted_transport q.header.fields.proto (drop 20 l)) made
      ∙ ap (quoted_transport q.header.fields.proto) (head_dropped (readdressed source new.addr q.header) (transport_bytes q.front) s.plain)
      ∙ front_read q.header.fields.proto q.front s.front

  pub places_put : (front : List ℕ) → 20 ≤ length mid → quoted_place source q ≡ old
      → front ≡ transport_bytes (replaced source old new q.front)
      → put_mid 20 (length mid - 20) mid front ≡ quoted_bytes (quoted_with source new q)
  places_put front le there e =
      put_behind 20 mid front le
      ∙ (λ i. take 20 (made i) ++ e i)
      ∙ (λ i. head_taken (readdressed source new.addr q.header) (transport_bytes q.front) s.plain i
      ++ transport_bytes (replaced source (sym there i) new q.front))

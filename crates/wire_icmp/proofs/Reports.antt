-- An error that quotes a packet is read as it is spelled.
use Rattle.std.proofs.Common.{◌≡◌, ℕ, ◌≤◌, ◌<◌, ◌^◌, Bool, true, false, List, ◌∷◌, ◌++◌, length, drop, Option, Some, None, Result, Ok, Err}
use Rattle.std.proofs.Common.{refl, sym, ap, subst, ◌∙◌, arith, eq-eqb}
use Rattle.std.specs.Prelude.{◌&&◌, ◌==◌, option_map, option_and_then, if◌then◌else◌}
use Rattle.std.specs.Result.{result_ok}
use Rattle.std.proofs.lemmas.Bool.{eqb-true}
use Rattle.std.proofs.lemmas.List.{nil_from_length}
use Rattle.std.proofs.Math.Seq.{drop-append_seam}
use Rattle.std.proofs.lemmas.Nat.{from_be_bytes-to_be_bytes_2, from_be_bytes-to_be_bytes_4}
use Rattle.aftr_base.specs.Value.{place}
use Rattle.aftr_base.specs.declared.value.Proto.{Proto}
use Rattle.aftr_base.specs.Bytes.{u8_at, u16_at, u32_at, be16, be32, IsBytes}
use Rattle.aftr_base.proofs.OctetLaws.{u16_below, u32_below}
use Rattle.wire_ip4.specs.declared.fields.Ip4Bad.{Ip4Bad}
use Rattle.wire_ip4.specs.Grammar.{Header, header_bytes, front_of, SpellsFront}
use Rattle.wire_ip4.proofs.Attempts.{and_true}
use Rattle.wire_ip4.proofs.Pieces.{two_ones, two_more, four_more, bytes_of_rest}
use Rattle.wire_ip4.proofs.GrammarLaws.{front_spelled as header_spelled, front_accepts as header_accepts}
use Rattle.wire_l4.specs.Grammar.{Transport, transport_bytes}
use Rattle.wire_icmp.specs.Quoted.{Quoted, quoted_of, quoted_behind, quoted_bytes, quoted_transport, SpellsQuoted}
use Rattle.wire_icmp.specs.Quoted.{ends_of, shown, shown_quoted}
use Rattle.wire_icmp.specs.Quoted.{Report, report_of, report_with, report_bytes, SpellsReport}
use Rattle.wire_icmp.proofs.Fronts.{front_spelled, front_read}

-- ---- a quoted packet

-- a header was read, and then its transport
module _ {A B : Type 0} {E : Type 0} where
  found : (k : A → Option B) (r : Result A E) (q : B) → option_and_then k (result_ok r) ≡ Some q
      → (x : A) × (r ≡ Ok x) × (k x ≡ Some q)
  found k (Ok x) q is = (x, refl, is)
  found k (Err e) q is = absurd cc

module _ {A B : Type 0} where
  -- two tests were passed, and there was something
  tested : (a b : Bool) (f : A → B) (o : Option A) (q : B) → (if a && b then option_map f o else None) ≡ Some q
      → (a ≡ true) × (b ≡ true) × ((x : A) × (o ≡ Some x) × (f x ≡ q))
  tested true true f (Some x) q is = (refl, refl, (x, refl, cc))
  tested true true f None q is = absurd cc
  tested true false f o q is = absurd cc
  tested false b f o q is = absurd cc

module _ {A B : Type 0} where
  pub mapped : (f : A → B) (o : Option A) (y : B) → option_map f o ≡ Some y → (x : A) × (o ≡ Some x) × (f x ≡ y)
  mapped f (Some x) y is = (x, refl, cc)
  mapped f None y is = absurd cc

-- the bytes behind a header are bytes
rest_fits : (bytes : List ℕ) (h : Header) (rest : List ℕ) → IsBytes bytes → bytes ≡ header_bytes h ++ rest → IsBytes rest
rest_fits bytes h rest fits spelled =
    let n = length (header_bytes h) in
    let is : drop n bytes ≡ rest = ap (drop n) spelled ∙ drop-append_seam (header_bytes h) rest in
    subst IsBytes is (bytes_of_rest bytes n fits)

pub quoted_spelled : (bytes : List ℕ) (q : Quoted) → IsBytes bytes → quoted_of bytes ≡ Some q → SpellsQuoted bytes q
quoted_spelled bytes q fits is =
    let (x, front, behind) = found quoted_behind (front_of bytes) q is in
    let h : Header = x.0 in
    let rest : List ℕ = x.1 in
    let header : SpellsFront bytes h rest = header_spelled bytes h rest fits front in
    let (plain, first, some) = tested (length h.options == 0) (h.fields.offset == 0) (λ (t : Transport). record { header = h; front = t })
    (quoted_transport h.fields.proto rest) q behind in
    let (t, read, made) = some in
    let spelled = front_spelled h.fields.proto rest t (rest_fits bytes h rest fits header.spelled) read in
    let whole : SpellsQuoted bytes (record { header = h; front = t }) = record {
      header = header.header;
      plain = nil_from_length h.options (eqb-true (length h.options) 0 plain);
      first = eqb-true h.fields.offset 0 first;
      front = spelled.1;
      spelled = header.spelled ∙ ap (λ (l : List ℕ). header_bytes h ++ l) spelled.0;
    } in
    subst (SpellsQuoted bytes) made whole

-- what was read of a packet with these fields
chosen : (bytes : List ℕ) (h : Header) (rest : List ℕ) (t : Transport) → front_of bytes ≡ Ok (h, rest) → length h.options ≡ 0
    → h.fields.offset ≡ 0 → quoted_transport h.fields.proto rest ≡ Some t → quoted_of bytes ≡ Some record { header = h; front = t }
chosen bytes h rest t front plain first read =
    let tests : (length h.options == 0 && h.fields.offset == 0) ≡ true =
    and_true (eq-eqb (length h.options) 0 plain) (eq-eqb h.fields.offset 0 first) in
    ap (λ (r : Result (Header × List ℕ) Ip4Bad). option_and_then quoted_behind (result_ok r)) front
    ∙ (λ i. if tests i then option_map (λ (u : Transport). record { header = h; front = u }) (read i) else None)

pub quoted_accepted : (bytes : List ℕ) (q : Quoted) → SpellsQuoted bytes q → quoted_of bytes ≡ Some q
quoted_accepted bytes q s =
    let rest = transport_bytes q.front in
    let front : front_of bytes ≡ Ok (q.header, rest) =
    header_accepts bytes q.header rest (record { header = s.header; spelled = s.spelled }) in
    chosen bytes q.header rest q.front front (ap length s.plain) s.first (front_read q.header.fields.proto q.front s.front)

-- and what is shown of it
pub quoted_shown : (bytes : List ℕ) (h : Header) (rest : List ℕ) (ends : Proto × ℕ × ℕ) → IsBytes bytes → front_of bytes ≡ Ok (h, rest)
    → length h.options ≡ 0 → h.fields.offset ≡ 0 → option_map ends_of (quoted_transport h.fields.proto rest) ≡ Some ends
    → option_map shown_quoted (quoted_of bytes) ≡ Some record {
      fields = h.fields;
      proto = ends.0;
      src = place h.fields.src ends.1;
      dst = place h.fields.dst ends.2;
      rest = rest;
    }
quoted_shown bytes h rest ends fits front plain first are =
    let (t, read, made) = mapped ends_of (quoted_transport h.fields.proto rest) ends are in
    let header : SpellsFront bytes h rest = header_spelled bytes h rest fits front in
    let spelled = front_spelled h.fields.proto rest t (rest_fits bytes h rest fits header.spelled) read in
    ap (option_map shown_quoted) (chosen bytes h rest t front plain first read)
    ∙ (λ i. Some record {
      fields = h.fields;
      proto = (made i).0;
      src = place h.fields.src (made i).1;
      dst = place h.fields.dst (made i).2;
      rest = sym spelled.0 i;
    })

-- ---- an error

-- the front of an error, and then what it quotes
front_again : (bytes : List ℕ) → IsBytes bytes → 8 ≤ length bytes
    → bytes ≡ u8_at 0 bytes ∷ u8_at 1 bytes ∷ (be16 (u16_at 2 bytes) ++ (be32 (u32_at 4 bytes) ++ drop 8 bytes))
front_again bytes fits whole =
    let word = four_more bytes 4 fits whole in
    let sum = ap (λ (l : List ℕ). be16 (u16_at 2 bytes) ++ l) word ∙ two_more bytes 2 fits (omega arith) in
    sym (ap (λ (l : List ℕ). u8_at 0 bytes ∷ u8_at 1 bytes ∷ l) sum ∙ two_ones bytes 0 2 refl (omega arith))

pub report_spelled : (bytes : List ℕ) (r : Report) → IsBytes bytes → 8 ≤ length bytes → report_of bytes ≡ Some r → SpellsReport bytes r
report_spelled bytes r fits whole is =
    let (q, read, made) = mapped (report_with bytes) (quoted_of (drop 8 bytes)) r is in
    let s : SpellsQuoted (drop 8 bytes) q = quoted_spelled (drop 8 bytes) q (bytes_of_rest bytes 8 fits) read in
    let spelled : SpellsReport bytes (report_with bytes q) = record {
      kind = fits 0;
      code = fits 1;
      sum = u16_below 2 bytes fits;
      word = u32_below 4 bytes fits;
      quotes = record { header = s.header; plain = s.plain; first = s.first; front = s.front; spelled = refl };
      spelled = front_again bytes fits whole
          ∙ ap (λ (l : List ℕ). u8_at 0 bytes ∷ u8_at 1 bytes ∷ (be16 (u16_at 2 bytes) ++ (be32 (u32_at 4 bytes) ++ l))) s.spelled;
    } in
    subst (SpellsReport bytes) made spelled

behind_front : (r : Report) → drop 8 (report_bytes r) ≡ quoted_bytes r.quoted
unfolding be16 be32
behind_front r = refl

fields_read : (r : Report) → r.sum < 2 ^ 16 → r.word < 2 ^ 32 → report_with (report_bytes r) r.quoted ≡ r
unfolding be16 be32
fields_read r p q = λ i. record {
  kind = r.kind;
  code = r.code;
  sum = from_be_bytes-to_be_bytes_2 r.sum p i;
  word = from_be_bytes-to_be_bytes_4 r.word q i;
  quoted = r.quoted;
}

pub report_accepted : (bytes : List ℕ) (r : Report) → SpellsReport bytes r → report_of bytes ≡ Some r
report_accepted bytes r s =
    let read : quoted_of (drop 8 (report_bytes r)) ≡ Some r.quoted =
    ap quoted_of (behind_front r) ∙ quoted_accepted (quoted_bytes r.quoted) r.quoted s.quotes in
    ap report_of s.spelled ∙ ap (option_map (report_with (report_bytes r))) read ∙ ap Some (fields_read r s.sum s.word)

-- what is shown of an error is what is shown of the packet that it quotes
shown_through : (bytes : List ℕ) (o : Option Quoted) → option_map shown (option_map (report_with bytes) o) ≡ option_map shown_quoted o
shown_through bytes (Some q) = refl
shown_through bytes None = refl

pub report_shown : (bytes : List ℕ) → option_map shown (report_of bytes) ≡ option_map shown_quoted (quoted_of (drop 8 bytes))
report_shown bytes = shown_through bytes (quoted_of (drop 8 bytes))

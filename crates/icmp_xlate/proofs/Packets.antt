-- An error in the bytes of its packet, while it is translated, and how long it is.
use Rattle.std.proofs.Common.{◌≡◌, ℕ, ◌+◌, ◌-◌, ◌≤◌, ◌<◌, ◌^◌, Bool, true, false, not, List, ◌++◌, length, take, drop}
use Rattle.std.proofs.Common.{Option, Some, None, refl, sym, ap, ◌∙◌, arith}
use Rattle.std.proofs.Common.{length-append}
use Rattle.std.specs.Prelude.{nat_lt, if◌then◌else◌}
use Rattle.std.proofs.lemmas.Bool.{ltb-false}
use borrow.Rule.Slice.PartMut.{put_mid}
use Rattle.aftr_base.specs.Bytes.{be16, be32}
use Rattle.aftr_base.specs.Checksum.{sum16}
use Rattle.aftr_base.specs.declared.value.Ext.{Ext}
use Rattle.wire_ip4.specs.Grammar.{Header, header_bytes}
use Rattle.wire_ip4.proofs.GrammarLaws.{all_after}
use Rattle.wire_ip4.proofs.SumLaws.{sound_readdressed}
use Rattle.wire_l4.specs.Grammar.{Transport, transport_bytes}
use Rattle.wire_icmp.specs.Quoted.{quoted_transport, quoted_bytes, Report, report_bytes, SpellsReport}
use Rattle.wire_icmp.proofs.Fronts.{front_read}
use Rattle.icmp_xlate.specs.Translated.{SpellsError, error_with, readdressed, translated}
use Rattle.icmp_xlate.proofs.Headers.{head_long, head_taken, head_dropped, is_readdressed}
use Rattle.icmp_xlate.proofs.Quotes.{put_behind, is_translated}
use Rattle.icmp_xlate.proofs.Sums.{report_sound}

-- ---- lengths

not_short : {A : Type 0} (short : Bool) (o : Option A) (x : A) → (if short then None else o) ≡ Some x → short ≡ false
not_short true o x is = absurd cc
not_short false o x is = refl

front_long : (proto : ℕ) (bytes : List ℕ) (t : Transport) → quoted_transport proto bytes ≡ Some t → 8 ≤ length bytes
front_long proto bytes t is = ltb-false (length bytes) 8 (not_short (nat_lt (length bytes) 8) _ t is)

eight_more : (r : Report) → length (report_bytes r) ≡ 8 + length (quoted_bytes r.quoted)
unfolding be16 be32
eight_more r = omega arith

pub report_long : (message : List ℕ) (r : Report) → SpellsReport message r → 36 ≤ length message
report_long message r s =
    let h = r.quoted.header in
    let t = r.quoted.front in
    let front : 8 ≤ length (transport_bytes t) =
    front_long h.fields.proto (transport_bytes t) t (front_read h.fields.proto t s.quotes.front) in
    omega (
      arith,
      ap length s.spelled,
      eight_more r,
      length-append (header_bytes h) (transport_bytes t),
      head_long h s.quotes.plain,
      front,
    )

pub error_long : (packet : List ℕ) (h : Header) (r : Report) → SpellsError packet h r → 56 ≤ length packet
error_long packet h r e =
    omega (
      arith,
      ap length e.spelled,
      length-append (header_bytes h) (report_bytes r),
      head_long h e.plain,
      report_long (report_bytes r) r e.reports,
    )

-- ---- a packet

pub message_spelled : (packet : List ℕ) (h : Header) (r : Report) → SpellsError packet h r
    → SpellsReport (take (length packet - 20) (drop 20 packet)) r
message_spelled packet h r e =
    let s = e.reports in
    record {
      kind = s.kind;
      code = s.code;
      sum = s.sum;
      word = s.word;
      quotes = s.quotes;
      spelled = all_after 20 packet ∙ ap (drop 20) e.spelled ∙ head_dropped h (report_bytes r) e.plain;
    }

pub message_put : (packet : List ℕ) (h : Header) (r : Report) (message : List ℕ) → SpellsError packet h r → 20 ≤ length packet
    → put_mid 20 (length packet - 20) packet message ≡ header_bytes h ++ message
message_put packet h r message e le =
    put_behind 20 packet message le ∙ ap (λ (l : List ℕ). take 20 l ++ message) e.spelled
    ∙ ap (λ (l : List ℕ). l ++ message) (head_taken h (report_bytes r) e.plain)

-- ---- what was translated is an error still, and bears its checksums

pub is_report : (source : Bool) (new : Ext) (old now : List ℕ) (r : Report) → new.addr.0 < 2 ^ 32 → new.port < 2 ^ 16
    → SpellsReport old r → now ≡ report_bytes (translated source new r) → SpellsReport now (translated source new r)
is_report source new old now r addr port s value =
    let t = is_translated source new old r addr port s in
    record { kind = t.kind; code = t.code; sum = t.sum; word = t.word; quotes = t.quotes; spelled = value }

pub message_is_sound : (source : Bool) (new : Ext) (old now : List ℕ) (r : Report) → new.addr.0 < 2 ^ 32 → new.port < 2 ^ 16
    → SpellsReport old r → now ≡ report_bytes (translated source new r) → sum16 old ≡ 65535 → sum16 now ≡ 65535
message_is_sound source new old now r addr port s value sound =
    ap sum16 value ∙ report_sound source new old r addr port s (ap sum16 (sym s.spelled) ∙ sound)

module _ (source : Bool) (new : Ext) (old now : List ℕ) (h : Header) (r : Report) (addr : new.addr.0 < 2 ^ 32) (port : new.port < 2 ^ 16)
    (e : SpellsError old h r) (value : now ≡ error_with source new h r) where
  pub is_error : SpellsError now (readdressed source new.addr h) (translated (not source) new r)
  is_error = record {
    header = is_readdressed source new.addr h e.header addr;
    plain = e.plain;
    reports = is_translated (not source) new (report_bytes r) r addr port e.reports;
    spelled = value;
  }

  pub header_is_sound : sum16 (take 20 old) ≡ 65535 → sum16 (take 20 now) ≡ 65535
  header_is_sound sound =
      let h' = readdressed source new.addr h in
      let was : take 20 old ≡ header_bytes h = ap (take 20) e.spelled ∙ head_taken h (report_bytes r) e.plain in
      let is : take 20 now ≡ header_bytes h' =
      ap (take 20) value ∙ head_taken h' (report_bytes (translated (not source) new r)) e.plain in
      ap sum16 is ∙ sound_readdressed source new.addr h e.header addr (ap sum16 (sym was) ∙ sound)

  pub rest_is_sound : sum16 (drop 20 old) ≡ 65535 → sum16 (drop 20 now) ≡ 65535
  rest_is_sound sound =
      let h' = readdressed source new.addr h in
      let was : drop 20 old ≡ report_bytes r = ap (drop 20) e.spelled ∙ head_dropped h (report_bytes r) e.plain in
      let is : drop 20 now ≡ report_bytes (translated (not source) new r) =
      ap (drop 20) value ∙ head_dropped h' (report_bytes (translated (not source) new r)) e.plain in
      message_is_sound (not source) new (report_bytes r) (drop 20 now) r addr port e.reports is (ap sum16 (sym was) ∙ sound)

-- A packet that was read as an error can be translated: what a caller of it knows.
use Rattle.std.proofs.Common.{◌≡◌, ℕ, ◌+◌, Bool, true, false, not, List, [], ◌++◌, length, Some, refl, sym, ap, ◌∙◌, arith}
use Rattle.std.proofs.Common.{length-append}
use Rattle.std.specs.Prelude.{◌==◌, option_map}
use Rattle.std.proofs.lemmas.Bool.{eqb-true}
use Rattle.std.proofs.lemmas.List.{append-nil, nil_from_length}
use Rattle.wire_ip4.specs.Grammar.{Header, header_bytes, SpellsPacket}
use Rattle.wire_l4.specs.Grammar.{Echo, echo_bytes}
use Rattle.wire_icmp.specs.Grammar.{SpellsMessage}
use Rattle.wire_icmp.specs.Quoted.{Report, report_of, SpellsReport, Shown, shown, quoted_place}
use Rattle.wire_icmp.proofs.Reports.{mapped}
use Rattle.icmp_xlate.specs.Translated.{SpellsError}
use Rattle.icmp_xlate.proofs.Headers.{head_long}

passed : (b : Bool) → not b ≡ false → b ≡ true
passed true e = refl
passed false e = absurd cc

-- a header that was asked for options has none
pub no_options : (h : Header) (b : Bool) → b ≡ not (length h.options == 0) → b ≡ false → h.options ≡ []
no_options h b has none = nil_from_length h.options (eqb-true (length h.options) 0 (passed (length h.options == 0) (sym has ∙ none)))

-- the error that was read, its packet, and its places
pub record IsRead (packet : List ℕ) (h : Header) (e : Shown) : Type 0 where
  pub report : Report
  pub error : SpellsError packet h report
  pub src : quoted_place true report.quoted ≡ e.src
  pub dst : quoted_place false report.quoted ≡ e.dst

whole : (packet : List ℕ) (h : Header) (payload : List ℕ) → SpellsPacket packet h payload → h.options ≡ []
    → length packet ≡ 20 + length payload → packet ≡ header_bytes h ++ payload
whole packet h payload s plain long =
    let (beyond, spelled) = s.spelled in
    let none : beyond ≡ [] = nil_from_length beyond (
    omega (
      arith,
      ap length spelled,
      length-append (header_bytes h ++ payload) beyond,
      length-append (header_bytes h) payload,
      head_long h plain,
      long,
    )
    ) in
    spelled ∙ ap (λ (l : List ℕ). header_bytes h ++ payload ++ l) none ∙ append-nil (header_bytes h ++ payload)

pub error_read : (packet : List ℕ) (h : Header) (payload : List ℕ) (m : Echo) (e : Shown) → SpellsPacket packet h payload
    → h.options ≡ [] → length packet ≡ 20 + length payload → SpellsMessage payload m
    → option_map shown (report_of (echo_bytes m)) ≡ Some e
    → ((r : Report) → report_of (echo_bytes m) ≡ Some r → SpellsReport (echo_bytes m) r) → IsRead packet h e
error_read packet h payload m e s plain long message shows spells =
    let (r, read, made) = mapped shown (report_of (echo_bytes m)) e shows in
    let report = spells r read in
    record {
      report = r;
      error = record {
        header = s.header;
        plain = plain;
        reports = record {
          kind = report.kind;
          code = report.code;
          sum = report.sum;
          word = report.word;
          quotes = report.quotes;
          spelled = refl;
        };
        spelled = whole packet h payload s plain long
            ∙ ap (λ (l : List ℕ). header_bytes h ++ l) (message.spelled ∙ report.spelled);
      };
      src = ap (λ (x : Shown). x.src) made;
      dst = ap (λ (x : Shown). x.dst) made;
    }

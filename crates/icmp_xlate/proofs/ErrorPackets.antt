-- An error that was read in its packet, and the same after its packet was written anew.
use Rattle.std.proofs.Common.{◌≡◌, ℕ, ◌+◌, ◌≤◌, List, [], ◌++◌, length, take, drop, Option, Some, None, refl, sym, ap, subst, ◌∙◌}
use Rattle.std.proofs.Common.{arith, length-append}
use Rattle.std.specs.Prelude.{option_map, unwrap_or}
use Rattle.std.proofs.lemmas.List.{length-take}
use Rattle.std.proofs.Math.Seq.{drop-append_seam, take-append_seam}
use Rattle.wire_ip4.specs.declared.fields.Ip4Fields.{Ip4Fields}
use Rattle.wire_ip4.specs.Grammar.{Header, header_bytes, header_of}
use Rattle.wire_l4.specs.Grammar.{Echo, echo_bytes, echo_of, Query}
use Rattle.wire_icmp.specs.Grammar.{SpellsMessage}
use Rattle.wire_icmp.specs.Quoted.{Quoted, Report, SpellsReport, report_of, report_with, Shown, shown}
use Rattle.wire_icmp.proofs.Reports.{mapped}
use Rattle.icmp_xlate.specs.Errors.{ErrorPacket, IsReady, error_of, report_in}
use Rattle.icmp_xlate.proofs.Headers.{head_long, head_taken, head_dropped}

-- ---- what was read

-- the error that a payload was read as, of which this is shown
pub record WasRead (payload : List ℕ) (e : Shown) : Type 0 where
  pub report : Report
  pub read : report_of payload ≡ Some report
  pub reports : SpellsReport payload report
  pub shows : e ≡ shown report

pub was_read : (payload : List ℕ) (m : Echo) (e : Shown) → SpellsMessage payload m → Some e ≡ option_map shown (report_of (echo_bytes m))
    → ((r : Report) → report_of (echo_bytes m) ≡ Some r → SpellsReport (echo_bytes m) r) → WasRead payload e
was_read payload m e message shows spells =
    let (r, read, made) = mapped shown (report_of (echo_bytes m)) e (sym shows) in
    record {
      report = r;
      read = ap report_of message.spelled ∙ read;
      reports = subst (λ (l : List ℕ). SpellsReport l r) (sym message.spelled) (spells r read);
      shows = sym made;
    }

report_there : (payload : List ℕ) (r : Report) → report_of payload ≡ Some r → report_in payload ≡ r
report_there payload r read =
    let none : Quoted = record { header = header_of (drop 8 payload); front = Query (echo_of (drop 28 payload)) } in
    ap (λ (o : Option Report). unwrap_or o (report_with payload none)) read

pub is_ready : {h : Header} {payload : List ℕ} {fields : Ip4Fields} {e : Shown} → h.options ≡ [] → 2 ≤ h.fields.ttl
    → h.fields.total ≡ 20 + length payload → fields ≡ h.fields → fields.total ≤ 65535 → WasRead payload e → IsReady h payload fields e
is_ready {h = h} {payload = payload} {fields = fields} {e = e} bare alive total same short read =
    let there = sym (report_there payload read.report read.read) in
    record {
      bare = bare;
      alive = alive;
      total = total;
      short = omega (arith, short, ap (λ (f : Ip4Fields). f.total) same);
      fields_are = same;
      reports = subst (SpellsReport payload) there read.reports;
      shows = read.shows ∙ ap shown there;
    }

abbrev error_with : Header → Report → ErrorPacket
error_with h r = record { header = h; report = r }

pub found : (h : Header) (payload : List ℕ) (e : Shown) → WasRead payload e → Some (error_with h (report_in payload)) ≡ error_of (h, payload)
found h payload e read =
    ap (λ (r : Report). Some (error_with h r)) (report_there payload read.report read.read)
    ∙ sym (ap (option_map (error_with h)) read.read)

not_mapped : {A B : Type 0} (f : A → B) (o : Option A) → None ≡ option_map f o → o ≡ None
not_mapped f None e = refl
not_mapped f (Some x) e = absurd cc

pub none_found : (h : Header) (payload : List ℕ) (m : Echo) → SpellsMessage payload m → None ≡ option_map shown (report_of (echo_bytes m))
    → None ≡ error_of (h, payload)
none_found h payload m message none =
    sym (ap (option_map (error_with h)) (ap report_of message.spelled ∙ not_mapped shown (report_of (echo_bytes m)) none))

-- ---- what is written

-- bytes that begin with the header of an error's packet as it goes on, with the error as it came behind it
pub record HasPayload (e : ErrorPacket) (h : Header) (bytes : List ℕ) : Type 0 where
  pub head : take 20 bytes ≡ header_bytes h
  pub long : 20 ≤ length bytes
  pub total : length bytes ≡ e.header.fields.total
  pub short : length bytes ≤ 65535
  pub reports : SpellsReport (drop 20 bytes) e.report

has_payload : (before h : Header) (payload bytes : List ℕ) (fields : Ip4Fields) (q : Shown) → IsReady before payload fields q
    → h.options ≡ [] → bytes ≡ header_bytes h ++ payload → HasPayload (error_with before (report_in payload)) h bytes
has_payload before h payload bytes fields q ready bare so =
    let len : length bytes ≡ 20 + length payload =
    omega (arith, ap length so, length-append (header_bytes h) payload, head_long h bare) in
    record {
      head = ap (take 20) so ∙ head_taken h payload bare;
      long = omega (arith, len);
      total = len ∙ sym ready.total;
      short = omega (arith, len, ready.total, ready.short);
      reports = subst (λ (l : List ℕ). SpellsReport l (report_in payload)) (sym (ap (drop 20) so ∙ head_dropped h payload bare))
          ready.reports;
    }

-- of the parts that a vector was made of
pub put_together : (e : ErrorPacket) (before h : Header) (payload bytes joined header part : List ℕ) (fields : Ip4Fields) (q : Shown)
    → IsReady before payload fields q → error_with before (report_in payload) ≡ e → h.options ≡ [] → bytes ≡ joined
    → joined ≡ header ++ part → header ≡ header_bytes h → part ≡ payload → HasPayload e h bytes
put_together e before h payload bytes joined header part fields q ready is bare a b c d =
    let so : bytes ≡ header_bytes h ++ payload = a ∙ b ∙ (λ i. c i ++ d i) in
    subst (λ (x : ErrorPacket). HasPayload x h bytes) is (has_payload before h payload bytes fields q ready bare so)

-- ---- a part of bytes that goes to their end

pub behind_taken : (n : ℕ) (xs ys : List ℕ) → n ≤ length xs → drop n (take n xs ++ ys) ≡ ys
behind_taken n xs ys le =
    let len : n ≡ length (take n xs) = omega (arith, length-take n xs, le) in
    ap (λ (k : ℕ). drop k (take n xs ++ ys)) len ∙ drop-append_seam (take n xs) ys

pub front_taken : (n : ℕ) (xs ys : List ℕ) → n ≤ length xs → take n (take n xs ++ ys) ≡ take n xs
front_taken n xs ys le =
    let len : n ≡ length (take n xs) = omega (arith, length-take n xs, le) in
    ap (λ (k : ℕ). take k (take n xs ++ ys)) len ∙ take-append_seam (take n xs) ys

-- a vector whose elements were all written
pub all_written : (n : ℕ) (xs ys : List ℕ) → n ≡ length xs → take n (xs ++ drop (length xs) ys) ≡ xs
all_written n xs ys len = ap (λ (k : ℕ). take k (xs ++ drop (length xs) ys)) len ∙ take-append_seam xs (drop (length xs) ys)

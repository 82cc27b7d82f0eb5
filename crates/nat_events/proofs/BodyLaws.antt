-- The body of a set: records and padding.
use Rattle.std.proofs.Common.{◌≡◌, ℕ, zero, suc, ◌≤◌, ◌<◌, true, false, not, List, [], ◌∷◌, ◌++◌, length, take, drop, refl, sym, ap, ◌∙◌, subst}
use Rattle.std.proofs.Common.{arith, append_assoc, inl, inr}
use Rattle.std.specs.Prelude.{◌==◌, nat_lt, replicate, Ok}
use Rattle.std.specs.List.{list_all}
use Rattle.std.proofs.lemmas.Bool.{and_parts, and_from, cases_Bool, eqb-true, eq-eqb, ne_eqb, cases_eq, ltb-true, lt-ltb, le-ltb, not-true, not_from_false, and_left, both_ways}
use Rattle.std.proofs.lemmas.List.{take-append-drop, drop_at, length-append, length-replicate}
use Rattle.aftr_base.specs.Attempt.{◌>>=◌}
use Rattle.aftr_base.specs.Bytes.{IsBytes}
use Rattle.aftr_base.proofs.OctetLaws.{fits_drop}
use Rattle.aftr_base.specs.declared.event.LogEvent.{LogEvent}
use Rattle.aftr_base.specs.declared.event.LogEvent.TheVariants.{Block, Horizon, Plan}
use Rattle.nat_events.specs.Spelling.{text_of}
use Rattle.nat_events.specs.Grammar.{SpellsField, IsRecord, AreRecords, IsBody}
use Rattle.nat_events.specs.Reading.{is_padding, shortest_of, most_of, record_in, records_in, events_in_body}
use Rattle.nat_events.proofs.Attempts.{require_taken, bind_taken, after_require, after_bind, one_answer}
use Rattle.nat_events.proofs.RecordLaws.{record_spelled, record_read, block_len, horizon_len}
use Rattle.nat_events.proofs.PlanRecordLaws.{plan_len}

-- ---- padding

zeros_all : (k : ℕ) → list_all (λ b. b == 0) (replicate k 0) ≡ true
zeros_all zero = refl
zeros_all (suc k) = zeros_all k

all_zeros : (bytes : List ℕ) → list_all (λ b. b == 0) bytes ≡ true → bytes ≡ replicate (length bytes) 0
all_zeros [] h = refl
all_zeros (b ∷ bytes) h =
    let parts = and_parts (b == 0) (list_all (λ b. b == 0) bytes) h in
    (λ i. eqb-true b 0 parts.0 i ∷ all_zeros bytes parts.1 i)

pub padding_from : (shortest k : ℕ) → k < shortest → is_padding shortest (replicate k 0) ≡ true
padding_from shortest k short =
    and_from (nat_lt (length (replicate k 0)) shortest) (list_all (λ b. b == 0) (replicate k 0))
    (lt-ltb (length (replicate k 0)) shortest (omega (arith, length-replicate {A = ℕ} k 0))) (zeros_all k)

padding_is : (shortest : ℕ) (bytes : List ℕ) → is_padding shortest bytes ≡ true
    → (length bytes < shortest) × (bytes ≡ replicate (length bytes) 0)
padding_is shortest bytes h =
    let parts = and_parts (nat_lt (length bytes) shortest) (list_all (λ b. b == 0) bytes) h in
    (ltb-true (length bytes) shortest parts.0, all_zeros bytes parts.1)

no_padding : (shortest : ℕ) (bytes : List ℕ) → shortest ≤ length bytes → is_padding shortest bytes ≡ false
no_padding shortest bytes long =
    and_left (nat_lt (length bytes) shortest) (list_all (λ b. b == 0) bytes) (le-ltb (length bytes) shortest long)

-- ---- the shortest record

field_len : (text field : List ℕ) → SpellsField text field → 1 ≤ length field
field_len text field spells =
    elim spells [ inl (short, e) ↦ omega (arith, ap length e) | inr e ↦ omega (arith, ap length e) ]

pub record_len : (set : ℕ) (event : LogEvent) (spelling : List ℕ) → IsRecord set event spelling → shortest_of set ≤ length spelling
record_len set (Block opens owner addr first last at) spelling is =
    subst (λ (n : ℕ). shortest_of n ≤ length spelling) is.of_set (omega (arith, ap length is.spelled, block_len opens owner addr first last at))
record_len set (Horizon at reach) spelling is =
    subst (λ (n : ℕ). shortest_of n ≤ length spelling) is.of_set (omega (arith, ap length is.spelled, horizon_len at.0 reach.0))
record_len set (Plan at spec) spelling is =
    let (field, spells, e) = is.spelled in
    subst (λ (n : ℕ). shortest_of n ≤ length spelling) is.of_set
    (omega (arith, ap length e, plan_len at.0 field, field_len (text_of spec) field spells))

pub shortest_some : (set : ℕ) → 1 ≤ shortest_of set
shortest_some set = elim (cases_eq set 256) [
  | inl e ↦ rw (eq-eqb set 256 e) (omega arith)
  | inr ne ↦ elim (cases_eq set 257) [
    | inl e ↦ rw (ne_eqb set 256 ne, eq-eqb set 257 e) (omega arith)
    | inr free ↦ rw (ne_eqb set 256 ne, ne_eqb set 257 free) (omega arith)
  ]
]

-- ---- what is read is spelled so

-- nothing but padding
padded : (set : ℕ) (bytes : List ℕ) → is_padding (shortest_of set) bytes ≡ true → IsBody set (shortest_of set) [] bytes
padded set bytes h =
    let facts = padding_is (shortest_of set) bytes h in
    record { records = []; padding = length bytes; told = refl; short = facts.0; spelled = facts.1 }

-- a record before a body
behind_record : (set : ℕ) (event : LogEvent) (events : List LogEvent) (spelling rest : List ℕ) → IsRecord set event spelling
    → IsBody set (shortest_of set) events rest → IsBody set (shortest_of set) (event ∷ events) (spelling ++ rest)
behind_record set event events spelling rest is body = record {
  records = spelling ++ body.records;
  padding = body.padding;
  told = (spelling, body.records, is, body.told, refl);
  short = body.short;
  spelled = ap (λ t. spelling ++ t) body.spelled ∙ sym (append_assoc spelling body.records (replicate body.padding 0));
}

pub records_spelled : (set n : ℕ) (bytes : List ℕ) (events : List LogEvent) → IsBytes bytes → records_in set n bytes ≡ Ok events
    → IsBody set (shortest_of set) events bytes × (length events ≤ n)
records_spelled set zero bytes events fits h =
    let (passes, same) = require_taken (is_padding (shortest_of set) bytes) tt (Ok []) events h in
    let none : [] ≡ events = one_answer (Ok events) [] events (sym same) refl in
    subst (λ (es : List LogEvent). IsBody set (shortest_of set) es bytes × (length es ≤ 0)) none (padded set bytes passes, omega arith)
records_spelled set (suc n) bytes events fits h = elim (cases_Bool (is_padding (shortest_of set) bytes)) [
  | inl only ↦
      let same : Ok [] ≡ Ok events = rw only at h in
      let none : [] ≡ events = one_answer (Ok events) [] events (sym same) refl in
      subst (λ (es : List LogEvent). IsBody set (shortest_of set) es bytes × (length es ≤ suc n)) none (padded set bytes only, omega arith)
  | inr free ↦
      let step : (record_in set bytes >>= λ first. records_in set n (drop first.1 bytes) >>= λ more. Ok (first.0 ∷ more)) ≡ Ok events = rw free at h in
      let (first, found, after) = bind_taken (record_in set bytes)
      (λ first. records_in set n (drop first.1 bytes) >>= λ more. Ok (first.0 ∷ more)) events step in
      let (more, told, same) = bind_taken (records_in set n (drop first.1 bytes)) (λ more. Ok (first.0 ∷ more)) events after in
      let all : first.0 ∷ more ≡ events = one_answer (Ok events) (first.0 ∷ more) events (sym same) refl in
      let front = record_spelled set bytes first.0 first.1 fits found in
      let (body, few) = records_spelled set n (drop first.1 bytes) more (fits_drop first.1 bytes fits) told in
      let whole : IsBody set (shortest_of set) (first.0 ∷ more) bytes =
      subst (λ (b : List ℕ). IsBody set (shortest_of set) (first.0 ∷ more) b) (take-append-drop first.1 bytes)
      (behind_record set first.0 more (take first.1 bytes) (drop first.1 bytes) front.spelled body) in
      subst (λ (es : List LogEvent). IsBody set (shortest_of set) es bytes × (length es ≤ suc n)) all (whole, omega arith)
]

-- a body with a record
pub body_spelled : (set : ℕ) (body : List ℕ) (events : List LogEvent) → IsBytes body → events_in_body set body ≡ Ok events
    → IsBody set (shortest_of set) events body × (length events ≤ most_of set body) × (0 < length events)
body_spelled set body events fits h =
    let (some, told) = require_taken (not (is_padding (shortest_of set) body)) tt (records_in set (most_of set body) body) events h in
    let (is, few) = records_spelled set (most_of set body) body events fits told in
    (is, few, some_told events is (not-true (is_padding (shortest_of set) body) some))
  where
    some_told : (events : List LogEvent) → IsBody set (shortest_of set) events body → is_padding (shortest_of set) body ≡ false → 0 < length events
    some_told [] is free =
        let e : body ≡ replicate is.padding 0 = is.spelled ∙ ap (λ r. r ++ replicate is.padding 0) is.told in
        let only : is_padding (shortest_of set) body ≡ true = ap (is_padding (shortest_of set)) e ∙ padding_from (shortest_of set) is.padding is.short in
        absurd (both_ways (is_padding (shortest_of set) body) free only)
    some_told (event ∷ events) is free = omega arith

-- ---- what is spelled is read

pub records_read : (set n padding : ℕ) (events : List LogEvent) (records : List ℕ) → AreRecords set events records
    → length events ≤ n → padding < shortest_of set → records_in set n (records ++ replicate padding 0) ≡ Ok events
records_read set zero padding [] records told few short =
    let bytes : List ℕ = records ++ replicate padding 0 in
    let only : is_padding (shortest_of set) bytes ≡ true =
    ap (λ r. is_padding (shortest_of set) (r ++ replicate padding 0)) told ∙ padding_from (shortest_of set) padding short in
    after_require (is_padding (shortest_of set) bytes) tt (Ok []) (Ok []) only refl
records_read set (suc n) padding [] records told few short =
    let bytes : List ℕ = records ++ replicate padding 0 in
    let only : is_padding (shortest_of set) bytes ≡ true =
    ap (λ r. is_padding (shortest_of set) (r ++ replicate padding 0)) told ∙ padding_from (shortest_of set) padding short in
    rw only refl
records_read set zero padding (event ∷ events) records told few short = absurd (omega arith)
records_read set (suc n) padding (event ∷ events) records told few short =
    let (spelling, rest, is, more, e) = told in
    let bytes : List ℕ = records ++ replicate padding 0 in
    let after : List ℕ = rest ++ replicate padding 0 in
    let whole : bytes ≡ spelling ++ after =
    ap (λ r. r ++ replicate padding 0) e ∙ append_assoc spelling rest (replicate padding 0) in
    let long : shortest_of set ≤ length bytes = omega (arith, record_len set event spelling is, ap length whole, length-append spelling after) in
    let free = no_padding (shortest_of set) bytes long in
    let found : record_in set bytes ≡ Ok (event, length spelling) = record_read set event spelling bytes after is whole in
    let left : drop (length spelling) bytes ≡ after = ap (drop (length spelling)) whole ∙ drop_at spelling after (length spelling) refl in
    let read : records_in set n (drop (length spelling) bytes) ≡ Ok events =
    ap (records_in set n) left ∙ records_read set n padding events rest more (omega arith) short in
    rw free (after_bind (record_in set bytes) (λ first. records_in set n (drop first.1 bytes) >>= λ more. Ok (first.0 ∷ more)) (event, length spelling)
    (Ok (event ∷ events)) found
    (after_bind (records_in set n (drop (length spelling) bytes)) (λ more. Ok (event ∷ more)) events (Ok (event ∷ events)) read refl))

-- there are no more records than bytes
pub few_records : (set : ℕ) (events : List LogEvent) (records : List ℕ) → AreRecords set events records → length events ≤ length records
few_records set [] records told = omega arith
few_records set (event ∷ events) records told =
    let (spelling, rest, is, more, e) = told in
    omega (arith, ap length e, length-append spelling rest, record_len set event spelling is, shortest_some set, few_records set events rest more)

pub body_read : (set : ℕ) (event : LogEvent) (events : List LogEvent) (body : List ℕ) → IsBody set (shortest_of set) (event ∷ events) body
    → length (event ∷ events) ≤ most_of set body → events_in_body set body ≡ Ok (event ∷ events)
body_read set event events body is few =
    let (spelling, rest, first, more, e) = is.told in
    let long : shortest_of set ≤ length body =
    omega (
      arith,
      record_len set event spelling first,
      ap length e,
      length-append spelling rest,
      ap length is.spelled,
      length-append is.records (replicate is.padding 0),
    ) in
    after_require (not (is_padding (shortest_of set) body)) tt (records_in set (most_of set body) body) (Ok (event ∷ events))
    (not_from_false (is_padding (shortest_of set) body) (no_padding (shortest_of set) body long))
    (ap (records_in set (most_of set body)) is.spelled
    ∙ records_read set (most_of set body) is.padding (event ∷ events) is.records is.told few is.short)

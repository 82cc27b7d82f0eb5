-- Records: what is read is spelled so, and what is spelled is read.
use Rattle.std.proofs.Common.{◌≡◌, ℕ, ◌+◌, ◌^◌, ◌≤◌, ◌<◌, Bool, List, ◌++◌, length, take, drop, refl, sym, ap, ◌∙◌, subst}
use Rattle.std.proofs.Common.{arith, append_assoc, inl, inr, nat_le}
use Rattle.std.specs.Prelude.{◌==◌, slice_range, Result, Ok, Err, ok_or, IfOk}
use Rattle.std.proofs.lemmas.Bool.{le-leb, leb-true, ne_eqb, cases_eq, eqb-true, cases_lt, lt-ltb, le-ltb}
use Rattle.std.proofs.lemmas.List.{take_at, length-drop, length-append}
use Rattle.aftr_base.specs.Attempt.{◌>>◌, ◌>>=◌, require}
use Rattle.aftr_base.specs.Value.{moment}
use Rattle.aftr_base.specs.Bytes.{u8_at, u64_at, be16, be32, be64, be128, IsBytes}
use Rattle.aftr_base.specs.declared.value.Moment.{Moment}
use Rattle.aftr_base.specs.declared.value.Ip4.{Ip4}
use Rattle.aftr_base.specs.declared.value.Subscriber.{Subscriber}
use Rattle.aftr_base.specs.declared.event.LogEvent.{LogEvent}
use Rattle.aftr_base.specs.declared.event.LogEvent.TheVariants.{Block, Horizon, Plan}
use Rattle.nat_events.specs.declared.bad.EventBad.{EventBad}
use Rattle.nat_events.specs.declared.bad.EventBad.TheVariants.{NotOurs, NoMemory}
use Rattle.nat_events.specs.Spelling.{event_record, set_of, text_of, variable}
use Rattle.nat_events.specs.Grammar.{FitsRecord, SpellsField, IsRecord, BeginsWithRecord, AcceptsRecords, ReadsBack}
use Rattle.nat_events.specs.Reading.{block_at, block_in, opens_of, horizon_in, plan_record_in, record_in, spec_of_text, text_start, text_end, Refusable, ReadsAs}
use Rattle.nat_events.proofs.Attempts.{require_taken, bind_taken, ok_or_taken, after_require}
use Rattle.nat_events.proofs.Octets.{u64_spelled, u64_read, u64_below}
use Rattle.nat_events.proofs.BlockLaws.{block_fits, block_again, block_read, opens_number}
use Rattle.nat_events.proofs.PlanRecordLaws.{spec_spelled, plan_again, plan_read}

-- an event and its length, one by one
abbrev found : LogEvent → ℕ → Refusable (LogEvent × ℕ)
found event len = Ok (event, len)

same_found : (event other : LogEvent) (len size : ℕ) → found event len ≡ found other size → (event ≡ other) × (len ≡ size)
same_found event other len size h =
    let e : (event, len) ≡ (other, size) = cc in
    (ap (λ (p : LogEvent × ℕ). p.0) e, ap (λ (p : LogEvent × ℕ). p.1) e)

-- ---- what is read is spelled so

-- a spelling at the front
begins : (set : ℕ) (bytes spelling rest : List ℕ) (event : LogEvent) (len : ℕ) → length spelling ≡ len
    → bytes ≡ spelling ++ rest → IsRecord set event spelling → BeginsWithRecord set bytes event len
begins set bytes spelling rest event len size whole is = record {
  within = omega (arith, ap length whole ∙ length-append spelling rest);
  spelled = subst (λ (s : List ℕ). IsRecord set event s) (sym (ap (take len) whole ∙ take_at spelling rest len size)) is;
}

pub block_len : (opens : Bool) (owner : Subscriber) (addr : Ip4) (first last : ℕ) (at : Moment)
    → length (event_record (Block opens owner addr first last at)) ≡ 34
unfolding be16 be32 be64 be128
block_len opens owner addr first last at = refl

block_spelled : (bytes : List ℕ) (event : LogEvent) (len : ℕ) → IsBytes bytes → block_in bytes ≡ Ok (event, len)
    → BeginsWithRecord 256 bytes event len
block_spelled bytes event len fits h =
    let (room, taken) = require_taken (nat_le 34 (length bytes)) tt
    (ok_or (opens_of (u8_at 8 bytes)) tt >>= λ opens. Ok (block_at bytes opens, 34)) (event, len) h in
    let (opens, told, same) = bind_taken (ok_or (opens_of (u8_at 8 bytes)) tt) (λ opens. Ok (block_at bytes opens, 34)) (event, len) taken in
    let number = opens_number (u8_at 8 bytes) opens (ok_or_taken (opens_of (u8_at 8 bytes)) tt opens told) in
    let (e, size) = same_found (block_at bytes opens) event 34 len same in
    let here : BeginsWithRecord 256 bytes (block_at bytes opens) 34 =
    begins 256 bytes (event_record (block_at bytes opens)) (drop 34 bytes) (block_at bytes opens) 34 (block_len opens _ _ _ _ _)
    (block_again bytes opens fits (leb-true 34 (length bytes) room) number)
    record { of_set = refl; fits = block_fits bytes fits; spelled = refl } in
    subst (λ (n : ℕ). BeginsWithRecord 256 bytes event n) size
    (subst (λ (v : LogEvent). BeginsWithRecord 256 bytes v 34) e here)

pub horizon_len : (at reach : ℕ) → length (be64 at ++ be64 reach) ≡ 16
unfolding be64
horizon_len at reach = refl

horizon_spelled : (bytes : List ℕ) (event : LogEvent) (len : ℕ) → IsBytes bytes → horizon_in bytes ≡ Ok (event, len)
    → BeginsWithRecord 257 bytes event len
horizon_spelled bytes event len fits h =
    let at : ℕ = u64_at 0 bytes in
    let reach : ℕ = u64_at 8 bytes in
    let told : LogEvent = Horizon (moment at) (moment reach) in
    let (passes, same) = require_taken (nat_le 16 (length bytes)) tt (Ok (Horizon (moment (u64_at 0 bytes)) (moment (u64_at 8 bytes)), 16)) (event, len) h in
    let room = leb-true 16 (length bytes) passes in
    let (e, size) = same_found told event 16 len same in
    let whole : bytes ≡ be64 at ++ be64 reach ++ drop 16 bytes =
    u64_read 0 bytes fits (omega arith) ∙ ap (λ t. be64 at ++ t) (u64_read 8 bytes fits room) ∙ simp append_assoc in
    let here : BeginsWithRecord 257 bytes told 16 =
    begins 257 bytes (be64 at ++ be64 reach) (drop 16 bytes) told 16 (horizon_len at reach) whole
    record { of_set = refl; fits = (u64_below 0 bytes fits, u64_below 8 bytes fits); spelled = refl } in
    subst (λ (n : ℕ). BeginsWithRecord 257 bytes event n) size
    (subst (λ (v : LogEvent). BeginsWithRecord 257 bytes v 16) e here)

plan_spelled : (bytes : List ℕ) (event : LogEvent) (len : ℕ) → IsBytes bytes → plan_record_in bytes ≡ Ok (event, len)
    → BeginsWithRecord 258 bytes event len
plan_spelled bytes event len fits h =
    let text : List ℕ = slice_range bytes (text_start bytes) (text_end bytes) in
    let (passes, taken) = require_taken (nat_le (text_end bytes) (length bytes)) tt
    (spec_of_text (slice_range bytes (text_start bytes) (text_end bytes)) >>= λ spec. Ok (Plan (moment (u64_at 0 bytes)) spec, text_end bytes))
    (event, len) h in
    let (spec, told, same) = bind_taken (spec_of_text text) (λ spec. Ok (Plan (moment (u64_at 0 bytes)) spec, text_end bytes)) (event, len) taken in
    let (here, size) = same_found (Plan (moment (u64_at 0 bytes)) spec) event (text_end bytes) len same in
    let room = leb-true (text_end bytes) (length bytes) passes in
    let facts = spec_spelled text spec told in
    let parts = plan_again bytes fits room in
    let spelling : List ℕ = be64 (u64_at 0 bytes) ++ parts.field in
    let counted : length spelling ≡ text_end bytes =
    omega (arith, ap length parts.whole, length-append spelling (drop (text_end bytes) bytes), length-drop (text_end bytes) bytes) in
    let is : IsRecord 258 (Plan (moment (u64_at 0 bytes)) spec) spelling = record {
      of_set = refl;
      fits = (u64_below 0 bytes fits, facts.1);
      spelled = (parts.field, subst (λ (t : List ℕ). SpellsField t parts.field) (sym facts.0) parts.spelled, refl);
    } in
    subst (λ (v : LogEvent). BeginsWithRecord 258 bytes v len) here
    (begins 258 bytes spelling (drop (text_end bytes) bytes) (Plan (moment (u64_at 0 bytes)) spec) len (counted ∙ size) parts.whole is)

-- what is read of a set's bytes is a record there
pub record_spelled : (set : ℕ) (bytes : List ℕ) (event : LogEvent) (len : ℕ) → IsBytes bytes → record_in set bytes ≡ Ok (event, len)
    → BeginsWithRecord set bytes event len
record_spelled set bytes event len fits h = elim (cases_eq set 256) [
  | inl block ↦
      subst (λ (n : ℕ). BeginsWithRecord n bytes event len) (sym block)
      (block_spelled bytes event len fits (subst (λ (n : ℕ). record_in n bytes ≡ Ok (event, len)) block h))
  | inr no_block ↦ elim (cases_eq set 257) [
    | inl horizon ↦
        subst (λ (n : ℕ). BeginsWithRecord n bytes event len) (sym horizon)
        (horizon_spelled bytes event len fits (subst (λ (n : ℕ). record_in n bytes ≡ Ok (event, len)) horizon h))
    | inr no_horizon ↦
        let third : (require (set == 258) tt >> plan_record_in bytes) ≡ Ok (event, len) =
        rw (ne_eqb set 256 no_block, ne_eqb set 257 no_horizon) at h in
        let (passes, taken) = require_taken (set == 258) tt (plan_record_in bytes) (event, len) third in
        subst (λ (n : ℕ). BeginsWithRecord n bytes event len) (sym (eqb-true set 258 passes)) (plan_spelled bytes event len fits taken)
  ]
]

-- ---- what is spelled is read

horizon_read : (at reach : Moment) (bytes rest : List ℕ) → at.0 < 2 ^ 64 → reach.0 < 2 ^ 64
    → bytes ≡ be64 at.0 ++ be64 reach.0 ++ rest → horizon_in bytes ≡ Ok (Horizon at reach, 16)
unfolding be64
horizon_read at reach bytes rest fits fits' spelled =
    let whole = spelled ∙ append_assoc (be64 at.0) (be64 reach.0) rest in
    let at_moment : u64_at 0 bytes ≡ at.0 = u64_spelled 0 at.0 bytes (be64 reach.0 ++ rest) fits whole in
    let at_reach : u64_at 8 bytes ≡ reach.0 = u64_spelled 8 reach.0 bytes rest fits' (ap (drop 8) whole) in
    let room : 16 ≤ length bytes = let e : length bytes ≡ 16 + length rest = ap length whole ∙ omega arith in omega arith in
    after_require (nat_le 16 (length bytes)) tt _ _ (le-leb 16 (length bytes) room)
    (λ i. Ok (Horizon (moment (at_moment i)) (moment (at_reach i)), 16))

-- bytes that begin with a record are read as it
pub record_read : (set : ℕ) (event : LogEvent) (spelling bytes rest : List ℕ) → IsRecord set event spelling → bytes ≡ spelling ++ rest
    → record_in set bytes ≡ Ok (event, length spelling)
record_read set (Block opens owner addr first last at) spelling bytes rest is whole =
    let event : LogEvent = Block opens owner addr first last at in
    let size : 34 ≡ length spelling = sym (ap length is.spelled ∙ block_len opens owner addr first last at) in
    subst (λ (n : ℕ). record_in n bytes ≡ Ok (event, length spelling)) is.of_set
    (block_read opens owner addr first last at bytes rest is.fits (whole ∙ ap (λ s. s ++ rest) is.spelled)
    ∙ ap (λ (n : ℕ). Ok (event, n)) size)
record_read set (Horizon at reach) spelling bytes rest is whole =
    let size : 16 ≡ length spelling = sym (ap length is.spelled ∙ horizon_len at.0 reach.0) in
    subst (λ (n : ℕ). record_in n bytes ≡ Ok (Horizon at reach, length spelling)) is.of_set
    (horizon_read at reach bytes rest is.fits.0 is.fits.1 (whole ∙ ap (λ s. s ++ rest) is.spelled) ∙ ap (λ (n : ℕ). Ok (Horizon at reach, n)) size)
record_read set (Plan at spec) spelling bytes rest is whole =
    let (field, spells, e) = is.spelled in
    subst (λ (n : ℕ). record_in n bytes ≡ Ok (Plan at spec, length spelling)) is.of_set
    (plan_read at spec field bytes rest is.fits.0 is.fits.1 spells (whole ∙ ap (λ s. s ++ rest) e)
    ∙ ap (λ (s : List ℕ). Ok (Plan at spec, length s)) (sym e))

-- ---- the answers of a reader

not_found : (r : Refusable (LogEvent × ℕ)) (event : LogEvent) (len : ℕ) → r ≡ Err tt → r ≡ found event len → ⊥
not_found r event len h g = cc

-- an answer that is what is read accepts what is spelled
pub accepted : (set : ℕ) (bytes : List ℕ) (answer : Result (LogEvent × ℕ) EventBad) → ReadsAs answer (record_in set bytes)
    → AcceptsRecords set bytes answer
accepted set bytes (Ok answer) reads event spelling rest is whole =
    let (e, size) = same_found answer.0 event answer.1 (length spelling) (sym reads ∙ record_read set event spelling bytes rest is whole) in
    inl (λ i. Ok (e i, size i))
accepted set bytes (Err NotOurs) reads event spelling rest is whole =
    absurd (not_found (record_in set bytes) event (length spelling) reads (record_read set event spelling bytes rest is whole))
accepted set bytes (Err NoMemory) reads event spelling rest is whole = inr refl

-- and tells only what is spelled
pub told : (set : ℕ) (bytes : List ℕ) (answer : Result (LogEvent × ℕ) EventBad) → IsBytes bytes → ReadsAs answer (record_in set bytes)
    → IfOk answer (λ r. BeginsWithRecord set bytes r.0 r.1)
told set bytes (Ok found) fits reads = record_spelled set bytes found.0 found.1 fits reads
told set bytes (Err bad) fits reads = tt

-- ---- what is written reads back

-- what is written is a record of its set
pub record_written : (event : LogEvent) → FitsRecord event → IsRecord (set_of event) event (event_record event)
record_written (Block opens owner addr first last at) fits = record { of_set = refl; fits = fits; spelled = refl }
record_written (Horizon at reach) fits = record { of_set = refl; fits = fits; spelled = refl }
record_written (Plan at spec) fits =
    record { of_set = refl; fits = fits; spelled = (variable (text_of spec), variable_spells (text_of spec), refl) }
  where
    variable_spells : (text : List ℕ) → SpellsField text (variable text)
    variable_spells text = elim (cases_lt (length text) 255) [
      | inl short ↦ rw (lt-ltb (length text) 255 short) (inl (short, refl))
      | inr long ↦ rw (le-ltb (length text) 255 long) (inr refl)
    ]

pub reads_back : (event : LogEvent) → ReadsBack event
reads_back event fits rest = record_read (set_of event) event (event_record event) (event_record event ++ rest) rest (record_written event fits) refl

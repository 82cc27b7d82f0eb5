-- Log messages: what is read is spelled so, what is spelled is read, and what is written reads back.
use Rattle.std.proofs.Common.{◌≡◌, ℕ, zero, suc, ◌/◌, ◌%◌, ◌^◌, ◌<◌, Bool, true, List, [], ◌∷◌, ◌++◌, length, drop, refl, sym, ap, ◌∙◌, subst}
use Rattle.std.proofs.Common.{arith, append_assoc, inl, inr}
use Rattle.std.specs.Prelude.{◌&&◌, ◌==◌, nat_lt, bytes_eq, filter, flat_map, All, IsTrue, Ok}
use Rattle.std.specs.List.{AllByRecursion, list_all}
use Rattle.std.proofs.lemmas.Bool.{and_parts, and_from, cases_Bool, eqb-true, eq-eqb, ltb-true, lt-ltb}
use Rattle.std.proofs.lemmas.List.{append-nil, drop_at, length-append}
use Rattle.std.proofs.lemmas.List.Elements.{All-head, All-tail, All-filter, filter_passes}
use Rattle.std.proofs.lemmas.Slice.Eq.{bytes_eq-Decides}
use Rattle.aftr_base.specs.Attempt.{◌>>◌, require}
use Rattle.aftr_base.specs.Bytes.{IsBytes, u16_at}
use Rattle.aftr_base.specs.Telling.{is_horizon, is_plan_event, is_block, in_message_order}
use Rattle.aftr_base.proofs.OctetLaws.{fits_drop, u16_below, u32_below}
use Rattle.aftr_base.specs.declared.event.LogEvent.{LogEvent}
use Rattle.aftr_base.specs.declared.event.LogEvent.TheVariants.{Block, Horizon, Plan}
use Rattle.ipfix_writer.specs.Grammar.{IpfixHead, IpfixSet, IpfixMessage, set_bytes, sets_bytes, head_bytes, message_len, message_bytes}
use Rattle.ipfix_writer.specs.Grammar.{is_set_id, first_set, sets_within, message_of, FitsHead, FitsSet, SpellsMessage}
use Rattle.ipfix_writer.proofs.GrammarLaws.{message_read, head_is, sets_is, head_length, set_length}
use Rattle.nat_events.specs.Spelling.{event_record, set_of, templates, set_with, sets_with, message}
use Rattle.nat_events.specs.Grammar.{FitsRecord, IsRecord, AreRecords, IsBody, IsOptional, TellsInSets, IsLogMessage, FitsLogMessage}
use Rattle.nat_events.specs.Reading.{shortest_of, is_message, begins_with_templates, events_in_sets, events_of}
use Rattle.nat_events.proofs.Attempts.{require_taken, after_require}
use Rattle.nat_events.proofs.RecordLaws.{record_written}
use Rattle.nat_events.proofs.BodyLaws.{shortest_some}
use Rattle.nat_events.proofs.SetLaws.{HaveBytes, sets_have_bytes, sets_spelled, sets_read, templates_spelled, templates_read}

-- ---- which bytes are a message

message_length : (m : IpfixMessage) → length (message_bytes m) ≡ message_len m
message_length m =
    omega (arith, length-append (head_bytes (message_len m) m.head) (sets_bytes m.sets), head_length (message_len m) m.head)

-- identifiers that are in use and have their width
abbrev HasId : IpfixSet → Type 0
HasId s = IsTrue (is_set_id s.id) × (s.id < 2 ^ 16)

-- sets that are short enough together are so one by one
sets_fit : (sets : List IpfixSet) → length (sets_bytes sets) < 2 ^ 16 → AllByRecursion HasId sets → AllByRecursion FitsSet sets
sets_fit [] short ids = tt
sets_fit (s ∷ sets) short ids =
    let all = length-append (set_bytes s) (sets_bytes sets) in
    let len = set_length s in
    (record { used = ids.0.0; id = ids.0.1; len = omega arith }, sets_fit sets (omega arith) ids.1)

-- the identifiers that are read have two bytes
ids_read : (n : ℕ) (bytes : List ℕ) → IsBytes bytes → list_all (λ (s : IpfixSet). is_set_id s.id) (sets_within n bytes) ≡ true
    → AllByRecursion HasId (sets_within n bytes)
unfolding sets_within
ids_read zero bytes fits used = tt
ids_read (suc n) bytes fits used = elim (cases_Bool (nat_lt (length bytes) 4)) [
  | inl end ↦
      let none : sets_within (suc n) bytes ≡ [] = rw end refl in
      subst (λ (ss : List IpfixSet). AllByRecursion HasId ss) (sym none) tt
  | inr more ↦
      let some : sets_within (suc n) bytes ≡ first_set bytes ∷ sets_within n (drop (u16_at 2 bytes) bytes) = rw more refl in
      let parts = and_parts (is_set_id (u16_at 0 bytes)) (list_all (λ (s : IpfixSet). is_set_id s.id) (sets_within n (drop (u16_at 2 bytes) bytes)))
      (sym (ap (list_all (λ (s : IpfixSet). is_set_id s.id)) some) ∙ used) in
      subst (λ (ss : List IpfixSet). AllByRecursion HasId ss) (sym some)
      ((parts.0, u16_below 0 bytes fits), ids_read n (drop (u16_at 2 bytes) bytes) (fits_drop (u16_at 2 bytes) bytes fits) parts.1)
]

-- bytes that pass the test spell the message that is read of them
pub message_is : (bytes : List ℕ) → IsBytes bytes → is_message bytes ≡ true → SpellsMessage bytes (message_of bytes)
message_is bytes fits h =
    let (front, same) = and_parts (nat_lt (length bytes) (2 ^ 16) && list_all (λ (s : IpfixSet). is_set_id s.id) (message_of bytes).sets)
    (bytes_eq (message_bytes (message_of bytes)) bytes) h in
    let (short, used) = and_parts (nat_lt (length bytes) (2 ^ 16)) (list_all (λ (s : IpfixSet). is_set_id s.id) (message_of bytes).sets) front in
    let m : IpfixMessage = message_of bytes in
    let spelled : message_bytes m ≡ bytes = (bytes_eq-Decides (message_bytes m) bytes).0 same in
    let len : message_len m < 2 ^ 16 = omega (arith, ap length spelled, message_length m, ltb-true (length bytes) (2 ^ 16) short) in
    let ids : AllByRecursion HasId m.sets =
    subst (λ (ss : List IpfixSet). AllByRecursion HasId ss) (sym (sets_is bytes))
    (ids_read (length (drop 16 bytes)) (drop 16 bytes) (fits_drop 16 bytes fits)
    (sym (ap (list_all (λ (s : IpfixSet). is_set_id s.id)) (sets_is bytes)) ∙ used)) in
    record {
      fits = record {
        head = subst FitsHead (sym (head_is bytes))
            record { time = u32_below 4 bytes fits; seq = u32_below 8 bytes fits; domain = u32_below 12 bytes fits };
        sets = sets_fit m.sets (omega arith) ids;
        len = len;
      };
      spelled = sym spelled;
    }

all_used : (sets : List IpfixSet) → AllByRecursion FitsSet sets → list_all (λ (s : IpfixSet). is_set_id s.id) sets ≡ true
all_used [] fits = refl
all_used (s ∷ sets) fits = and_from (is_set_id s.id) (list_all (λ (s : IpfixSet). is_set_id s.id) sets) fits.0.used (all_used sets fits.1)

-- and every message passes it
pub is_message_from : (bytes : List ℕ) (m : IpfixMessage) → SpellsMessage bytes m → is_message bytes ≡ true
is_message_from bytes m spells =
    let read : message_of bytes ≡ m = message_read bytes m spells in
    let short : nat_lt (length bytes) (2 ^ 16) ≡ true =
    let len = spells.fits.len in lt-ltb (length bytes) (2 ^ 16) (omega (arith, ap length spells.spelled, message_length m)) in
    let used : list_all (λ (s : IpfixSet). is_set_id s.id) (message_of bytes).sets ≡ true =
    ap (λ (n : IpfixMessage). list_all (λ (s : IpfixSet). is_set_id s.id) n.sets) read ∙ all_used m.sets spells.fits.sets in
    and_from (nat_lt (length bytes) (2 ^ 16) && list_all (λ (s : IpfixSet). is_set_id s.id) (message_of bytes).sets)
    (bytes_eq (message_bytes (message_of bytes)) bytes)
    (and_from (nat_lt (length bytes) (2 ^ 16)) (list_all (λ (s : IpfixSet). is_set_id s.id) (message_of bytes).sets) short used)
    ((bytes_eq-Decides (message_bytes (message_of bytes)) bytes).1 (ap message_bytes read ∙ sym spells.spelled))

-- ---- what is read is spelled so

set_bytes_fit : (bytes : List ℕ) (m : IpfixMessage) → IsBytes bytes → bytes ≡ message_bytes m → HaveBytes m.sets
set_bytes_fit bytes m fits whole =
    let behind : drop 16 bytes ≡ sets_bytes m.sets =
    ap (drop 16) whole ∙ drop_at (head_bytes (message_len m) m.head) (sets_bytes m.sets) 16 (head_length (message_len m) m.head) in
    sets_have_bytes m.sets (subst (λ (b : List ℕ). IsBytes b) behind (fits_drop 16 bytes fits))

behind_first : (sets : List IpfixSet) → HaveBytes sets → HaveBytes (drop 1 sets)
behind_first [] fits = tt
behind_first (s ∷ sets) fits = fits.1

pub events_spelled : (count : ℕ) (bytes : List ℕ) (events : List LogEvent) → IsBytes bytes → events_of count bytes ≡ Ok events
    → IsLogMessage count events bytes
events_spelled count bytes events fits h =
    let m : IpfixMessage = message_of bytes in
    let (is, first) = require_taken (is_message bytes) tt
    (require (m.head.seq == count % 2 ^ 32 && m.head.domain == 1) tt >> (require (begins_with_templates m.sets) tt >> events_in_sets (drop 1 m.sets)))
    events h in
    let (placed, second) = require_taken (m.head.seq == count % 2 ^ 32 && m.head.domain == 1) tt
    (require (begins_with_templates m.sets) tt >> events_in_sets (drop 1 m.sets)) events first in
    let (begins, told) = require_taken (begins_with_templates m.sets) tt (events_in_sets (drop 1 m.sets)) events second in
    let (seq, domain) = and_parts (m.head.seq == count % 2 ^ 32) (m.head.domain == 1) placed in
    let spells = message_is bytes fits is in
    let sets = sets_spelled (drop 1 m.sets) events (behind_first m.sets (set_bytes_fit bytes m fits spells.spelled)) told in
    let at_seq = eqb-true m.head.seq (count % 2 ^ 32) seq in
    let at_domain = eqb-true m.head.domain 1 domain in
    let same : m ≡ record { head = record { time = m.head.time; seq = count % 2 ^ 32; domain = 1 }; sets = templates ∷ drop 1 m.sets } =
    λ i. record { head = record { time = m.head.time; seq = at_seq i; domain = at_domain i }; sets = templates_spelled m.sets begins i } in
    record {
      time = m.head.time;
      sets = templates ∷ drop 1 m.sets;
      horizons = sets.horizons;
      plans = sets.plans;
      blocks = sets.blocks;
      told = sets.told;
      in_order = sets.in_order;
      spelled = subst (λ (n : IpfixMessage). SpellsMessage bytes n) same spells;
    }

-- ---- what is spelled is read

pub events_read : (count : ℕ) (bytes : List ℕ) (events : List LogEvent) → IsLogMessage count events bytes → events_of count bytes ≡ Ok events
events_read count bytes events is =
    let head : IpfixHead = record { time = is.time; seq = count % 2 ^ 32; domain = 1 } in
    let rest : List IpfixSet = is.told.horizon_set ++ is.told.plan_set ++ is.told.block_set in
    let m : IpfixMessage = record { head = head; sets = is.sets } in
    let read : message_of bytes ≡ m = message_read bytes m is.spelled in
    let begins : begins_with_templates (message_of bytes).sets ≡ true =
    ap (λ (n : IpfixMessage). begins_with_templates n.sets) read ∙ ap begins_with_templates is.told.in_order ∙ templates_read rest in
    let placed : ((message_of bytes).head.seq == count % 2 ^ 32 && (message_of bytes).head.domain == 1) ≡ true =
    ap (λ (n : IpfixMessage). n.head.seq == count % 2 ^ 32 && n.head.domain == 1) read
    ∙ and_from (count % 2 ^ 32 == count % 2 ^ 32) (1 == 1) (eq-eqb (count % 2 ^ 32) (count % 2 ^ 32) refl) refl in
    let told : events_in_sets (drop 1 (message_of bytes).sets) ≡ Ok events =
    ap (λ (n : IpfixMessage). events_in_sets (drop 1 n.sets)) read
    ∙ ap (λ (ss : List IpfixSet). events_in_sets (drop 1 ss)) is.told.in_order
    ∙ sets_read is.horizons is.plans is.blocks rest
    (subst (λ (ss : List IpfixSet). TellsInSets is.horizons is.plans is.blocks ss) is.told.in_order is.told)
    ∙ ap Ok (sym is.in_order) in
    after_require (is_message bytes) tt
    (require ((message_of bytes).head.seq == count % 2 ^ 32 && (message_of bytes).head.domain == 1) tt
    >> (require (begins_with_templates (message_of bytes).sets) tt >> events_in_sets (drop 1 (message_of bytes).sets))) (Ok events)
    (is_message_from bytes m is.spelled)
    (after_require ((message_of bytes).head.seq == count % 2 ^ 32 && (message_of bytes).head.domain == 1) tt
    (require (begins_with_templates (message_of bytes).sets) tt >> events_in_sets (drop 1 (message_of bytes).sets)) (Ok events) placed
    (after_require (begins_with_templates (message_of bytes).sets) tt (events_in_sets (drop 1 (message_of bytes).sets)) (Ok events) begins told))

-- ---- what is written is spelled so

-- the events that pass a test stand in one set
abbrev StandIn : ℕ → (LogEvent → Bool) → Type 0
StandIn set test = (event : LogEvent) → test event ≡ true → set_of event ≡ set

records_written : (set : ℕ) (test : LogEvent → Bool) (events : List LogEvent) → StandIn set test → All FitsRecord events
    → All (λ event. test event ≡ true) events → AreRecords set events (flat_map event_record events)
records_written set test [] stand fits pass = refl
records_written set test (event ∷ events) stand fits pass =
    let here : IsRecord set event (event_record event) =
    subst (λ (n : ℕ). IsRecord n event (event_record event)) (stand event (All-head (λ event. test event ≡ true) event events pass))
    (record_written event (All-head FitsRecord event events fits)) in
    let rest = records_written set test events stand (All-tail FitsRecord event events fits) (All-tail (λ event. test event ≡ true) event events pass) in
    (event_record event, flat_map event_record events, here, rest, refl)

set_written : (set : ℕ) (test : LogEvent → Bool) (events : List LogEvent) → StandIn set test → All FitsRecord events
    → All (λ event. test event ≡ true) events → IsOptional set (shortest_of set) events (set_with set events)
set_written set test [] stand fits pass = refl
set_written set test (event ∷ events) stand fits pass =
    let records : List ℕ = flat_map event_record (event ∷ events) in
    let body : IsBody set (shortest_of set) (event ∷ events) records = record {
      records = records;
      padding = 0;
      told = records_written set test (event ∷ events) stand fits pass;
      short = shortest_some set;
      spelled = sym (append-nil records);
    } in
    (records, body, refl)

kind_written : (set : ℕ) (test : LogEvent → Bool) (events : List LogEvent) → StandIn set test → All FitsRecord events
    → IsOptional set (shortest_of set) (filter test events) (set_with set (filter test events))
kind_written set test events stand fits =
    set_written set test (filter test events) stand (All-filter test FitsRecord events fits) (filter_passes test events)

horizons_stand : StandIn 257 is_horizon
horizons_stand (Block opens owner addr first last at) h = cc
horizons_stand (Horizon at reach) h = refl
horizons_stand (Plan at spec) h = cc

plans_stand : StandIn 258 is_plan_event
plans_stand (Block opens owner addr first last at) h = cc
plans_stand (Horizon at reach) h = cc
plans_stand (Plan at spec) h = refl

blocks_stand : StandIn 256 is_block
blocks_stand (Block opens owner addr first last at) h = refl
blocks_stand (Horizon at reach) h = cc
blocks_stand (Plan at spec) h = cc

have_id : (set : ℕ) (events : List LogEvent) (rest : List IpfixSet) → IsTrue (is_set_id set) → set < 2 ^ 16
    → AllByRecursion HasId rest → AllByRecursion HasId (set_with set events ++ rest)
have_id set [] rest used small ids = ids
have_id set (event ∷ events) rest used small ids = ((used, small), ids)

ids_written : (events : List LogEvent) → AllByRecursion HasId (templates ∷ sets_with events)
ids_written events =
    let h_set : List IpfixSet = set_with 257 (filter is_horizon events) in
    let p_set : List IpfixSet = set_with 258 (filter is_plan_event events) in
    let b_set : List IpfixSet = set_with 256 (filter is_block events) in
    let behind : AllByRecursion HasId (h_set ++ (p_set ++ (b_set ++ []))) =
    have_id 257 (filter is_horizon events) (p_set ++ (b_set ++ [])) refl (omega arith)
    (have_id 258 (filter is_plan_event events) (b_set ++ []) refl (omega arith) (have_id 256 (filter is_block events) [] refl (omega arith) tt)) in
    let same : h_set ++ (p_set ++ (b_set ++ [])) ≡ sets_with events =
    ap (λ t. h_set ++ (p_set ++ t)) (append-nil b_set) ∙ sym (append_assoc h_set p_set b_set) in
    ((refl, omega arith), subst (λ (ss : List IpfixSet). AllByRecursion HasId ss) same behind)

pub message_written : (at count : ℕ) (events : List LogEvent) → FitsLogMessage at count events
    → IsLogMessage count (in_message_order events) (message at count events)
message_written at count events fits =
    let m : IpfixMessage =
    record { head = record { time = at / 1000; seq = count % 2 ^ 32; domain = 1 }; sets = templates ∷ sets_with events } in
    let len : message_len m < 2 ^ 16 = let short = fits.len in omega (arith, message_length m) in
    record {
      time = at / 1000;
      sets = templates ∷ sets_with events;
      horizons = filter is_horizon events;
      plans = filter is_plan_event events;
      blocks = filter is_block events;
      told = record {
        horizon_set = set_with 257 (filter is_horizon events);
        plan_set = set_with 258 (filter is_plan_event events);
        block_set = set_with 256 (filter is_block events);
        horizon = kind_written 257 is_horizon events horizons_stand fits.each;
        one_horizon = fits.one_horizon;
        plan = kind_written 258 is_plan_event events plans_stand fits.each;
        one_plan = fits.one_plan;
        each_block = kind_written 256 is_block events blocks_stand fits.each;
        in_order = refl;
      };
      in_order = refl;
      spelled = record {
        fits = record {
          head = record { time = fits.time; seq = omega arith; domain = omega arith };
          sets = sets_fit (templates ∷ sets_with events) (omega arith) (ids_written events);
          len = len;
        };
        spelled = refl;
      };
    }

pub message_reads_back : (at count : ℕ) (events : List LogEvent) → FitsLogMessage at count events
    → events_of count (message at count events) ≡ Ok (in_message_order events)
message_reads_back at count events fits =
    events_read count (message at count events) (in_message_order events) (message_written at count events fits)

-- What a batch's body is: the frame of its message.
use Rattle.std.proofs.Common.{◌≡◌, ℕ, ◌+◌, ◌<◌, ◌≤◌, ◌^◌, Bool, true, false, cond, List, [], ◌∷◌, ◌++◌, length, filter, refl, sym, ap, ◌∙◌, subst, arith, length-append, append_assoc, append-nil}
use Rattle.std.specs.Prelude.{flat_map, Vec, vec_capacity}
use Rattle.std.specs.declared.alloc.Global.{Global}
use Rattle.std.proofs.lemmas.List.Elements.{All-push, filter-append}
use Rattle.std.proofs.lemmas.List.Concat.{flat_map-append}
use Rattle.aftr_base.specs.Bytes.{be16, be32, be64}
use Rattle.aftr_base.specs.Telling.{is_horizon, is_plan_event, is_block}
use Rattle.aftr_base.specs.declared.event.LogEvent.{LogEvent}
use Rattle.aftr_base.specs.declared.event.LogEvent.TheVariants.{Block, Horizon, Plan}
use Rattle.disk_journal.specs.Frames.{body_of, IsBody, IsMessage}
use Rattle.disk_journal.proofs.Spellings.{is_body}
use Rattle.ipfix_writer.specs.Grammar.{IpfixHead, IpfixSet, IpfixMessage, set_bytes, sets_bytes, head_bytes, message_bytes, message_len}
use Rattle.nat_events.specs.Grammar.{FitsRecord, FitsLogMessage}
use Rattle.nat_events.specs.Spelling.{event_record, set_with, sets_with, templates, template_set, message}
use Rattle.lease_log.specs.Batch.{Batch, batch_body, IsWithinLimits}
use Rattle.lease_log.specs.Prepared.{records, size_of, with_record, room_for, IsPrepared, set_of_records, head_at, sets_of_records, message_with}
use Rattle.lease_log.specs.declared.batch.Sets.{Sets}
use Rattle.lease_log.proofs.RecordSizes.{set_sizes}

-- ---- sets

pub set_size : (id : ℕ) (records : List ℕ) → 0 < length records → length (sets_bytes (set_of_records id records)) ≡ 4 + length records
unfolding be16
set_size id [] some = absurd (omega arith)
set_size id (b ∷ bytes) some = omega (arith, length-append bytes [])

-- the records of events are some where the events are
set_of_event : (id : ℕ) (e : LogEvent) (rest : List ℕ)
    → set_of_records id (event_record e ++ rest) ≡ record { id = id; body = event_record e ++ rest } ∷ []
unfolding be64
set_of_event id (Block opens owner addr first last at) rest = refl
set_of_event id (Horizon at reach) rest = refl
set_of_event id (Plan at spec) rest = refl

set_of_events : (id : ℕ) (events : List LogEvent) → set_of_records id (flat_map event_record events) ≡ set_with id events
set_of_events id [] = refl
set_of_events id (e ∷ events) = set_of_event id e (flat_map event_record events)

sets_of_events : (sets : Sets) (events : List LogEvent) → sets.horizon ≡ records is_horizon events → sets.plan ≡ records is_plan_event events
    → sets.blocks ≡ records is_block events → sets_of_records sets ≡ sets_with events
sets_of_events sets events horizon plan blocks =
    let h = ap (set_of_records 257) horizon ∙ set_of_events 257 (filter is_horizon events) in
    let p = ap (set_of_records 258) plan ∙ set_of_events 258 (filter is_plan_event events) in
    let b = ap (set_of_records 256) blocks ∙ set_of_events 256 (filter is_block events) in
    rw (h, p, b) refl

-- ---- the body

pub body_spelled : (at count : ℕ) (events : List LogEvent) (sets : Sets) (body : Vec ℕ Global) → IsPrepared at events sets body
    → body_of (message_bytes (message_with at count sets)) ≡ batch_body record { at = at; count = count; events = events }
body_spelled at count events sets body is =
    ap (λ (l : List IpfixSet). body_of (message_bytes record { head = head_at at count; sets = templates ∷ l }))
    (sets_of_events sets events is.horizon is.plan is.blocks)

pub short : (at : ℕ) (events : List LogEvent) (sets : Sets) (body : Vec ℕ Global) → IsPrepared at events sets body → room_for (size_of sets) < 2 ^ 16
short at events sets body is =
    let s = set_sizes events is.limits is.each in
    omega (arith, s.horizon, s.plan, s.blocks, ap length is.horizon, ap length is.plan, ap length is.blocks)

template_len : length template_set ≡ 68
unfolding be16 be32
template_len = refl

head_len : (len : ℕ) (h : IpfixHead) → length (head_bytes len h) ≡ 16
unfolding be16 be32
head_len len h = refl

sets_size : (xs ys : List IpfixSet) → length (sets_bytes (xs ++ ys)) ≡ length (sets_bytes xs) + length (sets_bytes ys)
sets_size xs ys = ap length (flat_map-append set_bytes xs ys) ∙ length-append (sets_bytes xs) (sets_bytes ys)

-- the length of the message, as its parts
pub len_of_parts : (at count : ℕ) (s : Sets) (h p b : ℕ) → h ≡ length (sets_bytes (set_of_records 257 s.horizon))
    → p ≡ length (sets_bytes (set_of_records 258 s.plan)) → b ≡ length (sets_bytes (set_of_records 256 s.blocks))
    → 84 + h + p + b ≡ message_len (message_with at count s)
len_of_parts at count s h p b is_h is_p is_b =
    let hs = set_of_records 257 s.horizon in
    let ps = set_of_records 258 s.plan in
    let bs = set_of_records 256 s.blocks in
    omega (arith, is_h, is_p, is_b, length-append template_set (sets_bytes (hs ++ ps ++ bs)), template_len, sets_size (hs ++ ps) bs, sets_size hs ps)

pub message_size : (m : IpfixMessage) → length (message_bytes m) ≡ message_len m
message_size m = omega (arith, length-append (head_bytes (message_len m) m.head) (sets_bytes m.sets), head_len (message_len m) m.head)

-- what was written, part by part
pub body_of_parts : (at count len : ℕ) (s : Sets) (none : List ℕ) → none ≡ [] → len ≡ message_len (message_with at count s)
    → (none ++ be32 len ++ head_bytes len (head_at at count) ++ template_set ++ sets_bytes (set_of_records 257 s.horizon)
    ++ sets_bytes (set_of_records 258 s.plan) ++ sets_bytes (set_of_records 256 s.blocks) ++ 0 ∷ [])
    ≡ body_of (message_bytes (message_with at count s))
body_of_parts at count len s none is_none is_len =
    let m = message_with at count s in
    let h = head_at at count in
    let hs = set_of_records 257 s.horizon in
    let ps = set_of_records 258 s.plan in
    let bs = set_of_records 256 s.blocks in
    let all : sets_bytes (hs ++ ps ++ bs) ≡ sets_bytes hs ++ sets_bytes ps ++ sets_bytes bs =
    flat_map-append set_bytes (hs ++ ps) bs ∙ ap (λ (l : List ℕ). l ++ sets_bytes bs) (flat_map-append set_bytes hs ps) in
    parts none (be32 len) (head_bytes len h) template_set (sets_bytes hs) (sets_bytes ps) (sets_bytes bs) (0 ∷ []) is_none
    ∙ ap (λ (l : List ℕ). be32 len ++ (head_bytes len h ++ (template_set ++ l)) ++ 0 ∷ []) (sym all)
    ∙ ap (λ (n : ℕ). be32 len ++ (head_bytes n h ++ sets_bytes m.sets) ++ 0 ∷ []) is_len
    ∙ ap (λ (n : ℕ). be32 n ++ message_bytes m ++ 0 ∷ []) (is_len ∙ sym (message_size m))
  where
    parts : (none b h t x y z e : List ℕ) → none ≡ [] → (none ++ b ++ h ++ t ++ x ++ y ++ z ++ e) ≡ b ++ (h ++ (t ++ (x ++ y ++ z))) ++ e
    parts none b h t x y z e is = ap (λ (l : List ℕ). l ++ b ++ h ++ t ++ x ++ y ++ z ++ e) is ∙ simp append_assoc

-- ---- one event more

one_more : (kind : LogEvent → Bool) (events : List LogEvent) (e : LogEvent)
    → records kind (events ++ e ∷ []) ≡ records kind events ++ records kind (e ∷ [])
one_more kind events e =
    ap (flat_map event_record) (filter-append kind events (e ∷ [])) ∙ flat_map-append event_record (filter kind events) (filter kind (e ∷ []))

of_kind : (kind : LogEvent → Bool) (e : LogEvent) → kind e ≡ true → records kind (e ∷ []) ≡ event_record e
of_kind kind e h = ap (λ (b : Bool). flat_map event_record (cond b (e ∷ []) [])) h ∙ append-nil (event_record e)

of_another : (kind : LogEvent → Bool) (e : LogEvent) → kind e ≡ false → records kind (e ∷ []) ≡ []
of_another kind e h = ap (λ (b : Bool). flat_map event_record (cond b (e ∷ []) [])) h

put_more : (kind : LogEvent → Bool) (events : List LogEvent) (e : LogEvent) (bytes more : List ℕ) → kind e ≡ true → bytes ≡ records kind events
    → more ≡ event_record e → bytes ++ more ≡ records kind (events ++ e ∷ [])
put_more kind events e bytes more is same record_is =
    rw (same, record_is) (sym (one_more kind events e ∙ ap (λ (l : List ℕ). records kind events ++ l) (of_kind kind e is)))

put_none : (kind : LogEvent → Bool) (events : List LogEvent) (e : LogEvent) (bytes : List ℕ) → kind e ≡ false → bytes ≡ records kind events
    → bytes ≡ records kind (events ++ e ∷ [])
put_none kind events e bytes isnt same =
    same ∙ sym (one_more kind events e ∙ ap (λ (l : List ℕ). records kind events ++ l) (of_another kind e isnt) ∙ append-nil (records kind events))

-- the sets with the record of one event more are those of the events and it
pub record IsPutIn (events : List LogEvent) (e : LogEvent) (now : Sets) : Type 0 where
  pub horizon : now.horizon ≡ records is_horizon (events ++ e ∷ [])
  pub plan : now.plan ≡ records is_plan_event (events ++ e ∷ [])
  pub blocks : now.blocks ≡ records is_block (events ++ e ∷ [])

put_in : (at : ℕ) (events : List LogEvent) (e : LogEvent) (sets : Sets) (body : Vec ℕ Global) (more : List ℕ) → IsPrepared at events sets body
    → more ≡ event_record e → IsPutIn events e (with_record e more sets)
put_in at events (Block opens owner addr first last at') sets body more is same =
    let e = Block opens owner addr first last at' in
    record {
      horizon = put_none is_horizon events e sets.horizon refl is.horizon;
      plan = put_none is_plan_event events e sets.plan refl is.plan;
      blocks = put_more is_block events e sets.blocks more refl is.blocks same;
    }
put_in at events (Horizon at' reach) sets body more is same =
    let e = Horizon at' reach in
    record {
      horizon = put_more is_horizon events e sets.horizon more refl is.horizon same;
      plan = put_none is_plan_event events e sets.plan refl is.plan;
      blocks = put_none is_block events e sets.blocks refl is.blocks;
    }
put_in at events (Plan at' spec) sets body more is same =
    let e = Plan at' spec in
    record {
      horizon = put_none is_horizon events e sets.horizon refl is.horizon;
      plan = put_more is_plan_event events e sets.plan more refl is.plan same;
      blocks = put_none is_block events e sets.blocks refl is.blocks;
    }

size_with : (e : LogEvent) (more : List ℕ) (s : Sets) → size_of (with_record e more s) ≡ size_of s + length more
size_with (Block opens owner addr first last at) more s = omega (arith, length-append s.blocks more)
size_with (Horizon at reach) more s = omega (arith, length-append s.horizon more)
size_with (Plan at spec) more s = omega (arith, length-append s.plan more)

pub prepared_more : (at : ℕ) (events : List LogEvent) (e : LogEvent) (sets : Sets) (body body' : Vec ℕ Global) (more : List ℕ)
    → IsPrepared at events sets body
    → IsWithinLimits (events ++ e ∷ [])
    → FitsRecord e
    → more ≡ event_record e
    → room_for (size_of sets) + length more ≤ vec_capacity body'
    → IsPrepared at (events ++ e ∷ []) (with_record e more sets) body'
prepared_more at events e sets body body' more is limits fits same room =
    let put = put_in at events e sets body more is same in
    record {
      in_time = is.in_time;
      limits = limits;
      each = All-push FitsRecord events e is.each fits;
      horizon = put.horizon;
      plan = put.plan;
      blocks = put.blocks;
      room = omega (arith, room, size_with e more sets);
    }

-- ---- the message fits

set_most : (id : ℕ) (bytes : List ℕ) → length (sets_bytes (set_of_records id bytes)) ≤ 4 + length bytes
set_most id [] = omega arith
set_most id (b ∷ bytes) = omega (arith, set_size id (b ∷ bytes) (omega arith))

pub message_fits : (at count : ℕ) (events : List LogEvent) (sets : Sets) (body : Vec ℕ Global) → IsPrepared at events sets body
    → FitsLogMessage at count events
message_fits at count events sets body is =
    let s = set_sizes events is.limits is.each in
    let m = message_with at count sets in
    let same : message_bytes m ≡ message at count events =
    ap (λ (l : List IpfixSet). message_bytes record { head = head_at at count; sets = templates ∷ l }) (sets_of_events sets events is.horizon is.plan is.blocks) in
    let len = len_of_parts at count sets _ _ _ refl refl refl in
    record {
      time = omega (arith, is.in_time);
      each = is.each;
      one_horizon = is.limits.horizons;
      one_plan = is.limits.plans;
      len = omega (
        arith,
        ap length (sym same),
        message_size m,
        len,
        set_most 257 sets.horizon,
        set_most 258 sets.plan,
        set_most 256 sets.blocks,
        s.horizon,
        s.plan,
        s.blocks,
        ap length is.horizon,
        ap length is.plan,
        ap length is.blocks,
      );
    }

pub message_in_range : (at count : ℕ) (events : List LogEvent) → FitsLogMessage at count events → IsMessage (message at count events)
message_in_range at count events fits =
    let m : IpfixMessage = record { head = head_at at count; sets = templates ∷ sets_with events } in
    record { least = omega (arith, message_size m); most = omega (arith, fits.len) }

pub batch_is_body : (batch : Batch) → FitsLogMessage batch.at batch.count batch.events → IsBody (batch_body batch)
batch_is_body batch fits = is_body (message batch.at batch.count batch.events) (message_in_range batch.at batch.count batch.events fits)

-- ---- what was written

pub written : {at count : ℕ} {events : List LogEvent} {sets : Sets} {body : Vec ℕ Global} {batch : Batch} {slice items : List ℕ}
    → IsPrepared at events sets body
    → (let here : Batch = record { at = at; count = count; events = events } in here ≡ batch)
    → slice ≡ items
    → items ≡ body_of (message_bytes (message_with at count sets))
    → slice ≡ batch_body batch
written {at} {count} {events} {sets} {body} is here same bytes = same ∙ bytes ∙ body_spelled at count events sets body is ∙ ap batch_body here

pub fits : {at count : ℕ} {events : List LogEvent} {sets : Sets} {body : Vec ℕ Global} {batch : Batch}
    → IsPrepared at events sets body
    → (let here : Batch = record { at = at; count = count; events = events } in here ≡ batch)
    → FitsLogMessage batch.at batch.count batch.events
fits {at} {count} {events} {sets} {body} is here =
    subst (λ (b : Batch). FitsLogMessage b.at b.count b.events) here (message_fits at count events sets body is)

-- the room that was asked for, and what was put in
pub event_put : {at : ℕ} {events events' : List LogEvent} {e copy : LogEvent} {sets sets' : Sets} {body body' : Vec ℕ Global} {none more : List ℕ}
    → IsPrepared at events sets body
    → IsWithinLimits (events ++ e ∷ [])
    → FitsRecord copy
    → copy ≡ e
    → none ≡ []
    → more ≡ none ++ event_record e
    → room_for (size_of sets) + length more ≤ vec_capacity body'
    → events' ≡ events ++ copy ∷ []
    → sets' ≡ with_record e more sets
    → IsPrepared at events' sets' body'
event_put {at} {events} {events'} {e} {copy} {sets} {sets'} {body} {body'} {none} {more} is limits fits same is_none is_more room is_events is_sets =
    let record_is : more ≡ event_record e = is_more ∙ ap (λ (l : List ℕ). l ++ event_record e) is_none in
    let all : events' ≡ events ++ e ∷ [] = is_events ∙ ap (λ (x : LogEvent). events ++ x ∷ []) same in
    let made = prepared_more at events e sets body body' more is limits (subst FitsRecord same fits) record_is room in
    subst (λ (s : Sets). IsPrepared at events' s body') (sym is_sets)
    (subst (λ (l : List LogEvent). IsPrepared at l (with_record e more sets) body') (sym all) made)

-- Reading log messages: the events that a message tells behind so many records, or that it is none.
use Rattle.std.specs.Prelude.{ℕ, zero, suc, ◌+◌, ◌-◌, ◌*◌, ◌%◌, ◌^◌, Bool, true, false, not, ◌&&◌, ◌==◌, nat_le, nat_lt, List, [], ◌∷◌, ◌++◌, length, take, drop, map, slice_range, slice_get, fold, take_while, bytes_eq, Option, Some, None, unwrap_or, ok_or, Result, Ok, Err, ⊤, ◌≡◌, ◌≤◌, if◌then◌else◌}
use Rattle.std.specs.List.{list_all, slice_split}
use Rattle.aftr_base.specs.Attempt.{◌>>=◌, ◌>>◌, require}
use Rattle.aftr_base.specs.Value.{ip4, moment}
use Rattle.aftr_base.specs.Bytes.{u8_at, u16_at, u32_at, u64_at, u128_at}
use Rattle.aftr_base.specs.Plan.{prefix4, prefix6, is_plan}
use Rattle.aftr_base.specs.declared.value.Prefix4.{Prefix4}
use Rattle.aftr_base.specs.declared.value.Prefix6.{Prefix6}
use Rattle.aftr_base.specs.declared.row.PlanSpec.{PlanSpec}
use Rattle.aftr_base.specs.declared.event.LogEvent.{LogEvent}
use Rattle.aftr_base.specs.declared.event.LogEvent.TheVariants.{Block, Horizon, Plan}
use Rattle.ipfix_writer.specs.Grammar.{IpfixHead, IpfixSet, is_set_id, message_bytes, message_of}
use Rattle.nat_events.specs.PlanText.{plan_text}
use Rattle.nat_events.specs.declared.bad.EventBad.{EventBad}
use Rattle.nat_events.specs.declared.bad.EventBad.TheVariants.{NotOurs, NoMemory}
use Rattle.nat_events.specs.Spelling.{templates}

abbrev pub Refusable : Type 0 → Type 0
Refusable A = Result A (Unit {0})

-- ---- the text of a plan: what it would spell, if it spells it

-- the number that decimal digits spell, in 16 bits, and that hexadecimal digits spell, in 128
abbrev pub value10 : List ℕ → ℕ
value10 digits = fold (λ n d. (10 * n + (d - 48)) % 2 ^ 16) 0 digits

abbrev pub hex_value : ℕ → ℕ
hex_value d = (if nat_lt d 97 then d - 48 else d - 87) % 16

abbrev pub value16 : List ℕ → ℕ
value16 digits = fold (λ n d. 16 * (n % 2 ^ 124) + hex_value d) 0 digits

-- a word has so many hexadecimal digits, one further letter, and decimal digits
abbrev pub prefix4_in : List ℕ → Prefix4
prefix4_in word = prefix4 (value16 (take 8 word) % 2 ^ 32) (value10 (drop 9 word) % 2 ^ 8)

abbrev pub prefix6_in : List ℕ → Prefix6
prefix6_in word = prefix6 (value16 (take 32 word)) (value10 (drop 33 word) % 2 ^ 8)

abbrev pub is_p : List ℕ → Bool
is_p word = bytes_eq word (112 ∷ [])

abbrev pub word_at : ℕ → List (List ℕ) → List ℕ
word_at k words = unwrap_or (slice_get words k) []

-- from the fifth word on stand the aggregates, up to the letter p, and behind it the pool
abbrev pub aggregates_in : List (List ℕ) → List (List ℕ)
aggregates_in words = take_while (λ (w : List ℕ). not (is_p w)) (drop 4 words)

abbrev pub pool_in : List (List ℕ) → List (List ℕ)
pool_in words = drop (length (aggregates_in words) + 1) (drop 4 words)

abbrev pub plan_in : List (List ℕ) → PlanSpec
plan_in words = record {
  subscriber_len = value10 (word_at 0 words) % 2 ^ 8;
  block_size = value10 (word_at 1 words);
  ratio = value10 (word_at 2 words);
  aggregates = map prefix6_in (aggregates_in words);
  pool = map prefix4_in (pool_in words);
}

-- the words of a text, between its spaces
abbrev pub words_of : List ℕ → List (List ℕ)
words_of text = slice_split (λ b. b == 32) text

-- the plan has this text, of 4,096 bytes at most, and values that a plan may have
abbrev pub is_plan_of_text : List ℕ → PlanSpec → Bool
is_plan_of_text text p = nat_le (length text) 4096 && bytes_eq (plan_text p) text && is_plan p

abbrev pub plan_with_text : List ℕ → PlanSpec → Option PlanSpec
plan_with_text text p = if is_plan_of_text text p then Some p else None

-- the plan whose text this is
unfoldable pub plan_of_text : List ℕ → Option PlanSpec
plan_of_text text = plan_with_text text (plan_in (words_of text))

-- the answer is the plan that is read, or none where none is, but for want of memory
abbrev pub IsPlanAnswer : Result PlanSpec EventBad → Option PlanSpec → Type 0
IsPlanAnswer (Ok spec) reading = reading ≡ Some spec
IsPlanAnswer (Err NotOurs) reading = reading ≡ None
IsPlanAnswer (Err NoMemory) reading = ⊤

-- ---- the record at the front, and its length

abbrev pub opens_of : ℕ → Option Bool
opens_of n = if n == 16 then Some true else if n == 17 then Some false else None

abbrev pub block_at : List ℕ → Bool → LogEvent
block_at bytes opens =
    Block opens record { 0 = prefix6 (u128_at 9 bytes) (u8_at 25 bytes) } (ip4 (u32_at 26 bytes)) (u16_at 30 bytes)
    (u16_at 32 bytes) (moment (u64_at 0 bytes))

abbrev pub block_in : List ℕ → Refusable (LogEvent × ℕ)
block_in bytes =
    require (nat_le 34 (length bytes)) tt
    >> (ok_or (opens_of (u8_at 8 bytes)) tt >>= λ opens. Ok (block_at bytes opens, 34))

abbrev pub horizon_in : List ℕ → Refusable (LogEvent × ℕ)
horizon_in bytes =
    require (nat_le 16 (length bytes)) tt >> Ok (Horizon (moment (u64_at 0 bytes)) (moment (u64_at 8 bytes)), 16)

-- where the text begins, and how many bytes it has (RFC 7011 7)
abbrev pub text_start : List ℕ → ℕ
text_start bytes = if u8_at 8 bytes == 255 then 11 else 9

abbrev pub text_len : List ℕ → ℕ
text_len bytes = if u8_at 8 bytes == 255 then u16_at 9 bytes else u8_at 8 bytes

abbrev pub text_end : List ℕ → ℕ
text_end bytes = text_start bytes + text_len bytes

-- the empty text closes
abbrev pub spec_of_text : List ℕ → Refusable (Option PlanSpec)
spec_of_text [] = Ok None
spec_of_text (b ∷ text) = ok_or (plan_of_text (b ∷ text)) tt >>= λ p. Ok (Some p)

abbrev pub IsSpecAnswer : Result (Option PlanSpec) EventBad → Refusable (Option PlanSpec) → Type 0
IsSpecAnswer (Ok spec) reading = reading ≡ Ok spec
IsSpecAnswer (Err NotOurs) reading = reading ≡ Err tt
IsSpecAnswer (Err NoMemory) reading = ⊤

-- the text begins and ends there, within the bytes
pub record IsTextPlace (bytes : List ℕ) (start end : ℕ) : Type 0 where
  pub begins : start ≡ text_start bytes
  pub ends : end ≡ text_end bytes
  pub moment : 9 ≤ start
  pub ordered : start ≤ end
  pub within : end ≤ length bytes

abbrev pub plan_record_in : List ℕ → Refusable (LogEvent × ℕ)
plan_record_in bytes =
    require (nat_le (text_end bytes) (length bytes)) tt
    >> (spec_of_text (slice_range bytes (text_start bytes) (text_end bytes))
    >>= λ spec. Ok (Plan (moment (u64_at 0 bytes)) spec, text_end bytes))

abbrev pub record_in : ℕ → List ℕ → Refusable (LogEvent × ℕ)
record_in set bytes =
    if set == 256 then block_in bytes
    else if set == 257 then horizon_in bytes
    else (require (set == 258) tt >> plan_record_in bytes)

-- the answer is the event and length that are read, or none where none are, but for want of memory
abbrev pub ReadsAs : Result (LogEvent × ℕ) EventBad → Refusable (LogEvent × ℕ) → Type 0
ReadsAs (Ok found) reading = reading ≡ Ok found
ReadsAs (Err NotOurs) reading = reading ≡ Err tt
ReadsAs (Err NoMemory) reading = ⊤

-- ---- the records of a set

-- how many bytes the set's shortest record has
abbrev pub shortest_of : ℕ → ℕ
shortest_of set = if set == 256 then 34 else if set == 257 then 16 else 9

-- how many records the set may have: one but for blocks, of which there are no more than bytes
abbrev pub most_of : ℕ → List ℕ → ℕ
most_of set body = if set == 256 then length body else 1

-- zeros, fewer than the shortest record has bytes (RFC 7011 3.3.1)
abbrev pub is_padding : ℕ → List ℕ → Bool
is_padding shortest bytes = nat_lt (length bytes) shortest && list_all (λ b. b == 0) bytes

-- at most n records, and then padding
abbrev pub records_in : ℕ → ℕ → List ℕ → Refusable (List LogEvent)
records_in set zero bytes = require (is_padding (shortest_of set) bytes) tt >> Ok []
records_in set (suc n) bytes =
    if is_padding (shortest_of set) bytes then Ok []
    else record_in set bytes >>= λ first. records_in set n (drop first.1 bytes) >>= λ more. Ok (first.0 ∷ more)

-- a set has a record
abbrev pub events_in_body : ℕ → List ℕ → Refusable (List LogEvent)
events_in_body set body =
    require (not (is_padding (shortest_of set) body)) tt >> records_in set (most_of set body) body

-- ---- messages

-- the set of this number, if it stands at the front, and the sets behind it
abbrev pub optional_set : ℕ → List IpfixSet → Refusable (List LogEvent × List IpfixSet)
optional_set id [] = Ok ([], [])
optional_set id (s ∷ sets) =
    if s.id == id then (events_in_body id s.body >>= λ events. Ok (events, sets)) else Ok ([], s ∷ sets)

-- from the set at one index, where it has this number, to the next index: its events are behind those that were there
abbrev pub ReadsOn : List IpfixSet → ℕ → ℕ → ℕ → List LogEvent → List LogEvent → Type 0
ReadsOn sets at next set old new =
    (events : List LogEvent) × (optional_set set (drop at sets) ≡ Ok (events, drop next sets)) × (new ≡ old ++ events)

-- a horizon, a plan and blocks, in this order
abbrev pub events_in_sets : List IpfixSet → Refusable (List LogEvent)
events_in_sets sets = do
  horizons ← optional_set 257 sets
  plans ← optional_set 258 horizons.1
  blocks ← optional_set 256 plans.1
  require (length blocks.1 == 0) tt
  Ok (horizons.0 ++ plans.0 ++ blocks.0)

-- the bytes are the message that would be read of them (RFC 7011 3.1)
abbrev pub is_message : List ℕ → Bool
is_message bytes =
    nat_lt (length bytes) (2 ^ 16) && list_all (λ (s : IpfixSet). is_set_id s.id) (message_of bytes).sets
    && bytes_eq (message_bytes (message_of bytes)) bytes

abbrev pub begins_with_templates : List IpfixSet → Bool
begins_with_templates [] = false
begins_with_templates (s ∷ sets) = s.id == 2 && bytes_eq s.body templates.body

-- behind so many records, in the one domain
abbrev pub is_in_place : ℕ → IpfixHead → Bool
is_in_place count h = h.seq == count % 2 ^ 32 && h.domain == 1

-- The events of a message behind so many records. Any export time is accepted.
abbrev pub events_of : ℕ → List ℕ → Refusable (List LogEvent)
events_of count bytes = do
  require (is_message bytes) tt
  require (is_in_place count (message_of bytes).head) tt
  require (begins_with_templates (message_of bytes).sets) tt
  events_in_sets (drop 1 (message_of bytes).sets)

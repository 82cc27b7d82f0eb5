-- How many bytes records have, and that a message with a batch's events isn't too long.
use Rattle.std.proofs.Common.{◌≡◌, ℕ, ◌+◌, ◌*◌, ◌≤◌, Bool, true, false, cond, List, [], ◌∷◌, ◌++◌, length, filter, All, refl, arith, length-append}
use Rattle.std.specs.Prelude.{Some, None, flat_map, nat_lt}
use Rattle.std.proofs.lemmas.List.Elements.{All-head, All-tail}
use Rattle.aftr_base.specs.Bytes.{be16, be32, be64, be128}
use Rattle.aftr_base.specs.Telling.{is_horizon, is_plan_event, is_block}
use Rattle.aftr_base.specs.declared.event.LogEvent.{LogEvent}
use Rattle.aftr_base.specs.declared.event.LogEvent.TheVariants.{Block, Horizon, Plan}
use Rattle.nat_events.specs.Grammar.{FitsRecord}
use Rattle.nat_events.specs.Spelling.{event_record, event_number, text_of, variable, short_field, long_field}
use Rattle.lease_log.specs.Batch.{IsWithinLimits}
use Rattle.lease_log.specs.Prepared.{records}

-- ---- one record

block_size : (bits len addr first last at number : ℕ)
    → length (be64 at ++ number ∷ (be128 bits ++ len ∷ (be32 addr ++ be16 first ++ be16 last))) ≡ 34
unfolding be16 be32 be64 be128
block_size bits len addr first last at number = refl

horizon_size : (at reach : ℕ) → length (be64 at ++ be64 reach) ≡ 16
unfolding be64
horizon_size at reach = refl

plan_size : (at : ℕ) (text : List ℕ) → length (be64 at ++ text) ≡ 8 + length text
unfolding be64
plan_size at text = omega arith

long_size : (text : List ℕ) → length (long_field text) ≡ 3 + length text
unfolding be16
long_size text = omega arith

field_by : (text : List ℕ) (b : Bool) → length (cond b (short_field text) (long_field text)) ≤ 3 + length text
field_by text true = omega arith
field_by text false = omega (arith, long_size text)

pub block_most : (e : LogEvent) → FitsRecord e → is_block e ≡ true → length (event_record e) ≤ 34
block_most (Block opens owner addr first last at) fits h =
    omega (arith, block_size owner.0.bits.0 owner.0.len addr.0 first last at.0 (event_number opens))
block_most (Horizon at reach) fits h = cc
block_most (Plan at spec) fits h = cc

pub horizon_most : (e : LogEvent) → FitsRecord e → is_horizon e ≡ true → length (event_record e) ≤ 16
horizon_most (Block opens owner addr first last at) fits h = cc
horizon_most (Horizon at reach) fits h = omega (arith, horizon_size at.0 reach.0)
horizon_most (Plan at spec) fits h = cc

pub plan_most : (e : LogEvent) → FitsRecord e → is_plan_event e ≡ true → length (event_record e) ≤ 4107
plan_most (Block opens owner addr first last at) fits h = cc
plan_most (Horizon at reach) fits h = cc
plan_most (Plan at None) fits h = omega (arith, plan_size at.0 (variable []), field_by [] (nat_lt 0 255))
plan_most (Plan at (Some spec)) fits h =
    let text = text_of (Some spec) in
    omega (arith, plan_size at.0 (variable text), field_by text (nat_lt (length text) 255), fits.1.1)

pub record_most : (e : LogEvent) → FitsRecord e → length (event_record e) ≤ 4107
record_most (Block opens owner addr first last at) fits = omega (arith, block_most (Block opens owner addr first last at) fits refl)
record_most (Horizon at reach) fits = omega (arith, horizon_most (Horizon at reach) fits refl)
record_most (Plan at spec) fits = plan_most (Plan at spec) fits refl

-- ---- the records of one kind

kept_by : (most : ℕ) (e : LogEvent) (b : Bool) (kept : List LogEvent) → (b ≡ true → length (event_record e) ≤ most)
    → length (flat_map event_record kept) ≤ most * length kept
    → length (flat_map event_record (cond b (e ∷ kept) kept)) ≤ most * length (cond b (e ∷ kept) kept)
kept_by most e true kept here rest = omega (arith, here refl, rest, length-append (event_record e) (flat_map event_record kept))
kept_by most e false kept here rest = rest

records_most : (most : ℕ) (kind : LogEvent → Bool) → ((e : LogEvent) → FitsRecord e → kind e ≡ true → length (event_record e) ≤ most)
    → (events : List LogEvent) → All FitsRecord events → length (records kind events) ≤ most * length (filter kind events)
records_most most kind each [] all = omega arith
records_most most kind each (e ∷ events) all =
    kept_by most e (kind e) (filter kind events) (each e (All-head FitsRecord e events all))
    (records_most most kind each events (All-tail FitsRecord e events all))

-- within the limits
pub record SetSizes (events : List LogEvent) : Type 0 where
  pub horizon : length (records is_horizon events) ≤ 16
  pub plan : length (records is_plan_event events) ≤ 4107
  pub blocks : length (records is_block events) ≤ 43520

pub set_sizes : (events : List LogEvent) → IsWithinLimits events → All FitsRecord events → SetSizes events
set_sizes events limits all = record {
  horizon = omega (arith, limits.horizons, records_most 16 is_horizon horizon_most events all);
  plan = omega (arith, limits.plans, records_most 4107 is_plan_event plan_most events all);
  blocks = omega (arith, limits.blocks, records_most 34 is_block block_most events all);
}

-- What a log message bounds: each of its events takes eight bytes at least, and each event fits a record.
use Rattle.std.proofs.Common.{◌≡◌, ℕ, ◌+◌, ◌*◌, ◌%◌, ◌^◌, ◌<◌, ◌≤◌, List, [], ◌∷◌, ◌++◌, length, replicate, All, refl, sym, ap, subst, arith, length-append, zero-add}
use Rattle.std.proofs.lemmas.List.Elements.{All-append, All-nil, All-cons}
use Rattle.aftr_base.specs.Bytes.{be16, be32, be64, be128}
use Rattle.aftr_base.specs.declared.event.LogEvent.{LogEvent}
use Rattle.aftr_base.specs.declared.event.LogEvent.TheVariants.{Block, Horizon, Plan}
use Rattle.ipfix_writer.specs.Grammar.{IpfixSet, IpfixMessage, set_bytes, sets_bytes, head_bytes, message_len}
use Rattle.nat_events.specs.Grammar.{IsLogMessage, IsOptional, AreRecords, FitsRecord, SpellsEvent}
use Rattle.nat_events.specs.Spelling.{templates, event_number}

fitting_records : (set : ℕ) (events : List LogEvent) (bytes : List ℕ) → AreRecords set events bytes → All FitsRecord events
fitting_records set [] bytes told = All-nil FitsRecord
fitting_records set (e ∷ events) bytes told = All-cons FitsRecord e events told.2.fits (fitting_records set events told.1 told.3)

length-be64 : (n : ℕ) → length (be64 n) ≡ 8
unfolding be64
length-be64 n = refl

some_bytes : (e : LogEvent) (bytes : List ℕ) → SpellsEvent e bytes → 8 ≤ length bytes
some_bytes (Block opens owner addr first last at) bytes is =
    omega (arith, ap length is, length-append (be64 at.0) (event_number opens ∷ (be128 owner.0.bits.0 ++ owner.0.len ∷ (be32 addr.0 ++ be16 first ++ be16 last))), length-be64 at.0)
some_bytes (Horizon at reach) bytes is = omega (arith, ap length is, length-append (be64 at.0) (be64 reach.0), length-be64 at.0)
some_bytes (Plan at spec) bytes is = omega (arith, ap length is.2, length-append (be64 at.0) is.0, length-be64 at.0)

count_records : (set : ℕ) (events : List LogEvent) (bytes : List ℕ) → AreRecords set events bytes → 8 * length events ≤ length bytes
count_records set [] bytes told = omega arith
count_records set (e ∷ events) bytes told =
    omega (arith, ap length told.4, length-append told.0 told.1, some_bytes e told.0 told.2.spelled, count_records set events told.1 told.3)

flat_length : (xs ys : List IpfixSet) → length (sets_bytes (xs ++ ys)) ≡ length (sets_bytes xs) + length (sets_bytes ys)
flat_length [] ys = sym (zero-add (length (sets_bytes ys)))
flat_length (x ∷ xs) ys =
    omega (arith, length-append (set_bytes x) (sets_bytes (xs ++ ys)), length-append (set_bytes x) (sets_bytes xs), flat_length xs ys)

optional : (set shortest : ℕ) (events : List LogEvent) (sets : List IpfixSet) → IsOptional set shortest events sets
    → All FitsRecord events × (8 * length events ≤ length (sets_bytes sets))
optional set shortest [] sets is = (All-nil FitsRecord, omega arith)
optional set shortest (e ∷ events) sets is =
    let body = is.0 in
    let b = is.1 in
    let s : IpfixSet = record { id = set; body = body } in
    let front : List ℕ = be16 set ++ be16 (4 + length body) in (
      fitting_records set (e ∷ events) b.records b.told,
      omega (
        arith,
        ap (λ (l : List IpfixSet). length (sets_bytes l)) is.2,
        length-append (set_bytes s) [],
        length-append front body,
        ap length b.spelled,
        length-append b.records (replicate b.padding 0),
        count_records set (e ∷ events) b.records b.told,
      ),
    )

pub message_bounds : (count : ℕ) (events : List LogEvent) (bytes : List ℕ) → IsLogMessage count events bytes
    → All FitsRecord events × (8 * length events ≤ length bytes)
message_bounds count events bytes is =
    let t = is.told in
    let h = optional 257 16 is.horizons t.horizon_set t.horizon in
    let p = optional 258 9 is.plans t.plan_set t.plan in
    let b = optional 256 34 is.blocks t.block_set t.each_block in
    let m : IpfixMessage = record { head = record { time = is.time; seq = count % 2 ^ 32; domain = 1 }; sets = is.sets } in
    let rest : List IpfixSet = t.horizon_set ++ t.plan_set ++ t.block_set in (
      subst (All FitsRecord) (sym is.in_order)
          (All-append FitsRecord (is.horizons ++ is.plans) is.blocks (All-append FitsRecord is.horizons is.plans h.0 p.0) b.0),
      omega (
        arith,
        ap length is.in_order,
        length-append (is.horizons ++ is.plans) is.blocks,
        length-append is.horizons is.plans,
        h.1,
        p.1,
        b.1,
        ap length is.spelled.spelled,
        length-append (head_bytes (message_len m) m.head) (sets_bytes is.sets),
        ap (λ (l : List IpfixSet). length (sets_bytes l)) t.in_order,
        length-append (set_bytes templates) (sets_bytes rest),
        flat_length (t.horizon_set ++ t.plan_set) t.block_set,
        flat_length t.horizon_set t.plan_set,
      ),
    )

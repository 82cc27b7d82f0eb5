-- The bytes of a block's record, and what is read of them.
use Rattle.std.proofs.Common.{◌≡◌, ℕ, ◌+◌, ◌≤◌, Bool, true, false, List, ◌∷◌, ◌++◌, length, drop, refl, ap, ◌∙◌}
use Rattle.std.proofs.Common.{arith, append_assoc, Some}
use Rattle.std.specs.Prelude.{slice_index, Ok}
use Rattle.std.proofs.lemmas.Bool.{le-leb}
use Rattle.std.proofs.lemmas.List.{drop_more}
use Rattle.aftr_base.specs.Value.{ip4, moment}
use Rattle.aftr_base.specs.Plan.{prefix6}
use Rattle.aftr_base.specs.Bytes.{u8_at, u16_at, u32_at, u64_at, u128_at, be16, be32, be64, be128, IsBytes}
use Rattle.aftr_base.proofs.OctetLaws.{u16_spelled, u32_spelled, u128_spelled, u16_read, u32_read, u128_read, u16_below, u32_below, u128_below}
use Rattle.aftr_base.specs.declared.value.Moment.{Moment}
use Rattle.aftr_base.specs.declared.value.Ip4.{Ip4}
use Rattle.aftr_base.specs.declared.value.Subscriber.{Subscriber}
use Rattle.aftr_base.specs.declared.event.LogEvent.TheVariants.{Block}
use Rattle.nat_events.specs.Spelling.{event_number, event_record}
use Rattle.nat_events.specs.Grammar.{FitsBlock}
use Rattle.nat_events.specs.Reading.{opens_of, block_at, block_in}
use Rattle.nat_events.proofs.Octets.{u64_spelled, u64_read, u64_below}

-- ---- natEvent

pub number_opens : (opens : Bool) → opens_of (event_number opens) ≡ Some opens
number_opens true = refl
number_opens false = refl

pub opens_number : (n : ℕ) (opens : Bool) → opens_of n ≡ Some opens → n ≡ event_number opens
opens_number n opens h = grind arith

-- ---- what is read is spelled so

pub block_fits : (bytes : List ℕ) → IsBytes bytes
    → FitsBlock (record { 0 = prefix6 (u128_at 9 bytes) (u8_at 25 bytes) }) (ip4 (u32_at 26 bytes)) (u16_at 30 bytes)
    (u16_at 32 bytes) (moment (u64_at 0 bytes))
block_fits bytes fits = record {
  moment = u64_below 0 bytes fits;
  prefix = u128_below 9 bytes fits;
  prefix_len = fits 25;
  address = u32_below 26 bytes fits;
  first_port = u16_below 30 bytes fits;
  last_port = u16_below 32 bytes fits;
}

pub block_again : (bytes : List ℕ) (opens : Bool) → IsBytes bytes → 34 ≤ length bytes → u8_at 8 bytes ≡ event_number opens
    → bytes ≡ event_record (block_at bytes opens) ++ drop 34 bytes
block_again bytes opens fits room number =
    let at : List ℕ = be64 (u64_at 0 bytes) in
    let bits : List ℕ = be128 (u128_at 9 bytes) in
    let addr : List ℕ = be32 (u32_at 26 bytes) in
    let first : List ℕ = be16 (u16_at 30 bytes) in
    u64_read 0 bytes fits (omega arith)
    ∙ ap (λ t. at ++ t) (drop_more bytes 8 0 (omega arith)
    ∙ ap (λ n. n ∷ drop 9 bytes) number
    ∙ ap (λ t. event_number opens ∷ t) (u128_read 9 bytes fits (omega arith)
    ∙ ap (λ t. bits ++ t) (drop_more bytes 25 0 (omega arith)
    ∙ ap (λ t. u8_at 25 bytes ∷ t) (u32_read 26 bytes fits (omega arith)
    ∙ ap (λ t. addr ++ t) (u16_read 30 bytes fits (omega arith)
    ∙ ap (λ t. first ++ t) (u16_read 32 bytes fits (omega arith)))))))
    ∙ simp append_assoc

-- ---- what is spelled is read back

in_a_row : (at bits addr first last rest : List ℕ) (number len : ℕ)
    → at ++ number ∷ (bits ++ len ∷ (addr ++ first ++ last)) ++ rest
    ≡ at ++ (number ∷ (bits ++ (len ∷ (addr ++ (first ++ (last ++ rest))))))
in_a_row at bits addr first last rest number len = simp append_assoc

block_from : (bytes : List ℕ) (opens : Bool) → 34 ≤ length bytes → opens_of (u8_at 8 bytes) ≡ Some opens
    → block_in bytes ≡ Ok (block_at bytes opens, 34)
block_from bytes opens room number = rw (le-leb 34 (length bytes) room, number) refl

pub block_read : (opens : Bool) (owner : Subscriber) (addr : Ip4) (first last : ℕ) (at : Moment) (bytes rest : List ℕ)
    → FitsBlock owner addr first last at → bytes ≡ event_record (Block opens owner addr first last at) ++ rest
    → block_in bytes ≡ Ok (Block opens owner addr first last at, 34)
unfolding be16 be32 be64 be128
block_read opens owner addr first last at bytes rest fits spelled =
    let whole = spelled ∙ in_a_row (be64 at.0) (be128 owner.0.bits.0) (be32 addr.0) (be16 first) (be16 last) rest
    (event_number opens) owner.0.len in
    let at_moment : u64_at 0 bytes ≡ at.0 = u64_spelled 0 at.0 bytes _ fits.moment whole in
    let at_number : u8_at 8 bytes ≡ event_number opens = ap (λ b. slice_index b 8) whole in
    let at_bits : u128_at 9 bytes ≡ owner.0.bits.0 = u128_spelled 9 owner.0.bits.0 bytes _ fits.prefix (ap (drop 9) whole) in
    let at_len : u8_at 25 bytes ≡ owner.0.len = ap (λ b. slice_index b 25) whole in
    let at_addr : u32_at 26 bytes ≡ addr.0 = u32_spelled 26 addr.0 bytes _ fits.address (ap (drop 26) whole) in
    let at_first : u16_at 30 bytes ≡ first = u16_spelled 30 first bytes _ fits.first_port (ap (drop 30) whole) in
    let at_last : u16_at 32 bytes ≡ last = u16_spelled 32 last bytes rest fits.last_port (ap (drop 32) whole) in
    let room : 34 ≤ length bytes = let e : length bytes ≡ 34 + length rest = ap length whole ∙ omega arith in omega arith in
    block_from bytes opens room (ap opens_of at_number ∙ number_opens opens)
    ∙ λ i. Ok (
      Block opens record { 0 = prefix6 (at_bits i) (at_len i) } (ip4 (at_addr i)) (at_first i) (at_last i) (moment (at_moment i)),
      34,
    )

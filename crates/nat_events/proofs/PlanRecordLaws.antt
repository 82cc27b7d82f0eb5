-- The bytes of a plan's record, and what is read of them.
use Rattle.std.proofs.Common.{◌≡◌, ℕ, ◌+◌, ◌-◌, ◌^◌, ◌≤◌, ◌<◌, List, [], ◌∷◌, ◌++◌, length, take, drop, refl, sym, ap, ◌∙◌, subst}
use Rattle.std.proofs.Common.{arith, append_assoc, inl, inr, Option, Some, None, nat_le}
use Rattle.std.specs.Prelude.{slice_index, slice_range, Ok, ok_or}
use Rattle.std.proofs.lemmas.Bool.{le-leb, eq-eqb, ne_eqb, cases_eq}
use Rattle.std.proofs.lemmas.List.{take_at, drop_more, take-append-drop, drop-drop, length-take-le, length-drop, length-append}
use Rattle.aftr_base.specs.Value.{moment}
use Rattle.aftr_base.specs.Bytes.{u8_at, u16_at, u64_at, be16, be64, IsBytes}
use Rattle.aftr_base.proofs.OctetLaws.{u16_spelled, u16_read}
use Rattle.aftr_base.specs.declared.value.Moment.{Moment}
use Rattle.aftr_base.specs.declared.row.PlanSpec.{PlanSpec}
use Rattle.aftr_base.specs.declared.event.LogEvent.TheVariants.{Plan}
use Rattle.nat_events.specs.Spelling.{text_of, long_field}
use Rattle.nat_events.specs.Grammar.{FitsSpec, SpellsField}
use Rattle.nat_events.specs.Reading.{plan_of_text, spec_of_text, text_start, text_len, text_end, plan_record_in}
use Rattle.nat_events.proofs.Attempts.{bind_taken, ok_or_taken, after_require, after_bind}
use Rattle.nat_events.proofs.Octets.{u64_spelled, u64_read}
use Rattle.nat_events.proofs.PlanTextLaws.{plan_text_read, plan_text_is, plan_text_some}

-- ---- the text

-- a text that is read is the text of what it is read as
pub spec_spelled : (text : List ℕ) (spec : Option PlanSpec) → spec_of_text text ≡ Ok spec → (text_of spec ≡ text) × FitsSpec spec
spec_spelled [] spec h = let e : spec ≡ None = cc in subst (λ (s : Option PlanSpec). (text_of s ≡ []) × FitsSpec s) (sym e) (refl, tt)
spec_spelled (b ∷ text) spec h =
    let (p, found, same) = bind_taken (ok_or (plan_of_text (b ∷ text)) tt) (λ p. Ok (Some p)) spec h in
    let facts = plan_text_is (b ∷ text) p (ok_or_taken (plan_of_text (b ∷ text)) tt p found) in
    let e : spec ≡ Some p = cc in
    subst (λ (s : Option PlanSpec). (text_of s ≡ b ∷ text) × FitsSpec s) (sym e) (facts.0, (facts.1, facts.2))

-- and the text of a plan is read as it
pub spec_read : (spec : Option PlanSpec) → FitsSpec spec → spec_of_text (text_of spec) ≡ Ok spec
spec_read None fits = refl
spec_read (Some p) fits =
    let (b, text, e) = plan_text_some p fits.0 in
    let read : plan_of_text (b ∷ text) ≡ Some p = ap plan_of_text (sym e) ∙ plan_text_read p fits.0 fits.1 in
    ap spec_of_text e ∙ rw read refl

pub text_short : (spec : Option PlanSpec) → FitsSpec spec → length (text_of spec) ≤ 4096
text_short None fits = omega arith
text_short (Some p) fits = fits.1

-- ---- the field of variable length

-- where the length takes one byte
short_parts : (bytes : List ℕ) (k : ℕ) → u8_at 8 bytes ≡ k → (k ≡ 255 → ⊥)
    → (text_start bytes ≡ 9) × (text_len bytes ≡ k)
short_parts bytes k at ne =
    let off = ne_eqb (u8_at 8 bytes) 255 (λ e. ne (sym at ∙ e)) in
    (rw off refl, rw off at)

long_parts : (bytes : List ℕ) → u8_at 8 bytes ≡ 255 → (text_start bytes ≡ 11) × (text_len bytes ≡ u16_at 9 bytes)
long_parts bytes at = let on = eq-eqb (u8_at 8 bytes) 255 at in (rw on refl, rw on refl)

range_is : (bytes : List ℕ) (i j n : ℕ) → j ≡ i + n → slice_range bytes i j ≡ take n (drop i bytes)
range_is bytes i j n e = let len : j - i ≡ n = omega arith in ap (λ k. take k (drop i bytes)) len

-- the text of a record that is read, its field, and what follows
pub record PlanParts (bytes text rest : List ℕ) : Type 0 where
  pub field : List ℕ
  pub spelled : SpellsField text field
  pub whole : bytes ≡ be64 (u64_at 0 bytes) ++ field ++ rest

in_a_row : (at field rest : List ℕ) → at ++ field ++ rest ≡ at ++ (field ++ rest)
in_a_row at field rest = append_assoc at field rest

pub plan_again : (bytes : List ℕ) → IsBytes bytes → text_end bytes ≤ length bytes
    → PlanParts bytes (slice_range bytes (text_start bytes) (text_end bytes)) (drop (text_end bytes) bytes)
plan_again bytes fits room = elim (cases_eq (u8_at 8 bytes) 255) [
  | inl at ↦
      let parts = long_parts bytes at in
      let n : ℕ = u16_at 9 bytes in
      let end : text_end bytes ≡ 11 + n = ap (λ (k : ℕ). k + text_len bytes) parts.0 ∙ ap (λ (k : ℕ). 11 + k) parts.1 in
      let text : List ℕ = take n (drop 11 bytes) in
      let text_is : slice_range bytes (text_start bytes) (text_end bytes) ≡ text =
      ap (λ (k : ℕ). slice_range bytes k (text_end bytes)) parts.0 ∙ range_is bytes 11 (text_end bytes) n end in
      let within : 11 + n ≤ length bytes = omega arith in
      let len : length text ≡ n = length-take-le n (drop 11 bytes) (omega (arith, length-drop 11 bytes)) in
      let rest : drop (11 + n) bytes ≡ drop (text_end bytes) bytes = ap (λ (k : ℕ). drop k bytes) (sym end) in
      record {
        field = 255 ∷ (be16 (length text) ++ text);
        spelled = inr (ap (λ t. long_field t) (sym text_is));
        whole =
            u64_read 0 bytes fits (omega arith)
            ∙ ap (λ t. be64 (u64_at 0 bytes) ++ t) (drop_more bytes 8 0 (omega arith)
            ∙ ap (λ (b : ℕ). b ∷ drop 9 bytes) at
            ∙ ap (λ t. 255 ∷ t) (u16_read 9 bytes fits (omega arith)
            ∙ ap (λ (k : ℕ). be16 k ++ drop 11 bytes) (sym len)
            ∙ ap (λ t. be16 (length text) ++ t) (sym (take-append-drop n (drop 11 bytes)) ∙ ap (λ t. text ++ t) (drop-drop n 11 bytes ∙ rest))))
            ∙ simp append_assoc;
      }
  | inr ne ↦
      let n : ℕ = u8_at 8 bytes in
      let parts = short_parts bytes n refl ne in
      let end : text_end bytes ≡ 9 + n = ap (λ (k : ℕ). k + text_len bytes) parts.0 ∙ ap (λ (k : ℕ). 9 + k) parts.1 in
      let text : List ℕ = take n (drop 9 bytes) in
      let text_is : slice_range bytes (text_start bytes) (text_end bytes) ≡ text =
      ap (λ (k : ℕ). slice_range bytes k (text_end bytes)) parts.0 ∙ range_is bytes 9 (text_end bytes) n end in
      let within : 9 + n ≤ length bytes = omega arith in
      let len : length text ≡ n = length-take-le n (drop 9 bytes) (omega (arith, length-drop 9 bytes)) in
      let small : n < 255 = omega (arith, fits 8) in
      let short : length text < 255 = omega arith in
      let rest : drop (9 + n) bytes ≡ drop (text_end bytes) bytes = ap (λ (k : ℕ). drop k bytes) (sym end) in
      record {
        field = length text ∷ text;
        spelled = subst (λ (t : List ℕ). SpellsField t (length text ∷ text)) (sym text_is) (inl (short, refl));
        whole =
            u64_read 0 bytes fits (omega arith)
            ∙ ap (λ t. be64 (u64_at 0 bytes) ++ t) (drop_more bytes 8 0 (omega arith)
            ∙ ap (λ (k : ℕ). k ∷ drop 9 bytes) (sym len)
            ∙ ap (λ t. length text ∷ t) (sym (take-append-drop n (drop 9 bytes)) ∙ ap (λ t. text ++ t) (drop-drop n 9 bytes ∙ rest)))
            ∙ simp append_assoc;
      }
]

-- ---- what is spelled is read back

plan_from : (bytes text : List ℕ) (spec : Option PlanSpec) (at end : ℕ) → text_end bytes ≡ end → end ≤ length bytes
    → slice_range bytes (text_start bytes) (text_end bytes) ≡ text → spec_of_text text ≡ Ok spec → u64_at 0 bytes ≡ at
    → plan_record_in bytes ≡ Ok (Plan (moment at) spec, end)
plan_from bytes text spec at end ends room is read moments =
    after_require (nat_le (text_end bytes) (length bytes)) tt _ _ (le-leb (text_end bytes) (length bytes) (omega arith))
    (after_bind (spec_of_text (slice_range bytes (text_start bytes) (text_end bytes)))
    (λ s. Ok (Plan (moment (u64_at 0 bytes)) s, text_end bytes)) spec _ (ap spec_of_text is ∙ read)
    (λ i. Ok (Plan (moment (moments i)) spec, ends i)))

-- the length of a record with this field
pub plan_len : (at : ℕ) (field : List ℕ) → length (be64 at ++ field) ≡ 8 + length field
unfolding be64
plan_len at field = omega arith

short_read : (at : ℕ) (text bytes rest : List ℕ) (spec : Option PlanSpec) → at < 2 ^ 64 → length text < 255
    → spec_of_text text ≡ Ok spec → bytes ≡ be64 at ++ (length text ∷ (text ++ rest))
    → plan_record_in bytes ≡ Ok (Plan (moment at) spec, 9 + length text)
unfolding be64
short_read at text bytes rest spec fits short read whole =
    let n : ℕ = length text in
    let at_len : u8_at 8 bytes ≡ n = ap (λ b. slice_index b 8) whole in
    let parts = short_parts bytes n at_len (λ e. absurd (omega arith)) in
    let end : text_end bytes ≡ 9 + n = ap (λ (k : ℕ). k + text_len bytes) parts.0 ∙ ap (λ (k : ℕ). 9 + k) parts.1 in
    let room : 9 + n ≤ length bytes = let e : length bytes ≡ 9 + (length text + length rest) = ap length whole ∙ omega (arith, length-append text rest) in omega arith in
    let text_is : slice_range bytes (text_start bytes) (text_end bytes) ≡ text =
    ap (λ (k : ℕ). slice_range bytes k (text_end bytes)) parts.0 ∙ range_is bytes 9 (text_end bytes) n end
    ∙ ap (λ b. take n (drop 9 b)) whole ∙ take_at text rest n refl in
    plan_from bytes text spec at (9 + n) end room text_is read (u64_spelled 0 at bytes _ fits whole)

long_read : (at : ℕ) (text bytes rest : List ℕ) (spec : Option PlanSpec) → at < 2 ^ 64 → length text < 2 ^ 16
    → spec_of_text text ≡ Ok spec → bytes ≡ be64 at ++ (255 ∷ (be16 (length text) ++ (text ++ rest)))
    → plan_record_in bytes ≡ Ok (Plan (moment at) spec, 11 + length text)
unfolding be16 be64
long_read at text bytes rest spec fits short read whole =
    let n : ℕ = length text in
    let at_mark : u8_at 8 bytes ≡ 255 = ap (λ b. slice_index b 8) whole in
    let at_len : u16_at 9 bytes ≡ n = u16_spelled 9 n bytes (text ++ rest) short (ap (drop 9) whole) in
    let parts = long_parts bytes at_mark in
    let end : text_end bytes ≡ 11 + n = ap (λ (k : ℕ). k + text_len bytes) parts.0 ∙ ap (λ (k : ℕ). 11 + k) (parts.1 ∙ at_len) in
    let room : 11 + n ≤ length bytes = let e : length bytes ≡ 11 + (length text + length rest) = ap length whole ∙ omega (arith, length-append text rest) in omega arith in
    let text_is : slice_range bytes (text_start bytes) (text_end bytes) ≡ text =
    ap (λ (k : ℕ). slice_range bytes k (text_end bytes)) parts.0 ∙ range_is bytes 11 (text_end bytes) n end
    ∙ ap (λ b. take n (drop 11 b)) whole ∙ take_at text rest n refl in
    plan_from bytes text spec at (11 + n) end room text_is read (u64_spelled 0 at bytes _ fits whole)

-- bytes that begin with a plan's record are read as it
pub plan_read : (at : Moment) (spec : Option PlanSpec) (field bytes rest : List ℕ) → at.0 < 2 ^ 64 → FitsSpec spec
    → SpellsField (text_of spec) field → bytes ≡ be64 at.0 ++ field ++ rest
    → plan_record_in bytes ≡ Ok (Plan at spec, length (be64 at.0 ++ field))
unfolding be16 be64
plan_read at spec field bytes rest moments fits spells whole =
    let text : List ℕ = text_of spec in
    let few = text_short spec fits in
    let read = spec_read spec fits in
    elim spells [
      | inl (short, e) ↦
          let len : 9 + length text ≡ length (be64 at.0 ++ field) = sym (ap (λ f. length (be64 at.0 ++ f)) e ∙ omega arith) in
          short_read at.0 text bytes rest spec moments short read (whole ∙ ap (λ f. be64 at.0 ++ f ++ rest) e ∙ simp append_assoc)
          ∙ ap (λ (k : ℕ). Ok (Plan at spec, k)) len
      | inr e ↦
          let len : 11 + length text ≡ length (be64 at.0 ++ field) = sym (ap (λ f. length (be64 at.0 ++ f)) e ∙ omega arith) in
          long_read at.0 text bytes rest spec moments (omega arith) read (whole ∙ ap (λ f. be64 at.0 ++ f ++ rest) e ∙ simp append_assoc)
          ∙ ap (λ (k : ℕ). Ok (Plan at spec, k)) len
    ]

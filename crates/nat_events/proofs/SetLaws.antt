-- The sets of a message: what each tells, and that what is spelled is read.
use Rattle.std.proofs.Common.{◌≡◌, ℕ, ◌+◌, ◌≤◌, ◌<◌, true, List, [], ◌∷◌, ◌++◌, length, drop, refl, sym, ap, ◌∙◌, subst}
use Rattle.std.proofs.Common.{arith, append_assoc, inl, inr}
use Rattle.std.specs.Prelude.{◌==◌, bytes_eq, replicate, Ok}
use Rattle.std.proofs.lemmas.Bool.{and_parts, cases_Bool, eqb-true, eq-eqb, ne_eqb, cases_eq}
use Rattle.std.proofs.lemmas.List.{append-nil, get_or-append-add, take_at, length-append, nil_from_length}
use Rattle.std.proofs.lemmas.Slice.Eq.{bytes_eq-Decides}
use Rattle.aftr_base.specs.Attempt.{◌>>◌, ◌>>=◌, require}
use Rattle.aftr_base.specs.Bytes.{IsBytes, be16}
use Rattle.aftr_base.proofs.OctetLaws.{fits_take}
use Rattle.aftr_base.specs.declared.event.LogEvent.{LogEvent}
use Rattle.ipfix_writer.specs.Grammar.{IpfixSet, set_bytes, sets_bytes}
use Rattle.nat_events.specs.Spelling.{templates}
use Rattle.nat_events.specs.Grammar.{IsBody, IsOptional, TellsInSets}
use Rattle.nat_events.specs.Reading.{shortest_of, most_of, events_in_body, optional_set, events_in_sets, begins_with_templates, Refusable}
use Rattle.nat_events.proofs.Attempts.{require_taken, bind_taken, after_bind, one_answer}
use Rattle.nat_events.proofs.BodyLaws.{body_spelled, body_read, few_records}

-- ---- bytes of parts

fits_right : (xs ys : List ℕ) → IsBytes (xs ++ ys) → IsBytes ys
fits_right xs ys fits k = subst (λ (b : ℕ). b < 256) (get_or-append-add xs ys k 0) (fits (length xs + k))

fits_left : (xs ys : List ℕ) → IsBytes (xs ++ ys) → IsBytes xs
fits_left xs ys fits = subst (λ (b : List ℕ). IsBytes b) (take_at xs ys (length xs) refl) (fits_take (length xs) (xs ++ ys) fits)

-- each set has bytes
abbrev pub HaveBytes : List IpfixSet → Type 0
HaveBytes [] = Unit {0}
HaveBytes (s ∷ sets) = IsBytes s.body × HaveBytes sets

pub sets_have_bytes : (sets : List IpfixSet) → IsBytes (sets_bytes sets) → HaveBytes sets
sets_have_bytes [] fits = tt
sets_have_bytes (s ∷ sets) fits =
    let front : List ℕ = be16 s.id ++ be16 (4 + length s.body) in
    (fits_right front s.body (fits_left (set_bytes s) (sets_bytes sets) fits), sets_have_bytes sets (fits_right (set_bytes s) (sets_bytes sets) fits))

-- ---- an optional set

-- one but for blocks
abbrev AtMostOne : ℕ → List LogEvent → Type 0
AtMostOne id events = (id ≡ 256 → ⊥) → length events ≤ 1

-- what a set at the front tells
pub record OptionalSet (id : ℕ) (sets : List IpfixSet) (events : List LogEvent) (rest : List IpfixSet) : Type 0 where
  pub these : List IpfixSet
  pub told : IsOptional id (shortest_of id) events these
  pub few : (id ≡ 256 → ⊥) → length events ≤ 1
  pub whole : sets ≡ these ++ rest
  pub bytes : HaveBytes rest

one_set : (id : ℕ) (body : List ℕ) (events : List LogEvent) → 0 < length events → IsBody id (shortest_of id) events body
    → IsOptional id (shortest_of id) events (record { id = id; body = body } ∷ [])
one_set id body [] some is = absurd (omega arith)
one_set id body (event ∷ events) some is = (body, is, refl)

not_many : (id : ℕ) (body : List ℕ) (n : ℕ) → n ≤ most_of id body → (id ≡ 256 → ⊥) → n ≤ 1
not_many id body n few ne = let most : most_of id body ≡ 1 = rw (ne_eqb id 256 ne) refl in omega arith

abbrev answer : List LogEvent → List IpfixSet → Refusable (List LogEvent × List IpfixSet)
answer events rest = Ok (events, rest)

same_answer : (a b : List LogEvent) (r s : List IpfixSet) → answer a r ≡ answer b s → (a ≡ b) × (r ≡ s)
same_answer a b r s h =
    let e : (a, r) ≡ (b, s) = cc in
    (ap (λ (p : List LogEvent × List IpfixSet). p.0) e, ap (λ (p : List LogEvent × List IpfixSet). p.1) e)

pub optional_spelled : (id : ℕ) (sets : List IpfixSet) (events : List LogEvent) (rest : List IpfixSet) → HaveBytes sets
    → optional_set id sets ≡ Ok (events, rest) → OptionalSet id sets events rest
optional_spelled id [] events rest fits h =
    let (e, r) = same_answer [] events [] rest h in
    subst (λ (es : List LogEvent). OptionalSet id [] es rest) e
    record { these = []; told = refl; few = λ ne. omega arith; whole = r; bytes = subst HaveBytes r tt }
optional_spelled id (s ∷ sets) events rest fits h = elim (cases_Bool (s.id == id)) [
  | inl here ↦
      let step : (events_in_body id s.body >>= λ events. Ok (events, sets)) ≡ Ok (events, rest) = rw here at h in
      let (found, told, same) = bind_taken (events_in_body id s.body) (λ (events : List LogEvent). Ok (events, sets)) (events, rest) step in
      let (e, r) = same_answer found events sets rest same in
      let (is, few, some) = body_spelled id s.body found fits.0 told in
      let number = eqb-true s.id id here in
      let this : s ≡ record { id = id; body = s.body } = λ i. record { id = number i; body = s.body } in
      subst (λ (es : List LogEvent). OptionalSet id (s ∷ sets) es rest) e
      record {
        these = record { id = id; body = s.body } ∷ [];
        told = one_set id s.body found some is;
        few = not_many id s.body (length found) few;
        whole = ap (λ (t : IpfixSet). t ∷ sets) this ∙ ap (λ (t : List IpfixSet). record { id = id; body = s.body } ∷ t) r;
        bytes = subst HaveBytes r fits.1;
      }
  | inr other ↦
      let same : answer [] (s ∷ sets) ≡ answer events rest = rw other at h in
      let (e, r) = same_answer [] events (s ∷ sets) rest same in
      subst (λ (es : List LogEvent). OptionalSet id (s ∷ sets) es rest) e
      record { these = []; told = refl; few = λ ne. omega arith; whole = r; bytes = subst HaveBytes r fits }
]

-- the set at the front has another number
abbrev pub Without : ℕ → List IpfixSet → Type 0
Without id [] = Unit {0}
Without id (s ∷ sets) = s.id ≡ id → ⊥

passed_over : (id : ℕ) (sets : List IpfixSet) → Without id sets → optional_set id sets ≡ Ok ([], sets)
passed_over id [] other = refl
passed_over id (s ∷ sets) other = rw (ne_eqb s.id id other) refl

without_optional : (id other shortest : ℕ) (events : List LogEvent) (these rest : List IpfixSet) → IsOptional other shortest events these
    → (other ≡ id → ⊥) → Without id rest → Without id (these ++ rest)
without_optional id other shortest [] these rest told ne without = subst (λ (t : List IpfixSet). Without id (t ++ rest)) (sym told) without
without_optional id other shortest (event ∷ events) these rest told ne without =
    subst (λ (t : List IpfixSet). Without id (t ++ rest)) (sym told.2) ne

enough : (id : ℕ) (event : LogEvent) (events : List LogEvent) (body : List ℕ) → IsBody id (shortest_of id) (event ∷ events) body
    → ((id ≡ 256 → ⊥) → length (event ∷ events) ≤ 1) → length (event ∷ events) ≤ most_of id body
enough id event events body is few = elim (cases_eq id 256) [
  | inl e ↦
      let most : most_of id body ≡ length body = rw (eq-eqb id 256 e) refl in
      omega (arith, few_records id (event ∷ events) is.records is.told, ap length is.spelled, length-append is.records (replicate is.padding 0))
  | inr ne ↦ let most : most_of id body ≡ 1 = rw (ne_eqb id 256 ne) refl in omega (arith, few ne)
]

pub optional_read : (id : ℕ) (events : List LogEvent) (these rest : List IpfixSet) → IsOptional id (shortest_of id) events these
    → ((id ≡ 256 → ⊥) → length events ≤ 1) → Without id rest → optional_set id (these ++ rest) ≡ Ok (events, rest)
optional_read id [] these rest told few without = ap (λ t. optional_set id (t ++ rest)) told ∙ passed_over id rest without
optional_read id (event ∷ events) these rest told few without =
    let (body, is, e) = told in
    let read : events_in_body id body ≡ Ok (event ∷ events) = body_read id event events body is (enough id event events body is few) in
    ap (λ t. optional_set id (t ++ rest)) e
    ∙ rw (eq-eqb id id refl) (after_bind (events_in_body id body) (λ (events : List LogEvent). Ok (events, rest)) (event ∷ events)
    (Ok (event ∷ events, rest)) read refl)

-- ---- all sets

-- what the sets behind the templates tell
pub record SetsTold (sets : List IpfixSet) (events : List LogEvent) : Type 0 where
  pub horizons : List LogEvent
  pub plans : List LogEvent
  pub blocks : List LogEvent
  pub told : TellsInSets horizons plans blocks (templates ∷ sets)
  pub in_order : events ≡ horizons ++ plans ++ blocks

pub sets_spelled : (sets : List IpfixSet) (events : List LogEvent) → HaveBytes sets → events_in_sets sets ≡ Ok events → SetsTold sets events
sets_spelled sets events fits h =
    let (horizons, first, after) = bind_taken (optional_set 257 sets)
    (λ horizons. optional_set 258 horizons.1 >>= λ plans. optional_set 256 plans.1 >>= λ blocks. require (length blocks.1 == 0) tt >> Ok (horizons.0 ++ plans.0 ++ blocks.0))
    events h in
    let (plans, second, later) = bind_taken (optional_set 258 horizons.1)
    (λ plans. optional_set 256 plans.1 >>= λ blocks. require (length blocks.1 == 0) tt >> Ok (horizons.0 ++ plans.0 ++ blocks.0)) events after in
    let (blocks, third, last) = bind_taken (optional_set 256 plans.1)
    (λ blocks. require (length blocks.1 == 0) tt >> Ok (horizons.0 ++ plans.0 ++ blocks.0)) events later in
    let (none, same) = require_taken (length blocks.1 == 0) tt (Ok (horizons.0 ++ plans.0 ++ blocks.0)) events last in
    let h_set = optional_spelled 257 sets horizons.0 horizons.1 fits first in
    let p_set = optional_spelled 258 horizons.1 plans.0 plans.1 h_set.bytes second in
    let b_set = optional_spelled 256 plans.1 blocks.0 blocks.1 p_set.bytes third in
    let end : blocks.1 ≡ [] = nil_from_length blocks.1 (eqb-true (length blocks.1) 0 none) in
    let b_all : plans.1 ≡ b_set.these = b_set.whole ∙ ap (λ t. b_set.these ++ t) end ∙ append-nil b_set.these in
    let all : sets ≡ h_set.these ++ p_set.these ++ b_set.these =
    h_set.whole ∙ ap (λ t. h_set.these ++ t) (p_set.whole ∙ ap (λ t. p_set.these ++ t) b_all) ∙ sym (append_assoc h_set.these p_set.these b_set.these) in
    record {
      horizons = horizons.0;
      plans = plans.0;
      blocks = blocks.0;
      told = record {
        horizon_set = h_set.these;
        plan_set = p_set.these;
        block_set = b_set.these;
        horizon = h_set.told;
        one_horizon = h_set.few (λ e. absurd (omega arith));
        plan = p_set.told;
        one_plan = p_set.few (λ e. absurd (omega arith));
        each_block = b_set.told;
        in_order = ap (λ t. templates ∷ t) all;
      };
      in_order = sym (one_answer (Ok events) (horizons.0 ++ plans.0 ++ blocks.0) events (sym same) refl);
    }

pub sets_read : (horizons plans blocks : List LogEvent) (sets : List IpfixSet) → TellsInSets horizons plans blocks (templates ∷ sets)
    → events_in_sets sets ≡ Ok (horizons ++ plans ++ blocks)
sets_read horizons plans blocks sets told =
    let all : sets ≡ told.horizon_set ++ (told.plan_set ++ (told.block_set ++ [])) =
    ap (drop 1) told.in_order ∙ append_assoc told.horizon_set told.plan_set told.block_set
    ∙ ap (λ t. told.horizon_set ++ (told.plan_set ++ t)) (sym (append-nil told.block_set)) in
    let no_plan = without_optional 257 256 34 blocks told.block_set [] told.each_block (λ e. absurd (omega arith)) tt in
    let first : optional_set 257 sets ≡ Ok (horizons, told.plan_set ++ (told.block_set ++ [])) =
    ap (optional_set 257) all ∙ optional_read 257 horizons told.horizon_set (told.plan_set ++ (told.block_set ++ [])) told.horizon (λ e. told.one_horizon)
    (without_optional 257 258 9 plans told.plan_set (told.block_set ++ []) told.plan (λ e. absurd (omega arith)) no_plan) in
    let second : optional_set 258 (told.plan_set ++ (told.block_set ++ [])) ≡ Ok (plans, told.block_set ++ []) =
    optional_read 258 plans told.plan_set (told.block_set ++ []) told.plan (λ e. told.one_plan)
    (without_optional 258 256 34 blocks told.block_set [] told.each_block (λ e. absurd (omega arith)) tt) in
    let third : optional_set 256 (told.block_set ++ []) ≡ Ok (blocks, []) =
    optional_read 256 blocks told.block_set [] told.each_block (λ e. absurd (e refl)) tt in
    after_bind (optional_set 257 sets)
    (λ horizons. optional_set 258 horizons.1 >>= λ plans. optional_set 256 plans.1 >>= λ blocks. require (length blocks.1 == 0) tt >> Ok (horizons.0 ++ plans.0 ++ blocks.0))
    (horizons, told.plan_set ++ (told.block_set ++ [])) (Ok (horizons ++ plans ++ blocks)) first
    (after_bind (optional_set 258 (told.plan_set ++ (told.block_set ++ [])))
    (λ plans. optional_set 256 plans.1 >>= λ blocks. require (length blocks.1 == 0) tt >> Ok (horizons ++ plans.0 ++ blocks.0))
    (plans, told.block_set ++ []) (Ok (horizons ++ plans ++ blocks)) second
    (after_bind (optional_set 256 (told.block_set ++ []))
    (λ blocks. require (length blocks.1 == 0) tt >> Ok (horizons ++ plans ++ blocks.0))
    (blocks, []) (Ok (horizons ++ plans ++ blocks)) third refl))

-- ---- the templates

pub templates_spelled : (sets : List IpfixSet) → begins_with_templates sets ≡ true → sets ≡ templates ∷ drop 1 sets
templates_spelled [] h = cc
templates_spelled (s ∷ sets) h =
    let (number, same) = and_parts (s.id == 2) (bytes_eq s.body templates.body) h in
    let id = eqb-true s.id 2 number in
    let body = (bytes_eq-Decides s.body templates.body).0 same in
    λ i. record { id = id i; body = body i } ∷ sets

pub templates_read : (sets : List IpfixSet) → begins_with_templates (templates ∷ sets) ≡ true
templates_read sets = (bytes_eq-Decides templates.body templates.body).1 refl

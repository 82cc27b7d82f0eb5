-- Reading a message's sets by their places.
use Rattle.std.proofs.Common.{◌≡◌, ℕ, zero, suc, ◌+◌, true, false, List, [], ◌∷◌, ◌++◌, length, take, drop, refl, sym, ap, ◌∙◌, subst, arith, append_assoc, inl, inr}
use Rattle.std.proofs.Common.{Some, None}
use Rattle.std.specs.Prelude.{Ok, Err, IsErr, IsOkAnd, ◌==◌, slice_get}
use Rattle.std.proofs.lemmas.Bool.{eq-eqb, ne_eqb, cases_Bool}
use Rattle.std.proofs.lemmas.List.{append-nil}
use Rattle.aftr_base.specs.Attempt.{◌>>=◌, ◌>>◌, require}
use Rattle.aftr_base.specs.Bytes.{IsBytes, be16, be32}
use Rattle.aftr_base.specs.declared.event.LogEvent.{LogEvent}
use Rattle.ipfix_writer.specs.Grammar.{IpfixSet, IpfixMessage, message_of, SpellsMessage}
use Rattle.ipfix_writer.proofs.GrammarLaws.{message_read}
use Rattle.nat_events.specs.Spelling.{template_set, templates}
use Rattle.nat_events.specs.Reading.{events_in_body, optional_set, events_in_sets, begins_with_templates, is_message, is_in_place, events_of, ReadsOn, Refusable}
use Rattle.nat_events.proofs.Attempts.{after_require, after_bind}
use Rattle.nat_events.proofs.MessageLaws.{message_is, is_message_from}

pub templates_behind : take 64 (drop 4 template_set) ≡ templates.body
unfolding be16 be32
templates_behind = refl

-- ---- one set

set_there : (sets : List IpfixSet) (at : ℕ) (s : IpfixSet) → slice_get sets at ≡ Some s → drop at sets ≡ s ∷ drop (suc at) sets
set_there [] at s h = cc
set_there (t ∷ sets) zero s h = let e : t ≡ s = cc in ap (λ (u : IpfixSet). u ∷ sets) e
set_there (t ∷ sets) (suc n) s h = set_there sets n s h

no_set_there : (sets : List IpfixSet) (at : ℕ) → slice_get sets at ≡ None → drop at sets ≡ []
no_set_there [] zero h = refl
no_set_there [] (suc n) h = refl
no_set_there (t ∷ sets) zero h = cc
no_set_there (t ∷ sets) (suc n) h = no_set_there sets n h

next_place : (at : ℕ) → suc at ≡ at + 1
next_place at = omega arith

ok_parts : {X : Type 0} (r : Refusable X) (P : X → Type 0) → IsOkAnd r P → (x : X) × (r ≡ Ok x) × P x
ok_parts (Ok x) P h = (x, refl, h)
ok_parts (Err e) P h = absurd h

set_here : (set at id : ℕ) (sets : List IpfixSet) (body : List ℕ) → slice_get sets at ≡ Some record { id = id; body = body } → id ≡ set
    → optional_set set (drop at sets) ≡ (events_in_body set body >>= λ events. Ok (events, drop (at + 1) sets))
set_here set at id sets body there same =
    ap (optional_set set) (set_there sets at (record { id = id; body = body }) there)
    ∙ rw (eq-eqb id set same) (ap (λ (k : ℕ). events_in_body set body >>= λ events. Ok (events, drop k sets)) (next_place at))

pub set_told : (set at id : ℕ) (sets : List IpfixSet) (body : List ℕ) (old new : List LogEvent)
    → slice_get sets at ≡ Some record { id = id; body = body } → id ≡ set
    → IsOkAnd (events_in_body set body) (λ events. new ≡ old ++ events) → ReadsOn sets at (at + 1) set old new
set_told set at id sets body old new there same told =
    let (events, read, is) = ok_parts (events_in_body set body) (λ events. new ≡ old ++ events) told in (
      events,
      set_here set at id sets body there same
          ∙ after_bind (events_in_body set body) (λ (events : List LogEvent). Ok (events, drop (at + 1) sets)) events (Ok (events, drop (at + 1) sets)) read refl,
      is,
    )

refused_on : {X Y : Type 0} (r : Refusable X) (f : X → Refusable Y) → IsErr r → IsErr (r >>= f)
refused_on (Ok x) f h = cc
refused_on (Err e) f h = refl

pub set_refused : (set at id : ℕ) (sets : List IpfixSet) (body : List ℕ) → slice_get sets at ≡ Some record { id = id; body = body } → id ≡ set
    → IsErr (events_in_body set body) → IsErr (optional_set set (drop at sets))
set_refused set at id sets body there same refused =
    subst (λ (r : Refusable (List LogEvent × List IpfixSet)). IsErr r) (sym (set_here set at id sets body there same))
    (refused_on (events_in_body set body) (λ events. Ok (events, drop (at + 1) sets)) refused)

pub set_other : (set at id : ℕ) (sets : List IpfixSet) (body : List ℕ) (old : List LogEvent)
    → slice_get sets at ≡ Some record { id = id; body = body } → (id ≡ set → ⊥) → ReadsOn sets at at set old old
set_other set at id sets body old there other =
    let s : IpfixSet = record { id = id; body = body } in
    let front = set_there sets at (record { id = id; body = body }) there in
    ([], ap (optional_set set) front ∙ rw (ne_eqb id set other) (ap (λ (t : List IpfixSet). Ok ([], t)) (sym front)), sym (append-nil old))

pub set_none : (set at : ℕ) (sets : List IpfixSet) (old : List LogEvent) → slice_get sets at ≡ None → ReadsOn sets at at set old old
set_none set at sets old none =
    let end = no_set_there sets at none in
    ([], ap (optional_set set) end ∙ ap (λ (t : List IpfixSet). Ok ([], t)) (sym end), sym (append-nil old))

-- ---- all sets

-- the three sets are read, and this is left
three_read : (sets rest : List IpfixSet) (a b d : ℕ) (old one two three : List LogEvent)
    → ReadsOn sets 1 a 257 old one → ReadsOn sets a b 258 one two → ReadsOn sets b d 256 two three → drop d sets ≡ rest
    → (events : List LogEvent) × (three ≡ old ++ events)
    × (events_in_sets (drop 1 sets) ≡ (require (length rest == 0) tt >> Ok events))
three_read sets rest a b d old one two three first second third left =
    let (h, h_read, h_is) = first in
    let (p, p_read, p_is) = second in
    let (e, e_read, e_is) = third in (
      h ++ p ++ e,
      e_is ∙ ap (λ t. t ++ e) (p_is ∙ ap (λ t. t ++ p) h_is ∙ append_assoc old h p) ∙ append_assoc old (h ++ p) e,
      after_bind (optional_set 257 (drop 1 sets))
          (λ horizons. optional_set 258 horizons.1 >>= λ plans. optional_set 256 plans.1 >>= λ blocks. require (length blocks.1 == 0) tt >> Ok (horizons.0 ++ plans.0 ++ blocks.0))
          (h, drop a sets) _ h_read
          (after_bind (optional_set 258 (drop a sets))
          (λ plans. optional_set 256 plans.1 >>= λ blocks. require (length blocks.1 == 0) tt >> Ok (h ++ plans.0 ++ blocks.0))
          (p, drop b sets) _ p_read
          (after_bind (optional_set 256 (drop b sets)) (λ blocks. require (length blocks.1 == 0) tt >> Ok (h ++ p ++ blocks.0))
          (e, drop d sets) _ e_read
          (ap (λ (t : List IpfixSet). require (length t == 0) tt >> Ok (h ++ p ++ e)) left))),
    )

pub sets_told : (sets : List IpfixSet) (a b d : ℕ) (old one two three : List LogEvent)
    → ReadsOn sets 1 a 257 old one → ReadsOn sets a b 258 one two → ReadsOn sets b d 256 two three → slice_get sets d ≡ None
    → IsOkAnd (events_in_sets (drop 1 sets)) (λ events. three ≡ old ++ events)
sets_told sets a b d old one two three first second third none =
    let (events, is, read) = three_read sets [] a b d old one two three first second third (no_set_there sets d none) in
    subst (λ (r : Refusable (List LogEvent)). IsOkAnd r (λ events. three ≡ old ++ events)) (sym read) is

pub sets_refused : (sets : List IpfixSet) (a b d : ℕ) (old one two three : List LogEvent) (s : IpfixSet)
    → ReadsOn sets 1 a 257 old one → ReadsOn sets a b 258 one two → ReadsOn sets b d 256 two three → slice_get sets d ≡ Some s
    → IsErr (events_in_sets (drop 1 sets))
sets_refused sets a b d old one two three s first second third some =
    let (events, is, read) = three_read sets (s ∷ drop (suc d) sets) a b d old one two three first second third (set_there sets d s some) in
    let more : (length (s ∷ drop (suc d) sets) == 0) ≡ false = ne_eqb (length (s ∷ drop (suc d) sets)) 0 (λ e. absurd (omega arith)) in
    subst (λ (r : Refusable (List LogEvent)). IsErr r) (sym read) (rw more refl)

-- ---- the whole message

pub not_message : (count : ℕ) (bytes : List ℕ) → IsBytes bytes → ((m : IpfixMessage) → SpellsMessage bytes m → ⊥) → IsErr (events_of count bytes)
not_message count bytes fits none = elim (cases_Bool (is_message bytes)) [
  | inl is ↦ absurd (none (message_of bytes) (message_is bytes fits is))
  | inr other ↦ rw other refl
]

pub events_from : (count : ℕ) (bytes : List ℕ) (m : IpfixMessage) → SpellsMessage bytes m → is_in_place count m.head ≡ true
    → begins_with_templates m.sets ≡ true → events_of count bytes ≡ events_in_sets (drop 1 m.sets)
events_from count bytes m spells placed begins =
    let read : message_of bytes ≡ m = message_read bytes m spells in
    after_require (is_message bytes) tt
    (require (is_in_place count (message_of bytes).head) tt
    >> (require (begins_with_templates (message_of bytes).sets) tt >> events_in_sets (drop 1 (message_of bytes).sets))) _
    (is_message_from bytes m spells)
    (after_require (is_in_place count (message_of bytes).head) tt
    (require (begins_with_templates (message_of bytes).sets) tt >> events_in_sets (drop 1 (message_of bytes).sets)) _
    (ap (λ (n : IpfixMessage). is_in_place count n.head) read ∙ placed)
    (after_require (begins_with_templates (message_of bytes).sets) tt (events_in_sets (drop 1 (message_of bytes).sets)) _
    (ap (λ (n : IpfixMessage). begins_with_templates n.sets) read ∙ begins)
    (ap (λ (n : IpfixMessage). events_in_sets (drop 1 n.sets)) read)))

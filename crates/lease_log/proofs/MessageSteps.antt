-- What is told after a message that was read.
use Rattle.std.proofs.Common.{◌≡◌, ◌≤◌, ◌+◌, ◌*◌, ℕ, List, [], ◌++◌, length, All, refl, sym, ap, ◌∙◌, subst, arith}
use Rattle.std.specs.Prelude.{Result, Ok, Err, IsErr, IsOkAnd, OnOk}
use Rattle.aftr_base.specs.Attempt.{◌>>=◌}
use Rattle.aftr_base.specs.Bytes.{IsBytes}
use Rattle.aftr_base.specs.Telling.{told_after}
use Rattle.aftr_base.specs.declared.told.Told.{Told}
use Rattle.aftr_base.specs.declared.event.LogEvent.{LogEvent}
use Rattle.nat_events.specs.Grammar.{FitsRecord, ReadsLogMessages}
use Rattle.nat_events.specs.Reading.{events_of}
use Rattle.lease_log.specs.Applying.{Follows}
use Rattle.lease_log.specs.Log.{after_message}
use Rattle.lease_log.specs.Answers.{number_of_rows}
use Rattle.lease_log.specs.Sound.{IsSound}
use Rattle.lease_log.specs.declared.applying.ApplyBad.{ApplyBad}
use Rattle.lease_log.proofs.MessageBounds.{message_bounds}
use Rattle.lease_log.proofs.SoundSteps.{sound_told}
use Rattle.lease_log.proofs.ToldSteps.{told_count, told_rows}

-- the events of a message are those that were read
pub record IsReadAs (count : ℕ) (message : List ℕ) (events : List LogEvent) : Type 0 where
  pub read : events_of count message ≡ Ok events
  pub fits : All FitsRecord events
  pub short : 8 * length events ≤ length message

answer_is : (r : Result (List LogEvent) (Unit {0})) (old out : List LogEvent) → old ≡ []
    → IsOkAnd r (λ events. out ≡ old ++ events) → r ≡ Ok out
answer_is (Ok events) old out none is =
    let same : out ≡ events = is ∙ ap (λ (l : List LogEvent). l ++ events) none in
    ap (λ (l : List LogEvent). Ok l) (sym same)
answer_is (Err e) old out none is = absurd is

pub message_read : {n : ℕ} (count : ℕ) (message : List ℕ) {old : List LogEvent} (out : List LogEvent) → n ≡ count → ReadsLogMessages
    → IsBytes message → old ≡ []
    → IsOkAnd (events_of n message) (λ events. out ≡ old ++ events)
    → IsReadAs count message out
message_read {n} count message {old} out place law bytes none is =
    let read = ap (λ (k : ℕ). events_of k message) (sym place) ∙ answer_is (events_of n message) old out none is in
    let bounds = message_bounds count out message (law count message out bytes read) in
    record { read = read; fits = bounds.0; short = bounds.1 }

pub message_follows : (t now : Told) (message : List ℕ) (events : List LogEvent) (r : Result (Unit {0}) ApplyBad)
    → IsReadAs t.count message events
    → Follows (told_after events t) now r → Follows (after_message t message) now r
message_follows t now message events r is follows =
    subst (λ (next : Result Told (Unit {0})). Follows next now r)
    (sym (ap (λ (es : Result (List LogEvent) (Unit {0})). es >>= λ e. told_after e t) is.read)) follows

pub message_sound : (t now : Told) (message : List ℕ) (events : List LogEvent) (r : Result (Unit {0}) ApplyBad)
    → IsReadAs t.count message events
    → IsSound t → Follows (told_after events t) now r → OnOk r (IsSound now)
message_sound t now message events (Ok x) is sound follows = sound_told events t now sound is.fits follows
message_sound t now message events (Err bad) is sound follows = tt

pub message_count : (t now : Told) (events : List LogEvent) {message : List ℕ} (r : Result (Unit {0}) ApplyBad)
    → IsReadAs t.count message events → Follows (told_after events t) now r → OnOk r (8 * now.count ≤ 8 * t.count + length message)
message_count t now events (Ok x) is follows = omega (arith, is.short, told_count events t now follows)
message_count t now events (Err bad) is follows = tt

pub message_rows : (t now : Told) (events : List LogEvent) (r : Result (Unit {0}) ApplyBad) → Follows (told_after events t) now r
    → OnOk r (number_of_rows now + t.count ≤ number_of_rows t + now.count)
message_rows t now events (Ok x) follows = told_rows events t now follows
message_rows t now events (Err bad) follows = tt

is_refused : (r : Result (List LogEvent) (Unit {0})) → IsErr r → r ≡ Err tt
is_refused (Ok events) h = cc
is_refused (Err e) h = refl

pub message_refused : {n : ℕ} (t : Told) (message : List ℕ) → n ≡ t.count → IsErr (events_of n message)
    → after_message t message ≡ Err tt
message_refused {n} t message place h =
    let refused = ap (λ (k : ℕ). events_of k message) (sym place) ∙ is_refused (events_of n message) h in
    ap (λ (es : Result (List LogEvent) (Unit {0})). es >>= λ e. told_after e t) refused

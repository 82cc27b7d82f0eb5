-- What is told after some events, and then after others.
use Rattle.std.proofs.Common.{◌≡◌, ℕ, suc, List, [], ◌∷◌, ◌++◌, take, drop, refl, sym, ap, ◌∙◌}
use Rattle.std.specs.Prelude.{Result, Ok, Err}
use Rattle.std.proofs.lemmas.List.{take-append-drop}
use Rattle.aftr_base.specs.Attempt.{◌>>=◌, ◌>>◌}
use Rattle.aftr_base.specs.Telling.{after_event, told_after}
use Rattle.aftr_base.specs.declared.told.Told.{Told}
use Rattle.aftr_base.specs.declared.event.LogEvent.{LogEvent}
use Rattle.lease_log.proofs.Requiring.{taken}

then_assoc : {A B E : Type 0} (r : Result (Unit {0}) E) (q : Result A E) (f g : A → Result B E) (k : B → Result B E)
    → ((x : A) → g x ≡ (f x >>= k)) → (r >> (q >>= g)) ≡ ((r >> (q >>= f)) >>= k)
then_assoc (Ok u) (Ok x) f g k h = h x
then_assoc (Ok u) (Err e) f g k h = refl
then_assoc (Err e) q f g k h = refl

told_append : (first others : List LogEvent) (t : Told) → told_after (first ++ others) t ≡ (told_after first t >>= told_after others)
told_append [] others t = refl
told_append (e ∷ first) others t =
    then_assoc _ (after_event t e) _ _ (told_after others)
    (λ (next : Told). told_append first others (record next { count = suc t.count }))

-- after what the first events told
pub told_then : (first others : List LogEvent) (t middle : Told) → told_after first t ≡ Ok middle
    → told_after (first ++ others) t ≡ told_after others middle
told_then first others t middle h = told_append first others t ∙ ap (λ (r : Result Told (Unit {0})). r >>= told_after others) h

-- where all are told, so are the first of them
pub told_first : (n : ℕ) (events : List LogEvent) (t now : Told) → told_after events t ≡ Ok now
    → (middle : Told) × (told_after (take n events) t ≡ Ok middle)
told_first n events t now h =
    let parts = sym (told_append (take n events) (drop n events) t)
    ∙ ap (λ (es : List LogEvent). told_after es t) (take-append-drop n events) ∙ h in
    let first = taken (told_after (take n events) t) (told_after (drop n events)) now parts in
    (first.0, first.1)

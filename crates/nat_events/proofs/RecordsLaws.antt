-- Reading records one by one, and sets one by one.
use Rattle.std.proofs.Common.{◌≡◌, ℕ, zero, suc, ◌-◌, ◌<◌, true, false, List, [], ◌∷◌, ◌++◌, length, take, drop, refl, sym, ap, ◌∙◌, subst, arith, append_assoc}
use Rattle.std.specs.Prelude.{Ok, Err, IsErr, IsOkAnd}
use Rattle.std.proofs.lemmas.List.{append-nil, take_rest}
use Rattle.aftr_base.specs.Attempt.{◌>>=◌}
use Rattle.aftr_base.specs.declared.event.LogEvent.{LogEvent}
use Rattle.nat_events.specs.Reading.{is_padding, shortest_of, record_in, records_in, Refusable}

-- these events, and then those
abbrev pub behind : List LogEvent → Refusable (List LogEvent) → Refusable (List LogEvent)
behind events more = more >>= λ others. Ok (events ++ others)

pub one_behind : (events : List LogEvent) (event : LogEvent) (more : Refusable (List LogEvent))
    → behind events (more >>= λ others. Ok (event ∷ others)) ≡ behind (events ++ event ∷ []) more
one_behind events event (Ok others) = ap Ok (sym (append_assoc events (event ∷ []) others))
one_behind events event (Err e) = refl

pub refused_behind : (events : List LogEvent) (more all : Refusable (List LogEvent)) → all ≡ behind events more → more ≡ Err tt → IsErr all
refused_behind events more all is refused = subst (λ (r : Refusable (List LogEvent)). IsErr r) (sym (is ∙ ap (behind events) refused)) refl

-- ---- the records of a set

pub padded_rest : (set left : ℕ) (rest : List ℕ) → is_padding (shortest_of set) rest ≡ true → records_in set left rest ≡ Ok []
padded_rest set zero rest is = rw is refl
padded_rest set (suc n) rest is = rw is refl

pub none_left : (set left : ℕ) (rest : List ℕ) → is_padding (shortest_of set) rest ≡ false → left ≡ 0 → records_in set left rest ≡ Err tt
none_left set left rest is none = subst (λ (n : ℕ). records_in set n rest ≡ Err tt) (sym none) (rw is refl)

pub one_more : (set left : ℕ) (rest : List ℕ) (event : LogEvent) (len : ℕ) → is_padding (shortest_of set) rest ≡ false → 0 < left
    → record_in set rest ≡ Ok (event, len)
    → records_in set left rest ≡ (records_in set (left - 1) (drop len rest) >>= λ others. Ok (event ∷ others))
one_more set zero rest event len is some found = absurd (omega arith)
one_more set (suc n) rest event len is some found =
    let less : suc n - 1 ≡ n = omega arith in
    rw (is, found) (ap (λ (k : ℕ). records_in set k (drop len rest) >>= λ others. Ok (event ∷ others)) (sym less))

pub none_found : (set left : ℕ) (rest : List ℕ) → is_padding (shortest_of set) rest ≡ false → 0 < left → record_in set rest ≡ Err tt
    → records_in set left rest ≡ Err tt
none_found set zero rest is some found = absurd (omega arith)
none_found set (suc n) rest is some found = rw (is, found) refl

-- all records are read where padding is left
pub records_told : (set most left : ℕ) (body rest : List ℕ) (old new events : List LogEvent) → new ≡ old ++ events
    → records_in set most body ≡ behind events (records_in set left rest) → is_padding (shortest_of set) rest ≡ true
    → IsOkAnd (records_in set most body) (λ told. new ≡ old ++ told)
records_told set most left body rest old new events is so_far padded =
    let all : records_in set most body ≡ Ok events =
    so_far ∙ ap (behind events) (padded_rest set left rest padded) ∙ ap Ok (append-nil events) in
    subst (λ (r : Refusable (List LogEvent)). IsOkAnd r (λ told. new ≡ old ++ told)) (sym all) is

-- what was read so far, and after one more record
abbrev pub ReadSoFar : ℕ → ℕ → List ℕ → ℕ → List ℕ → List LogEvent → List LogEvent → Type 0
ReadSoFar set most body left rest old new =
    (events : List LogEvent) × (new ≡ old ++ events) × (records_in set most body ≡ behind events (records_in set left rest))

pub record_step : (set most left : ℕ) (body rest : List ℕ) (old now new : List LogEvent) (event : LogEvent) (len : ℕ)
    → ReadSoFar set most body left rest old now → is_padding (shortest_of set) rest ≡ false → 0 < left
    → record_in set rest ≡ Ok (event, len) → new ≡ now ++ event ∷ []
    → ReadSoFar set most body (left - 1) (take (length rest - len) (drop len rest)) old new
record_step set most left body rest old now new event len so_far is some found pushed =
    let (events, told, same) = so_far in (
      events ++ event ∷ [],
      pushed ∙ ap (λ t. t ++ event ∷ []) told ∙ append_assoc old events (event ∷ []),
      same ∙ ap (behind events) (one_more set left rest event len is some found)
          ∙ one_behind events event (records_in set (left - 1) (drop len rest))
          ∙ ap (λ b. behind (events ++ event ∷ []) (records_in set (left - 1) b)) (sym (take_rest rest len)),
    )

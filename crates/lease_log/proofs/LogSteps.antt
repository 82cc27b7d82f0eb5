-- What a log tells, frame by frame.
use Rattle.std.proofs.Common.{◌≡◌, ℕ, ◌+◌, Bool, true, false, List, [], ◌∷◌, ◌++◌, length, refl, sym, ap, ◌∙◌}
use Rattle.std.specs.Prelude.{Result, Ok, Err, if◌then◌else◌}
use Rattle.aftr_base.specs.Attempt.{◌>>=◌, refused_as}
use Rattle.aftr_base.specs.Told.{nothing_told}
use Rattle.aftr_base.specs.declared.told.Told.{Told}
use Rattle.disk_journal.specs.Walk.{walk_from, walk_of, has_header, no_messages, after_message as before_walk, end_after}
use Rattle.lease_log.specs.Log.{Log, after_message, log_from, log_of_walk, log_at, log_of}

-- ---- reading

-- behind a frame whose message is told
pub log_next : (file message : List ℕ) (at : ℕ) (t next : Told) → walk_from at file ≡ before_walk message (walk_from (at + 5 + length message) file)
    → after_message t message ≡ Ok next → log_at at t file ≡ log_at (at + 5 + length message) next file
log_next file message at t next frame told =
    let walk = walk_from (at + 5 + length message) file in
    ap (log_of_walk at t) frame
    ∙ ap (λ (r : Result Told (Unit {0})). refused_as r at >>= λ n. log_from (at + 5 + length message) n walk.messages walk.end) told

pub log_refused : (file message : List ℕ) (at : ℕ) (t : Told) → walk_from at file ≡ before_walk message (walk_from (at + 5 + length message) file)
    → after_message t message ≡ Err tt → log_at at t file ≡ Err at
log_refused file message at t frame refused =
    let walk = walk_from (at + 5 + length message) file in
    ap (log_of_walk at t) frame
    ∙ ap (λ (r : Result Told (Unit {0})). refused_as r at >>= λ n. log_from (at + 5 + length message) n walk.messages walk.end) refused

pub log_ends : (file : List ℕ) (at : ℕ) (t : Told) (end : Result ℕ ℕ) → walk_from at file ≡ no_messages end
    → log_at at t file ≡ (end >>= λ tail. Ok record { told = t; tail = tail })
log_ends file at t end walk = ap (log_of_walk at t) walk

-- ---- the whole file

pub log_of_header : (file : List ℕ) → has_header file ≡ true → log_of file ≡ log_at 16 nothing_told file
unfolding walk_of
log_of_header file h = ap (λ (b : Bool). log_of_walk 16 nothing_told (if b then walk_from 16 file else no_messages (Err 0))) h

pub log_of_no_header : (file : List ℕ) → has_header file ≡ false → log_of file ≡ Err 0
unfolding walk_of
log_of_no_header file h = ap (λ (b : Bool). log_of_walk 16 nothing_told (if b then walk_from 16 file else no_messages (Err 0))) h

-- ---- one message more

pub log_inj : (l m : Log) → (let r : Result Log ℕ = Ok l in r ≡ Ok m) → l ≡ m
log_inj l m h = cc

told_as : (r : Result Told (Unit {0})) (at : ℕ) (f : Told → Result Log ℕ) (l : Log) → (refused_as r at >>= f) ≡ Ok l
    → (next : Told) × (r ≡ Ok next) × (f next ≡ Ok l)
told_as (Ok x) at f l h = (x, refl, h)
told_as (Err e) at f l h = cc

ends_as : (end : Result ℕ ℕ) (t : Told) (l : Log) → (end >>= λ tail. Ok record { told = t; tail = tail }) ≡ Ok l
    → (end ≡ Ok l.tail) × (t ≡ l.told)
ends_as (Ok tail) t l h =
    let same = log_inj record { told = t; tail = tail } l h in
    (ap (λ (m : Log). let r : Result ℕ ℕ = Ok m.tail in r) same, ap (λ (m : Log). m.told) same)
ends_as (Err offset) t l h = cc

pub log_more : (messages : List (List ℕ)) (message : List ℕ) (at size : ℕ) (end : Result ℕ ℕ) (t next : Told) (l : Log)
    → log_from at t messages end ≡ Ok l → after_message l.told message ≡ Ok next
    → log_from at t (messages ++ message ∷ []) (end_after size end) ≡ Ok record { told = next; tail = l.tail + size }
log_more [] message at size end t next l was more =
    let last = ends_as end t l was in
    ap (λ (e : Result ℕ ℕ). log_from at t (message ∷ []) (end_after size e)) last.0
    ∙ ap (λ (s : Told). log_from at s (message ∷ []) (Ok (l.tail + size))) last.1
    ∙ ap (λ (r : Result Told (Unit {0})). refused_as r at >>= λ n. log_from (at + 5 + length message) n [] (Ok (l.tail + size))) more
log_more (m ∷ messages) message at size end t next l was more =
    let step = told_as (after_message t m) at (λ n. log_from (at + 5 + length m) n messages end) l was in
    ap (λ (r : Result Told (Unit {0})). refused_as r at >>= λ n. log_from (at + 5 + length m) n (messages ++ message ∷ []) (end_after size end)) step.1
    ∙ log_more messages message (at + 5 + length m) size end step.0 next l step.2 more

-- the frames of a log end at its tail
pub log_stands : (messages : List (List ℕ)) (at : ℕ) (end : Result ℕ ℕ) (t : Told) (l : Log) → log_from at t messages end ≡ Ok l → end ≡ Ok l.tail
log_stands [] at end t l is = (ends_as end t l is).0
log_stands (m ∷ messages) at end t l is =
    let step = told_as (after_message t m) at (λ n. log_from (at + 5 + length m) n messages end) l is in
    log_stands messages (at + 5 + length m) end step.0 l step.2

-- a file with a header that reads as before
pub log_of_frames : (before now : List ℕ) → has_header before ≡ true → now ≡ before → log_at 16 nothing_told now ≡ log_of before
log_of_frames before now header same = ap (log_at 16 nothing_told) same ∙ sym (log_of_header before header)

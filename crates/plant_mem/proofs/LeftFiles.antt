-- What a stop leaves: the file at the last sync, and the file with its pending places filled.
use Rattle.std.proofs.Common.{◌≡◌, inl, inr, ℕ, ◌+◌, ◌<◌, List, [], ◌∷◌, ◌++◌, length, get_or, take, drop, refl, sym, ◌∙◌, ap, subst, arith}
use Rattle.std.proofs.lemmas.Grind.{common_steps}
use Rattle.std.proofs.lemmas.Bool.{cases_lt}
use Rattle.std.proofs.lemmas.List.{take_more}
use Rattle.plant_io.specs.Story.{wrote, synced, emitted, Story, put, content, durable, IsPending, IsImage, emit_all}
use Rattle.plant_io.proofs.Images.{content-emit_all, durable-emit_all, content_is_image}
use Rattle.plant_mem.specs.declared.tape.Kept.{Kept}
use Rattle.plant_mem.specs.declared.tape.Kept.TheVariants.{Wrote, Synced, Emitted}
use Rattle.plant_mem.specs.Tape.{begun, story_of, IsTold, synced_bytes, Fills, IsFilled}
use Rattle.plant_mem.proofs.TapeSteps.{story_of-wrote, story_of-synced}

durable-story_of : (kept : List Kept) (bytes : List ℕ) (story : Story)
    → durable (story_of kept bytes story) ≡ synced_bytes kept (content story) (durable story)
durable-story_of [] bytes story = refl
durable-story_of (Wrote at stored lost ∷ kept) bytes story = durable-story_of kept bytes (wrote at stored.items lost ∷ story)
durable-story_of (Synced ∷ kept) bytes story = durable-story_of kept bytes (synced ∷ story)
durable-story_of (Emitted count ∷ kept) bytes story =
    durable-story_of kept (drop count bytes) (emit_all piece story)
    ∙ ap (λ (file : List ℕ). synced_bytes kept file (durable (emit_all piece story))) (content-emit_all piece story)
    ∙ ap (λ (file : List ℕ). synced_bytes kept (content story) file) (durable-emit_all piece story)
  where
    piece : List ℕ
    piece = take count bytes

put_whole : (start : List ℕ) → put 0 start [] ≡ start
put_whole start = grind (arith, common_steps)

pub durable_of_start : (start : List ℕ) (kept : List Kept) (bytes : List ℕ)
    → durable (story_of kept bytes (begun start)) ≡ synced_bytes kept start start
durable_of_start start kept bytes =
    durable-story_of kept bytes (begun start) ∙ ap (λ (file : List ℕ). synced_bytes kept file file) (put_whole start)

-- what was pending before an emission is pending after it, and nothing else
pending_past_emit : (piece : List ℕ) (story : Story) (place : ℕ) → IsPending story place → IsPending (emit_all piece story) place
pending_past_emit [] story place pending = pending
pending_past_emit (byte ∷ piece) story place pending = pending_past_emit piece (emitted byte ∷ story) place pending

pending_before_emit : (piece : List ℕ) (story : Story) (place : ℕ) → IsPending (emit_all piece story) place → IsPending story place
pending_before_emit [] story place pending = pending
pending_before_emit (byte ∷ piece) story place pending = pending_before_emit piece (emitted byte ∷ story) place pending

pending_past_emitted : (kept : List Kept) (count : ℕ) (bytes : List ℕ) (story : Story) (place : ℕ)
    → IsPending (story_of kept bytes story) place → IsPending (story_of (kept ++ Emitted count ∷ []) bytes story) place
pending_past_emitted [] count bytes story place pending = pending_past_emit (take count bytes) story place pending
pending_past_emitted (Wrote a s l ∷ kept) count bytes story place pending =
    pending_past_emitted kept count bytes (wrote a s.items l ∷ story) place pending
pending_past_emitted (Synced ∷ kept) count bytes story place pending = pending_past_emitted kept count bytes (synced ∷ story) place pending
pending_past_emitted (Emitted n ∷ kept) count bytes story place pending =
    pending_past_emitted kept count (drop n bytes) (emit_all (take n bytes) story) place pending

pending_before_emitted : (kept : List Kept) (count : ℕ) (bytes : List ℕ) (story : Story) (place : ℕ)
    → IsPending (story_of (kept ++ Emitted count ∷ []) bytes story) place → IsPending (story_of kept bytes story) place
pending_before_emitted [] count bytes story place pending = pending_before_emit (take count bytes) story place pending
pending_before_emitted (Wrote a s l ∷ kept) count bytes story place pending =
    pending_before_emitted kept count bytes (wrote a s.items l ∷ story) place pending
pending_before_emitted (Synced ∷ kept) count bytes story place pending =
    pending_before_emitted kept count bytes (synced ∷ story) place pending
pending_before_emitted (Emitted n ∷ kept) count bytes story place pending =
    pending_before_emitted kept count (drop n bytes) (emit_all (take n bytes) story) place pending

-- the list is the file but where a write of these steps is pending, and has the byte there
pub record FilledSoFar (start bytes : List ℕ) (byte : ℕ) (kept : List Kept) (file image : List ℕ) : Type 0 where
  pub pending : (place : ℕ) → place < length file → IsPending (story_of kept bytes (begun start)) place
      → get_or image place 0 ≡ byte
  pub others : (place : ℕ) → (IsPending (story_of kept bytes (begun start)) place → ⊥) → get_or image place 0 ≡ get_or file place 0

pub filled_more : (start bytes : List ℕ) (byte : ℕ) (kept : List Kept) (step : Kept) (file before now : List ℕ)
    → length before ≡ length file → FilledSoFar start bytes byte kept file before → Fills byte step file before now
    → FilledSoFar start bytes byte (kept ++ step ∷ []) file now
filled_more start bytes byte kept (Wrote at stored lost) file before now size so_far fills = record {
  pending = λ place lt pending.
      pending_place place lt
      (subst (λ (story : Story). IsPending story place) (story_of-wrote kept at stored lost bytes (begun start)) pending);
  others = λ place free.
      let unless : IsPending (wrote at stored.items lost ∷ story_of kept bytes (begun start)) place → ⊥ =
      (λ p. free (subst (λ (story : Story). IsPending story place) (sym (story_of-wrote kept at stored lost bytes (begun start))) p)) in
      fills.outside place (λ range. unless (inl range)) ∙ so_far.others place (λ was. unless (inr was));
}
  where
    end : ℕ
    end = at + length stored.items + lost

    pending_place : (place : ℕ) → place < length file → IsPending (wrote at stored.items lost ∷ story_of kept bytes (begun start)) place
        → get_or now place 0 ≡ byte
    pending_place place lt (inl range) = fills.inside place range.0 range.1 (omega (arith, lt, size))
    pending_place place lt (inr was) = elim (cases_lt place at) [
      | inl below ↦ fills.outside place (λ range. omega (arith, below, range.0)) ∙ so_far.pending place lt was
      | inr above ↦ elim (cases_lt place end) [
        | inl within ↦ fills.inside place above within (omega (arith, lt, size))
        | inr behind ↦ fills.outside place (λ range. omega (arith, behind, range.1)) ∙ so_far.pending place lt was
      ]
    ]
filled_more start bytes byte kept Synced file before now size so_far fills = record {
  pending = λ place lt pending.
      absurd (subst (λ (story : Story). IsPending story place) (story_of-synced kept bytes (begun start)) pending);
  others = λ place free. ap (λ (l : List ℕ). get_or l place 0) fills;
}
filled_more start bytes byte kept (Emitted count) file before now size so_far fills = record {
  pending = λ place lt pending.
      ap (λ (l : List ℕ). get_or l place 0) fills
      ∙ so_far.pending place lt (pending_before_emitted kept count bytes (begun start) place pending);
  others = λ place free.
      ap (λ (l : List ℕ). get_or l place 0) fills
      ∙ so_far.others place (λ was. free (pending_past_emitted kept count bytes (begun start) place was));
}

pub filled_done : (start file bytes : List ℕ) (byte : ℕ) (kept : List Kept) (image : List ℕ) → IsTold start file bytes kept
    → length image ≡ length file → FilledSoFar start bytes byte kept file image
    → IsFilled byte (story_of kept bytes (begun start)) image
filled_done start file bytes byte kept image told size filled = record {
  size = size ∙ sym (ap length told.reads);
  pending = λ place lt pending. filled.pending place (omega (arith, lt, ap length told.reads)) pending;
  others = λ place free. filled.others place free ∙ ap (λ (l : List ℕ). get_or l place 0) (sym told.reads);
}

pub step_at : (kept : List Kept) (index : ℕ) (step : Kept) → index < length kept → step ≡ get_or kept index step
    → take (index + 1) kept ≡ take index kept ++ step ∷ []
step_at kept index step lt is = take_more kept index step lt ∙ ap (λ (k : Kept). take index kept ++ k ∷ []) (sym is)

-- a filled file is an image
pub filled_is_image : (byte : ℕ) (story : Story) (image : List ℕ) → IsFilled byte story image → IsImage story image
filled_is_image byte story image filled =
    let reads = content_is_image story in
    record {
      no_shorter = omega (arith, reads.no_shorter, filled.size);
      no_longer = omega (arith, filled.size);
      kept = λ place lt free. filled.others place free ∙ reads.kept place lt free;
    }

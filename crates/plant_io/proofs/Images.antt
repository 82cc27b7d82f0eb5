-- What the images of a story are after a step.
use Rattle.std.proofs.Common.{◌≡◌, ◌≢◌, ◌⊎◌, inl, inr, ℕ, ◌+◌, ◌<◌, ◌≤◌, List, [], ◌∷◌, ◌++◌, length, get_or, take, drop, refl, sym, ◌∙◌}
use Rattle.std.proofs.Common.{ap, subst, arith, append_assoc, length-drop, get_or-set_other, get_or-set_same}
use Rattle.std.proofs.Math.ListN.{set, length-set}
use Rattle.std.proofs.lemmas.Bool.{cases_lt}
use Rattle.std.proofs.lemmas.List.{append-nil, length-take, ext_get_or, get_or-take, get_or-drop, places}
use Rattle.plant_io.specs.Story.{wrote, synced, emitted, Story, put, content, sent, durable, IsPending, IsImage, IsSettled, emit_all}

pub length-put : (at : ℕ) (bytes file : List ℕ) → at ≤ length file → length file ≤ length (put at bytes file)
length-put at bytes file le = grind (arith, places)

pub put_no_shorter : (at : ℕ) (bytes file : List ℕ) → length file ≤ length (put at bytes file)
put_no_shorter at bytes file = grind (arith, places)

pub put_no_longer : (at : ℕ) (bytes file : List ℕ) (most : ℕ) → at ≤ length file → length file ≤ most → at + length bytes ≤ most
    → length (put at bytes file) ≤ most
put_no_longer at bytes file most inside h k = grind (arith, places)

put_elsewhere : (at : ℕ) (bytes file : List ℕ) (place : ℕ) → place < length file → (place < at) ⊎ (at + length bytes ≤ place)
    → get_or (put at bytes file) place 0 ≡ get_or file place 0
put_elsewhere at bytes file place within (inl before) = grind (arith, places)
put_elsewhere at bytes file place within (inr behind) = grind (arith, places)

pub durable_no_longer : (story : Story) → length (durable story) ≤ length (content story)
durable_no_longer [] = omega arith
durable_no_longer (wrote at bytes lost ∷ past) = omega (arith, durable_no_longer past, put_no_shorter at bytes (content past))
durable_no_longer (synced ∷ past) = omega arith
durable_no_longer (emitted byte ∷ past) = durable_no_longer past

-- after a sync a stop leaves the file as it reads
pub settled_by_sync : (story : Story) → IsSettled (synced ∷ story)
settled_by_sync story image h =
    ext_get_or 0 image (content story) (omega (arith, h.no_shorter, h.no_longer)) (λ i lt. h.kept i (omega (arith, lt, h.no_longer)) (λ none. none))

-- the file as it reads is one of its images
pub content_is_image : (story : Story) → IsImage story (content story)
content_is_image [] = record { no_shorter = omega arith; no_longer = omega arith; kept = λ place lt free. refl }
content_is_image (wrote at bytes lost ∷ past) =
    let before = content_is_image past in
    record {
      no_shorter = omega (arith, before.no_shorter, put_no_shorter at bytes (content past));
      no_longer = omega arith;
      kept = λ place lt free.
          elsewhere place lt free ∙ before.kept place lt (λ pending. free (inr pending));
    }
  where
    elsewhere : (place : ℕ) → place < length (durable past) → (IsPending (wrote at bytes lost ∷ past) place → ⊥) → get_or (put at bytes (content past)) place 0 ≡ get_or (content past) place 0
    elsewhere place lt free =
        let within : place < length (content past) = omega (arith, lt, durable_no_longer past) in
        elim (cases_lt place at) [
          | inl below ↦ put_elsewhere at bytes (content past) place within (inl below)
          | inr above ↦ elim (cases_lt place (at + length bytes)) [
            | inl inside ↦ absurd (free (inl (above, omega (arith, inside))))
            | inr behind ↦ put_elsewhere at bytes (content past) place within (inr behind)
          ]
        ]
content_is_image (synced ∷ past) = record { no_shorter = omega arith; no_longer = omega arith; kept = λ place lt free. refl }
content_is_image (emitted byte ∷ past) =
    let before = content_is_image past in
    record { no_shorter = before.no_shorter; no_longer = before.no_longer; kept = before.kept }

-- and so is the file as it was at the last sync
pub durable_is_image : (story : Story) → IsImage story (durable story)
durable_is_image story = record { no_shorter = omega arith; no_longer = durable_no_longer story; kept = λ place lt free. refl }

-- what a stop may leave before a write it may leave after it
pub image_before_write : (past : Story) (at : ℕ) (bytes : List ℕ) (lost : ℕ) (image : List ℕ) → IsImage past image
    → IsImage (wrote at bytes lost ∷ past) image
image_before_write past at bytes lost image h = record {
  no_shorter = h.no_shorter;
  no_longer = omega (arith, h.no_longer, put_no_shorter at bytes (content past));
  kept = λ place lt free. h.kept place lt (λ pending. free (inr pending));
}

-- a settled file is what the last sync made of it
pub settled_is_durable : (story : Story) → IsSettled story → durable story ≡ content story
settled_is_durable story only =
    only (durable story) (durable_is_image story)

-- and no write is pending in it
pub settled_has_no_pending : (story : Story) → IsSettled story → (place : ℕ) → place < length (durable story) → IsPending story place → ⊥
settled_has_no_pending story only place lt pending =
    let byte = get_or (durable story) place 0 + 1 in
    let other = set (durable story) place byte in
    let same : other ≡ content story = only other (record {
      no_shorter = omega (arith, length-set {A = ℕ});
      no_longer = omega (arith, length-set {A = ℕ}, durable_no_longer story);
      kept = λ q below free. let ne : q ≢ place = (λ e. free (subst (IsPending story) (sym e) pending)) in rw get_or-set_other;
    }) in
    let here : get_or other place 0 ≡ byte = rw get_or-set_same in
    let there : get_or other place 0 ≡ get_or (durable story) place 0 = ap (λ (file : List ℕ). get_or file place 0) (same ∙ sym (settled_is_durable story only)) in
    omega (arith, here, there)

-- what a stop may leave of a file after one write since it was settled: any bytes in the range and past the end
pub record IsTorn (at count : ℕ) (file image : List ℕ) : Type 0 where
  pub before : take at image ≡ take at file
  pub behind : drop (at + count) image ≡ drop (at + count) file
  pub no_shorter : length file ≤ length image

module _ (story : Story) (at : ℕ) (bytes : List ℕ) (lost : ℕ) (image : List ℕ) (only : IsSettled story) (inside : at ≤ length (content story)) (h : IsImage (wrote at bytes lost ∷ story) image) where
  is_durable : durable story ≡ content story
  is_durable = settled_is_durable story only

  same : (place : ℕ) → place < length (content story) → (place < at) ⊎ (at + (length bytes + lost) ≤ place) → get_or image place 0 ≡ get_or (content story) place 0
  same place lt out = h.kept place within free ∙ ap (λ (file : List ℕ). get_or file place 0) is_durable
    where
      within : place < length (durable story)
      within = omega (arith, lt, ap length is_durable)

      outside : (place < at) ⊎ (at + (length bytes + lost) ≤ place) → (at ≤ place) × (place < at + length bytes + lost) → ⊥
      outside (inl before) range = omega arith
      outside (inr behind) range = omega arith

      free : IsPending (wrote at bytes lost ∷ story) place → ⊥
      free (inl range) = outside out range
      free (inr pending) = settled_has_no_pending story only place within pending

  long : length (content story) ≤ length image
  long = omega (arith, h.no_shorter, ap length is_durable)

  before : take at image ≡ take at (content story)
  before = ext_get_or 0 _ _ (omega (arith, length-take at image, length-take at (content story), long))
      (λ i lt. let within : i < at = omega (arith, lt, length-take at image) in
      get_or-take at image i 0 within ∙ same i (omega (arith, within)) (inl within) ∙ sym (get_or-take at (content story) i 0 within))

  short : length (drop (at + (length bytes + lost)) image) ≡ length (drop (at + (length bytes + lost)) (content story))
  short = elim (cases_lt (length (content story)) (at + (length bytes + lost))) [
    | inl past_end ↦ omega (arith, length-drop (at + (length bytes + lost)) image, length-drop (at + (length bytes + lost)) (content story), h.no_longer, put_no_longer at bytes (content story) (at + (length bytes + lost)) inside (omega arith) (omega arith))
    | inr within ↦ omega (arith, long, length-drop (at + (length bytes + lost)) image, length-drop (at + (length bytes + lost)) (content story), h.no_longer, put_no_longer at bytes (content story) (length (content story)) inside (omega arith) (omega arith))
  ]

  behind : drop (at + (length bytes + lost)) image ≡ drop (at + (length bytes + lost)) (content story)
  behind = ext_get_or 0 _ _ short
      (λ i lt. let place = at + (length bytes + lost) + i in
      get_or-drop (at + (length bytes + lost)) image i 0
      ∙ same place (omega (arith, lt, short, length-drop (at + (length bytes + lost)) (content story))) (inr (omega arith))
      ∙ sym (get_or-drop (at + (length bytes + lost)) (content story) i 0))

  pub torn_by_write : IsTorn at (length bytes + lost) (content story) image
  torn_by_write = record { before = before; behind = behind; no_shorter = long }

-- an emission changes nothing of the file
pub content-emit_all : (piece : List ℕ) (story : Story) → content (emit_all piece story) ≡ content story
content-emit_all [] story = refl
content-emit_all (byte ∷ piece) story = content-emit_all piece (emitted byte ∷ story)

pub durable-emit_all : (piece : List ℕ) (story : Story) → durable (emit_all piece story) ≡ durable story
durable-emit_all [] story = refl
durable-emit_all (byte ∷ piece) story = durable-emit_all piece (emitted byte ∷ story)

pub sent-emit_all : (piece : List ℕ) (story : Story) → sent (emit_all piece story) ≡ sent story ++ piece
sent-emit_all [] story = sym (append-nil (sent story))
sent-emit_all (byte ∷ piece) story = sent-emit_all piece (emitted byte ∷ story) ∙ append_assoc (sent story) (byte ∷ []) piece

pub image_before_emit : (piece : List ℕ) (story : Story) (image : List ℕ) → IsImage (emit_all piece story) image → IsImage story image
image_before_emit [] story image h = h
image_before_emit (byte ∷ piece) story image h =
    let before = image_before_emit piece (emitted byte ∷ story) image h in
    record { no_shorter = before.no_shorter; no_longer = before.no_longer; kept = before.kept }

pub settled_by_emit : (piece : List ℕ) (story : Story) → IsSettled story → IsSettled (emit_all piece story)
settled_by_emit piece story only image h = only image (image_before_emit piece story image h) ∙ sym (content-emit_all piece story)

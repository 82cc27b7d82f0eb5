-- What a stop leaves while a log is made.
use Rattle.std.proofs.Common.{◌≡◌, inl, inr, ℕ, zero, suc, ◌+◌, List, [], ◌∷◌}
use Rattle.std.proofs.Common.{◌++◌, length, drop, refl, sym, ◌∙◌, ap, subst, arith, length-append}
use Rattle.plant_io.specs.Story.{wrote, synced, Story, put, content, sent, IsImage, FailsToWrite}
use Rattle.plant_io.specs.Stops.{StopsLeave}
use Rattle.plant_io.proofs.Images.{settled_by_sync}
use Rattle.plant_io.proofs.Moments.{goes_on, same_story, write_done, write_failed, sync_done}
use Rattle.disk_journal.specs.Frames.{file_header, empty_log}
use Rattle.disk_journal.specs.Make.{MakeLeaves, IsMade}
use Rattle.disk_journal.proofs.Spellings.{length-file_header}
use Rattle.disk_journal.proofs.Walks.{append_none}

-- a file that is left as it was
pub unmade : (before now : Story) → now ≡ before → StopsLeave before now (MakeLeaves before)
unmade before now is = same_story before now (MakeLeaves before) is (λ image h. record { file = inl h; nothing_sent = refl })

drop_none : (n : ℕ) → let none : List ℕ = [] in drop n none ≡ none
drop_none zero = refl
drop_none (suc n) = refl

module _ (before : Story) (empty : content before ≡ []) where
  -- the file has only what was written
  put_is : (bytes : List ℕ) → put 0 bytes (content before) ≡ bytes
  put_is bytes = ap (put 0 bytes) empty ∙ ap (λ (l : List ℕ). bytes ++ l) (drop_none (0 + length bytes)) ∙ append_none bytes

  torn : (stored : List ℕ) (lost : ℕ) (image : List ℕ) → length stored + lost ≡ 17 → IsImage (wrote 0 stored lost ∷ before) image
      → MakeLeaves before image (sent before)
  torn stored lost image range h = record {
    file = inr (empty, omega (arith, h.no_longer, range, ap length (put_is stored)));
    nothing_sent = refl;
  }

  length-log : length empty_log ≡ 17
  length-log = omega (arith, length-append file_header (0 ∷ []), length-file_header)

  abbrev pub written : Story
  written = wrote 0 empty_log 0 ∷ before

  write_stops : StopsLeave before written (MakeLeaves before)
  write_stops = write_done before written 0 empty_log (MakeLeaves before) refl
      (λ image h. torn empty_log 0 image (omega (arith, length-log)) h)

  pub make_write_failed : (now : Story) → FailsToWrite 0 empty_log before now → StopsLeave before now (MakeLeaves before)
  make_write_failed now failed =
      write_failed before now 0 empty_log (MakeLeaves before) failed
      (λ stored lost range image h. torn stored lost image (omega (arith, range, length-log)) h)

  pub make_sync_failed : (a now : Story) → a ≡ written → now ≡ a → StopsLeave before now (MakeLeaves before)
  make_sync_failed a now is_written same = subst (λ (s : Story). StopsLeave before s (MakeLeaves before))
      (sym (same ∙ is_written)) write_stops

  pub make_done : (a now : Story) → a ≡ written → now ≡ synced ∷ a → StopsLeave before now (MakeLeaves before) × IsMade before now
  make_done a now is_written is =
      let is_synced : now ≡ synced ∷ written = is ∙ ap (λ (s : Story). synced ∷ s) is_written in (
        subst (λ (s : Story). StopsLeave before s (MakeLeaves before)) (sym is_synced)
            (goes_on before written (synced ∷ written) (MakeLeaves before) write_stops
            (sync_done written (synced ∷ written) (MakeLeaves before) refl
            (λ image h. torn empty_log 0 image (omega (arith, length-log)) h))),
        subst (λ (s : Story). IsMade before s) (sym is_synced) (record {
          empty = empty;
          log = put_is empty_log;
          settled = settled_by_sync written;
          nothing_sent = refl;
        }),
      )

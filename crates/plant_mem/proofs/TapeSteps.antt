-- What one step more makes of the record of a plant.
use Rattle.std.proofs.Common.{◌≡◌, ℕ, ◌+◌, List, [], ◌∷◌, ◌++◌, length, take, drop, Vec, refl, sym, ◌∙◌, ap, arith, length-append}
use Rattle.std.proofs.Common.{length-drop}
use Rattle.std.specs.declared.alloc.Global.{Global}
use Rattle.std.proofs.lemmas.List.{take_all, take-append-le, drop-append-le}
use Rattle.plant_io.specs.Story.{wrote, synced, Story, put, content, sent, emit_all}
use Rattle.plant_io.proofs.Images.{content-emit_all, sent-emit_all}
use Rattle.plant_mem.specs.declared.tape.Kept.{Kept}
use Rattle.plant_mem.specs.declared.tape.Kept.TheVariants.{Wrote, Synced, Emitted}
use Rattle.plant_mem.specs.Tape.{begun, story_of, emitted_count, TapeValue, IsTold}

pub story_of-wrote : (kept : List Kept) (at : ℕ) (stored : Vec ℕ Global) (lost : ℕ) (bytes : List ℕ) (story : Story)
    → story_of (kept ++ Wrote at stored lost ∷ []) bytes story ≡ wrote at stored.items lost ∷ story_of kept bytes story
story_of-wrote [] at stored lost bytes story = refl
story_of-wrote (Wrote a s l ∷ kept) at stored lost bytes story = story_of-wrote kept at stored lost bytes (wrote a s.items l ∷ story)
story_of-wrote (Synced ∷ kept) at stored lost bytes story = story_of-wrote kept at stored lost bytes (synced ∷ story)
story_of-wrote (Emitted n ∷ kept) at stored lost bytes story = story_of-wrote kept at stored lost (drop n bytes) (emit_all (take n bytes) story)

pub story_of-synced : (kept : List Kept) (bytes : List ℕ) (story : Story)
    → story_of (kept ++ Synced ∷ []) bytes story ≡ synced ∷ story_of kept bytes story
story_of-synced [] bytes story = refl
story_of-synced (Wrote a s l ∷ kept) bytes story = story_of-synced kept bytes (wrote a s.items l ∷ story)
story_of-synced (Synced ∷ kept) bytes story = story_of-synced kept bytes (synced ∷ story)
story_of-synced (Emitted n ∷ kept) bytes story = story_of-synced kept (drop n bytes) (emit_all (take n bytes) story)

story_of-emitted : (kept : List Kept) (bytes piece : List ℕ) (story : Story) → emitted_count kept ≡ length bytes
    → story_of (kept ++ Emitted (length piece) ∷ []) (bytes ++ piece) story ≡ emit_all piece (story_of kept bytes story)
story_of-emitted [] [] piece story count = ap (λ (l : List ℕ). emit_all l story) (take_all (length piece) piece (omega arith))
story_of-emitted [] (byte ∷ bytes) piece story count = absurd (omega (arith, count))
story_of-emitted (Wrote a s l ∷ kept) bytes piece story count = story_of-emitted kept bytes piece (wrote a s.items l ∷ story) count
story_of-emitted (Synced ∷ kept) bytes piece story count = story_of-emitted kept bytes piece (synced ∷ story) count
story_of-emitted (Emitted n ∷ kept) bytes piece story count =
    ap (λ (l : List ℕ). story_of (kept ++ Emitted (length piece) ∷ []) l (emit_all (take n (bytes ++ piece)) story)) (drop-append-le n bytes piece (omega (arith, count)))
    ∙ ap (λ (l : List ℕ). story_of (kept ++ Emitted (length piece) ∷ []) (drop n bytes ++ piece) (emit_all l story)) (take-append-le n bytes piece (omega (arith, count)))
    ∙ story_of-emitted kept (drop n bytes) piece (emit_all (take n bytes) story) (omega (arith, count, length-drop n bytes))

emitted_count-append : (kept more : List Kept) → emitted_count (kept ++ more) ≡ emitted_count kept + emitted_count more
emitted_count-append [] more = omega arith
emitted_count-append (Wrote a s l ∷ kept) more = emitted_count-append kept more
emitted_count-append (Synced ∷ kept) more = emitted_count-append kept more
emitted_count-append (Emitted n ∷ kept) more = omega (arith, emitted_count-append kept more)

-- what a step makes of the record, and of the story that it tells
pub record Tells (start file bytes : List ℕ) (kept : List Kept) (story : Story) : Type 0 where
  pub holds : IsTold start file bytes kept
  pub is : story_of kept bytes (begun start) ≡ story

pub write_told : (start start' file file' bytes written : List ℕ) (kept kept' : List Kept) (at : ℕ) (stored : Vec ℕ Global) (lost : ℕ)
    → IsTold start file bytes kept → start' ≡ start → file' ≡ put at written file → stored.items ≡ written → kept' ≡ kept ++ Wrote at stored lost ∷ []
    → Tells start' file' bytes kept' (wrote at written lost ∷ story_of kept bytes (begun start))
write_told start start' file file' bytes written kept kept' at stored lost told same_start put_is stored_is kept_is =
    let is : story_of kept' bytes (begun start') ≡ wrote at written lost ∷ story_of kept bytes (begun start) =
    ap (λ (k : List Kept). story_of k bytes (begun start')) kept_is
    ∙ ap (λ (s : List ℕ). story_of (kept ++ Wrote at stored lost ∷ []) bytes (begun s)) same_start
    ∙ story_of-wrote kept at stored lost bytes (begun start)
    ∙ ap (λ (l : List ℕ). wrote at l lost ∷ story_of kept bytes (begun start)) stored_is in
    record {
      holds = record {
        reads = ap content is ∙ ap (λ (l : List ℕ). put at written l) told.reads ∙ sym put_is;
        sends = ap sent is ∙ told.sends;
        count = ap emitted_count kept_is ∙ emitted_count-append kept (Wrote at stored lost ∷ []) ∙ omega (arith, told.count);
      };
      is = is;
    }

pub sync_told : (start file bytes : List ℕ) (kept kept' : List Kept) → IsTold start file bytes kept → kept' ≡ kept ++ Synced ∷ []
    → Tells start file bytes kept' (synced ∷ story_of kept bytes (begun start))
sync_told start file bytes kept kept' told kept_is =
    let is : story_of kept' bytes (begun start) ≡ synced ∷ story_of kept bytes (begun start) =
    ap (λ (k : List Kept). story_of k bytes (begun start)) kept_is ∙ story_of-synced kept bytes (begun start) in
    record {
      holds = record {
        reads = ap content is ∙ told.reads;
        sends = ap sent is ∙ told.sends;
        count = ap emitted_count kept_is ∙ emitted_count-append kept (Synced ∷ []) ∙ omega (arith, told.count);
      };
      is = is;
    }

pub emit_told : (start file bytes bytes' piece : List ℕ) (kept kept' : List Kept) → IsTold start file bytes kept → bytes' ≡ bytes ++ piece
    → kept' ≡ kept ++ Emitted (length piece) ∷ []
    → Tells start file bytes' kept' (emit_all piece (story_of kept bytes (begun start)))
emit_told start file bytes bytes' piece kept kept' told bytes_is kept_is =
    let is : story_of kept' bytes' (begun start) ≡ emit_all piece (story_of kept bytes (begun start)) =
    ap (λ (k : List Kept). story_of k bytes' (begun start)) kept_is
    ∙ ap (λ (l : List ℕ). story_of (kept ++ Emitted (length piece) ∷ []) l (begun start)) bytes_is
    ∙ story_of-emitted kept bytes piece (begun start) told.count in
    record {
      holds = record {
        reads = ap content is ∙ content-emit_all piece (story_of kept bytes (begun start)) ∙ told.reads;
        sends = ap sent is ∙ sent-emit_all piece (story_of kept bytes (begun start)) ∙ ap (λ (l : List ℕ). l ++ piece) told.sends ∙ sym bytes_is;
        count = ap emitted_count kept_is ∙ emitted_count-append kept (Emitted (length piece) ∷ []) ∙ omega (arith, told.count, ap length bytes_is, length-append bytes piece);
      };
      is = is;
    }

pub same_value : (a b : TapeValue) → a.story ≡ b.story → a.calls ≡ b.calls → a.disk_faults ≡ b.disk_faults → a.out_faults ≡ b.out_faults
    → a ≡ b
same_value a b story calls disk out = λ i. record { story = story i; calls = calls i; disk_faults = disk i; out_faults = out i }

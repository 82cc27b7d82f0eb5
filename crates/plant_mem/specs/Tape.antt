-- What a plant in memory keeps of its calls, and the story that this tells.
use Rattle.std.specs.Prelude.{◌≡◌, ℕ, ◌+◌, ◌<◌, ◌≤◌, List, [], ◌∷◌, length, take, drop, get_or}
use Rattle.plant_io.specs.Story.{wrote, synced, Story, put, content, sent, IsPending, emit_all}
use Rattle.plant_mem.specs.declared.tape.Kept.{Kept}
use Rattle.plant_mem.specs.declared.tape.Kept.TheVariants.{Wrote, Synced, Emitted}
use Rattle.plant_mem.specs.declared.tape.PlantCall.{PlantCall}

-- a plant starts with its image synced and nothing sent
abbrev pub begun : List ℕ → Story
begun image = synced ∷ wrote 0 image 0 ∷ []

-- the story that goes on with these steps, the oldest first; `bytes` are those that they emit
abbrev pub story_of : List Kept → List ℕ → Story → Story
story_of [] bytes story = story
story_of (Wrote at stored lost ∷ kept) bytes story = story_of kept bytes (wrote at stored.items lost ∷ story)
story_of (Synced ∷ kept) bytes story = story_of kept bytes (synced ∷ story)
story_of (Emitted count ∷ kept) bytes story = story_of kept (drop count bytes) (emit_all (take count bytes) story)

-- how many bytes the steps emit
abbrev pub emitted_count : List Kept → ℕ
emitted_count [] = 0
emitted_count (Wrote at stored lost ∷ kept) = emitted_count kept
emitted_count (Synced ∷ kept) = emitted_count kept
emitted_count (Emitted count ∷ kept) = count + emitted_count kept

-- what contracts see of the record of a plant
pub record TapeValue : Type 0 where
  pub story : Story
  pub calls : List PlantCall
  pub disk_faults : ℕ
  pub out_faults : ℕ

-- the record tells the file and the outlet as they are
pub record IsTold (start file bytes : List ℕ) (kept : List Kept) : Type 0 where
  pub reads : content (story_of kept bytes (begun start)) ≡ file
  pub sends : sent (story_of kept bytes (begun start)) ≡ bytes
  pub count : emitted_count kept ≡ length bytes

-- the file at the last sync of these steps, the oldest first; `file` as it was before them, and `at_sync` at the sync before
abbrev pub synced_bytes : List Kept → List ℕ → List ℕ → List ℕ
synced_bytes [] file at_sync = at_sync
synced_bytes (Wrote at stored lost ∷ kept) file at_sync = synced_bytes kept (put at stored.items file) at_sync
synced_bytes (Synced ∷ kept) file at_sync = synced_bytes kept file file
synced_bytes (Emitted count ∷ kept) file at_sync = synced_bytes kept file at_sync

-- the byte stands from the place `at` up to the place `end`, as far as the list goes, and the rest stayed
pub record FillsRange (at end byte : ℕ) (before now : List ℕ) : Type 0 where
  pub inside : (place : ℕ) → at ≤ place → place < end → place < length before → get_or now place 0 ≡ byte
  pub outside : (place : ℕ) → ((at ≤ place) × (place < end) → ⊥) → get_or now place 0 ≡ get_or before place 0

-- a step fills the range of a write, and a sync makes the list the file
abbrev pub Fills : ℕ → Kept → List ℕ → List ℕ → List ℕ → Type 0
Fills byte (Wrote at stored lost) file before now = FillsRange at (at + length stored.items + lost) byte before now
Fills byte Synced file before now = now ≡ file
Fills byte (Emitted count) file before now = now ≡ before

-- the content, but with this byte in each place where a write is pending
pub record IsFilled (byte : ℕ) (story : Story) (image : List ℕ) : Type 0 where
  pub size : length image ≡ length (content story)
  pub pending : (place : ℕ) → place < length (content story) → IsPending story place → get_or image place 0 ≡ byte
  pub others : (place : ℕ) → (IsPending story place → ⊥) → get_or image place 0 ≡ get_or (content story) place 0

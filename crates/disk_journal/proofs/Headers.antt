-- What a read of a file's first bytes says of its header, and what attaching a journal leaves.
use Rattle.std.proofs.Common.{◌≡◌, ℕ, ◌<◌, Bool, true, false, List, ◌∷◌, length, take, refl, sym, ◌∙◌, ap, subst, arith}
use Rattle.std.specs.Prelude.{◌&&◌, nat_lt, bytes_eq}
use Rattle.std.proofs.lemmas.Bool.{and_parts, false_from_ne_true, lt-ltb, ltb-true}
use Rattle.std.proofs.lemmas.List.{take-take}
use Rattle.plant_io.specs.Story.{Story, synced, IsSettled}
use Rattle.plant_io.specs.Stops.{StopsLeave}
use Rattle.plant_io.proofs.Images.{settled_by_sync}
use Rattle.plant_io.proofs.Moments.{sync_done, same_story}
use Rattle.plant_io.proofs.ReadBytes.{IsRead, filled_read}
use Rattle.disk_journal.specs.Frames.{file_header}
use Rattle.disk_journal.specs.Walk.{has_header}
use Rattle.disk_journal.specs.Attach.{AttachLeaves}

module _ (file : List ℕ) (count : ℕ) (buffer : List ℕ) (h : IsRead file 0 count buffer) (room : length buffer ≡ 17) where
  front : count ≡ 17 → take 16 buffer ≡ take 16 file
  front all =
      ap (take 16) (filled_read file 0 count buffer h (omega (arith, h.count_is, room, all)) ∙ ap (λ (n : ℕ). take n file) room)
      ∙ take-take 16 17 file (omega arith)

  pub header_read : (test : Bool) → count ≡ 17 → test ≡ bytes_eq (take 16 buffer) file_header → test ≡ has_header file
  unfolding has_header
  header_read test all is =
      is ∙ ap (λ (l : List ℕ). bytes_eq l file_header) (front all)
      ∙ and_true (bytes_eq (take 16 file) file_header) (nat_lt 16 (length file))
      (lt-ltb 16 (length file) (omega (arith, h.count_is, room, all)))
    where
      and_true : (a b : Bool) → b ≡ true → a ≡ (a && b)
      and_true true b e = sym e
      and_true false b e = refl

  pub no_room_for_header : count < 17 → false ≡ has_header file
  unfolding has_header
  no_room_for_header few = sym (false_from_ne_true (has_header file) (λ header.
      let long : 16 < length file = ltb-true 16 (length file) (and_parts (bytes_eq (take 16 file) file_header)
      (nat_lt 16 (length file)) header).1 in
      omega (arith, few, h.count_is, room, long)))

-- the stops of a sync and reads behind it
pub attach_stops : (before now : Story) → now ≡ synced ∷ before → StopsLeave before now (AttachLeaves before)
attach_stops before now is = sync_done before now (AttachLeaves before) is (λ image h. record { image_before = h; nothing_sent = refl })

pub attach_stops_same : (before now : Story) → now ≡ before → StopsLeave before now (AttachLeaves before)
attach_stops_same before now is = same_story before now (AttachLeaves before) is
    (λ image h. record { image_before = h; nothing_sent = refl })

pub attach_settles : (before now : Story) → now ≡ synced ∷ before → IsSettled now
attach_settles before now is = subst IsSettled (sym is) (settled_by_sync before)

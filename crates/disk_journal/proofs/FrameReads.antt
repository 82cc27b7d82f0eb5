-- What reads of a file say of the frame at an offset.
use Rattle.std.proofs.Common.{◌≡◌, ◌≢◌, ℕ, ◌+◌, ◌^◌, ◌<◌, ◌≤◌, true, List, [], ◌∷◌}
use Rattle.std.proofs.Common.{◌++◌, length, get_or, take, drop, Ok, Err, refl, sym, ◌∙◌, ap}
use Rattle.std.proofs.Common.{arith, append_assoc, length-append, length-drop, take-append-drop}
use Rattle.std.specs.Prelude.{◌&&◌, nat_lt, nat_le, bytes_eq}
use Rattle.std.proofs.lemmas.Bool.{and_parts, false_from_ne_true, leb-true, ltb-true}
use Rattle.std.proofs.lemmas.List.{take-take, drop-drop, drop_more, length-take-le}
use Rattle.aftr_base.specs.Bytes.{be32, u32_at, IsBytes}
use Rattle.aftr_base.specs.Value.{is_within}
use Rattle.aftr_base.proofs.OctetLaws.{u32_spelled, u32_read}
use Rattle.plant_io.proofs.ReadBytes.{IsRead, byte_read, filled_read}
use Rattle.disk_journal.specs.Frame.{OpensAt}
use Rattle.disk_journal.specs.Walk.{no_messages, after_message, is_whole, walk_from}
use Rattle.disk_journal.proofs.Spellings.{length-be32}
use Rattle.disk_journal.proofs.Walks.{closed_from, nothing_from, damaged_from, frame_from, first_of_more, append_none}

whole_bounds : (bytes : List ℕ) → is_whole bytes ≡ true → (16 ≤ u32_at 0 bytes) × (u32_at 0 bytes ≤ 65535) ×
    (4 + u32_at 0 bytes < length bytes)
unfolding is_whole
whole_bounds bytes whole =
    let n = u32_at 0 bytes in
    let outer = and_parts (bytes_eq (take 4 bytes) (be32 n) && is_within 16 65535 n) (nat_lt (4 + n) (length bytes)) whole in
    let bounds = and_parts (nat_le 16 n) (nat_le n 65535) (and_parts (bytes_eq (take 4 bytes) (be32 n)) (is_within 16 65535 n) outer.0).1 in
    (leb-true 16 n bounds.0, leb-true n 65535 bounds.1, ltb-true (4 + n) (length bytes) outer.1)

-- nothing stands there
pub nothing_read : (file : List ℕ) (at : ℕ) → length file ≤ at → walk_from at file ≡ no_messages (Err at)
nothing_read file at past = nothing_from at file (none (drop at file) (omega (arith, length-drop at file)))
  where
    none : (l : List ℕ) → length l ≡ 0 → l ≡ []
    none [] e = refl
    none (x ∷ l) e = absurd (omega arith)

pub gate_read : (file : List ℕ) (at count : ℕ) (buffer : List ℕ) → IsRead file at count buffer → 0 < count
    → drop at file ≡ get_or buffer 0 0 ∷ drop (at + 1) file
gate_read file at count buffer h lt =
    drop_more file at 0 (omega (arith, h.count_is, lt))
    ∙ ap (λ (b : ℕ). b ∷ drop (at + 1) file) (ap (λ (n : ℕ). get_or file n 0) (let e : at ≡ at + 0 = omega arith in e)
    ∙ byte_read file at count buffer 0 h lt)

-- a closed gate
pub tail_read : (file : List ℕ) (at count : ℕ) (buffer : List ℕ) → IsRead file at count buffer → 0 < count → get_or buffer 0 0 ≢ 1
    → walk_from at file ≡ no_messages (Ok (at + 1))
tail_read file at count buffer h lt closed = closed_from at file (get_or buffer 0 0) (drop (at + 1) file) closed
    (gate_read file at count buffer h lt)

-- an open gate, and then fewer than four bytes
pub short_read : (file : List ℕ) (at count : ℕ) (buffer : List ℕ) → IsRead file at count buffer → 0 < count → get_or buffer 0 0 ≡ 1
    → count < 5
    → length buffer ≡ 5 → walk_from at file ≡ no_messages (Err at)
short_read file at count buffer h lt is_open few room =
    damaged_from at file (drop (at + 1) file)
    (false_from_ne_true (is_whole (drop (at + 1) file)) (λ whole. omega
    (arith, (whole_bounds (drop (at + 1) file) whole).2, length-drop (at + 1) file, h.count_is, few, room)))
    (gate_read file at count buffer h lt ∙ ap (λ (b : ℕ). b ∷ drop (at + 1) file) is_open)

-- a gate and four bytes behind it spell a length
pub length_read : (head : List ℕ) → IsBytes head → length head ≡ 5 → drop 1 head ≡ be32 (u32_at 1 head)
length_read head fits room =
    u32_read 1 head fits (omega (arith, room)) ∙ ap (λ (l : List ℕ). be32 (u32_at 1 head) ++ l)
    (none (drop 5 head) (omega (arith, length-drop 5 head, room))) ∙ append_none (be32 (u32_at 1 head))
  where
    none : (l : List ℕ) → length l ≡ 0 → l ≡ []
    none [] e = refl
    none (x ∷ l) e = absurd (omega arith)

-- an open gate and a length
pub open_read : (file : List ℕ) (at : ℕ) (buffer : List ℕ) (count len : ℕ) → IsRead file at count buffer → 5 ≤ count
    → count ≤ length buffer → length buffer ≡ 5
    → get_or buffer 0 0 ≡ 1 → drop 1 buffer ≡ be32 len → OpensAt file at len
open_read file at buffer count len h many within room is_open spelled =
    let filled : buffer ≡ take 5 (drop at file) =
    filled_read file at count buffer h (omega (arith, h.count_is, many, room)) ∙ ap (λ (n : ℕ). take n (drop at file)) room in
    let here : buffer ≡ 1 ∷ be32 len =
    drop_more buffer 0 0 (omega (arith, room)) ∙ ap (λ (b : ℕ). b ∷ drop 1 buffer) is_open ∙ ap (λ (l : List ℕ). 1 ∷ l) spelled in
    sym (take-append-drop 5 (drop at file))
    ∙ ap (λ (l : List ℕ). l ++ drop 5 (drop at file)) (sym filled ∙ here)
    ∙ ap (λ (l : List ℕ). 1 ∷ (be32 len ++ l)) (drop-drop 5 at file)

module _ (file : List ℕ) (at len : ℕ) (opens : OpensAt file at len) (small : len < 2 ^ 32) where
  behind : List ℕ
  behind = be32 len ++ drop (at + 5) file

  len_is : u32_at 0 (be32 len ++ drop (at + 5) file) ≡ len
  len_is = u32_spelled 0 len (be32 len ++ drop (at + 5) file) (drop (at + 5) file) small refl

  -- a length out of range, or a frame that doesn't end inside the file
  pub damage_read : ((16 ≤ len) → (len ≤ 65535) → at + 5 + len < length file → ⊥) → walk_from at file ≡ no_messages (Err at)
  damage_read wrong =
      damaged_from at file (be32 len ++ drop (at + 5) file)
      (false_from_ne_true (is_whole (be32 len ++ drop (at + 5) file)) (λ whole.
      let bounds = whole_bounds (be32 len ++ drop (at + 5) file) whole in
      wrong (omega (arith, bounds.0, len_is)) (omega (arith, bounds.1, len_is))
      (omega (arith, bounds.2, len_is, length-append (be32 len) (drop (at + 5) file), length-be32 len, length-drop (at + 5) file))))
      opens

  -- a read of the message and the next gate
  pub message_read : (count : ℕ) (buffer message : List ℕ) → 16 ≤ len → len ≤ 65535 → IsRead file (at + 5) count buffer
      → length buffer ≡ len + 1 → len < count
      → message ≡ take len buffer → walk_from at file ≡ after_message message (walk_from (at + 5 + length message) file)
  message_read count buffer message least most h room many is =
      let past : at + 5 + len + 1 ≤ length file = omega (arith, h.count_is, many, room) in
      let filled : buffer ≡ take (len + 1) (drop (at + 5) file) =
      filled_read file (at + 5) count buffer h (omega (arith, past, room)) ∙ ap (λ (n : ℕ). take n (drop (at + 5) file)) room in
      let is_message : message ≡ take len (drop (at + 5) file) =
      is ∙ ap (take len) filled ∙ take-take len (len + 1) (drop (at + 5) file) (omega arith) in
      let size : length message ≡ len = ap length is_message ∙ length-take-le len (drop (at + 5) file)
      (omega (arith, past, length-drop (at + 5) file)) in
      let next = first_of_more (drop len (drop (at + 5) file)) (omega
      (arith, past, length-drop len (drop (at + 5) file), length-drop (at + 5) file)) in
      frame_from at file message next.0 next.1 (record { least = omega (arith, size); most = omega (arith, size) })
      (opens
      ∙ ap (λ (n : ℕ). 1 ∷ (be32 n ++ drop (at + 5) file)) (sym size)
      ∙ ap (λ (l : List ℕ). 1 ∷ (be32 (length message) ++ l))
      (sym (take-append-drop len (drop (at + 5) file)) ∙ ap (λ (l : List ℕ). l ++ drop len (drop (at + 5) file)) (sym is_message)
      ∙ ap (λ (l : List ℕ). message ++ l) next.2)
      ∙ ap (λ (l : List ℕ). 1 ∷ l) (sym (append_assoc (be32 (length message)) message (next.0 ∷ next.1))))

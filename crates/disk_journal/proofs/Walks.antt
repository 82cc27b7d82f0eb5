-- How a file is read, frame by frame.
use Rattle.std.proofs.Common.{◌≡◌, ◌≢◌, inl, inr, ℕ, zero, suc, ◌+◌, ◌<◌, ◌≤◌, Bool, true, false, List, [], ◌∷◌, ◌++◌, length, take, drop}
use Rattle.std.proofs.Common.{Ok, Err, Result, refl, sym, ◌∙◌, ap, subst, arith, append_assoc, length-append, length-drop, take-append-drop}
use Rattle.std.specs.Prelude.{All, not, ◌&&◌, ◌==◌, nat_lt, nat_le, bytes_eq, if◌then◌else◌}
use Rattle.std.proofs.lemmas.Bool.{and_from, and_parts, cases_Bool, cases_eq, lt-ltb, ltb-true}
use Rattle.std.proofs.lemmas.Bool.{le-leb, leb-true, ne_eqb, false_from_ne_true, false≢true}
use Rattle.std.proofs.lemmas.Slice.Eq.{bytes_eq-Decides}
use Rattle.std.proofs.lemmas.List.Elements.{All-nil, All-cons}
use Rattle.std.proofs.lemmas.List.{take_at, drop_at, drop-drop, length-take-le}
use Rattle.aftr_base.specs.Bytes.{be32, u32_at}
use Rattle.aftr_base.specs.Value.{is_within}
use Rattle.aftr_base.proofs.OctetLaws.{u32_spelled}
use Rattle.disk_journal.specs.Frames.{file_header, frame, frames, IsMessage}
use Rattle.disk_journal.specs.Walk.{Walk, no_messages, after_message, is_whole, walk_within, walk_from}
use Rattle.disk_journal.specs.Walk.{has_header, walk_of, BeginsWithFrame, EndsIn, Spells, IsWalkOf}
use Rattle.disk_journal.proofs.Spellings.{length-file_header, length-be32, length-frame}

-- ---- one frame

-- what stands behind an open gate, where a frame is whole
abbrev pub spelled : List ℕ → List ℕ → List ℕ
spelled message rest = (be32 (length message) ++ message) ++ rest

module _ (message : List ℕ) (next : ℕ) (behind : List ℕ) (in_range : IsMessage message) where
  abbrev spelling : List ℕ
  spelling = spelled message (next ∷ behind)

  parts : spelling ≡ be32 (length message) ++ (message ++ next ∷ behind)
  parts = append_assoc (be32 (length message)) message (next ∷ behind)

  len_read : u32_at 0 spelling ≡ length message
  len_read = u32_spelled 0 (length message) spelling (message ++ next ∷ behind) (omega (arith, in_range.most)) parts

  pub frame_is_whole : is_whole spelling ≡ true
  unfolding is_whole
  frame_is_whole =
      let front : take 4 spelling ≡ be32 (u32_at 0 spelling) =
      ap (take 4) parts ∙ take_at (be32 (length message)) (message ++ next ∷ behind) 4 (length-be32 (length message))
      ∙ ap be32 (sym len_read) in
      and_from (bytes_eq (take 4 spelling) (be32 (u32_at 0 spelling)) && is_within 16 65535 (u32_at 0 spelling))
      (nat_lt (4 + u32_at 0 spelling) (length spelling))
      (and_from (bytes_eq (take 4 spelling) (be32 (u32_at 0 spelling))) (is_within 16 65535 (u32_at 0 spelling))
      ((bytes_eq-Decides (take 4 spelling) (be32 (u32_at 0 spelling))).1 front)
      (and_from (nat_le 16 (u32_at 0 spelling)) (nat_le (u32_at 0 spelling) 65535)
      (le-leb 16 (u32_at 0 spelling) (omega (arith, len_read, in_range.least)))
      (le-leb (u32_at 0 spelling) 65535 (omega (arith, len_read, in_range.most)))))
      (lt-ltb (4 + u32_at 0 spelling) (length spelling)
      (omega (
        arith,
        len_read,
        length-append (be32 (length message) ++ message) (next ∷ behind),
        length-append (be32 (length message)) message,
        length-be32 (length message),
      )))

  message_read : take (u32_at 0 spelling) (drop 4 spelling) ≡ message
  message_read =
      ap (λ (n : ℕ). take n (drop 4 spelling)) len_read
      ∙ ap (λ (l : List ℕ). take (length message) (drop 4 l)) parts
      ∙ ap (take (length message)) (drop_at (be32 (length message)) (message ++ next ∷ behind) 4 (length-be32 (length message)))
      ∙ take_at message (next ∷ behind) (length message) refl

  rest_read : drop (4 + u32_at 0 spelling) spelling ≡ next ∷ behind
  rest_read =
      ap (λ (n : ℕ). drop (4 + n) spelling) len_read
      ∙ drop_at (be32 (length message) ++ message) (next ∷ behind) (4 + length message)
      (omega (arith, length-append (be32 (length message)) message, length-be32 (length message)))

  pub walk_of_frame : (n at : ℕ) → walk_within (suc n) at (1 ∷ spelling) ≡ after_message message
      (walk_within n (at + 5 + length message) (next ∷ behind))
  unfolding walk_within
  walk_of_frame n at =
      ap (λ (b : Bool). if not b then no_messages (Err at) else after_message (take (u32_at 0 spelling) (drop 4 spelling))
      (walk_within n (at + 5 + u32_at 0 spelling) (drop (4 + u32_at 0 spelling) spelling))) frame_is_whole
      ∙ ap (λ (l : List ℕ). after_message l (walk_within n (at + 5 + u32_at 0 spelling)
      (drop (4 + u32_at 0 spelling) spelling))) message_read
      ∙ ap (λ (l : List ℕ). after_message message (walk_within n (at + 5 + u32_at 0 spelling) l)) rest_read
      ∙ ap (λ (k : ℕ). after_message message (walk_within n (at + 5 + k) (next ∷ behind))) len_read

-- a closed gate ends the log
pub walk_of_closed : (n at gate : ℕ) (behind : List ℕ) → gate ≢ 1 → walk_within (suc n) at (gate ∷ behind) ≡ no_messages (Ok (at + 1))
unfolding walk_within
walk_of_closed n at gate behind closed =
    ap (λ (b : Bool). if not b then no_messages (Ok (at + 1)) else if not (is_whole behind) then no_messages (Err at) else after_message
    (take (u32_at 0 behind) (drop 4 behind)) (walk_within n (at + 5 + u32_at 0 behind) (drop (4 + u32_at 0 behind) behind)))
    (ne_eqb gate 1 closed)

-- an open gate without a whole frame is damage
pub walk_of_damaged : (n at : ℕ) (behind : List ℕ) → is_whole behind ≡ false → walk_within (suc n) at (1 ∷ behind) ≡ no_messages (Err at)
unfolding walk_within
walk_of_damaged n at behind torn =
    ap (λ (b : Bool). if not b then no_messages (Err at) else after_message (take (u32_at 0 behind) (drop 4 behind))
    (walk_within n (at + 5 + u32_at 0 behind) (drop (4 + u32_at 0 behind) behind))) torn

-- and so is a gate that isn't there
pub walk_of_nothing : (n at : ℕ) → walk_within n at [] ≡ no_messages (Err at)
unfolding walk_within
walk_of_nothing zero at = refl
walk_of_nothing (suc n) at = refl

-- as many frames as there are bytes are enough
pub enough : (n k at : ℕ) (bytes : List ℕ) → length bytes ≤ n → length bytes ≤ k → walk_within n at bytes ≡ walk_within k at bytes
unfolding walk_within
enough n k at [] le le' = walk_of_nothing n at ∙ sym (walk_of_nothing k at)
enough zero k at (gate ∷ bytes) le le' = absurd (omega arith)
enough (suc n) zero at (gate ∷ bytes) le le' = absurd (omega arith)
enough (suc n) (suc k) at (gate ∷ bytes) le le' =
    ap (λ (walk : Walk). if not (gate == 1) then no_messages (Ok (at + 1)) else if not (is_whole bytes) then no_messages
    (Err at) else after_message (take (u32_at 0 bytes) (drop 4 bytes)) walk)
    (enough n k (at + 5 + u32_at 0 bytes) (drop (4 + u32_at 0 bytes) bytes)
    (omega (arith, le, length-drop (4 + u32_at 0 bytes) bytes)) (omega (arith, le', length-drop (4 + u32_at 0 bytes) bytes)))

-- ---- from an offset of a file

abbrev pub steps_from : ℕ → List ℕ → Walk
steps_from at file = walk_within (suc (length file)) at (drop at file)

fuelled : (at : ℕ) (file : List ℕ) → walk_from at file ≡ steps_from at file
unfolding walk_from
fuelled at file = enough (length file) (suc (length file)) at (drop at file) (omega (arith, length-drop at file))
    (omega (arith, length-drop at file))

pub closed_from : (at : ℕ) (file : List ℕ) (gate : ℕ) (behind : List ℕ) → gate ≢ 1 → drop at file ≡ gate ∷ behind
    → walk_from at file ≡ no_messages (Ok (at + 1))
closed_from at file gate behind closed here =
    fuelled at file ∙ ap (walk_within (suc (length file)) at) here ∙ walk_of_closed (length file) at gate behind closed

pub nothing_from : (at : ℕ) (file : List ℕ) → drop at file ≡ [] → walk_from at file ≡ no_messages (Err at)
nothing_from at file here = fuelled at file ∙ ap (walk_within (suc (length file)) at) here ∙ walk_of_nothing (suc (length file)) at

pub damaged_from : (at : ℕ) (file behind : List ℕ) → is_whole behind ≡ false → drop at file ≡ 1 ∷ behind
    → walk_from at file ≡ no_messages (Err at)
damaged_from at file behind torn here =
    fuelled at file ∙ ap (walk_within (suc (length file)) at) here ∙ walk_of_damaged (length file) at behind torn

pub frame_from : (at : ℕ) (file message : List ℕ) (next : ℕ) (behind : List ℕ) → IsMessage message
    → drop at file ≡ frame message ++ next ∷ behind
    → walk_from at file ≡ after_message message (walk_from (at + 5 + length message) file)
unfolding walk_from
frame_from at file message next behind in_range here =
    let there : drop (at + 5 + length message) file ≡ next ∷ behind =
    ap (λ (n : ℕ). drop n file) (let e : at + 5 + length message ≡ at + (5 + length message) = omega arith in e)
    ∙ sym (drop-drop (5 + length message) at file) ∙ ap (drop (5 + length message)) here
    ∙ drop_at (frame message) (next ∷ behind) (5 + length message) (length-frame message) in
    fuelled at file ∙ ap (walk_within (suc (length file)) at) here ∙ walk_of_frame message next behind in_range (length file) at
    ∙ ap (λ (l : List ℕ). after_message message (walk_within (length file) (at + 5 + length message) l)) (sym there)

-- ---- what is spelled is read

-- messages before those of a walk
abbrev pub messages_then : List (List ℕ) → Walk → Walk
messages_then messages walk = record { messages = messages ++ walk.messages; end = walk.end }

-- what begins behind a frame is a gate
gate_next : (messages : List (List ℕ)) (gate : ℕ) (behind : List ℕ)
    → (next : ℕ) × (rest : List ℕ) × (frames messages ++ gate ∷ behind ≡ next ∷ rest)
gate_next [] gate behind = (gate, behind, refl)
gate_next (message ∷ messages) gate behind = (1, (be32 (length message) ++ message ++ frames messages) ++ gate ∷ behind, refl)

pub walk_of_frames : (messages : List (List ℕ)) (n at gate : ℕ) (behind : List ℕ) → All IsMessage messages
    → length (frames messages ++ gate ∷ behind) ≤ n
    → walk_within n at (frames messages ++ gate ∷ behind) ≡ messages_then messages
    (walk_within n (at + length (frames messages)) (gate ∷ behind))
walk_of_frames [] n at gate behind are le = ap (λ (k : ℕ). walk_within n k (gate ∷ behind)) (let e : at ≡ at + 0 = omega arith in e)
walk_of_frames (message ∷ messages) zero at gate behind are le = absurd (omega arith)
walk_of_frames (message ∷ messages) (suc n) at gate behind are le =
    let next = gate_next messages gate behind in
    let split : (frame message ++ frames messages) ++ gate ∷ behind ≡ frame message ++ (frames messages ++ gate ∷ behind) =
    append_assoc (frame message) (frames messages) (gate ∷ behind) in
    let long : 5 + length message + length (frames messages ++ gate ∷ behind) ≤ suc n =
    omega (arith, le, ap length split, length-append (frame message) (frames messages ++ gate ∷ behind), length-frame message) in
    let short : length (gate ∷ behind) ≤ n = omega (arith, long, length-append (frames messages) (gate ∷ behind)) in
    ap (walk_within (suc n) at) (split ∙ ap (λ (l : List ℕ). frame message ++ l) next.2)
    ∙ walk_of_frame message next.0 next.1 (are 0 message (omega arith)) n at
    ∙ ap (λ (l : List ℕ). after_message message (walk_within n (at + 5 + length message) l)) (sym next.2)
    ∙ ap (after_message message) (walk_of_frames messages n (at + 5 + length message) gate behind (λ k d lt. are (suc k) d (omega arith))
    (omega (arith, long)))
    ∙ ap (λ (k : ℕ). messages_then (message ∷ messages) (walk_within n k (gate ∷ behind)))
    (let e : at + 5 + length message + length (frames messages) ≡ at + length (frames (message ∷ messages)) =
    omega (arith, length-append (frame message) (frames messages), length-frame message) in e)
    ∙ ap (messages_then (message ∷ messages)) (enough n (suc n) (at + length (frames (message ∷ messages))) (gate ∷ behind) short
    (omega (arith, short)))

pub first_of_more : (l : List ℕ) → 0 < length l → (first : ℕ) × (rest : List ℕ) × (l ≡ first ∷ rest)
first_of_more [] lt = absurd (omega arith)
first_of_more (first ∷ rest) lt = (first, rest, refl)

-- what passes the test is a frame
pub frame_of_whole : (bytes : List ℕ) → is_whole bytes ≡ true → BeginsWithFrame (1 ∷ bytes)
unfolding is_whole
frame_of_whole bytes whole =
    let n = u32_at 0 bytes in
    let outer = and_parts (bytes_eq (take 4 bytes) (be32 n) && is_within 16 65535 n) (nat_lt (4 + n) (length bytes)) whole in
    let inner = and_parts (bytes_eq (take 4 bytes) (be32 n)) (is_within 16 65535 n) outer.0 in
    let bounds = and_parts (nat_le 16 n) (nat_le n 65535) inner.1 in
    let front : take 4 bytes ≡ be32 n = (bytes_eq-Decides (take 4 bytes) (be32 n)).0 inner.0 in
    let more : 4 + n < length bytes = ltb-true (4 + n) (length bytes) outer.1 in
    let message = take n (drop 4 bytes) in
    let size : length message ≡ n = length-take-le n (drop 4 bytes) (omega (arith, more, length-drop 4 bytes)) in
    let next = first_of_more (drop n (drop 4 bytes)) (omega (arith, more, length-drop n (drop 4 bytes), length-drop 4 bytes)) in
    record {
      message = message;
      in_range = record { least = omega (arith, size, leb-true 16 n bounds.0); most = omega (arith, size, leb-true n 65535 bounds.1) };
      next = next.0;
      behind = next.1;
      split = ap (λ (l : List ℕ). 1 ∷ l)
          (sym (take-append-drop 4 bytes)
          ∙ ap (λ (l : List ℕ). l ++ drop 4 bytes) (front ∙ ap be32 (sym size))
          ∙ ap (λ (l : List ℕ). be32 (length message) ++ l) (sym (take-append-drop n (drop 4 bytes))
          ∙ ap (λ (l : List ℕ). message ++ l) next.2)
          ∙ sym (append_assoc (be32 (length message)) message (next.0 ∷ next.1)));
    }

-- and a frame passes the test
pub whole_of_frame : (bytes : List ℕ) → BeginsWithFrame (1 ∷ bytes) → is_whole bytes ≡ true
whole_of_frame bytes h =
    let behind : bytes ≡ spelled h.message (h.next ∷ h.behind) = ap (drop 1) h.split in
    ap is_whole behind ∙ frame_is_whole h.message h.next h.behind h.in_range

walk_of_end : (n at : ℕ) (bytes : List ℕ) (end : Result ℕ ℕ) → EndsIn bytes at end → walk_within (suc n) at bytes ≡ no_messages end
walk_of_end n at bytes (Ok tail) (gate, behind, closed, is, place) =
    ap (walk_within (suc n) at) is ∙ walk_of_closed n at gate behind closed ∙ ap (λ (k : ℕ). no_messages (Ok k)) (sym place)
walk_of_end n at bytes (Err offset) (behind, is, torn, place) =
    ap (walk_within (suc n) at) is
    ∙ walk_of_damaged n at behind (false_from_ne_true (is_whole behind)
    (λ whole. torn (subst BeginsWithFrame (sym is) (frame_of_whole behind whole))))
    ∙ ap (λ (k : ℕ). no_messages (Err k)) (sym place)

gate_of_end : (bytes : List ℕ) (at : ℕ) (end : Result ℕ ℕ) → EndsIn bytes at end → (gate : ℕ) × (behind : List ℕ) × (bytes ≡ gate ∷ behind)
gate_of_end bytes at (Ok tail) h = (h.0, h.1, h.3)
gate_of_end bytes at (Err offset) h = (1, h.0, h.1)

-- ---- whole files

pub header_is_there : (gate : ℕ) (rest : List ℕ) → has_header (file_header ++ gate ∷ rest) ≡ true
unfolding has_header
header_is_there gate rest =
    and_from (bytes_eq (take 16 (file_header ++ gate ∷ rest)) file_header) (nat_lt 16 (length (file_header ++ gate ∷ rest)))
    ((bytes_eq-Decides (take 16 (file_header ++ gate ∷ rest)) file_header).1 (take_at file_header (gate ∷ rest) 16 length-file_header))
    (lt-ltb 16 (length (file_header ++ gate ∷ rest)) (omega (arith, length-append file_header (gate ∷ rest), length-file_header)))

pub header_that_is_there : (file : List ℕ) → has_header file ≡ true → (gate : ℕ) × (rest : List ℕ) × (file ≡ file_header ++ gate ∷ rest)
unfolding has_header
header_that_is_there file h =
    let both = and_parts (bytes_eq (take 16 file) file_header) (nat_lt 16 (length file)) h in
    let front : take 16 file ≡ file_header = (bytes_eq-Decides (take 16 file) file_header).0 both.0 in
    let more : 16 < length file = ltb-true 16 (length file) both.1 in
    let next = first_of_more (drop 16 file) (omega (arith, more, length-drop 16 file)) in (
      next.0,
      next.1,
      sym (take-append-drop 16 file) ∙ ap (λ (l : List ℕ). l ++ drop 16 file) front
          ∙ ap (λ (l : List ℕ). file_header ++ l) next.2,
    )

pub walk_with_header : (file : List ℕ) → has_header file ≡ true → walk_of file ≡ walk_from 16 file
unfolding walk_of
walk_with_header file h = ap (λ (b : Bool). if b then walk_from 16 file else no_messages (Err 0)) h

pub walk_without_header : (file : List ℕ) → has_header file ≡ false → walk_of file ≡ no_messages (Err 0)
unfolding walk_of
walk_without_header file h = ap (λ (b : Bool). if b then walk_from 16 file else no_messages (Err 0)) h

pub append_none : {A : Type 0} (l : List A) → l ++ [] ≡ l
append_none [] = refl
append_none (x ∷ l) = ap (λ t. x ∷ t) (append_none l)

-- a file that is spelled so is read so
pub read_as_spelled : (file : List ℕ) (walk : Walk) → Spells file walk → walk_of file ≡ walk
read_as_spelled file walk h =
    let next = gate_of_end h.rest (16 + length (frames walk.messages)) walk.end h.end in
    let body : List ℕ = frames walk.messages ++ next.0 ∷ next.1 in
    let split : file ≡ file_header ++ body =
    h.split ∙ append_assoc file_header (frames walk.messages) h.rest
    ∙ ap (λ (l : List ℕ). file_header ++ (frames walk.messages ++ l)) next.2 in
    let begins = gate_next walk.messages next.0 next.1 in
    let header : has_header file ≡ true =
    ap has_header (split ∙ ap (λ (l : List ℕ). file_header ++ l) begins.2) ∙ header_is_there begins.0 begins.1 in
    let there : drop 16 file ≡ body = ap (drop 16) split ∙ drop_at file_header body 16 length-file_header in
    let short : length body ≤ suc (length file) = omega (arith, ap length there, length-drop 16 file) in
    walk_with_header file header ∙ fuelled 16 file ∙ ap (walk_within (suc (length file)) 16) there
    ∙ walk_of_frames walk.messages (suc (length file)) 16 next.0 next.1 h.in_range short
    ∙ ap (λ (l : List ℕ). messages_then walk.messages (walk_within (suc (length file)) (16 + length (frames walk.messages)) l)) (sym next.2)
    ∙ ap (messages_then walk.messages) (walk_of_end (length file) (16 + length (frames walk.messages)) h.rest walk.end h.end)
    ∙ ap (λ (l : List (List ℕ)). let w : Walk = record { messages = l; end = walk.end } in w) (append_none walk.messages)

-- ---- what is read is spelled

-- the bytes from this offset on are the frames of these messages and this end
record SpellsFrom (bytes : List ℕ) (at : ℕ) (walk : Walk) : Type 0 where
  rest : List ℕ
  in_range : All IsMessage walk.messages
  split : bytes ≡ frames walk.messages ++ rest
  end : EndsIn rest (at + length (frames walk.messages)) walk.end

spelled_after : (message : List ℕ) (at : ℕ) (bytes : List ℕ) (walk : Walk) → IsMessage message
    → SpellsFrom bytes (at + 5 + length message) walk
    → SpellsFrom (frame message ++ bytes) at (after_message message walk)
spelled_after message at bytes walk in_range h = record {
  rest = h.rest;
  in_range = All-cons IsMessage message walk.messages in_range h.in_range;
  split = ap (λ (l : List ℕ). frame message ++ l) h.split ∙ sym (append_assoc (frame message) (frames walk.messages) h.rest);
  end = subst (λ (k : ℕ). EndsIn h.rest k walk.end)
      (let e : at + 5 + length message + length (frames walk.messages) ≡ at + length (frames (message ∷ walk.messages)) =
      omega (arith, length-append (frame message) (frames walk.messages), length-frame message) in e)
      h.end;
}

spelled_from : (n at gate : ℕ) (behind : List ℕ) → length (gate ∷ behind) ≤ n
    → SpellsFrom (gate ∷ behind) at (walk_within n at (gate ∷ behind))
spelled_from zero at gate behind le = absurd (omega arith)
spelled_from (suc n) at gate behind le = elim (cases_eq gate 1) [
  | inr closed ↦ subst (SpellsFrom (gate ∷ behind) at) (sym (walk_of_closed n at gate behind closed)) (record {
    rest = gate ∷ behind;
    in_range = All-nil IsMessage;
    split = refl;
    end = (gate, behind, closed, refl, omega arith);
  })
  | inl is_open ↦ subst (λ (g : ℕ). SpellsFrom (g ∷ behind) at (walk_within (suc n) at (g ∷ behind))) (sym is_open)
      (elim (cases_Bool (is_whole behind)) [
        | inr torn ↦ subst (SpellsFrom (1 ∷ behind) at) (sym (walk_of_damaged n at behind torn)) (record {
          rest = 1 ∷ behind;
          in_range = All-nil IsMessage;
          split = refl;
          end = (behind, refl, (λ h. false≢true (sym torn ∙ whole_of_frame behind h)), omega arith);
        })
        | inl whole ↦
            let h = frame_of_whole behind whole in
            let short : length (h.next ∷ h.behind) ≤ n = omega (
              arith,
              le,
              ap length h.split,
              length-append (frame h.message) (h.next ∷ h.behind),
              length-frame h.message,
            ) in
            subst (λ (l : List ℕ). SpellsFrom l at (walk_within (suc n) at l)) (sym h.split)
            (subst (SpellsFrom (frame h.message ++ h.next ∷ h.behind) at) (sym (walk_of_frame h.message h.next h.behind h.in_range n at))
            (spelled_after h.message at (h.next ∷ h.behind) (walk_within n (at + 5 + length h.message) (h.next ∷ h.behind)) h.in_range
            (spelled_from n (at + 5 + length h.message) h.next h.behind short)))
      ])
]

-- what is read of a file spells it, or it has no header
pub spelled_as_read : (file : List ℕ) → IsWalkOf file (walk_of file)
spelled_as_read file = elim (cases_Bool (has_header file)) [
  | inl header ↦
      let h = header_that_is_there file header in
      let there : drop 16 file ≡ h.0 ∷ h.1 = ap (drop 16) h.2 ∙ drop_at file_header (h.0 ∷ h.1) 16 length-file_header in
      let walk : Walk = walk_within (suc (length file)) 16 (h.0 ∷ h.1) in
      let is_walk : walk_of file ≡ walk = walk_with_header file header ∙ fuelled 16 file ∙ ap (walk_within (suc (length file)) 16) there in
      let spells = spelled_from (suc (length file)) 16 h.0 h.1 (omega (arith, ap length there, length-drop 16 file)) in
      inl (subst (Spells file) (sym is_walk) (record {
        rest = spells.rest;
        in_range = spells.in_range;
        split = h.2 ∙ ap (λ (l : List ℕ). file_header ++ l) spells.split
            ∙ sym (append_assoc file_header (frames walk.messages) spells.rest);
        end = spells.end;
      }))
  | inr none ↦ inr (
    (λ h. false≢true (sym none ∙ ap has_header h.2 ∙ header_is_there h.0 h.1)),
    walk_without_header file none,
  )
]

-- What a stop leaves in each step of a commit.
use Rattle.std.proofs.Common.{◌≡◌, ◌≢◌, inl, inr, ℕ, ◌+◌, ◌-◌, ◌≤◌, List, [], ◌∷◌, ◌++◌, length, get_or, take, drop, Ok, refl, sym, ◌∙◌, ap}
use Rattle.std.proofs.Common.{subst, arith, append_assoc, length-append, take-append-drop}
use Rattle.std.specs.Prelude.{All}
use Rattle.std.proofs.lemmas.Bool.{cases_eq}
use Rattle.std.proofs.lemmas.List.{take_at, drop_at, drop_more}
use Rattle.std.proofs.lemmas.List.Elements.{All-nil, All-cons, All-append}
use Rattle.aftr_base.specs.Bytes.{be32}
use Rattle.plant_io.specs.Story.{wrote, synced, Story, put, content, sent, IsImage, IsSettled, FailsToWrite}
use Rattle.plant_io.specs.Stops.{StopsLeave}
use Rattle.plant_io.proofs.Images.{torn_by_write, settled_by_sync}
use Rattle.plant_io.proofs.Moments.{started, goes_on, write_done, write_failed, sync_done}
use Rattle.disk_journal.specs.Frames.{file_header, frame, frames, message_of, IsBody, IsMessage}
use Rattle.disk_journal.specs.Walk.{Walk, walk_of, with_message, end_after, StandsAt}
use Rattle.disk_journal.specs.Commit.{CommitLeaves, IsCommitted}
use Rattle.disk_journal.proofs.Spellings.{frames-push, length-frames-push, length-body_of}
use Rattle.disk_journal.proofs.Tails.{front_of, length-front_of, messages_in, Stands, stands, walk_of_closed_log, walk_is}

-- where nothing is written
pub unwritten : (before : Story) (message : List ℕ) → IsSettled before → StopsLeave before before (CommitLeaves before message)
unwritten before message settled =
    started before (CommitLeaves before message) (λ image h. record { log = inl (ap walk_of (settled image h)); nothing_sent = refl })

module _ (before : Story) (tail : ℕ) (body : List ℕ) (is_body : IsBody body) (at_tail : StandsAt (content before) tail)
    (settled : IsSettled before) where
  abbrev pub messages : List (List ℕ)
  messages = messages_in (content before)

  abbrev pub message : List ℕ
  message = message_of body

  abbrev pub P : List ℕ → List ℕ → Type 0
  P = CommitLeaves before message

  here : Stands (content before) tail
  here = stands (content before) tail at_tail

  -- the log before, and the log with the message
  abbrev pub log : Walk
  log = walk_of (content before)

  in_range : All IsMessage (messages ++ message ∷ [])
  in_range = All-append IsMessage messages (message ∷ []) here.in_range (All-cons IsMessage message [] is_body.message (All-nil IsMessage))

  -- what stands behind the new frame
  abbrev pub rest : List ℕ
  rest = drop (tail + length body) (content before)

  split : content before ≡ (front_of messages ++ here.gate ∷ []) ++ here.behind
  split = here.split ∙ sym (append_assoc (front_of messages) (here.gate ∷ []) here.behind)

  length-front : length (front_of messages ++ here.gate ∷ []) ≡ tail
  length-front = omega (arith, length-append (front_of messages) (here.gate ∷ []), here.place)

  front : take tail (content before) ≡ front_of messages ++ here.gate ∷ []
  front = ap (λ (file : List ℕ). take tail file) split ∙ take_at (front_of messages ++ here.gate ∷ []) here.behind tail length-front

  pub inside : tail ≤ length (content before)
  inside = omega (arith, ap length split, length-append (front_of messages ++ here.gate ∷ []) here.behind, length-front)

  -- a closed gate behind the messages ends the log, whatever stands behind it
  log_before : (gate : ℕ) (behind : List ℕ) → gate ≢ 1 → walk_of (front_of messages ++ gate ∷ behind) ≡ log
  log_before gate behind closed =
      walk_of_closed_log messages gate behind here.in_range closed
      ∙ ap (λ (n : ℕ). let w : Walk = record { messages = messages; end = Ok n } in w) (sym here.place)
      ∙ sym (walk_is (content before) tail at_tail)

  log_after : (gate : ℕ) (behind : List ℕ) → gate ≢ 1 → walk_of
      (front_of (messages ++ message ∷ []) ++ gate ∷ behind) ≡ with_message message log
  log_after gate behind closed =
      walk_of_closed_log (messages ++ message ∷ []) gate behind in_range closed
      ∙ ap (λ (n : ℕ). let w : Walk = record { messages = messages ++ message ∷ []; end = Ok n } in w) place
      ∙ ap (with_message message) (sym (walk_is (content before) tail at_tail))
    where
      place : length (front_of (messages ++ message ∷ [])) + 1 ≡ tail + (5 + length message)
      place = omega (
        arith,
        here.place,
        length-front_of messages,
        length-front_of (messages ++ message ∷ []),
        length-frames-push messages message,
      )

  -- while the body is written the gate is closed
  torn_body : (stored : List ℕ) (lost : ℕ) (image : List ℕ) → IsImage (wrote tail stored lost ∷ before) image → P image (sent before)
  torn_body stored lost image h =
      let torn = torn_by_write before tail stored lost image settled inside h in
      let whole : image ≡ front_of messages ++ here.gate ∷ drop tail image =
      sym (take-append-drop tail image) ∙ ap (λ (l : List ℕ). l ++ drop tail image) (torn.before ∙ front)
      ∙ append_assoc (front_of messages) (here.gate ∷ []) (drop tail image) in
      record { log = inl (ap walk_of whole ∙ log_before here.gate (drop tail image) here.closed); nothing_sent = refl }

  abbrev pub one : Story
  one = wrote tail body 0 ∷ before

  abbrev pub two : Story
  two = synced ∷ one

  abbrev pub three : Story
  three = wrote (tail - 1) (1 ∷ []) 0 ∷ two

  abbrev pub four : Story
  four = synced ∷ three

  staged_is : put tail body (content before) ≡ (front_of messages ++ here.gate ∷ []) ++ body ++ rest
  staged_is = ap (λ (l : List ℕ). l ++ body ++ rest) front

  staged_parts : put tail body (content before) ≡ front_of messages ++ (here.gate ∷ body ++ rest)
  staged_parts =
      staged_is ∙ append_assoc (front_of messages ++ here.gate ∷ []) body rest
      ∙ append_assoc (front_of messages) (here.gate ∷ []) (body ++ rest)

  before_gate : take (tail - 1) (put tail body (content before)) ≡ front_of messages
  before_gate =
      ap (λ (file : List ℕ). take (tail - 1) file) staged_parts
      ∙ take_at (front_of messages) (here.gate ∷ body ++ rest) (tail - 1) (omega (arith, here.place))

  behind_gate : drop (tail - 1 + 1) (put tail body (content before)) ≡ body ++ rest
  behind_gate =
      ap (λ (file : List ℕ). drop (tail - 1 + 1) file) (staged_is ∙ append_assoc (front_of messages ++ here.gate ∷ []) body rest)
      ∙ drop_at (front_of messages ++ here.gate ∷ []) (body ++ rest) (tail - 1 + 1) (omega (arith, length-front, here.place))

  pub gate_inside : tail - 1 ≤ length (put tail body (content before))
  gate_inside = omega (arith, ap length staged_parts, length-append (front_of messages) (here.gate ∷ body ++ rest), here.place)

  -- an open gate before the body makes it a frame
  open_is : front_of messages ++ (1 ∷ body ++ rest) ≡ front_of (messages ++ message ∷ []) ++ 0 ∷ rest
  open_is =
      ap (λ (l : List ℕ). front_of messages ++ (1 ∷ l)) (ap (λ (l : List ℕ). l ++ rest) is_body.spelled
      ∙ append_assoc (be32 (length message) ++ message) (0 ∷ []) rest)
      ∙ append_assoc file_header (frames messages) (frame message ++ 0 ∷ rest)
      ∙ ap (λ (l : List ℕ). file_header ++ l) (sym (frames-push messages message (0 ∷ rest)))
      ∙ sym (append_assoc file_header (frames (messages ++ message ∷ [])) (0 ∷ rest))

  -- while the gate is written the frame stands whole behind it
  torn_gate : (stored : List ℕ) (lost : ℕ) (image : List ℕ) → length stored + lost ≡ 1
      → IsImage (wrote (tail - 1) stored lost ∷ two) image → P image (sent before)
  torn_gate stored lost image range h =
      let torn = torn_by_write two (tail - 1) stored lost image (settled_by_sync one) gate_inside h in
      let long : length (put tail body (content before)) ≤ length image = torn.no_shorter in
      let byte = get_or image (tail - 1) 0 in
      let behind : drop (tail - 1 + 1) image ≡ body ++ rest =
      subst (λ (n : ℕ). drop (tail - 1 + n) image ≡ drop (tail - 1 + n) (put tail body (content before))) range torn.behind ∙ behind_gate in
      let at_gate : drop (tail - 1) image ≡ byte ∷ body ++ rest =
      drop_more image (tail - 1) 0
      (omega (arith, long, ap length staged_parts, length-append (front_of messages) (here.gate ∷ body ++ rest), here.place))
      ∙ ap (λ (l : List ℕ). byte ∷ l) behind in
      let whole : image ≡ front_of messages ++ (byte ∷ body ++ rest) =
      sym (take-append-drop (tail - 1) image) ∙ ap (λ (l : List ℕ). l ++ drop (tail - 1) image) (torn.before ∙ before_gate)
      ∙ ap (λ (l : List ℕ). front_of messages ++ l) at_gate in
      record {
        log = elim (cases_eq byte 1) [
          | inl is_open ↦ inr (ap walk_of (whole ∙ ap (λ (g : ℕ). front_of messages ++ (g ∷ body ++ rest)) is_open ∙ open_is)
              ∙ log_after 0 rest (omega arith))
          | inr closed ↦ inl (ap walk_of whole ∙ log_before byte (body ++ rest) closed)
        ];
        nothing_sent = refl;
      }

  committed_is : put (tail - 1) (1 ∷ []) (put tail body (content before)) ≡ front_of (messages ++ message ∷ []) ++ 0 ∷ rest
  committed_is =
      ap (λ (l : List ℕ). l ++ (1 ∷ []) ++ drop (tail - 1 + 1) (put tail body (content before))) before_gate
      ∙ append_assoc (front_of messages) (1 ∷ []) (drop (tail - 1 + 1) (put tail body (content before)))
      ∙ ap (λ (l : List ℕ). front_of messages ++ (1 ∷ l)) behind_gate
      ∙ open_is

  committed : IsCommitted before four message (tail + length body)
  committed =
      let tells : walk_of (content four) ≡ with_message message log = ap walk_of committed_is ∙ log_after 0 rest (omega arith) in
      record {
        log = tells;
        stands = ap (λ (w : Walk). w.end) tells ∙ ap (end_after (5 + length message)) at_tail
            ∙ ap (λ (n : ℕ). Ok (tail + n)) (let e : 5 + length message ≡ length body =
            omega (arith, ap length is_body.spelled, length-body_of message) in e);
        settled = settled_by_sync three;
        nothing_sent = refl;
      }

  -- the stops of each call
  pub body_failed : (now : Story) → FailsToWrite tail body before now → StopsLeave before now P
  body_failed now failed = write_failed before now tail body P failed (λ stored lost range image h. torn_body stored lost image h)

  body_done : StopsLeave before one P
  body_done = write_done before one tail body P refl (torn_body body 0)

  body_synced : StopsLeave before two P
  body_synced = goes_on before one two P body_done (sync_done one two P refl (torn_body body 0))

  gate_done : StopsLeave before three P
  gate_done = goes_on before two three P body_synced (write_done two three (tail - 1) (1 ∷ []) P refl
      (λ image h. torn_gate (1 ∷ []) 0 image (omega arith) h))

  gate_synced : StopsLeave before four P
  gate_synced = goes_on before three four P gate_done (sync_done three four P refl (λ image h. torn_gate (1 ∷ []) 0 image (omega arith) h))

  -- the same over the stories of the calls
  pub sync_failed : (a now : Story) → a ≡ one → now ≡ a → StopsLeave before now P
  sync_failed a now is_one same = subst (λ (s : Story). StopsLeave before s P) (sym (same ∙ is_one)) body_done

  is_two : (a b : Story) → a ≡ one → b ≡ synced ∷ a → b ≡ two
  is_two a b is_one is = is ∙ ap (λ (s : Story). synced ∷ s) is_one

  is_three : (a b c : Story) → a ≡ one → b ≡ synced ∷ a → c ≡ wrote (tail - 1) (1 ∷ []) 0 ∷ b → c ≡ three
  is_three a b c is_one is_b is = is ∙ ap (λ (s : Story). wrote (tail - 1) (1 ∷ []) 0 ∷ s) (is_two a b is_one is_b)

  pub inside_later : (a b : Story) → a ≡ one → b ≡ synced ∷ a → tail - 1 ≤ length (content b)
  inside_later a b is_one is_b = subst (λ (s : Story). tail - 1 ≤ length (content s)) (sym (is_two a b is_one is_b)) gate_inside

  pub gate_failed : (a b now : Story) → a ≡ one → b ≡ synced ∷ a → FailsToWrite (tail - 1) (1 ∷ []) b now → StopsLeave before now P
  gate_failed a b now is_one is_b failed =
      goes_on before two now P body_synced
      (write_failed two now (tail - 1) (1 ∷ []) P (subst (λ (s : Story). FailsToWrite (tail - 1) (1 ∷ []) s now)
      (is_two a b is_one is_b) failed)
      (λ stored lost range image h. torn_gate stored lost image range h))

  pub last_sync_failed : (a b c now : Story) → a ≡ one → b ≡ synced ∷ a → c ≡ wrote (tail - 1) (1 ∷ []) 0 ∷ b → now ≡ c
      → StopsLeave before now P
  last_sync_failed a b c now is_one is_b is_c same = subst (λ (s : Story). StopsLeave before s P)
      (sym (same ∙ is_three a b c is_one is_b is_c)) gate_done

  pub all_done : (a b c now : Story) → a ≡ one → b ≡ synced ∷ a → c ≡ wrote (tail - 1) (1 ∷ []) 0 ∷ b → now ≡ synced ∷ c
      → StopsLeave before now P × IsCommitted before now message (tail + length body)
  all_done a b c now is_one is_b is_c is =
      let is_four : now ≡ four = is ∙ ap (λ (s : Story). synced ∷ s) (is_three a b c is_one is_b is_c) in (
        subst (λ (s : Story). StopsLeave before s P) (sym is_four) gate_synced,
        subst (λ (s : Story). IsCommitted before s message (tail + length body)) (sym is_four) committed,
      )

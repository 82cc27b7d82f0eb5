-- From one frame of closings to the next.
use Rattle.std.proofs.Common.{◌≡◌, ◌⊎◌, inl, inr, ℕ, ◌+◌, ◌*◌, ◌<◌, ◌≤◌, List, [], ◌++◌, length, take, drop}
use Rattle.std.proofs.Common.{refl, sym, ap, ap₂, ◌∙◌, subst, arith, length-append, max, Result, Ok}
use Rattle.std.proofs.lemmas.List.{append-nil, length-take, take_all, take_at, take-take, take-append-drop, nil_from_length}
use Rattle.std.proofs.lemmas.List.{drop_all, drop_at, drop-drop, drop-take}
use Rattle.aftr_base.specs.Telling.{in_message_order, told_after}
use Rattle.aftr_base.specs.declared.row.LeaseRow.{LeaseRow}
use Rattle.aftr_base.specs.declared.told.Told.{Told}
use Rattle.aftr_base.specs.declared.event.LogEvent.{LogEvent}
use Rattle.plant_io.specs.Story.{Story, content, sent, IsSettled}
use Rattle.plant_io.specs.Stops.{StopsLeave}
use Rattle.plant_io.proofs.Images.{content_is_image}
use Rattle.plant_io.proofs.Moments.{at_end, goes_on, started, weaker}
use Rattle.disk_journal.specs.Frames.{body_of}
use Rattle.nat_events.specs.Spelling.{message}
use Rattle.lease_log.specs.Batch.{Batch, batch_body, empty_batch, AppendLeaves, CanAppend, HasAppended, IsWithinLimits, TellsMore}
use Rattle.lease_log.specs.Log.{Log, log_of}
use Rattle.lease_log.specs.Sound.{IsSound}
use Rattle.lease_log.proofs.LogSteps.{log_inj}
use Rattle.lease_log.proofs.Requiring.{ok_inj}
use Rattle.lease_log.proofs.ToldSteps.{told_count}
use Rattle.recovery.specs.Answers.{HasNoRoom}
use Rattle.recovery.specs.Closings.{closings_of, frame_body, frame_closings, lease_closings, recovered}
use Rattle.recovery.specs.Frames.{CloseLeaves, HasClosed, HasGathered, IsRefusal}
use Rattle.recovery.specs.declared.RecoverBad.TheVariants.{Full}
use Rattle.recovery.specs.Leaves.{IsClosing}
use Rattle.recovery.proofs.Ending.{all_told}
use Rattle.recovery.proofs.ToldParts.{told_first, told_then}

-- ---- what a batch has

-- behind so many whole frames, the batch and the leases that are left have the closings that are left
pub record IsGathering (was : Told) (batch : Batch) (rest : List LeaseRow) (frames : ℕ) : Type 0 where
  pub at : batch.at ≡ was.horizon.0
  pub left : drop (1024 * frames) (closings_of was) ≡ batch.events ++ lease_closings was.horizon rest
  pub few : length batch.events ≤ 1
  pub limits : IsWithinLimits batch.events
  pub ordered : in_message_order batch.events ≡ batch.events

-- the batch has the closings of a frame, and the leases that are left have those behind it
pub record IsFrame (was : Told) (batch : Batch) (rest : List LeaseRow) (frames : ℕ) : Type 0 where
  pub at : batch.at ≡ was.horizon.0
  pub events : batch.events ≡ frame_closings was frames
  pub next : drop (1024 * (frames + 1)) (closings_of was) ≡ lease_closings was.horizon rest
  pub ordered : in_message_order batch.events ≡ batch.events

front : (n : ℕ) (xs ys : List LogEvent) → length xs ≤ n → (length xs ≡ n) ⊎ (ys ≡ []) → take n (xs ++ ys) ≡ xs
front n xs ys few (inl whole) = take_at xs ys n whole
front n xs ys few (inr none) =
    ap (λ (l : List LogEvent). take n (xs ++ l)) none ∙ ap (take n) (append-nil xs) ∙ take_all n xs few

behind : (n : ℕ) (xs ys : List LogEvent) → length xs ≤ n → (length xs ≡ n) ⊎ (ys ≡ []) → drop n (xs ++ ys) ≡ ys
behind n xs ys few (inl whole) = drop_at xs ys n whole
behind n xs ys few (inr none) =
    ap (λ (l : List LogEvent). drop n (xs ++ l)) none ∙ ap (drop n) (append-nil xs) ∙ drop_all n xs few ∙ sym none

pub gathered : (was : Told) (batch now : Batch) (rest : List LeaseRow) (frames passed : ℕ) → IsGathering was batch rest frames
    → HasGathered was.horizon rest batch now passed → IsFrame was now (drop passed rest) frames
gathered was batch now rest frames passed is h =
    let more = lease_closings was.horizon (drop passed rest) in
    let left : drop (1024 * frames) (closings_of was) ≡ now.events ++ more = is.left ∙ sym h.moved in
    let ends : (length now.events ≡ 1024) ⊎ (more ≡ []) = elim h.ends [
      | inl whole ↦ inl whole
      | inr all ↦ inr (ap (lease_closings was.horizon) (drop_all passed rest (omega (arith, all))))
    ] in
    let further : 1024 * (frames + 1) ≡ 1024 * frames + 1024 = omega arith in
    record {
      at = ap (λ (b : Batch). b.at) h.same ∙ is.at;
      events = sym (ap (take 1024) left ∙ front 1024 now.events more h.few ends);
      next = ap (λ (n : ℕ). drop n (closings_of was)) further ∙ sym (drop-drop 1024 (1024 * frames) (closings_of was))
          ∙ ap (drop 1024) left ∙ behind 1024 now.events more h.few ends;
      ordered = h.ordered is.ordered;
    }

none_limits : IsWithinLimits []
none_limits = record { horizons = omega arith; plans = omega arith; blocks = omega arith }

-- the next frame begins without events
pub next_frame : (was : Told) (batch now : Batch) (rest : List LeaseRow) (frames count : ℕ) → IsFrame was batch rest frames
    → now ≡ empty_batch was.horizon.0 count → IsGathering was now rest (frames + 1)
next_frame was batch now rest frames count is empty =
    subst (λ (b : Batch). IsGathering was b rest (frames + 1)) (sym empty)
    (record { at = refl; left = is.next; few = omega arith; limits = none_limits; ordered = refl })

-- ---- what is told by now

pub record IsLogged (was : Log) (limit : ℕ) (before now : Story) (tail number frames : ℕ) : Type 0 where
  pub told : Told
  pub log : log_of (content now) ≡ Ok record { told = told; tail = tail }
  pub follows : told_after (take (1024 * frames) (closings_of was.told)) was.told ≡ Ok told
  pub count : number ≡ told.count
  pub settled : IsSettled now
  pub stops : StopsLeave before now (CloseLeaves before)
  pub room : tail ≤ max was.tail limit

-- so far: what the batch has, and what is told if the plant tells its content
pub record IsUnderWay (tells : Type 0) (was : Log) (limit : ℕ) (before now : Story) (tail : ℕ) (batch : Batch)
    (rest : List LeaseRow) : Type 0 where
  pub frames : ℕ
  pub gathering : IsGathering was.told batch rest frames
  pub logged : tells → IsLogged was limit before now tail batch.count frames

same_closing : (file : List ℕ) (was : Log) → log_of file ≡ Ok was → IsClosing file file
same_closing file was is = record { was = was; log = was; was_log = is; is_log = is; part = record { number = 0; follows = refl } }

pub logged_at_first : (was : Log) (limit : ℕ) (before : Story) → log_of (content before) ≡ Ok was → IsSettled before
    → IsLogged was limit before before was.tail was.told.count 0
logged_at_first was limit before is settled = record {
  told = was.told;
  log = is;
  follows = refl;
  count = refl;
  settled = settled;
  stops = started before (CloseLeaves before) (λ image h. record {
    closing = subst (IsClosing (content before)) (sym (settled image h)) (same_closing (content before) was is);
    nothing_sent = refl;
  });
  room = omega arith;
}

seam : (n m : ℕ) (xs : List LogEvent) → take n xs ++ take m (drop n xs) ≡ take (n + m) xs
seam n m xs =
    let first : take n (take (n + m) xs) ≡ take n xs = take-take n (n + m) xs (omega arith) in
    ap₂ (λ (l k : List LogEvent). l ++ k) (sym first) (sym (drop-take n m xs)) ∙ take-append-drop n (take (n + m) xs)

module _ {was : Log} {limit tail frames : ℕ} {before now : Story} {batch : Batch} {rest : List LeaseRow}
    (is_log : log_of (content before) ≡ Ok was) (sound : IsSound was.told) (l : IsLogged was limit before now tail batch.count frames)
    (f : IsFrame was.told batch rest frames) where
  abbrev all : List LogEvent
  all = closings_of was.told

  unsent : sent now ≡ sent before
  unsent = (at_end before now (CloseLeaves before) l.stops (content now) (content_is_image now)).nothing_sent

  reached : (next : Told) × (told_after (take (1024 * (frames + 1)) all) was.told ≡ Ok next)
  reached = told_first (1024 * (frames + 1)) all was.told (recovered was.told) (all_told was.told sound)

  follows : told_after (in_message_order batch.events) l.told ≡ Ok reached.0
  follows =
      let further : 1024 * frames + 1024 ≡ 1024 * (frames + 1) = omega arith in
      ap (λ (es : List LogEvent). told_after es l.told) (f.ordered ∙ f.events)
      ∙ sym (told_then (take (1024 * frames) all) (frame_closings was.told frames) was.told l.told l.follows)
      ∙ ap (λ (es : List LogEvent). told_after es was.told)
      (seam (1024 * frames) 1024 all ∙ ap (λ (n : ℕ). take n all) further)
      ∙ reached.1

  pub can_append : CanAppend (content now) tail batch
  can_append = record { told = l.told; next = reached.0; log = l.log; count = l.count; follows = follows }

  tells_next : (image : List ℕ) → TellsMore (content now) image batch
      → log_of image ≡ Ok record { told = reached.0; tail = tail + length (batch_body batch) }
  tells_next image m =
      let same : (let a : Log = record { told = m.told; tail = m.tail } in a) ≡ record { told = l.told; tail = tail } =
      log_inj _ _ (sym m.was ∙ l.log) in
      let after : m.next ≡ reached.0 =
      ok_inj m.next reached.0
      (sym m.follows ∙ ap (λ (t : Told). told_after (in_message_order batch.events) t) (ap (λ (x : Log). x.told) same) ∙ follows) in
      m.log
      ∙ ap₂ (λ (t : Told) (n : ℕ). let r : Result Log ℕ = Ok record { told = t; tail = n + length (batch_body batch) } in r) after
      (ap (λ (x : Log). x.tail) same)

  next_closing : (image : List ℕ) → TellsMore (content now) image batch → IsClosing (content before) image
  next_closing image m = record {
    was = was;
    log = record { told = reached.0; tail = tail + length (batch_body batch) };
    was_log = is_log;
    is_log = tells_next image m;
    part = record { number = 1024 * (frames + 1); follows = reached.1 };
  }

  during : (image bytes : List ℕ) → AppendLeaves now batch image bytes → CloseLeaves before image bytes
  during image bytes left = record {
    closing = elim left.log [
      | inl same ↦ record {
        was = was;
        log = record { told = l.told; tail = tail };
        was_log = is_log;
        is_log = same ∙ l.log;
        part = record { number = 1024 * frames; follows = l.follows };
      }
      | inr more ↦ next_closing image more
    ];
    nothing_sent = left.nothing_sent ∙ unsent;
  }

  pub stopped : {last : Story} → StopsLeave now last (AppendLeaves now batch) → StopsLeave before last (CloseLeaves before)
  stopped {last} stops =
      goes_on before now last (CloseLeaves before) l.stops (weaker now last (AppendLeaves now batch) (CloseLeaves before) during stops)

  pub committed : {last : Story} {count end : ℕ} → StopsLeave now last (AppendLeaves now batch) → HasAppended now last batch
      → count ≡ batch.count + length batch.events → end ≡ tail + length (batch_body batch) → end ≤ limit
      → IsLogged was limit before last end count (frames + 1)
  committed {last} {count} {end} stops done is_count is_end fits =
      let more = told_count (in_message_order batch.events) l.told reached.0 follows in
      record {
        told = reached.0;
        log = tells_next (content last) done.log
            ∙ ap (λ (n : ℕ). let r : Result Log ℕ = Ok record { told = reached.0; tail = n } in r) (sym is_end);
        follows = reached.1;
        count = omega (arith, is_count, l.count, more, ap (λ (es : List LogEvent). length es) f.ordered);
        settled = done.settled;
        stops = stopped stops;
        room = omega (arith, fits);
      }

  -- ---- where there is no room

  abbrev behind_frames : List LogEvent
  behind_frames = drop (1024 * frames) all

  pub no_room : {at need most : ℕ} → 0 < length batch.events → IsRefusal tail (length (batch_body batch)) limit (Full at need most)
      → HasNoRoom limit (content before) (content now) at need most
  no_room {at} {need} {most} some refused =
      let whole = take-append-drop (1024 * frames) all in
      let size : length (take (1024 * frames) all) + length behind_frames ≡ length all =
      sym (length-append (take (1024 * frames) all) behind_frames) ∙ ap (λ (es : List LogEvent). length es) whole in
      let left : 0 < length behind_frames =
      omega (arith, some, ap (λ (es : List LogEvent). length es) f.events, length-take 1024 behind_frames) in
      let within : 1024 * frames < length all = omega (arith, left, size, length-take (1024 * frames) all) in
      let told_by_now = told_count (take (1024 * frames) all) was.told l.told l.follows in
      let count : batch.count ≡ was.told.count + 1024 * frames =
      omega (arith, l.count, told_by_now, length-take (1024 * frames) all, within) in
      let body : batch_body batch ≡ frame_body was.told frames =
      ap (λ (n : ℕ). body_of (message n batch.count batch.events)) f.at
      ∙ ap₂ (λ (n : ℕ) (es : List LogEvent). body_of (message was.told.horizon.0 n es)) count f.events in
      record {
        was = was;
        log = record { told = l.told; tail = tail };
        frames = frames;
        was_log = is_log;
        is_log = l.log;
        told = l.follows;
        left = within;
        ends = refused.0;
        asks = refused.1 ∙ ap (λ (b : List ℕ). length b) body;
        bound = refused.2;
        full = omega (arith, refused.0, refused.1, refused.2, refused.3);
        room = l.room;
      }

  -- ---- where nothing is left

  pub all_closed : batch.events ≡ [] → HasClosed limit was (content now) tail batch.count
  all_closed none =
      let short : length behind_frames ≡ 0 =
      omega (arith, ap (λ (es : List LogEvent). length es) (sym f.events ∙ none), length-take 1024 behind_frames) in
      let whole : take (1024 * frames) all ≡ all =
      sym (append-nil (take (1024 * frames) all))
      ∙ ap (λ (es : List LogEvent). take (1024 * frames) all ++ es) (sym (nil_from_length behind_frames short))
      ∙ take-append-drop (1024 * frames) all in
      let same : l.told ≡ recovered was.told =
      ok_inj l.told (recovered was.told)
      (sym l.follows ∙ ap (λ (es : List LogEvent). told_after es was.told) whole ∙ all_told was.told sound) in
      record {
        log = l.log ∙ ap (λ (t : Told). let r : Result Log ℕ = Ok record { told = t; tail = tail } in r) same;
        closed = record {
          number = 1024 * frames;
          follows = l.follows ∙ ap (λ (t : Told). let r : Result Told (Unit {0}) = Ok t in r) same;
        };
        count = l.count ∙ ap (λ (t : Told). t.count) same;
        room = l.room;
      }

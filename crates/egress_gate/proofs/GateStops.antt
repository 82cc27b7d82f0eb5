-- What a stop leaves while a record's events are logged, and then its packets are sent.
use Rattle.std.proofs.Common.{◌≡◌, inl, inr, ℕ, ◌+◌, List, ◌++◌, length, take, Result, Ok, Err, refl, sym, ◌∙◌, ap, subst}
use Rattle.std.proofs.lemmas.List.{append-nil}
use Rattle.plant_io.specs.Story.{Story, content, sent, IsImage, IsSettled, EmitsPart, emit_all}
use Rattle.plant_io.specs.Stops.{StopsLeave}
use Rattle.plant_io.proofs.Images.{content_is_image, settled_by_emit}
use Rattle.plant_io.proofs.Moments.{at_end, started, goes_on, weaker, emit_done, emit_failed}
use Rattle.aftr_base.specs.declared.told.Told.{Told}
use Rattle.aftr_base.specs.Telling.{in_message_order, told_after}
use Rattle.aftr_base.specs.Told.{nothing_told}
use Rattle.lease_log.specs.Batch.{AppendLeaves, Batch, TellsMore, batch_body}
use Rattle.lease_log.specs.Log.{Log}
use Rattle.egress_gate.specs.Logged.{EndsAt, IsFollowing, Tells, LogsFirst}

-- nothing is done to a log that tells this
pub nothing_done : (story : Story) (was next : Told) (packets : List ℕ) → IsSettled story → Tells (content story) was
    → StopsLeave story story (LogsFirst was next (sent story) packets)
nothing_done story was next packets settled tells =
    started story (LogsFirst was next (sent story) packets)
    (λ image is. inl (subst (λ (file : List ℕ). Tells file was) (sym (settled image is)) tells, refl))

after_commit : (before now : Story) (was next : Told) (packets : List ℕ) → IsSettled now → Tells (content now) next → sent now ≡ sent before
    → (count : ℕ) (image : List ℕ) → IsImage now image
    → LogsFirst was next (sent before) packets image (sent now ++ take count packets)
after_commit before now was next packets settled tells same count image is =
    inr (
      subst (λ (file : List ℕ). Tells file next) (sym (settled image is)) tells,
      (count, ap (λ (l : List ℕ). l ++ take count packets) same),
    )

module _ (before now last : Story) (was next : Told) (packets : List ℕ)
    (stops : StopsLeave before now (LogsFirst was next (sent before) packets))
    (settled : IsSettled now) (tells : Tells (content now) next) (same : sent now ≡ sent before) where
  pub sent_all : last ≡ emit_all packets now → StopsLeave before last (LogsFirst was next (sent before) packets)
  sent_all is =
      goes_on before now last (LogsFirst was next (sent before) packets) stops
      (emit_done packets now last (LogsFirst was next (sent before) packets) is
      (after_commit before now was next packets settled tells same))

  pub sent_part : EmitsPart packets now last → StopsLeave before last (LogsFirst was next (sent before) packets)
  sent_part part =
      goes_on before now last (LogsFirst was next (sent before) packets) stops
      (emit_failed packets now last (LogsFirst was next (sent before) packets) part
      (after_commit before now was next packets settled tells same))

pub settled_sent : (now last : Story) (packets : List ℕ) → IsSettled now → last ≡ emit_all packets now → IsSettled last
settled_sent now last packets settled is = subst IsSettled (sym is) (settled_by_emit packets now settled)

-- ---- while a batch is appended

-- a log that tells the batch's events too tells what is told next
more_tells : {before now : List ℕ} {batch : Batch} {was next : Told} → IsFollowing before batch was next → TellsMore before now batch
    → Tells now next
more_tells {before} {now} {batch} {was} {next} f more =
    let same : more.told ≡ was = ap told_in (sym more.was ∙ f.log) in
    let after : more.next ≡ next =
    ap told_or (sym more.follows ∙ ap (told_after (in_message_order batch.events)) same ∙ f.follows) in
    (more.tail + length (batch_body batch), subst (λ (t : Told). EndsAt now t (more.tail + length (batch_body batch))) after more.log)
  where
    told_in : Result Log ℕ → Told
    told_in (Ok l) = l.told
    told_in (Err offset) = nothing_told

    told_or : Result Told (Unit {0}) → Told
    told_or (Ok t) = t
    told_or (Err x) = nothing_told

pub during_append : (before now : Story) (batch : Batch) (was next : Told) (packets : List ℕ)
    → IsFollowing (content before) batch was next → StopsLeave before now (AppendLeaves before batch)
    → StopsLeave before now (LogsFirst was next (sent before) packets)
during_append before now batch was next packets f stops =
    weaker before now (AppendLeaves before batch) (LogsFirst was next (sent before) packets)
    (λ image bytes left. elim left.log [
      | inl same ↦ inl ((f.tail, same ∙ f.log), left.nothing_sent)
      | inr more ↦ inr (more_tells f more, (0, left.nothing_sent ∙ sym (append-nil (sent before))))
    ]) stops

-- nothing is sent meanwhile
pub unsent : (before now : Story) (batch : Batch) → StopsLeave before now (AppendLeaves before batch) → sent now ≡ sent before
unsent before now batch stops =
    (at_end before now (AppendLeaves before batch) stops (content now) (content_is_image now)).nothing_sent

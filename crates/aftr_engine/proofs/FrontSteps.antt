-- How far a run under way has come, where it ends.
use Rattle.std.proofs.Common.{◌≡◌, ◌<◌, ℕ, zero, suc, ◌+◌, ◌-◌, List, [], ◌∷◌, ◌++◌, length, take, refl, sym, ap, ◌∙◌, subst, arith}
use Rattle.std.proofs.Common.{append_assoc}
use Rattle.std.proofs.Common.{length-append, length-take}
use Rattle.std.specs.Prelude.{None, Some, slice_get}
use Rattle.std.proofs.lemmas.List.{append-nil, take_at}
use Rattle.std.proofs.Math.Seq.{take-append-add}
use Rattle.plant_io.specs.Sink.{GainsPart}
use Rattle.plant_io.specs.Story.{Story, content, sent}
use Rattle.aftr_base.specs.declared.told.Told.{Told}
use Rattle.aftr_base.specs.declared.event.Event.{Event}
use Rattle.aftr_base.specs.Drops.{drop_counts}
use Rattle.cfg_text.specs.declared.config.Config.{Config}
use Rattle.xlate_core.specs.State.{State}
use Rattle.xlate_core.specs.Step.{step}
use Rattle.xlate_core.specs.Run.{Run, run, start}
use Rattle.link_records.specs.declared.Next.TheVariants.{Got, Failed}
use Rattle.link_records.specs.Frames.{Input, event_at, frames_of}
use Rattle.link_records.specs.Reader.{Reads}
use Rattle.egress_gate.specs.Held.{Gated, body_for}
use Rattle.egress_gate.specs.Logged.{EndsAt, Tells, told_next}
use Rattle.egress_gate.specs.Output.{output}
use Rattle.aftr_engine.specs.session.EndToEnd.{front_run, told_behind}
use Rattle.aftr_engine.specs.session.Fronts.{taken_of, HasSentFirst, HasTreatedFirst, IsFull, IsSendingNext}
use Rattle.aftr_engine.specs.session.Progress.{HasRead, with_events}
use Rattle.aftr_engine.specs.session.UnderWay.{IsUnderWay}
use Rattle.link_records.proofs.FrameSteps.{no_record}
use Rattle.aftr_engine.proofs.RunSteps.{read_on, front_is, front_seen, front_next, output_on, told_on}

-- the bytes that were taken, where the last of them hold no whole record: their records are those that were seen
taken_seen : (held rest : List ℕ) {input left : List ℕ} {offset : ℕ} {seen : List Event} → HasRead seen input offset left
    → held ++ rest ≡ left
    → event_at offset held ≡ None → (frames_of (taken_of input rest)).events ≡ seen
taken_seen held rest {input} {left} {offset} {seen} read all none =
    let taken : List ℕ = read.past ++ held in
    let whole : input ≡ taken ++ rest = read.whole ∙ ap (λ (l : List ℕ). read.past ++ l) (sym all)
    ∙ sym (append_assoc read.past held rest) in
    let long : length input - length rest ≡ length taken = omega (arith, ap length whole, length-append taken rest) in
    let same : taken_of input rest ≡ taken =
    ap (λ (n : ℕ). take n input) long ∙ ap (take (length taken)) whole ∙ take_at taken rest (length taken) refl in
    ap (λ (l : List ℕ). (frames_of l).events) same
    ∙ ap (λ (i : Input). i.events) (read.next held ∙ ap (with_events seen) (no_record offset held none))
    ∙ append-nil seen

-- there is one more
one_more : (events seen : List Event) (e : Event) → seen ++ e ∷ [] ≡ take (length seen + 1) events → length seen < length events
one_more events seen e next = omega (arith, ap length next, length-append seen (e ∷ []), length-take (length seen + 1) events)

-- what stands behind those that were seen
next_seen : (events seen : List Event) (e : Event) → seen ++ e ∷ [] ≡ take (length seen + 1) events
    → slice_get events (length seen) ≡ Some e
next_seen events seen e next =
    sym (get_take events (length seen + 1) (length seen) (omega arith)) ∙ ap (λ (l : List Event). slice_get l (length seen)) (sym next)
    ∙ at_length seen e
  where
    at_length : (xs : List Event) (x : Event) → slice_get (xs ++ x ∷ []) (length xs) ≡ Some x
    at_length [] x = refl
    at_length (y ∷ xs) x = at_length xs x

    get_take : (xs : List Event) (n k : ℕ) → k < n → slice_get (take n xs) k ≡ slice_get xs k
    get_take [] zero k lt = refl
    get_take [] (suc n) k lt = refl
    get_take (x ∷ xs) zero k lt = absurd (omega (arith, lt))
    get_take (x ∷ xs) (suc n) zero lt = refl
    get_take (x ∷ xs) (suc n) (suc k) lt = get_take xs n k (omega (arith, lt))

module _ (now : Story) {c : Config} {told : Told} {began : ℕ} {I P : Type 0} {input past left : List ℕ} {offset tail : ℕ} {s : State}
    {p : Gated}
    (way : IsUnderWay c told began I P input past
    (record { left = left; offset = offset; sent = sent now; log = content now; tail = tail }) s p) where
  -- the drops of the records so far
  pub way_counts : I → p.tally.drops.0 ≡ drop_counts (front_run c told (length way.seen) input).drops
  way_counts reads = way.counts.drops ∙ ap (λ (r : Run). drop_counts r.drops) (front_is c told (way.read reads))

  pub way_sent_first : (last : Story) → I → P → sent last ≡ sent now → HasSentFirst c told (length way.seen) input past last
  way_sent_first last reads tells same =
      same ∙ (way.done tells).packets ∙ ap (λ (r : Run). past ++ output r.items) (front_is c told (way.read reads))

  way_ends : I → P → EndsAt (content now) (told_behind told (front_run c told (length way.seen) input)) tail
  way_ends reads tells =
      subst (λ (r : Run). EndsAt (content now) (told_behind told r) tail) (front_is c told (way.read reads)) (way.done tells).tells

  -- the records so far, where nothing failed
  pub way_treated : I → P → HasTreatedFirst c told (length way.seen) input past now
  way_treated reads tells = record { packets = way_sent_first now reads tells refl; tells = (tail, way_ends reads tells) }

  -- where a read failed, these are all that were taken
  pub way_taken : (held rest : List ℕ) {offset' : ℕ} → I → Reads offset left offset' (held ++ rest) Failed → event_at offset' held ≡ None
      → length way.seen ≡ length (frames_of (taken_of input rest)).events
  way_taken held rest reads got none =
      ap length (sym (taken_seen held rest (way.read reads) got.0 (ap (λ (n : ℕ). event_at n held) (sym got.1) ∙ none)))

  -- the record behind those that were seen
  seen_next : {left' : List ℕ} {offset' : ℕ} {e : Event} → I → Reads offset left offset' left' (Got e)
      → way.seen ++ e ∷ [] ≡ take (length way.seen + 1) (frames_of input).events
  seen_next {e = e} reads got =
      front_seen (read_on (way.read reads) got)
      ∙ ap (λ (n : ℕ). take n (frames_of input).events) (length-append way.seen (e ∷ []))

  -- where the log has no room for one record's message more
  pub way_full : {left' : List ℕ} {offset' end need : ℕ} {e : Event} → I → P → Reads offset left offset' left' (Got e) → end ≡ tail
      → need ≡ length (body_for p.count (step s e)) → IsFull c told (length way.seen) input past now end need
  way_full {end = end} {e = e} reads tells got at_tail same =
      let front = front_is c told (way.read reads) in
      record {
        treated = way_treated reads tells;
        ends = subst (EndsAt (content now) (told_behind told (front_run c told (length way.seen) input))) (sym at_tail)
            (way_ends reads tells);
        next = e;
        place = next_seen (frames_of input).events way.seen e (seen_next reads got);
        need = same
            ∙ ap (λ (n : ℕ). length (body_for n (step s e))) way.logged
            ∙ ap (λ (x : State). length (body_for (told.count + length (run (start c told) way.seen).log) (step x e))) way.reaches
            ∙ ap (λ (r : Run). length (body_for (told.count + length r.log) (step r.state e))) front;
      }

  -- where the outlet failed, behind the log
  pub way_sending : (last : Story) {left' : List ℕ} {offset' : ℕ} {e : Event} → I → P → Reads offset left offset' left' (Got e)
      → GainsPart (output (step s e).items) (sent now) (sent last) → Tells (content last) (told_next p.count (step s e))
      → IsSendingNext c told (length way.seen) input past last
  way_sending last {left'} {offset'} {e} reads tells got (count, gained) logged =
      let seen = way.seen in
      let next : run (start c told) (seen ++ e ∷ []) ≡ front_run c told (length seen + 1) input =
      front_next c told (way.read reads) got in
      let first = output (run (start c told) seen).items in
      let taken : first ++ take count (output (step s e).items) ≡ take (length first + count)
      (output (front_run c told (length seen + 1) input).items) =
      sym (take-append-add first (output (step s e).items) count)
      ∙ ap (take (length first + count)) (sym (output_on c told seen e way.reaches) ∙ ap (λ (r : Run). output r.items) next) in
      let shorter : length (output (front_run c told (length seen) input).items) ≡ length first =
      ap (λ (r : Run). length (output r.items)) (sym (front_is c told (way.read reads))) in
      record {
        more = one_more (frames_of input).events seen e (seen_next reads got);
        count = length first + count;
        behind = omega (arith, shorter);
        packets = gained ∙ ap (λ (l : List ℕ). l ++ take count (output (step s e).items)) (way.done tells).packets
            ∙ append_assoc past first (take count (output (step s e).items)) ∙ ap (λ (l : List ℕ). past ++ l) taken;
        tells = subst (Tells (content last)) (sym (told_on way e) ∙ ap (told_behind told) next) logged;
      }

-- What a stop of a whole run leaves.
use Rattle.std.proofs.Common.{◌≡◌, inl, inr, ℕ, ◌+◌, List, [], ◌∷◌, ◌++◌, length, take, sym, ◌∙◌, ap, subst, arith, append_assoc}
use Rattle.std.proofs.lemmas.List.{append-nil, take_all}
use Rattle.std.proofs.Math.Seq.{take-append-add}
use Rattle.plant_io.specs.Sink.{GainsPart}
use Rattle.plant_io.specs.Story.{Story, content, sent, IsSettled}
use Rattle.plant_io.specs.Stops.{StopsLeave}
use Rattle.plant_io.proofs.Moments.{started, goes_on, weaker}
use Rattle.aftr_base.specs.declared.event.Event.{Event}
use Rattle.aftr_base.specs.declared.told.Told.{Told}
use Rattle.cfg_text.specs.declared.config.Config.{Config}
use Rattle.xlate_core.specs.State.{State}
use Rattle.xlate_core.specs.Step.{step}
use Rattle.xlate_core.specs.Run.{Run, run, start, told_of}
use Rattle.link_records.specs.declared.Next.TheVariants.{Got}
use Rattle.link_records.specs.Reader.{Reads}
use Rattle.egress_gate.specs.Held.{Gated}
use Rattle.egress_gate.specs.Logged.{LogsFirst, Tells, told_next}
use Rattle.egress_gate.specs.Output.{output}
use Rattle.aftr_engine.specs.session.EndToEnd.{told_behind}
use Rattle.aftr_engine.specs.session.Stops.{IsAccounted, AccountsFor}
use Rattle.aftr_engine.specs.session.UnderWay.{IsUnderWay, Standing}
use Rattle.aftr_engine.proofs.RunSteps.{front_is, front_next, output_on, told_now, told_on}

module _ {c : Config} {told : Told} {began : ℕ} {I P : Type 0} {input past : List ℕ} {w : Standing} {s : State} {p : Gated}
    (way : IsUnderWay c told began I P input past w s p) where
  -- what a stop leaves while the log tells what it told
  kept : {image bytes : List ℕ} → P → bytes ≡ w.sent → Tells image (told_of s p.count)
      → IsAccounted told (run (start c told) way.seen) past image bytes
  kept {image} {bytes} tells same is =
      let r = run (start c told) way.seen in
      let all = output r.items in
      record {
        count = length all;
        sent = same ∙ (way.done tells).packets ∙ ap (λ (l : List ℕ). past ++ l) (sym (take_all (length all) all (omega arith)));
        tells = subst (Tells image) (told_now way) is;
      }

  -- and once it tells one record's events more
  logged : (e : Event) {image bytes : List ℕ} → P → Tells image (told_next p.count (step s e))
      → GainsPart (output (step s e).items) w.sent bytes
      → IsAccounted told (run (start c told) (way.seen ++ e ∷ [])) past image bytes
  logged e {image} {bytes} tells is (count, gained) =
      let front = output (run (start c told) way.seen).items in
      let next = output (step s e).items in
      record {
        count = length front + count;
        sent = gained ∙ ap (λ (l : List ℕ). l ++ take count next) (way.done tells).packets
            ∙ append_assoc past front (take count next)
            ∙ ap (λ (l : List ℕ). past ++ l)
            (sym (take-append-add front next count) ∙ ap (take (length front + count)) (sym (output_on c told way.seen e way.reaches)));
        tells = subst (Tells image) (sym (told_on way e)) is;
      }

module _ {c : Config} {told : Told} {began : ℕ} {I P : Type 0} {input left : List ℕ} {offset tail : ℕ} {s : State} {p : Gated}
    (first middle last : Story)
    (way : IsUnderWay c told began I P input (sent first)
    (record { left = left; offset = offset; sent = sent middle; log = content middle; tail = tail }) s p) where
  -- one record more, and the stops before it
  pub way_stops : {left' : List ℕ} {offset' : ℕ} {e : Event} → I → P → Reads offset left offset' left' (Got e)
      → StopsLeave first middle (AccountsFor c told input (sent first))
      → StopsLeave middle last
      (LogsFirst (told_of s p.count) (told_next p.count (step s e)) (sent middle) (output (step s e).items))
      → StopsLeave first last (AccountsFor c told input (sent first))
  way_stops {e = e} reads tells got before during =
      let read = way.read reads in
      let accounts = λ (r : Run) (image bytes : List ℕ). IsAccounted told r (sent first) image bytes in
      let Q = LogsFirst (told_of s p.count) (told_next p.count (step s e)) (sent middle) (output (step s e).items) in
      goes_on first middle last (AccountsFor c told input (sent first)) before
      (weaker middle last Q (AccountsFor c told input (sent first))
      (λ image bytes either. elim either [
        | inl same ↦ (length way.seen, subst (λ (r : Run). accounts r image bytes) (front_is c told read) (kept way tells same.1 same.0))
        | inr more ↦ (
          length way.seen + 1,
          subst (λ (r : Run). accounts r image bytes) (front_next c told read got) (logged way e tells more.0 more.1),
        )
      ]) during)

-- at the start the log tells what it told
pub accounted_start : (c : Config) (told : Told) (story : Story) (input : List ℕ) → IsSettled story → Tells (content story) told
    → told_behind told (run (start c told) []) ≡ told → StopsLeave story story (AccountsFor c told input (sent story))
accounted_start c told story input settled tells none =
    started story (AccountsFor c told input (sent story))
    (λ image is. (
      0,
      record {
        count = 0;
        sent = sym (append-nil (sent story));
        tells = subst (Tells image) (sym none) (subst (λ (file : List ℕ). Tells file told) (sym (settled image is)) tells);
      },
    ))

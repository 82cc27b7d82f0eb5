-- How a run under way goes on and ends.
use Rattle.std.proofs.Common.{◌≡◌, ℕ, ◌+◌, ◌≤◌, ◌<◌, ◌^◌, max, List, [], ◌∷◌, ◌++◌, length, take, refl, sym, ap, ◌∙◌, subst, arith}
use Rattle.std.proofs.Common.{append_assoc, length-append}
use Rattle.std.specs.Prelude.{None, option_to_list}
use Rattle.std.proofs.lemmas.Grind.{flat_map-append}
use Rattle.std.proofs.lemmas.List.{append-nil, take_at, take_all, take-append-drop}
use Rattle.std.proofs.lemmas.List.Elements.{All-append, All-cons, All-nil}
use Rattle.plant_io.specs.Sink.{GainsPart}
use Rattle.aftr_base.specs.Limits.{moment_limit}
use Rattle.aftr_base.specs.declared.event.Event.{Event}
use Rattle.aftr_base.specs.declared.told.Told.{Told}
use Rattle.aftr_base.specs.Drops.{drop_counts}
use Rattle.aftr_base.proofs.Counts.{counts_fit}
use Rattle.cfg_text.specs.declared.config.Config.{Config}
use Rattle.xlate_core.specs.State.{State, Step}
use Rattle.xlate_core.specs.Step.{step, log_of}
use Rattle.xlate_core.specs.Run.{run, start, told_of}
use Rattle.xlate_core.proofs.Runs.{run_push, run_append, short_run}
use Rattle.xlate_core.proofs.ValidStates.{run_config}
use Rattle.link_records.specs.declared.Next.TheVariants.{Got}
use Rattle.egress_gate.specs.declared.tally.Tally.{Tally}
use Rattle.link_records.specs.Frames.{Input, Stop, AtEnd, BadAt, stop_at, frames_of, frames_from, frame_len, event_at}
use Rattle.link_records.specs.Frames.{input_limit, with_event}
use Rattle.link_records.specs.Reader.{Reads}
use Rattle.egress_gate.specs.Counting.{HasCounted, AreFew, IsZero}
use Rattle.egress_gate.specs.Held.{Gated, held_of}
use Rattle.egress_gate.specs.Logged.{EndsAt, told_next}
use Rattle.egress_gate.specs.Output.{output, item_bytes}
use Rattle.aftr_engine.specs.session.EndToEnd.{run_of, output_of, front_run, told_behind}
use Rattle.aftr_engine.specs.session.Progress.{TalliesRun, HasRead, with_events}
use Rattle.aftr_engine.specs.session.UnderWay.{Standing, IsUnderWay}
use Rattle.link_records.proofs.FrameSteps.{no_record, record_alone}
use Rattle.egress_gate.proofs.Sending.{gained_all}
use Rattle.aftr_engine.proofs.Writes.{part_of_first, part_of_second}

-- ---- what one record more sends and logs

pub output_on : (c : Config) (told : Told) (seen : List Event) (e : Event) {s : State} → s ≡ (run (start c told) seen).state
    → output (run (start c told) (seen ++ e ∷ [])).items ≡ output (run (start c told) seen).items ++ output (step s e).items
output_on c told seen e {s} here =
    let before = run (start c told) seen in
    ap output (run_push (start c told) seen e).items ∙ flat_map-append item_bytes before.items (step before.state e).items
    ∙ ap (λ (x : State). output before.items ++ output (step x e).items) (sym here)

pub logged_on : (c : Config) (told : Told) (seen : List Event) (e : Event) {s : State} → s ≡ (run (start c told) seen).state
    → told_behind told (run (start c told) (seen ++ e ∷ [])) ≡ told_next (told.count + length (run (start c told) seen).log) (step s e)
logged_on c told seen e {s} here =
    let before = run (start c told) seen in
    let more = run_push (start c told) seen e in
    let longer : length (run (start c told) (seen ++ e ∷ [])).log ≡ length before.log + length (log_of (step before.state e)) =
    ap length more.log ∙ length-append before.log (log_of (step before.state e)) in
    let counted : told.count + length (run (start c told) (seen ++ e ∷ [])).log
    ≡ (told.count + length before.log) + length (log_of (step before.state e)) = omega (arith, longer) in
    ap (λ (x : State). told_of x (told.count + length (run (start c told) (seen ++ e ∷ [])).log)) more.state
    ∙ ap (told_of (step before.state e).state) counted
    ∙ ap (λ (x : State). told_next (told.count + length before.log) (step x e)) (sym here)

-- ---- the bytes that were read

pub read_on : {input left left' : List ℕ} {offset offset' : ℕ} {seen : List Event} {e : Event}
    → HasRead seen input offset left → Reads offset left offset' left' (Got e) → HasRead (seen ++ e ∷ []) input offset' left'
read_on {input} {left} {left'} {offset} {offset'} {seen} {e} before got =
    let front : List ℕ = take (frame_len left) left in
    let whole : front ++ left' ≡ left = ap (λ (l : List ℕ). front ++ l) got.1 ∙ take-append-drop (frame_len left) left in
    let from : List ℕ → Input = frames_from offset' in
    record {
      past = before.past ++ front;
      whole = before.whole ∙ ap (λ (l : List ℕ). before.past ++ l) (sym whole) ∙ sym (append_assoc before.past front left');
      next = λ tail.
          ap frames_of (append_assoc before.past front tail) ∙ before.next (front ++ tail)
          ∙ ap (with_events seen) (record_alone offset left tail e got.0)
          ∙ ap (λ (n : ℕ). with_events seen (with_event e (frames_from n tail))) (sym got.2)
          ∙ ap (λ (l : List Event). let i : Input = record { events = l; stop = (from tail).stop } in i)
          (sym (append_assoc seen (e ∷ []) (from tail).events));
    }

-- the records of all the input
pub whole_read : {input left : List ℕ} {offset : ℕ} {seen : List Event} → HasRead seen input offset left
    → frames_of input ≡ with_events seen (frames_from offset left)
whole_read {left = left} read = ap frames_of read.whole ∙ read.next left

-- those that were seen are the first of them
pub front_seen : {input left : List ℕ} {offset : ℕ} {seen : List Event} → HasRead seen input offset left
    → seen ≡ take (length seen) (frames_of input).events
front_seen {input} {left} {offset} {seen} read =
    sym (take_at seen (frames_from offset left).events (length seen) refl)
    ∙ ap (λ (i : Input). take (length seen) i.events) (sym (whole_read read))

-- so what they came to is what the first of the input come to
pub front_is : (c : Config) (told : Told) {input left : List ℕ} {offset : ℕ} {seen : List Event} → HasRead seen input offset left
    → run (start c told) seen ≡ front_run c told (length seen) input
front_is c told read = ap (run (start c told)) (front_seen read)

-- and with one more
pub front_next : (c : Config) (told : Told) {input left left' : List ℕ} {offset offset' : ℕ} {seen : List Event} {e : Event}
    → HasRead seen input offset left → Reads offset left offset' left' (Got e)
    → run (start c told) (seen ++ e ∷ []) ≡ front_run c told (length seen + 1) input
front_next c told {input} {seen = seen} {e = e} read got =
    front_is c told (read_on read got) ∙ ap (λ (n : ℕ). front_run c told n input) (length-append seen (e ∷ []))

-- ---- at the start

-- a run of no records comes to what the log told
pub record HasStarted (c : Config) (told : Told) (s : State) (p : Gated) : Type 0 where
  pub state : s ≡ start c told
  pub count : p.count ≡ told.count
  pub counts : IsZero p.tally

pub begun : {c : Config} {told : Told} {I P : Type 0} {input past : List ℕ} {w : Standing} {s : State} {p : Gated}
    → w.left ≡ input → w.offset ≡ 0 → HasStarted c told s p → told_behind told (run (start c told) []) ≡ told
    → (P → w.sent ≡ past) → (P → EndsAt w.log told w.tail)
    → IsUnderWay c told w.tail I P input past w s p
begun {c} {told} {past = past} {w = w} all first here none same tells = record {
  seen = [];
  timely = All-nil (λ (e : Event). e.at.0 ≤ moment_limit);
  reaches = here.state;
  counts = record { records = here.counts.records; sent = here.counts.sent; drops = here.counts.drops };
  logged = omega (arith, here.count);
  read = λ reads. record { past = []; whole = sym all; next = λ tail. ap (λ (n : ℕ). frames_from n tail) (sym first) };
  done = λ is. record {
    packets = same is ∙ sym (append-nil past);
    tells = subst (λ (t : Told). EndsAt w.log t w.tail) (sym none) (tells is);
  };
  room = omega arith;
  few = omega arith;
  within = omega (arith, first);
}

-- ---- one record more

-- one more record was read and passed the gate
pub record HasPassed (I P : Type 0) (limit : ℕ) (w w' : Standing) (s s' : State) (p p' : Gated) (e : Event) : Type 0 where
  pub read : I → Reads w.offset w.left w'.offset w'.left (Got e)
  pub early : e.at.0 ≤ moment_limit
  pub far : w.offset + 13 ≤ w'.offset
  pub within : w'.offset ≤ input_limit
  pub state : s' ≡ (step s e).state
  pub counts : HasCounted (held_of p.count (step s e)) p.tally p'.tally
  pub logged : p'.count ≡ p.count + length (log_of (step s e))
  pub sent : P → w'.sent ≡ w.sent ++ output (step s e).items
  pub tells : P → EndsAt w'.log (told_next p.count (step s e)) w'.tail
  pub room : w'.tail ≤ max w.tail limit

tallied_on : (c : Config) (told : Told) (seen : List Event) (e : Event) {count : ℕ} {s : State} {t t' : Tally}
    → s ≡ (run (start c told) seen).state
    → TalliesRun (run (start c told) seen) (length seen) t → HasCounted (held_of count (step s e)) t t'
    → TalliesRun (run (start c told) (seen ++ e ∷ [])) (length (seen ++ e ∷ [])) t'
tallied_on c told seen e {count} {s} {t} {t'} here before more =
    let past = run (start c told) seen in
    let next = run_push (start c told) seen e in
    let same : step s e ≡ step past.state e = ap (λ (x : State). step x e) here in
    let items : length (run (start c told) (seen ++ e ∷ [])).items ≡ length past.items + length (step s e).items =
    ap length next.items ∙ length-append past.items (step past.state e).items
    ∙ ap (λ (x : Step). length past.items + length x.items) (sym same) in
    record {
      records = more.records ∙ ap (λ (n : ℕ). n + 1) before.records ∙ sym (length-append seen (e ∷ []));
      sent = more.sent ∙ ap (λ (n : ℕ). n + length (step s e).items) before.sent ∙ sym items;
      drops = more.drops past.drops before.drops
          ∙ ap (λ (x : Step). drop_counts (past.drops ++ option_to_list x.drop)) same ∙ ap drop_counts (sym next.drops);
    }

-- the log's events so far, and one record's more
logged_length : (c : Config) (told : Told) (seen : List Event) (e : Event) {s : State} → s ≡ (run (start c told) seen).state
    → length (run (start c told) (seen ++ e ∷ [])).log ≡ length (run (start c told) seen).log + length (log_of (step s e))
logged_length c told seen e {s} here =
    let before = run (start c told) seen in
    ap length (run_push (start c told) seen e).log ∙ length-append before.log (log_of (step before.state e))
    ∙ ap (λ (x : State). length before.log + length (log_of (step x e))) (sym here)

module _ {c : Config} {told : Told} {began : ℕ} {I P : Type 0} {input past : List ℕ} {w : Standing} {s : State} {p : Gated}
    (way : IsUnderWay c told began I P input past w s p) where
  -- what the log tells
  pub told_now : told_of s p.count ≡ told_behind told (run (start c told) way.seen)
  told_now = ap (λ (x : State). told_of x p.count) way.reaches ∙ ap (told_of (run (start c told) way.seen).state) way.logged

  -- and with one record more
  pub told_on : (e : Event) → told_behind told (run (start c told) (way.seen ++ e ∷ [])) ≡ told_next p.count (step s e)
  told_on e =
      logged_on c told way.seen e way.reaches ∙ ap (λ (n : ℕ). told_next n (step s e)) (sym way.logged)

  pub onward : {w' : Standing} {s' : State} {p' : Gated} {e : Event} → HasPassed I P c.log_limit w w' s s' p p' e
      → IsUnderWay c told began I P input past w' s' p'
  onward {w'} {s'} {p'} {e} passed =
      let longer = length-append way.seen (e ∷ []) in
      let more = logged_length c told way.seen e way.reaches in
      let front = output (run (start c told) way.seen).items in
      record {
        seen = way.seen ++ e ∷ [];
        timely = All-append (λ (x : Event). x.at.0 ≤ moment_limit) way.seen (e ∷ []) way.timely
            (All-cons (λ (x : Event). x.at.0 ≤ moment_limit) e [] passed.early (All-nil (λ (x : Event). x.at.0 ≤ moment_limit)));
        reaches = passed.state ∙ ap (λ (x : State). (step x e).state) way.reaches ∙ sym (run_push (start c told) way.seen e).state;
        counts = tallied_on c told way.seen e way.reaches way.counts passed.counts;
        logged = omega (arith, passed.logged, way.logged, more);
        read = λ tells. read_on (way.read tells) (passed.read tells);
        done = λ tells. record {
          packets = passed.sent tells ∙ ap (λ (l : List ℕ). l ++ output (step s e).items) (way.done tells).packets
              ∙ append_assoc past front (output (step s e).items)
              ∙ ap (λ (l : List ℕ). past ++ l) (sym (output_on c told way.seen e way.reaches));
          tells = subst (λ (t : Told). EndsAt w'.log t w'.tail) (sym (told_on e)) (passed.tells tells);
        };
        room = omega (arith, way.room, passed.room);
        few = omega (arith, longer, way.few, passed.far);
        within = passed.within;
      }

  -- what the gate asks for
  pub are_few : AreFew p.tally
  are_few =
      let short = short_run (start c told) way.seen in
      let drops = (run (start c told) way.seen).drops in
      record {
        records = omega (arith, way.counts.records, way.few, way.within);
        sent = omega (arith, way.counts.sent, short.items, way.few, way.within);
        drops = counts_fit p.tally.drops.0 drops way.counts.drops (omega (arith, short.drops, way.few, way.within));
      }

  -- the log tells what the rows and the horizon are
  pub ends_now : P → EndsAt w.log (told_of s p.count) w.tail
  ends_now tells = subst (λ (t : Told). EndsAt w.log t w.tail) (sym told_now) (way.done tells).tells

  -- the configuration is that of the start
  pub config_stays : s.config ≡ c
  config_stays = ap (λ (x : State). x.config) way.reaches ∙ run_config (start c told) way.seen

  pub room_kept : {tail : ℕ} → tail ≤ max w.tail s.config.log_limit → tail ≤ max w.tail c.log_limit
  room_kept {tail} le = subst (λ (x : Config). tail ≤ max w.tail x.log_limit) config_stays le

  pub few_logged : told.count < 2 ^ 62 → p.count < 2 ^ 63
  few_logged few = omega (arith, few, way.logged, (short_run (start c told) way.seen).log, way.few, way.within)

  -- the whole output begins with what was sent
  output_split : I → (rest : List ℕ) × (output_of c told input ≡ output (run (start c told) way.seen).items ++ rest)
  output_split reads =
      let rest = (frames_from w.offset w.left).events in
      let before = run (start c told) way.seen in
      let after = run before.state rest in (
        output after.items,
        ap (λ (i : Input). output (run (start c told) i.events).items) (whole_read (way.read reads))
            ∙ ap output (run_append (start c told) way.seen rest).items ∙ flat_map-append item_bytes before.items after.items,
      )

  pub way_sent : I → P → GainsPart (output_of c told input) past w.sent
  way_sent reads tells =
      let split = output_split reads in
      subst (λ (l : List ℕ). GainsPart l past w.sent) (sym split.1)
      (part_of_first _ _ past w.sent (gained_all _ past w.sent (way.done tells).packets))

  -- a part of what one record more sends is a part of the whole
  pub way_within : {left' now' : List ℕ} {offset' : ℕ} {e : Event} → I → P → Reads w.offset w.left offset' left' (Got e)
      → GainsPart (output (step s e).items) w.sent now' → GainsPart (output_of c told input) past now'
  way_within {left'} {now'} {offset'} {e} reads tells got part =
      let rest = (frames_from offset' left').events in
      let before = run (start c told) (way.seen ++ e ∷ []) in
      let after = run before.state rest in
      let split : output_of c told input ≡ (output (run (start c told) way.seen).items ++ output (step s e).items) ++ output after.items =
      ap (λ (i : Input). output (run (start c told) i.events).items) (whole_read (read_on (way.read reads) got))
      ∙ ap output (run_append (start c told) (way.seen ++ e ∷ []) rest).items ∙ flat_map-append item_bytes before.items after.items
      ∙ ap (λ (l : List ℕ). l ++ output after.items) (output_on c told way.seen e way.reaches) in
      subst (λ (l : List ℕ). GainsPart l past now') (sym split)
      (part_of_first _ _ past now' (part_of_second _ _ past w.sent now' (way.done tells).packets part))

  -- where no record is left, those that were seen are all
  pub all_seen : (stop : Stop) → I → frames_from w.offset w.left ≡ record { events = []; stop = stop }
      → ((frames_of input).events ≡ way.seen) × ((frames_of input).stop ≡ stop)
  all_seen stop reads none =
      let whole : frames_of input ≡ record { events = way.seen ++ []; stop = stop } =
      whole_read (way.read reads) ∙ ap (with_events way.seen) none in
      (ap (λ (i : Input). i.events) whole ∙ append-nil way.seen, ap (λ (i : Input). i.stop) whole)

pub at_end : (left : List ℕ) (offset : ℕ) → left ≡ [] → frames_from offset left ≡ record { events = []; stop = AtEnd }
at_end left offset none = ap (frames_from offset) none

bad_stop : (left : List ℕ) (offset : ℕ) → 0 < length left → stop_at offset left ≡ BadAt offset
bad_stop [] offset some = absurd (omega arith)
bad_stop (b ∷ left) offset some = refl

pub at_bad : (left : List ℕ) (offset : ℕ) → event_at offset left ≡ None → 0 < length left
    → frames_from offset left ≡ record { events = []; stop = BadAt offset }
at_bad left offset none some =
    no_record offset left none ∙ ap (λ (s : Stop). let i : Input = record { events = []; stop = s } in i) (bad_stop left offset some)

-- the run over as many records as there are
pub whole_front : (c : Config) (told : Told) (input : List ℕ) (n : ℕ) → n ≡ length (frames_of input).events
    → front_run c told n input ≡ run_of c told input
whole_front c told input n all = ap (run (start c told)) (take_all n (frames_of input).events (omega (arith, all)))

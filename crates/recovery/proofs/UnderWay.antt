-- The frames of closings, one after another, as the loop that commits them goes.
use Rattle.std.proofs.Common.{◌≡◌, ◌≢◌, inl, inr, ℕ, ◌+◌, ◌*◌, ◌<◌, ◌≤◌, List, [], ◌++◌, length, drop, Ok, Err}
use Rattle.std.proofs.Common.{sym, ap, ◌∙◌, subst, arith, length-append}
use Rattle.std.proofs.lemmas.Bool.{cases_lt}
use Rattle.std.proofs.lemmas.List.{length-drop}
use Rattle.aftr_base.specs.declared.row.LeaseRow.{LeaseRow}
use Rattle.aftr_base.specs.declared.event.LogEvent.{LogEvent}
use Rattle.plant_io.specs.Story.{Story, content, IsSettled}
use Rattle.plant_io.specs.Stops.{StopsLeave}
use Rattle.lease_log.specs.Batch.{Batch, batch_body, empty_batch, AppendLeaves, CanAppend, HasAppended}
use Rattle.lease_log.specs.Log.{Log, log_of}
use Rattle.lease_log.specs.Sound.{IsSound}
use Rattle.recovery.specs.Answers.{HasNoRoom, IsClosedSoFar, RecoversTo}
use Rattle.recovery.specs.Closings.{lease_closings, plan_closings}
use Rattle.recovery.specs.Frames.{CloseLeaves, HasClosed, HasGathered, IsRefusal}
use Rattle.recovery.specs.declared.RecoverBad.{RecoverBad}
use Rattle.recovery.specs.declared.RecoverBad.TheVariants.{Damaged, Full, Failed, NoMemory}
use Rattle.recovery.proofs.FrameSteps.{IsFrame, IsGathering, IsLogged, IsUnderWay, gathered, next_frame, logged_at_first}
use Rattle.recovery.proofs.FrameSteps.{can_append, stopped, committed, no_room, all_closed}
use Rattle.recovery.proofs.Taking.{gathering_at_first}

-- before the first frame
pub nothing_closed : {was : Log} {before : Story} → log_of (content before) ≡ Ok was → IsSettled before
    → StopsLeave before before (CloseLeaves before)
nothing_closed {was} {before} is settled = (logged_at_first was 0 before is settled).stops

pub first_under_way : {tells : Type 0} {was : Log} {limit : ℕ} {before : Story} {empty first : Batch} {rest : List LeaseRow}
    → (tells → log_of (content before) ≡ Ok was)
    → (tells → IsSettled before)
    → empty ≡ empty_batch was.told.horizon.0 was.told.count
    → first ≡ record empty { events = plan_closings was.told }
    → rest ≡ was.told.leases
    → IsUnderWay tells was limit before before was.tail first rest
first_under_way {was} {limit} {before} {empty} {first} {rest} is settled is_empty is_first all = record {
  frames = 0;
  gathering = subst (λ (ls : List LeaseRow). IsGathering was.told first ls 0) (sym all)
      (gathering_at_first was.told empty first is_empty is_first);
  logged = λ t. subst (λ (n : ℕ). IsLogged was limit before before was.tail n 0)
      (sym (ap (λ (b : Batch). b.count) is_first ∙ ap (λ (b : Batch). b.count) is_empty))
      (logged_at_first was limit before (is t) (settled t));
}

-- between two frames
pub way_so_far : {tells : Type 0} {was : Log} {limit : ℕ} {before now : Story} {tail : ℕ} {batch : Batch} {rest : List LeaseRow}
    → (tells → log_of (content before) ≡ Ok was) → IsUnderWay tells was limit before now tail batch rest → tells
    → IsClosedSoFar limit (content before) (content now)
way_so_far {was = was} {tail = tail} is_log way t =
    let l = way.logged t in
    record {
      closing = record {
        was = was;
        log = record { told = l.told; tail = tail };
        was_log = is_log t;
        is_log = l.log;
        part = record { number = 1024 * way.frames; follows = l.follows };
      };
      room = l.room;
    }

module _ {tells : Type 0} {was : Log} {limit : ℕ} {before now : Story} {tail passed : ℕ} {batch taken : Batch} {rest : List LeaseRow}
    (is_log : tells → log_of (content before) ≡ Ok was) (sound : IsSound was.told)
    (way : IsUnderWay tells was limit before now tail batch rest) (h : HasGathered was.told.horizon rest batch taken passed) where
  frame : IsFrame was.told taken (drop passed rest) way.frames
  frame = gathered was.told batch taken rest way.frames passed way.gathering h

  same_count : taken.count ≡ batch.count
  same_count = ap (λ (b : Batch). b.count) h.same

  logged : tells → IsLogged was limit before now tail taken.count way.frames
  logged t = subst (λ (n : ℕ). IsLogged was limit before now tail n way.frames) (sym same_count) (way.logged t)

  pub way_append : tells → CanAppend (content now) tail taken
  way_append t = can_append {batch = taken} (is_log t) sound (logged t) frame

  -- where nothing is left
  pub way_closed : {number : ℕ} → taken.events ≡ [] → batch.count ≡ number → tells → HasClosed limit was (content now) tail number
  way_closed none same t =
      subst (λ (n : ℕ). HasClosed limit was (content now) tail n) (same_count ∙ same)
      (all_closed {batch = taken} (is_log t) sound (logged t) frame none)

  pub way_stopped : {last : Story} → (tells → StopsLeave now last (AppendLeaves now taken)) → tells
      → StopsLeave before last (CloseLeaves before)
  way_stopped {last} stops t =
      stopped {batch = taken} (is_log t) sound (logged t) frame (stops t)

  -- the commit wasn't done
  pub way_refused : {last : Story} (bad : RecoverBad) → 0 < length taken.events → IsRefusal tail (length (batch_body taken)) limit bad
      → (tells → bad ≢ Failed → last ≡ now) → tells → RecoversTo limit (content before) (content last) (Err bad)
  way_refused {last} (Damaged offset) some refused same t = absurd refused
  way_refused {last} (Full at need most) some refused same t =
      subst (λ (s : Story). HasNoRoom limit (content before) (content s) at need most) (sym (same t (λ e. cc)))
      (no_room {batch = taken} (is_log t) sound (logged t) frame some refused)
  way_refused {last} Failed some refused same t = tt
  way_refused {last} NoMemory some refused same t = absurd refused

  -- the commit was done
  pub way_on : {last : Story} {end number : ℕ} {next : Batch} {after : List LeaseRow}
      → (tells → StopsLeave now last (AppendLeaves now taken))
      → (tells → HasAppended now last taken)
      → number ≡ taken.count + length taken.events
      → end ≡ tail + length (batch_body taken)
      → end ≤ limit
      → next ≡ empty_batch was.told.horizon.0 number
      → after ≡ drop passed rest
      → IsUnderWay tells was limit before last end next after
  way_on {last} {end} {number} {next} {after} stops done count moved room empty left = record {
    frames = way.frames + 1;
    gathering = subst (λ (ls : List LeaseRow). IsGathering was.told next ls (way.frames + 1)) (sym left)
        (next_frame was.told taken next (drop passed rest) way.frames number frame empty);
    logged = λ t. subst (λ (n : ℕ). IsLogged was limit before last end n (way.frames + 1)) (sym (ap (λ (b : Batch). b.count) empty))
        (committed {batch = taken} (is_log t) sound (logged t) frame (stops t) (done t) count moved room);
  }

  -- and fewer leases are left, or the batch had an event
  pub way_smaller : {number : ℕ} {next : Batch} {after : List LeaseRow} → 0 < length taken.events
      → next ≡ empty_batch was.told.horizon.0 number → after ≡ drop passed rest
      → length after + length next.events < length rest + length batch.events
  way_smaller {number} {next} {after} some empty left =
      let none : length next.events ≡ 0 = ap (λ (b : Batch). length b.events) empty in
      let behind : length after ≡ length (drop passed rest) = ap (λ (ls : List LeaseRow). length ls) left in
      elim (cases_lt 0 passed) [
        | inl more ↦ omega (arith, none, behind, more, length-drop passed rest, h.within)
        | inr no_more ↦
            let closings = lease_closings was.told.horizon rest in
            let here : passed ≡ 0 = omega (arith, no_more) in
            let whole = ap (λ (n : ℕ). length (drop n rest)) here in
            let size = ap (λ (n : ℕ). length (taken.events ++ lease_closings was.told.horizon (drop n rest))) (sym here)
            ∙ ap (λ (es : List LogEvent). length es) h.moved in
            omega (arith, none, behind, whole, some, size, length-append taken.events closings, length-append batch.events closings)
      ]

use Rattle.std.proofs.Common.{◌≡◌, ℕ, List, ◌++◌, length, refl, sym, ap, ◌∙◌, subst, arith}
use Rattle.plant_io.specs.Story.{content}
use Rattle.cfg_text.specs.declared.config.Config.{Config}
use Rattle.std.specs.Prelude.{Result, Ok, Err}
use Rattle.aftr_base.specs.Telling.{in_message_order, told_after}
use Rattle.xlate_core.specs.State.{State}
use Rattle.xlate_core.specs.Step.{log_of, step}
use Rattle.xlate_core.specs.Run.{told_of}
use Rattle.aftr_base.specs.declared.told.Told.{Told}
use Rattle.lease_log.specs.Log.{Log}
use Rattle.egress_gate.specs.Logged.{EndsAt, told_next}
use Rattle.aftr_engine.specs.session.Begun.{config_of, told_at}
use Rattle.aftr_engine.proofs.RunSteps.{begun, onward, are_few, config_stays, ends_now, few_logged, room_kept, way_sent, way_within}
use Rattle.aftr_engine.proofs.RunSteps.{all_seen, at_end, at_bad}
use Rattle.aftr_engine.proofs.FrontSteps.{way_counts, way_sent_first, way_treated, way_taken, way_sending, way_full}
use Rattle.aftr_engine.proofs.RunStops.{accounted_start, way_stops}
use Rattle.aftr_engine.proofs.Attribution.{told_start, follows}
use Rattle.aftr_engine.proofs.session.Session.run.Goals as goal

-- ---- the loop

pub loop-event-init : goal.loop-event-init
loop-event-init g c = record {
  way = begun (ap (λ (l : List ℕ). l ++ g.I.Source.rest c.args.input.now) c.requires.begun.held)
      c.requires.begun.offset
      (record { state = c.requires.begun.state; count = c.requires.begun.count; counts = c.requires.begun.counts })
      (told_start (config_of c.args.self.now) (told_at c.args.self.now)) (λ tells. refl) c.requires.tells;
  idle = c.requires.begun.idle;
  journal = c.requires.journal;
  settled = c.requires.settled;
  stops = λ reads tells.
      accounted_start (config_of c.args.self.now) (told_at c.args.self.now) (g.P.Plant.story c.args.plant.now)
      (g.I.Source.rest c.args.input.now)
      (c.requires.settled tells) (_, c.requires.tells tells) (told_start (config_of c.args.self.now) (told_at c.args.self.now));
  input_later = omega arith;
  disk_later = omega arith;
  outlet_later = omega arith;
}

pub pass-requires-clause-idle : goal.pass-requires-clause-idle
pass-requires-clause-idle g c = c.loop-event.invariant.idle

pub pass-requires-clause-few : goal.pass-requires-clause-few
pass-requires-clause-few g c = are_few c.loop-event.invariant.way

pub pass-requires-clause-few_logged : goal.pass-requires-clause-few_logged
pass-requires-clause-few_logged g c = few_logged c.loop-event.invariant.way c.requires.few

pub pass-requires-clause-tells : goal.pass-requires-clause-tells
pass-requires-clause-tells g c = λ tells. ends_now c.loop-event.invariant.way tells

pub pass-requires-clause-follows : goal.pass-requires-clause-follows
pass-requires-clause-follows g c =
    let way = c.loop-event.invariant.way in
    let e = c.in-Got.event in
    let count = c.loop-event.self.gate.count in
    subst (λ (s : State). told_after (in_message_order (log_of (step s e))) (told_of s count) ≡ Ok (told_next count (step s e)))
    (sym way.reaches)
    (follows way.seen e count c.requires.start way.timely c.in-Got.ensures.moment)

pub loop-event-preserved : goal.loop-event-preserved
loop-event-preserved g c = rw c.in-Ok.ensures.reader (record {
  way = onward c.loop-event.invariant.way (record {
    read = c.in-Got.ensures.reads;
    early = c.in-Got.ensures.moment;
    far = c.in-Got.ensures.advance.0;
    within = c.in-Got.ensures.advance.1;
    state = c.in-Ok.ensures.state;
    counts = c.in-Ok.ensures.counts;
    logged = c.in-Ok.ensures.logged;
    sent = c.in-Ok.ensures.sent;
    tells = c.in-Ok.ensures.tells;
    room = room_kept c.loop-event.invariant.way c.in-Ok.ensures.room;
  });
  idle = c.in-Ok.ensures.idle;
  journal = c.in-Ok.ensures.journal;
  settled = c.in-Ok.ensures.settled;
  stops = λ reads tells.
      way_stops _ _ _ c.loop-event.invariant.way reads tells (c.in-Got.ensures.reads reads)
      (c.loop-event.invariant.stops reads tells) (c.in-Ok.ensures.stops tells);
  input_later = omega (arith, c.loop-event.invariant.input_later, c.in-Got.ensures.later);
  disk_later = omega (arith, c.loop-event.invariant.disk_later, c.in-Ok.ensures.disk_later);
  outlet_later = omega (arith, c.loop-event.invariant.outlet_later, c.in-Ok.ensures.outlet_later);
})

-- ---- how far it came

pub returns-in-End-clause-came : goal.returns-in-End-clause-came
returns-in-End-clause-came g c =
    let now = g.P.Plant.story c.loop-event.plant in
    let way = c.loop-event.invariant.way in
    record {
      treated = length way.seen;
      records = λ reads. ap length (sym (all_seen way _ reads (at_end _ _ (c.in-End.ensures.reads reads).0)).0);
      counts = λ reads. way_counts now way reads;
      done = λ reads tells. way_treated now way reads tells;
    }

pub returns-in-Bad-clause-came : goal.returns-in-Bad-clause-came
returns-in-Bad-clause-came g c =
    let now = g.P.Plant.story c.loop-event.plant in
    let way = c.loop-event.invariant.way in
    record {
      treated = length way.seen;
      records = λ reads.
          let bad = c.in-Bad.ensures.reads reads in
          ap length (sym (all_seen way _ reads (at_bad _ _ bad.0 bad.1)).0);
      counts = λ reads. way_counts now way reads;
      done = λ reads tells. way_treated now way reads tells;
    }

pub returns-in-Failed-clause-came : goal.returns-in-Failed-clause-came
returns-in-Failed-clause-came g c =
    let now = g.P.Plant.story c.loop-event.plant in
    let way = c.loop-event.invariant.way in
    record {
      treated = length way.seen;
      records = λ reads.
          way_taken now way c.next.new.self.held (g.I.Source.rest c.next.new.input) reads
          (c.in-Failed.ensures.reads reads) c.in-Failed.ensures.none;
      counts = λ reads. way_counts now way reads;
      done = λ reads tells. way_treated now way reads tells;
    }

pub returns-in-NoMemory-clause-came : goal.returns-in-NoMemory-clause-came
returns-in-NoMemory-clause-came g c =
    let now = g.P.Plant.story c.loop-event.plant in
    let way = c.loop-event.invariant.way in
    record {
      treated = length way.seen;
      records = λ reads. tt;
      counts = λ reads. way_counts now way reads;
      done = λ reads tells. way_treated now way reads tells;
    }

pub returns-in-Err-NoMemory-clause-came : goal.returns-in-Err-NoMemory-clause-came
returns-in-Err-NoMemory-clause-came g c =
    let now = g.P.Plant.story c.loop-event.plant in
    let way = c.loop-event.invariant.way in
    rw c.in-Err-NoMemory.ensures.uncounted
    (record {
      treated = length way.seen;
      records = λ reads. tt;
      counts = λ reads. way_counts now way reads;
      done = λ reads tells.
          rw (c.in-Err-NoMemory.ensures.untouched tells (rw c.in-Err-NoMemory.field-0-is tt)) (way_treated now way reads tells);
    })

pub returns-in-Err-Full-clause-came : goal.returns-in-Err-Full-clause-came
returns-in-Err-Full-clause-came g c =
    let now = g.P.Plant.story c.loop-event.plant in
    let way = c.loop-event.invariant.way in
    let why = rw c.in-Err-Full.field-0-is at c.in-Err-Full.ensures.failed in
    rw (c.in-Err-Full.ensures.uncounted, c.full.ensures)
    (record {
      treated = length way.seen;
      records = λ reads. tt;
      counts = λ reads. way_counts now way reads;
      done = λ reads tells.
          rw (c.in-Err-Full.ensures.untouched tells (rw c.in-Err-Full.field-0-is tt), c.in-Err-Full.field-0-is)
          (way_full now way reads tells (c.in-Got.ensures.reads reads) why.tail why.need);
    })

pub returns-in-Err-Log-clause-came : goal.returns-in-Err-Log-clause-came
returns-in-Err-Log-clause-came g c =
    let now = g.P.Plant.story c.loop-event.plant in
    let way = c.loop-event.invariant.way in
    rw c.in-Err-Log.ensures.uncounted
    (record {
      treated = length way.seen;
      records = λ reads. tt;
      counts = λ reads. way_counts now way reads;
      done = λ reads tells. way_sent_first now way (g.P.Plant.story c.pass.new.plant) reads tells
          (c.in-Err-Log.ensures.unsent tells (cc c.in-Err-Log.field-0-is));
    })

pub returns-in-Err-Outlet-clause-came : goal.returns-in-Err-Outlet-clause-came
returns-in-Err-Outlet-clause-came g c =
    let now = g.P.Plant.story c.loop-event.plant in
    let way = c.loop-event.invariant.way in
    let failed = c.in-Err-Outlet.ensures in
    rw failed.uncounted
    (record {
      treated = length way.seen;
      records = λ reads. tt;
      counts = λ reads. way_counts now way reads;
      done = λ reads tells.
          way_sending now way (g.P.Plant.story c.pass.new.plant) reads tells
          (c.in-Got.ensures.reads reads) (failed.part tells)
          (_, failed.told tells (cc c.in-Err-Outlet.field-0-is));
    })

-- ---- why, and what is counted and settled

pub returns-in-Err-Full-clause-ends : goal.returns-in-Err-Full-clause-ends
returns-in-Err-Full-clause-ends g c =
    let why = rw c.in-Err-Full.field-0-is at c.in-Err-Full.ensures.failed in
    let limit = ap (λ (x : Config). x.log_limit) (config_stays c.loop-event.invariant.way) in
    rw (c.full.ensures, c.in-Err-Full.field-0-is) (why.limit ∙ limit, omega (arith, why.full, why.limit, why.tail, why.need))

pub returns-in-Bad-clause-ends : goal.returns-in-Bad-clause-ends
returns-in-Bad-clause-ends g c = (
  refl,
  λ reads.
      let bad = c.in-Bad.ensures.reads reads in
      rw c.in-Bad.ensures.bad (all_seen c.loop-event.invariant.way _ reads (at_bad _ _ bad.0 bad.1)).1,
)

pub returns-in-Bad-clause-counts : goal.returns-in-Bad-clause-counts
returns-in-Bad-clause-counts g c = λ reads end.
    let way = c.loop-event.invariant.way in
    let bad = c.in-Bad.ensures.reads reads in
    rw (all_seen way _ reads (at_bad _ _ bad.0 bad.1)).0 way.counts

pub returns-in-Failed-clause-settled : goal.returns-in-Failed-clause-settled
returns-in-Failed-clause-settled g c = λ tells other. c.loop-event.invariant.settled tells

pub returns-in-Err-Full-clause-settled : goal.returns-in-Err-Full-clause-settled
returns-in-Err-Full-clause-settled g c = λ tells other.
    c.in-Err-Full.ensures.secured tells (λ is. absurd (cc (is, c.in-Err-Full.field-0-is)))

-- ---- a part of the output

pub returns-in-End-clause-part : goal.returns-in-End-clause-part
returns-in-End-clause-part g c = λ reads tells. way_sent c.loop-event.invariant.way reads tells

pub returns-in-Bad-clause-part : goal.returns-in-Bad-clause-part
returns-in-Bad-clause-part g c = λ reads tells. way_sent c.loop-event.invariant.way reads tells

pub returns-in-Failed-clause-part : goal.returns-in-Failed-clause-part
returns-in-Failed-clause-part g c = λ reads tells. way_sent c.loop-event.invariant.way reads tells

pub returns-in-NoMemory-clause-part : goal.returns-in-NoMemory-clause-part
returns-in-NoMemory-clause-part g c = λ reads tells. way_sent c.loop-event.invariant.way reads tells

pub returns-in-Err-NoMemory-clause-part : goal.returns-in-Err-NoMemory-clause-part
returns-in-Err-NoMemory-clause-part g c = λ reads tells.
    way_within c.loop-event.invariant.way reads tells (c.in-Got.ensures.reads reads) (c.in-Err-NoMemory.ensures.part tells)

pub returns-in-Err-Full-clause-part : goal.returns-in-Err-Full-clause-part
returns-in-Err-Full-clause-part g c = λ reads tells.
    way_within c.loop-event.invariant.way reads tells (c.in-Got.ensures.reads reads) (c.in-Err-Full.ensures.part tells)

pub returns-in-Err-Log-clause-part : goal.returns-in-Err-Log-clause-part
returns-in-Err-Log-clause-part g c = λ reads tells.
    way_within c.loop-event.invariant.way reads tells (c.in-Got.ensures.reads reads) (c.in-Err-Log.ensures.part tells)

pub returns-in-Err-Outlet-clause-part : goal.returns-in-Err-Outlet-clause-part
returns-in-Err-Outlet-clause-part g c = λ reads tells.
    way_within c.loop-event.invariant.way reads tells (c.in-Got.ensures.reads reads) (c.in-Err-Outlet.ensures.part tells)

-- ---- what a stop leaves

pub returns-in-Err-NoMemory-clause-stops : goal.returns-in-Err-NoMemory-clause-stops
returns-in-Err-NoMemory-clause-stops g c = λ reads tells.
    way_stops _ _ _ c.loop-event.invariant.way reads tells (c.in-Got.ensures.reads reads)
    (c.loop-event.invariant.stops reads tells) (c.in-Err-NoMemory.ensures.stops tells)

pub returns-in-Err-Full-clause-stops : goal.returns-in-Err-Full-clause-stops
returns-in-Err-Full-clause-stops g c = λ reads tells.
    way_stops _ _ _ c.loop-event.invariant.way reads tells (c.in-Got.ensures.reads reads)
    (c.loop-event.invariant.stops reads tells) (c.in-Err-Full.ensures.stops tells)

pub returns-in-Err-Log-clause-stops : goal.returns-in-Err-Log-clause-stops
returns-in-Err-Log-clause-stops g c = λ reads tells.
    way_stops _ _ _ c.loop-event.invariant.way reads tells (c.in-Got.ensures.reads reads)
    (c.loop-event.invariant.stops reads tells) (c.in-Err-Log.ensures.stops tells)

pub returns-in-Err-Outlet-clause-stops : goal.returns-in-Err-Outlet-clause-stops
returns-in-Err-Outlet-clause-stops g c = λ reads tells.
    way_stops _ _ _ c.loop-event.invariant.way reads tells (c.in-Got.ensures.reads reads)
    (c.loop-event.invariant.stops reads tells) (c.in-Err-Outlet.ensures.stops tells)

-- ---- in how much room

same_tail : (file : List ℕ) {t u : Told} {tail other : ℕ} → EndsAt file t tail → EndsAt file u other → other ≡ tail
same_tail file is also = ap tail_in (sym also ∙ is)
  where
    tail_in : Result Log ℕ → ℕ
    tail_in (Ok log) = log.tail
    tail_in (Err offset) = offset

pub returns-in-Err-Outlet-clause-room : goal.returns-in-Err-Outlet-clause-room
returns-in-Err-Outlet-clause-room g c = λ now tail tells kept is.
    let failed = c.in-Err-Outlet.ensures in
    let told = failed.told tells (cc c.in-Err-Outlet.field-0-is) in
    let room = failed.room_told (cc c.in-Err-Outlet.field-0-is) in
    omega (
      arith,
      same_tail (content (g.P.Plant.story c.pass.new.plant)) told is,
      room_kept c.loop-event.invariant.way room,
      c.loop-event.invariant.way.room,
    )

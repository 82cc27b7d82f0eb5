use Rattle.std.proofs.Common.{◌≤◌, ◌+◌, ℕ, max, length, IfErr, OnOk, refl, sym, ap, ◌∙◌, subst, arith}
use Rattle.plant_io.specs.Sink.{GainsPart}
use Rattle.plant_io.specs.Stops.{StopsLeave}
use Rattle.plant_io.specs.Story.{content, sent}
use Rattle.plant_io.specs.Uses.{plant_use}
use Rattle.lease_log.specs.Batch.{CanAppend, batch_body}
use Rattle.xlate_core.proofs.Runs.{short_log, small_step}
use Rattle.egress_gate.specs.Held.{Held, body_for}
use Rattle.egress_gate.specs.Logged.{LogsFirst}
use Rattle.egress_gate.specs.Refusals.{FailsFor}
use Rattle.egress_gate.proofs.GateStops.{nothing_done}
use Rattle.aftr_engine.specs.session.Begun.{step_of, told_at, told_then}
use Rattle.aftr_engine.proofs.Passing.{limit_stays, next_follows}
use Rattle.aftr_engine.proofs.session.Session.pass.Goals as goal

pub returns-in_err-hold-clause-stops : goal.returns-in_err-hold-clause-stops
returns-in_err-hold-clause-stops g c = λ tells.
    nothing_done (g.P.Plant.story c.args.plant.now) _ _ _ (c.requires.settled tells) (_, c.requires.tells tells)

-- ---- what the gate asks for

pub flush-requires-clause-few_packets : goal.flush-requires-clause-few_packets
flush-requires-clause-few_packets g c =
    omega (arith, ap (λ (h : Held). h.items) c.in_ok-hold.ensures.held, (small_step c.args.self.now.core c.args.event.now).items)

pub flush-requires-clause-few_logged : goal.flush-requires-clause-few_logged
flush-requires-clause-few_logged g c =
    omega (
      arith,
      c.requires.few_logged,
      c.in_ok-hold.ensures.count,
      ap (λ (h : Held). length h.log.events) c.in_ok-hold.ensures.held,
      short_log c.args.self.now.core c.args.event.now,
    )

pub flush-requires-clause-follows : goal.flush-requires-clause-follows
flush-requires-clause-follows g c = λ tells.
    subst (λ (h : Held). CanAppend (content (g.P.Plant.story c.args.plant.now)) (c.args.self.now.journal.at + 1) h.log)
    (sym c.in_ok-hold.ensures.held)
    (record {
      told = told_at c.args.self.now;
      next = told_then c.args.self.now c.args.event.now;
      log = c.requires.tells tells;
      count = refl;
      follows = c.requires.follows;
    })

-- ---- what it has done

pub returns-clause-tells : goal.returns-clause-tells
returns-clause-tells g c = λ tells.
    c.flush.ensures.tells tells (told_at c.args.self.now) (told_then c.args.self.now c.args.event.now)
    (next_follows c.args.self.now c.args.event.now c.in_ok-hold.ensures.held (c.requires.tells tells) c.requires.follows)

pub returns-clause-told : goal.returns-clause-told
returns-clause-told g c = λ tells is.
    c.flush.ensures.told tells (told_at c.args.self.now) (told_then c.args.self.now c.args.event.now)
    (next_follows c.args.self.now c.args.event.now c.in_ok-hold.ensures.held (c.requires.tells tells) c.requires.follows) is

pub returns-clause-stops : goal.returns-clause-stops
returns-clause-stops g c = λ tells.
    let s = c.args.self.now in
    let e = c.args.event.now in
    let before = g.P.Plant.story c.args.plant.now in
    let last = g.P.Plant.story c.flush.new.plant in
    subst (λ (h : Held). StopsLeave before last (LogsFirst (told_at s) (told_then s e) (sent before) h.packets)) c.in_ok-hold.ensures.held
    (c.flush.ensures.stops tells (told_at s) (told_then s e)
    (next_follows s e c.in_ok-hold.ensures.held (c.requires.tells tells) c.requires.follows))

pub returns-clause-part : goal.returns-clause-part
returns-clause-part g c = λ tells.
    let before = g.P.Plant.story c.args.plant.now in
    let last = g.P.Plant.story c.flush.new.plant in
    subst (λ (h : Held). GainsPart h.packets (sent before) (sent last)) c.in_ok-hold.ensures.held (c.flush.ensures.part tells)

pub returns-clause-room : goal.returns-clause-room
returns-clause-room g c =
    let limit = c.log_limit.ensures ∙ limit_stays c.args.self.now.core c.args.event.now c.in_ok-hold.ensures.state in
    subst (λ (n : ℕ). OnOk c.flush.result (c.flush.new.journal.at + 1 ≤ max (c.args.self.now.journal.at + 1) n)) limit c.flush.ensures.room

pub returns-clause-room_told : goal.returns-clause-room_told
returns-clause-room_told g c = λ is.
    let limit = c.log_limit.ensures ∙ limit_stays c.args.self.now.core c.args.event.now c.in_ok-hold.ensures.state in
    subst (λ (n : ℕ). c.flush.new.journal.at + 1 ≤ max (c.args.self.now.journal.at + 1) n) limit (c.flush.ensures.room_told is)

pub returns-clause-failed : goal.returns-clause-failed
returns-clause-failed g c =
    let s = c.args.self.now in
    let e = c.args.event.now in
    let uses = plant_use g.P.Plant c.args.plant.now c.flush.new.plant in
    let limit = c.log_limit.ensures ∙ limit_stays s.core e c.in_ok-hold.ensures.state in
    subst (λ (n : ℕ). IfErr c.flush.result (FailsFor (body_for s.gate.count (step_of s e)) (s.journal.at + 1) n uses)) limit
    (subst (λ (h : Held). IfErr c.flush.result (FailsFor (batch_body h.log) (s.journal.at + 1) c.log_limit.result uses))
    c.in_ok-hold.ensures.held c.flush.ensures.failed)

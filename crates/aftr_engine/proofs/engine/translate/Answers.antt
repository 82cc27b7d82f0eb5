use Rattle.std.proofs.Common.{inr, refl, subst}
use Rattle.aftr_base.specs.declared.told.Told.{Told}
use Rattle.plant_io.specs.Story.{sent}
use Rattle.plant_io.specs.Stops.{StopsLeave}
use Rattle.xlate_core.specs.Valid.{IsStart}
use Rattle.aftr_engine.specs.session.Stops.{AccountsFor}
use Rattle.aftr_engine.specs.session.Begun.{tally_of}
use Rattle.aftr_engine.proofs.Begins.{accounts_from, begins, closed, config_same, ended_from, opened, room_recovered, rows_kept}
use Rattle.aftr_engine.proofs.Begins.{timely, told_same}
use Rattle.aftr_engine.proofs.Endings.{refused, ran}
use Rattle.aftr_engine.proofs.LogStops.{closes, then_runs}
use Rattle.aftr_engine.proofs.engine.translate.Goals as goal

pub returns-in-Err-clause-ran : goal.returns-in-Err-clause-ran
returns-in-Err-clause-ran g c =
    refused c.early.result c.early.ensures.status c.early.ensures.drops (inr ((λ _. refl), c.in-Err.ensures.refused))
    (λ reads. refl) c.ready_log.ensures.unsent c.in-Err.ensures.rows c.in-Err.ensures.room

pub returns-in-Err-clause-stops : goal.returns-in-Err-clause-stops
returns-in-Err-clause-stops g c = λ reads tells.
    closes c.args.config (g.I.Source.rest c.args.input.now) (g.P.Plant.story c.args.plant.now)
    (g.P.Plant.story c.ready_log.new.plant) (c.ready_log.ensures.stops tells)

pub new-requires-clause-closed : goal.new-requires-clause-closed
new-requires-clause-closed g c =
    let ready = c.in-Ok.ensures.ready in
    closed c.in-Ok.ready.told ready.sound ready.ended

pub new-requires-clause-moments : goal.new-requires-clause-moments
new-requires-clause-moments g c =
    let ready = c.in-Ok.ensures.ready in
    timely c.in-Ok.ready.told ready.sound ready.ended

pub run-status-requires-clause-start : goal.run-status-requires-clause-start
run-status-requires-clause-start g c =
    let ready = c.in-Ok.ensures.ready in
    let begun = c.in-Ok-new.ensures.begun in
    rw (config_same begun, told_same begun) (begins c.in-Ok.ready.told ready.sound ready.ended c.args.config c.requires.accepted)

pub returns-in-Ok-new-clause-ran : goal.returns-in-Ok-new-clause-ran
returns-in-Ok-new-clause-ran g c =
    let did = c.run-status.ensures in
    rw c.tally.ensures
    (ran (g.P.Plant.story c.args.plant.now) (tally_of c.run-status.new.self)
    (λ tells. opened (c.in-Ok.ensures.recovered tells) (c.ready_log.ensures.unsent tells))
    c.ready_log.ensures.later c.ready_log.ensures.outlet
    (ended_from c.in-Ok-new.ensures.begun c.in-Ok-new.ensures.journal (record {
      reason = did.ends;
      came = did.came;
      room = did.room;
      counts = did.counts;
      part = did.part;
      settled = did.settled;
    })))

pub returns-in-Ok-new-clause-stops : goal.returns-in-Ok-new-clause-stops
returns-in-Ok-new-clause-stops g c = λ reads tells.
    let ready = c.in-Ok.ensures.ready in
    let has = c.in-Ok.ensures.recovered tells in
    let from = begins c.in-Ok.ready.told ready.sound ready.ended c.args.config c.requires.accepted in
    then_runs {was = has.was.told} (c.ready_log.ensures.unsent tells) (_, has.was_log)
    (subst (IsStart c.args.config) has.told from) (c.ready_log.ensures.stops tells)
    (subst (λ (t : Told). StopsLeave (g.P.Plant.story c.ready_log.new.plant) (g.P.Plant.story c.run-status.new.plant)
    (AccountsFor c.args.config t (g.I.Source.rest c.args.input.now) (sent (g.P.Plant.story c.ready_log.new.plant)))) has.told
    (accounts_from (g.I.Source.rest c.args.input.now) c.in-Ok-new.ensures.begun (c.run-status.ensures.stops reads tells)))

-- ---- no memory for the session

pub returns-clause-ran : goal.returns-clause-ran
returns-clause-ran g c =
    refused c.early-in-Err-new.result c.early-in-Err-new.ensures.status c.early-in-Err-new.ensures.drops (inr ((λ _. refl), tt))
    (λ reads. refl)
    c.ready_log.ensures.unsent (λ tells. rows_kept (c.in-Ok.ensures.recovered tells))
    (λ tells _. room_recovered (c.in-Ok.ensures.recovered tells))

pub returns-clause-stops : goal.returns-clause-stops
returns-clause-stops g c = λ reads tells.
    closes c.args.config (g.I.Source.rest c.args.input.now) (g.P.Plant.story c.args.plant.now)
    (g.P.Plant.story c.ready_log.new.plant) (c.ready_log.ensures.stops tells)

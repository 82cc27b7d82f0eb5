use Rattle.std.proofs.Common.{ap, sym, ◌∙◌, subst, List, ℕ, length, ◌+◌}
use Rattle.plant_io.specs.Story.{content}
use Rattle.plant_io.specs.Stops.{StopsLeave}
use Rattle.disk_journal.specs.Frames.{IsBody, message_of}
use Rattle.disk_journal.specs.Commit.{CommitLeaves, IsCommitted, IsFullAt, OnDone}
use Rattle.disk_journal.specs.Standing.{after_commit}
use Rattle.lease_log.proofs.BatchLaws.{written, fits, short, batch_is_body}
use Rattle.lease_log.proofs.AppendSteps.{stands, stops, appended}
use Rattle.lease_log.proofs.batch.append.Goals as goal

pub write_body-requires-clause-short : goal.write_body-requires-clause-short
write_body-requires-clause-short g c = short c.batch.inside.at.0 c.batch.inside.events.items c.batch.inside.sets c.batch.inside.body c.batch.invariant

pub commit-requires-clause-body : goal.commit-requires-clause-body
commit-requires-clause-body g c =
    let same = written c.batch.invariant c.batch.view_is c.as_slice.ensures.value c.write_body.ensures.bytes in
    subst IsBody (sym same) (batch_is_body c.args.batch.now (fits c.batch.invariant c.batch.view_is))

pub commit-requires-clause-stands : goal.commit-requires-clause-stands
commit-requires-clause-stands g c tells =
    stands (content (g.P.Plant.story c.args.plant.now)) (c.args.journal.now.at + 1) c.args.batch.now (c.requires.follows tells)

pub returns-clause-done : goal.returns-clause-done
returns-clause-done g c tells =
    let before = g.P.Plant.story c.args.plant.now in
    let now = g.P.Plant.story c.commit.new.plant in
    let same = written c.batch.invariant c.batch.view_is c.as_slice.ensures.value c.write_body.ensures.bytes in
    appended before now (c.args.journal.now.at + 1) (c.commit.new.self.at + 1) c.args.batch.now c.commit.result (c.requires.follows tells)
    c.messages_read_back.ensures.read (fits c.batch.invariant c.batch.view_is)
    (subst (λ (body : List ℕ). OnDone c.commit.result (IsCommitted before now (message_of body) (c.commit.new.self.at + 1))) same (c.commit.ensures.done tells))

pub returns-clause-stops : goal.returns-clause-stops
returns-clause-stops g c tells =
    let before = g.P.Plant.story c.args.plant.now in
    let now = g.P.Plant.story c.commit.new.plant in
    let same = written c.batch.invariant c.batch.view_is c.as_slice.ensures.value c.write_body.ensures.bytes in
    stops before now (c.args.journal.now.at + 1) c.args.batch.now (c.requires.follows tells) c.messages_read_back.ensures.read
    (fits c.batch.invariant c.batch.view_is)
    (subst (λ (body : List ℕ). StopsLeave before now (CommitLeaves before (message_of body))) same (c.commit.ensures.stops tells))

pub returns-clause-full : goal.returns-clause-full
returns-clause-full g c =
    let same = written c.batch.invariant c.batch.view_is c.as_slice.ensures.value c.write_body.ensures.bytes in
    subst (λ (body : List ℕ). IsFullAt (c.args.journal.now.at + 1) (length body) c.args.limit c.commit.result) same c.commit.ensures.full

pub returns-clause-standing : goal.returns-clause-standing
returns-clause-standing g c =
    let same = written c.batch.invariant c.batch.view_is c.as_slice.ensures.value c.write_body.ensures.bytes in
    c.commit.ensures.standing ∙ ap (λ (body : List ℕ). after_commit c.commit.result body c.args.journal.now) same

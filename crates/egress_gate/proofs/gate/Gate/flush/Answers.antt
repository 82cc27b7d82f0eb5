use Rattle.std.proofs.Common.{ℕ, List, ◌+◌, sym, ap, ◌∙◌, subst}
use Rattle.plant_io.specs.Stops.{StopsLeave}
use Rattle.plant_io.specs.Story.{content, sent}
use Rattle.egress_gate.specs.Held.{Gated, held_in}
use Rattle.egress_gate.specs.Logged.{EndsAt, IsFollowing, LogsFirst}
use Rattle.egress_gate.proofs.BatchNames.{held_answered}
use Rattle.egress_gate.proofs.gate.Gate.flush.Goals as goal

-- ---- what the log tells once the events stand in it

pub returns-in_err-send-clause-told : goal.returns-in_err-send-clause-told
returns-in_err-send-clause-told g c = λ tells was next follows is.
    subst (λ (file : List ℕ). EndsAt file next (c.commit.new.journal.at + 1)) (sym (c.in_err-send.ensures.log tells))
    (c.in_ok-commit.ensures.tells tells was next
    (subst (λ (p : Gated). IsFollowing (content (g.P.Plant.story c.args.plant.now)) p.held.log was next) (sym c.self.view_is) follows))

pub returns-clause-tells : goal.returns-clause-tells
returns-clause-tells g c = λ tells was next follows.
    subst (λ (file : List ℕ). EndsAt file next (c.commit.new.journal.at + 1)) (sym (c.in_ok-send.ensures.log tells))
    (c.in_ok-commit.ensures.tells tells was next
    (subst (λ (p : Gated). IsFollowing (content (g.P.Plant.story c.args.plant.now)) p.held.log was next) (sym c.self.view_is) follows))

-- ---- whom it names, whatever a stop leaves

pub returns-in_err-commit-clause-answers : goal.returns-in_err-commit-clause-answers
returns-in_err-commit-clause-answers g c = λ tells from event come early same ends first.
    held_answered (g.P.Plant.story c.args.plant.now) (g.P.Plant.story c.commit.new.plant) (held_in c.self.inside.batch) from event
    c.args.self.now.count (c.args.journal.now.at + 1) come early (ap (λ (p : Gated). p.held) c.self.view_is ∙ same) ends first
    (λ was next follows. c.in_err-commit.ensures.stops tells was next c.self.inside.batch.packets follows)

pub returns-in_err-send-clause-answers : goal.returns-in_err-send-clause-answers
returns-in_err-send-clause-answers g c = λ tells from event come early same ends first.
    let begun = g.P.Plant.story c.args.plant.now in
    let last = g.P.Plant.story c.send.new.plant in
    let logged = c.in_ok-commit.ensures in
    held_answered begun last (held_in c.self.inside.batch) from event c.args.self.now.count (c.args.journal.now.at + 1) come early
    (ap (λ (p : Gated). p.held) c.self.view_is ∙ same) ends first
    (λ was next follows.
    subst (λ (l : List ℕ). StopsLeave begun last (LogsFirst was next (sent begun) l)) c.as_slice.ensures
    (c.in_err-send.ensures.stops tells begun was next (logged.stops tells was next c.as_slice.result.now follows)
    (logged.settled tells) (_, logged.tells tells was next follows) (logged.unsent tells)))

pub returns-clause-answers : goal.returns-clause-answers
returns-clause-answers g c = λ tells from event come early same ends first.
    let begun = g.P.Plant.story c.args.plant.now in
    let last = g.P.Plant.story c.send.new.plant in
    let logged = c.in_ok-commit.ensures in
    held_answered begun last (held_in c.self.inside.batch) from event c.args.self.now.count (c.args.journal.now.at + 1) come early
    (ap (λ (p : Gated). p.held) c.self.view_is ∙ same) ends first
    (λ was next follows.
    subst (λ (l : List ℕ). StopsLeave begun last (LogsFirst was next (sent begun) l)) c.as_slice.ensures
    (c.in_ok-send.ensures.stops tells begun was next (logged.stops tells was next c.as_slice.result.now follows)
    (logged.settled tells) (_, logged.tells tells was next follows) (logged.unsent tells)))

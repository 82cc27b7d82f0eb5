use Rattle.egress_gate.proofs.GateStops.{during_append, nothing_done, unsent}
use Rattle.egress_gate.proofs.outside.commit.Goals as goal

pub returns-then-len-eq0-clause-stops : goal.returns-then-len-eq0-clause-stops
returns-then-len-eq0-clause-stops g c = λ tells was next packets follows.
    nothing_done (g.P.Plant.story c.args.plant.now) was next packets (c.requires.settled tells) (follows.tail, follows.log)

pub returns-in-Done-clause-stops : goal.returns-in-Done-clause-stops
returns-in-Done-clause-stops g c = λ tells was next packets follows.
    during_append _ _ c.args.batch.now was next packets follows (c.append.ensures.stops tells)

pub returns-in-Full-clause-stops : goal.returns-in-Full-clause-stops
returns-in-Full-clause-stops g c = λ tells was next packets follows.
    during_append _ _ c.args.batch.now was next packets follows (c.append.ensures.stops tells)

pub returns-in-Failed-clause-stops : goal.returns-in-Failed-clause-stops
returns-in-Failed-clause-stops g c = λ tells was next packets follows.
    during_append _ _ c.args.batch.now was next packets follows (c.append.ensures.stops tells)

pub returns-in-Failed-clause-unsent : goal.returns-in-Failed-clause-unsent
returns-in-Failed-clause-unsent g c = λ tells. unsent _ _ c.args.batch.now (c.append.ensures.stops tells)

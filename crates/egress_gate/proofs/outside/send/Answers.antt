use Rattle.std.proofs.Common.{refl, take}
use Rattle.plant_io.specs.Story.{content}
use Rattle.egress_gate.proofs.GateStops.{sent_all, sent_part, settled_sent}
use Rattle.egress_gate.proofs.Sending.{sent_after, content_after, gained_all, gained_part}
use Rattle.egress_gate.proofs.outside.send.Goals as goal

pub returns-in-Ok-clause-sent : goal.returns-in-Ok-clause-sent
returns-in-Ok-clause-sent g c = λ tells.
    sent_after (g.P.Plant.story c.args.plant.now) (g.P.Plant.story c.emit.new.self) c.args.packets.now _ (c.in-Ok.ensures.all tells) refl

pub returns-in-Ok-clause-part : goal.returns-in-Ok-clause-part
returns-in-Ok-clause-part g c = λ tells.
    gained_all _ _ _
    (sent_after (g.P.Plant.story c.args.plant.now) (g.P.Plant.story c.emit.new.self) c.args.packets.now _ (c.in-Ok.ensures.all tells) refl)

pub returns-in-Ok-clause-log : goal.returns-in-Ok-clause-log
returns-in-Ok-clause-log g c = λ tells.
    content_after (g.P.Plant.story c.args.plant.now) (g.P.Plant.story c.emit.new.self) c.args.packets.now
    (content (g.P.Plant.story c.args.plant.now)) (c.in-Ok.ensures.all tells) refl

pub returns-in-Ok-clause-settled : goal.returns-in-Ok-clause-settled
returns-in-Ok-clause-settled g c = λ tells settled.
    settled_sent (g.P.Plant.story c.args.plant.now) (g.P.Plant.story c.emit.new.self) c.args.packets.now settled (c.in-Ok.ensures.all tells)

pub returns-in-Ok-clause-stops : goal.returns-in-Ok-clause-stops
returns-in-Ok-clause-stops g c = λ tells first was next stops settled told same.
    sent_all first (g.P.Plant.story c.args.plant.now) (g.P.Plant.story c.emit.new.self) was next c.args.packets.now stops settled told same
    (c.in-Ok.ensures.all tells)

pub returns-in-Err-clause-part : goal.returns-in-Err-clause-part
returns-in-Err-clause-part g c = λ tells.
    gained_part (g.P.Plant.story c.args.plant.now) (g.P.Plant.story c.emit.new.self) c.args.packets.now _ (c.in-Err.ensures.part tells) refl

pub returns-in-Err-clause-log : goal.returns-in-Err-clause-log
returns-in-Err-clause-log g c = λ tells.
    let part = c.in-Err.ensures.part tells in
    content_after (g.P.Plant.story c.args.plant.now) (g.P.Plant.story c.emit.new.self) (take part.0 c.args.packets.now)
    (content (g.P.Plant.story c.args.plant.now)) part.1 refl

pub returns-in-Err-clause-settled : goal.returns-in-Err-clause-settled
returns-in-Err-clause-settled g c = λ tells settled.
    let part = c.in-Err.ensures.part tells in
    settled_sent (g.P.Plant.story c.args.plant.now) (g.P.Plant.story c.emit.new.self) (take part.0 c.args.packets.now) settled part.1

pub returns-in-Err-clause-stops : goal.returns-in-Err-clause-stops
returns-in-Err-clause-stops g c = λ tells first was next stops settled told same.
    sent_part first (g.P.Plant.story c.args.plant.now) (g.P.Plant.story c.emit.new.self) was next c.args.packets.now stops settled told same
    (c.in-Err.ensures.part tells)

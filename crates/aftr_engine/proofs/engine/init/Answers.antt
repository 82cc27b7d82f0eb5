use Rattle.std.proofs.Common.{sym, subst}
use Rattle.plant_io.specs.Uses.{plant_use}
use Rattle.plant_io.proofs.Images.{content_is_image}
use Rattle.plant_io.proofs.Moments.{at_end}
use Rattle.disk_journal.specs.Make.{MakeLeaves}
use Rattle.plant_io.specs.Story.{content}
use Rattle.aftr_engine.specs.engine.Making.{MakesFor}
use Rattle.aftr_engine.proofs.Endings.{made}
use Rattle.aftr_engine.proofs.engine.init.Goals as goal

pub returns-in-Err-Failed : goal.returns-in-Err-Failed
returns-in-Err-Failed g c =
    let ended = c.early-in-Err-Failed.result in
    let before = g.P.Plant.story c.args.plant.now in
    let after = g.P.Plant.story c.make.new.plant in
    let plant = plant_use g.P.Plant c.args.plant.now c.make.new.plant in
    made ended (subst (MakesFor plant) (sym c.early-in-Err-Failed.ensures.status)
    (c.in-Err-Failed.ensures.failed (cc (c.in-Err-Failed.is, c.in-Err-Failed.field-0-is))))
    c.early-in-Err-Failed.ensures.drops
    (λ ok. absurd (cc (ok, c.early-in-Err-Failed.ensures.status))) (λ tells ok. absurd (cc (ok, c.early-in-Err-Failed.ensures.status)))
    (λ tells ok. absurd (cc (ok, c.early-in-Err-Failed.ensures.status)))
    (λ size tells is. absurd (cc (is, c.early-in-Err-Failed.ensures.status)))
    (λ tells. (at_end before after (MakeLeaves before) (c.make.ensures.stops tells) (content after) (content_is_image after)).nothing_sent)
    c.make.ensures.stops

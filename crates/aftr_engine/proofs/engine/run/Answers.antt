use Rattle.std.proofs.Common.{inl, refl}
use Rattle.cfg_text.specs.Defaults.{defaults}
use Rattle.plant_io.specs.Uses.{plant_use}
use Rattle.aftr_engine.proofs.Begins.{room_same}
use Rattle.aftr_engine.proofs.Endings.{refused, rows_same, unset}
use Rattle.aftr_engine.proofs.LogStops.{leaves_start}
use Rattle.aftr_engine.proofs.engine.run.Goals as goal

pub returns-in-Err-clause-ran : goal.returns-in-Err-clause-ran
returns-in-Err-clause-ran g c =
    refused c.early.result c.early.ensures.status c.early.ensures.drops (inl c.in-Err.ensures.refused)
    (λ reads. refl) (λ tells. refl)
    (λ tells. rows_same (plant_use g.P.Plant c.args.plant.now c.args.plant.now) c.in-Err.status refl) (λ tells _. room_same _ _)

pub returns-in-Err-clause-stops : goal.returns-in-Err-clause-stops
returns-in-Err-clause-stops g c = λ reads tells.
    leaves_start defaults (g.I.Source.rest c.args.input.now) (g.P.Plant.story c.args.plant.now)

pub returns-in-Ok-clause-ran : goal.returns-in-Ok-clause-ran
returns-in-Ok-clause-ran g c = unset c.in-Ok.ensures.empty (rw c.in-Ok.ensures.same at c.translate.ensures.ran)

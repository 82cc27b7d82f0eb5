use Rattle.std.proofs.Common.{ℕ, Result, Err, ap, sym, ◌∙◌, subst}
use Rattle.plant_io.specs.Story.{content}
use Rattle.disk_journal.specs.declared.position.start.AttachBad.TheVariants.{Damaged}
use Rattle.lease_log.specs.Log.{Log}
use Rattle.lease_log.specs.Answers.{IsDamageOf}
use Rattle.lease_log.proofs.LogSteps.{log_of_no_header, log_of_frames}
use Rattle.lease_log.proofs.reading.read_told.Goals as goal

pub returns-in-Err-Damaged-clause-told : goal.returns-in-Err-Damaged-clause-told
returns-in-Err-Damaged-clause-told g c tells =
    let arm = c.in-Err-Damaged in
    let first = arm.ensures.offset arm.offset (ap Err arm.field-0-is) in
    log_of_no_header (content (g.P.Plant.story c.args.plant.now))
    (arm.ensures.damaged tells (ap Err (arm.field-0-is ∙ ap Damaged first)))
    ∙ ap (λ (n : ℕ). let r : Result Log ℕ = Err n in r) (sym first ∙ sym arm.offset-is)

pub returns-in-Err-clause-told : goal.returns-in-Err-clause-told
returns-in-Err-clause-told g c tells =
    let before = content (g.P.Plant.story c.args.plant.now) in
    let now = content (g.P.Plant.story c.attach.new.plant) in
    subst (λ (log : Result Log ℕ). IsDamageOf log c.in-Err.bad)
    (log_of_frames before now (c.in-Ok.ensures.header tells) (c.in-Ok.ensures.kept tells).same) (c.in-Err.ensures.told tells)

pub returns-in-Ok-read_frames-clause-told : goal.returns-in-Ok-read_frames-clause-told
returns-in-Ok-read_frames-clause-told g c tells =
    let before = content (g.P.Plant.story c.args.plant.now) in
    let now = content (g.P.Plant.story c.attach.new.plant) in
    sym (log_of_frames before now (c.in-Ok.ensures.header tells) (c.in-Ok.ensures.kept tells).same) ∙ c.in-Ok-read_frames.ensures.told tells

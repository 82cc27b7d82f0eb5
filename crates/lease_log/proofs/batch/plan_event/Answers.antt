use Rattle.std.proofs.Common.{◌<◌, ◌^◌, arith}
use Rattle.std.specs.Prelude.{Option, Some, None}
use Rattle.aftr_base.specs.declared.value.Moment.{Moment}
use Rattle.aftr_base.specs.declared.row.PlanSpec.{PlanSpec}
use Rattle.aftr_base.specs.declared.event.LogEvent.TheVariants.{Plan}
use Rattle.nat_events.specs.Grammar.{FitsRecord}
use Rattle.lease_log.specs.Sound.{HasSoundPlan}
use Rattle.nat_events.proofs.TextLens.{plan_text_short}
use Rattle.lease_log.proofs.batch.plan_event.Goals as goal

plan_fits : (at : Moment) (spec : Option PlanSpec) → at.0 < 2 ^ 64 → HasSoundPlan (Plan at spec) → FitsRecord (Plan at spec)
plan_fits at None small sound = (small, tt)
plan_fits at (Some spec) small sound = (small, (sound, plan_text_short spec sound))

pub returns-clause-fits : goal.returns-clause-fits
returns-clause-fits c sound = plan_fits c.args.at c.args.spec (omega arith) sound

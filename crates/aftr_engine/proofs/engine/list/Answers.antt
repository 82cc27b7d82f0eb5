use Rattle.std.proofs.Common.{refl}
use Rattle.aftr_engine.proofs.Endings.{listed, unanswered}
use Rattle.aftr_engine.proofs.engine.list.Goals as goal

pub returns-in-Ok-clause-answered : goal.returns-in-Ok-clause-answered
returns-in-Ok-clause-answered g c =
    listed c.listed.result c.listed.ensures.listed c.listed.ensures.drops refl
    c.in-Ok.ensures.tells c.told_log.ensures.same

pub returns-in-Err-clause-answered : goal.returns-in-Err-clause-answered
returns-in-Err-clause-answered g c =
    unanswered c.early.result c.early.ensures.status c.early.ensures.drops c.in-Err.ensures.refused c.in-Err.ensures.reason
    c.told_log.ensures.same

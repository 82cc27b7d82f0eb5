use Rattle.std.proofs.Common.{inl, inr, refl}
use Rattle.aftr_engine.proofs.engine.listed.Goals as goal

pub returns-in-Ok-clause-listed : goal.returns-in-Ok-clause-listed
returns-in-Ok-clause-listed c = inl (c.answered.ensures.status, rw (c.answered.ensures.answer, c.in-Ok.ensures) refl)

pub returns-in-Err-clause-listed : goal.returns-in-Err-clause-listed
returns-in-Err-clause-listed c = inr c.early.ensures.status

use Rattle.recovery.proofs.Naming.{left_believed, left_names}
use Rattle.recovery.proofs.RecoverStops.{nothing_sent}
use Rattle.recovery.proofs.recover.Goals as goal

pub returns-clause-unsent : goal.returns-clause-unsent
returns-clause-unsent g c = λ tells. nothing_sent (c.read_and_close.ensures.stops tells)

pub returns-clause-believed : goal.returns-clause-believed
returns-clause-believed g c = λ tells. left_believed _ _ (c.read_and_close.ensures.stops tells)

pub returns-clause-names : goal.returns-clause-names
returns-clause-names g c = λ tells. left_names _ _ (c.read_and_close.ensures.stops tells)

use Rattle.recovery.proofs.UnderWay.{nothing_closed}
use Rattle.recovery.proofs.close_rows.Goals as goal

pub returns-in_err-batch-clause-stops : goal.returns-in_err-batch-clause-stops
returns-in_err-batch-clause-stops g c = λ tells. nothing_closed (c.requires.tells tells) (c.requires.settled tells)

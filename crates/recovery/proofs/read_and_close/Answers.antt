use Rattle.recovery.proofs.RecoverStops.{read_leaves, then_closes}
use Rattle.recovery.proofs.read_and_close.Goals as goal

pub returns-in-Ok-clause-stops : goal.returns-in-Ok-clause-stops
returns-in-Ok-clause-stops g c = λ tells.
    then_closes (c.read_told.ensures.kept tells) (c.read_told.ensures.stops tells) (c.close_rows.ensures.stops tells)

pub returns-in-Err-Damaged-clause-stops : goal.returns-in-Err-Damaged-clause-stops
returns-in-Err-Damaged-clause-stops g c = λ tells. read_leaves (c.read_told.ensures.stops tells)

pub returns-in-Err-Failed-clause-stops : goal.returns-in-Err-Failed-clause-stops
returns-in-Err-Failed-clause-stops g c = λ tells. read_leaves (c.read_told.ensures.stops tells)

pub returns-in-Err-NoMemory-clause-stops : goal.returns-in-Err-NoMemory-clause-stops
returns-in-Err-NoMemory-clause-stops g c = λ tells. read_leaves (c.read_told.ensures.stops tells)

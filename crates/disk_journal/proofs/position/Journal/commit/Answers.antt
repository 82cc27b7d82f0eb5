use Rattle.disk_journal.proofs.CommitSteps.{unwritten}
use Rattle.disk_journal.proofs.position.Journal.commit.Goals as goal

pub returns-then-self-limit-clause-stops : goal.returns-then-self-limit-clause-stops
returns-then-self-limit-clause-stops g c tells = unwritten _ _ (c.requires.settled tells)

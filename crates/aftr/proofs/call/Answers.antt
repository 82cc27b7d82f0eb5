use Rattle.aftr.proofs.call.Goals as goal

pub returns-clause-words : goal.returns-clause-words
returns-clause-words g c = c.aftr.ensures.reason
